use Rattle.std.proofs.Common.{ap, ◌+◌}
use Rattle.sheet.proofs.FieldsOfTexts.{field_of_cut, joined-pieces_of, not_empty}
use Rattle.sheet.proofs.reader.Reader.next_field.Goals as goal

pub returns-then-is_empty-clause-whole : goal.returns-then-is_empty-clause-whole
returns-then-is_empty-clause-whole c = joined-pieces_of

pub returns-clause-field : goal.returns-clause-field
returns-clause-field c =
    let some = not_empty c.args.self.now.rest.now c.is_empty.result c.is_empty.ensures c.if-is_empty.false in
    let cut = c.first-cut.result in
    (cut.ending, field_of_cut c.args.self.now.rest.now cut.part.now cut.ending cut.after.now c.first-cut.ensures some, ap (λ n. c.args.self.now.line + n) c.lines.ensures)

pub returns-clause-whole : goal.returns-clause-whole
returns-clause-whole c = joined-pieces_of
