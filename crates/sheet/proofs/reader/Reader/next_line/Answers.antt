use Rattle.std.proofs.Common.{◌≡◌, ◌≢◌, ℕ, List, refl, ap, sym, ◌∙◌, arith, Option}
use Rattle.sheet.proofs.FieldsOfTexts.{not_empty}
use Rattle.sheet.proofs.LinesOfTexts.{lines_behind, lines_left, outcome-ends, outcome-goes_on, values_ahead, values_ahead-first, whole_text}
use Rattle.sheet.specs.Columns.{values_taken}
use Rattle.sheet.specs.Fields.{lines_ended}
use Rattle.sheet.specs.Lines.{TextLine, lines_of}
use Rattle.sheet.specs.declared.lines.Values.{Values}
use Rattle.sheet.proofs.reader.Reader.next_line.Goals as goal

pub returns-then-is_empty-clause-whole : goal.returns-then-is_empty-clause-whole
returns-then-is_empty-clause-whole c = whole_text

pub loop-field-init : goal.loop-field-init
loop-field-init c =
    let lines = lines_of c.args.self.now.rest.now in
    record {
      numbered = refl;
      values = ap (λ columns. values_ahead columns lines) c.new-columns.ensures ∙ values_ahead-first lines;
      behind = refl;
    }

pub loop-field-preserved : goal.loop-field-preserved
loop-field-preserved c =
    let field = c.in-Some.ensures.field in
    let left = c.next_field.new.self.rest.now in
    let same : lines_ended field.0 ≡ 0 = omega arith in
    let on = outcome-goes_on c.loop-field.columns c.loop-field.self.rest.now c.in-Some.field.part.now field.0 left field.1.cut same in
    record {
      numbered = c.if-self-number.false;
      values = ap (λ columns. values_ahead columns (lines_of left)) c.take.ensures
          ∙ sym (ap (λ (o : Option Values × List TextLine). o.0) on)
          ∙ c.loop-field.invariant.values;
      behind = sym (ap (λ (o : Option Values × List TextLine). o.1) on) ∙ c.loop-field.invariant.behind;
    }

pub returns-then-self-number-clause-values : goal.returns-then-self-number-clause-values
returns-then-self-number-clause-values c =
    let field = c.in-Some.ensures.field in
    let ends : lines_ended field.0 ≢ 0 = λ same. absurd (omega arith) in
    let end = outcome-ends c.loop-field.columns c.loop-field.self.rest.now c.in-Some.field.part.now field.0 c.next_field.new.self.rest.now field.1.cut ends in
    c.values-values.ensures
    ∙ ap values_taken c.take.ensures
    ∙ sym (ap (λ (o : Option Values × List TextLine). o.0) end)
    ∙ c.loop-field.invariant.values

pub returns-then-self-number-clause-left : goal.returns-then-self-number-clause-left
returns-then-self-number-clause-left c =
    let field = c.in-Some.ensures.field in
    let start = c.args.self.now.rest.now in
    let left = c.next_field.new.self.rest.now in
    let ends : lines_ended field.0 ≢ 0 = λ same. absurd (omega arith) in
    let end = outcome-ends c.loop-field.columns c.loop-field.self.rest.now c.in-Some.field.part.now field.0 left field.1.cut ends in
    lines_left start (lines_of left) (not_empty start c.is_empty.result c.is_empty.ensures c.if-is_empty.false)
    (sym c.loop-field.invariant.behind ∙ ap (λ (o : Option Values × List TextLine). o.1) end)

pub returns-then-self-number-clause-whole : goal.returns-then-self-number-clause-whole
returns-then-self-number-clause-whole c = whole_text

pub returns-clause-left : goal.returns-clause-left
returns-clause-left c =
    let start = c.args.self.now.rest.now in
    let left = c.next_field.new.self.rest.now in
    let nothing = c.in_default.ensures.none.0 refl in
    let nothing_left = c.in_default.ensures.unchanged.0 ∙ nothing in
    lines_left start (lines_of left) (not_empty start c.is_empty.result c.is_empty.ensures c.if-is_empty.false)
    (sym c.loop-field.invariant.behind
    ∙ ap (λ (text : List ℕ). lines_behind (lines_of text)) nothing
    ∙ ap (λ (text : List ℕ). lines_of text) (sym nothing_left))

pub returns-clause-whole : goal.returns-clause-whole
returns-clause-whole c = whole_text
