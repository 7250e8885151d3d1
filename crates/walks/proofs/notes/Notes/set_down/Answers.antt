use Rattle.std.proofs.Common.{true, false, ap, sym, ◌∙◌}
use Rattle.model.specs.Entries.{nth}
use Rattle.model.proofs.Sums.{upd_other}
use Rattle.walks.proofs.Noting.{noted_by}
use Rattle.walks.proofs.notes.Notes.set_down.Goals as goal

pub returns-clause-noted : goal.returns-clause-noted
returns-clause-noted g c = λ _.
    let old = c.args.self.now in
    let new = c.note.new.self in
    noted_by g.K.Kind.none c.args.nodes old.marks.now new.marks.now old.worths.now new.worths.now c.args.n c.work_out-worth.result _ (sym c.if-not-has_entries.ensures)
    c.note.ensures.mark (c.note.ensures.worth g.K.Kind.none) c.work_out-worth.ensures

pub returns-clause-others : goal.returns-clause-others
returns-clause-others g c = λ m other.
    let old = c.args.self.now in (
      ap (λ f. f m) c.note.ensures.mark ∙ upd_other (nth false old.marks.now) c.args.n m true other,
      ap (λ f. f m) (c.note.ensures.worth g.K.Kind.none) ∙ upd_other (nth g.K.Kind.none old.worths.now) c.args.n m c.work_out-worth.result other,
    )
