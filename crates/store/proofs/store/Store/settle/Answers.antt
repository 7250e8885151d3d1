use Rattle.std.proofs.Common.{◌≡◌, ℕ, true, cond, not, Ok, sym, ap, ◌∙◌, subst}
use Rattle.std.proofs.lemmas.Bool.{cond-true, cond-false}
use Rattle.model.specs.declared.outcomes.Progress.TheVariants.{StillRunning}
use Rattle.model.specs.Steps.{between}
use Rattle.model.specs.Types.{Outcome}
use Rattle.model.specs.Setting.{setting_for}
use Rattle.cells.specs.View.{view_of, parties_of}
use Rattle.store.specs.Moved.{noted_on}
use Rattle.store.specs.Settled.{Settled}
use Rattle.store.proofs.SettledParts.{noted_for, nothing_noted, last_noted, ending, ends_so, settled_as}
use Rattle.store.proofs.store.Store.settle.Given.{Over}
use Rattle.store.proofs.store.Store.settle.Goals.{After-go_on, then-is_none, else-is_none}
use Rattle.store.proofs.store.Store.settle.Goals as goal

-- what is settled, where the walk goes on as where it ends
settled : (g : Over) (c : After-go_on g) (r : Outcome g.row.K-Data.Denot g.row.K-Worth.Denot)
    → r ≡ cond c.go_on.result (ending g.K.Kind c.args.nodes c.if-is_none.notes c.last-node.result) (Ok StillRunning)
    → Settled (setting_for g.K.Kind g.U.Order g.V.Order (parties_of c.args.cells.now) c.args.nodes) (view_of c.args.cells.now) (view_of c.go_on.new.self) c.args.party c.args.read (noted_on g.K.Kind c.args.nodes c.args.notes.now) (noted_on g.K.Kind c.args.nodes c.if-is_none.notes) r
settled g c r told =
    let k = g.K.Kind in
    let a = c.args in
    let M : ℕ = a.nodes in
    let n : ℕ = c.last-node.result in
    let lists = a.notes.now in
    let lists' = c.if-is_none.notes in
    let below = c.first_unmarked-below.result in
    let stands : between 1 M n ≡ true = subst (λ x. between 1 M x ≡ true) (sym c.last-node.ensures) c.requires.node in
    let notes : noted_on k M lists' ≡ noted_for k M n lists lists' a.read below = elim c.if-is_none.branch [
      | then-is_none w ↦ last_noted k M n lists lists' a.read below (c.is_none.ensures ∙ ap not w.if-is_none.true) w.set_down.result w.set_down.new.self w.set_down.ensures.whether
          stands c.requires.lists.0 c.requires.lists.1 w.set_down.ensures.noted w.notes-is
      | else-is_none w ↦ nothing_noted k M n lists lists' a.read below (c.is_none.ensures ∙ ap not w.if-is_none.false) w.notes-is
    ] in
    settled_as k M n lists lists' a.read g.U.Order g.V.Order (parties_of a.cells.now) (view_of a.cells.now) (view_of c.go_on.new.self) a.party below
    c.requires.party c.first_unmarked-below.ensures c.go_on.ensures.becomes.view c.last-node.ensures notes c.go_on.result c.go_on.ensures.told r told

pub returns-then-not-go_on-clause-settled : goal.returns-then-not-go_on-clause-settled
returns-then-not-go_on-clause-settled g c = settled g (goal.at.returns-then-not-go_on-clause-settled g c).After-go_on _ (sym (cond-false _ _ _ c.if-not-go_on.true))

pub returns-clause-settled : goal.returns-clause-settled
returns-clause-settled g c = settled g (goal.at.returns-clause-settled g c).After-go_on _
    (ends_so g.K.Kind c.args.nodes c.if-is_none.notes c.last-node.result c.worth_at-worth.result c.count_marked.result c.worth_at-worth.ensures c.count_marked.ensures
    ∙ sym (cond-true _ _ _ c.if-not-go_on.false))
