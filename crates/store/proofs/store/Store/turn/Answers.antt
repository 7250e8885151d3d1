use Rattle.std.proofs.Common.{◌≡◌, length, Err, sym, refl, ap, ◌∙◌}
use Rattle.std.proofs.lemmas.Result.{err_from_is_err_and}
use Rattle.model.specs.declared.calls.Lengths.{Lengths}
use Rattle.model.specs.Checks.{turn_fault}
use Rattle.model.specs.Runs.{turn_refused, turn}
use Rattle.model.proofs.Accepted.{turn_walks_not}
use Rattle.cells.specs.View.{view_of, parties_of, nodes_of}
use Rattle.store.proofs.Moving.{no_notes, fault_of_entries}
use Rattle.store.proofs.WalkTurns.{tells_at_turn, settles_nothing}
use Rattle.store.proofs.store.Store.turn.Given.{Over}
use Rattle.store.proofs.store.Store.turn.Goals.{After-check_turn}
use Rattle.store.proofs.store.Store.turn.Goals as goal

-- the Turn's fault is the one that the checks tell
fault : (g : Over) (c : After-check_turn g) (l : Lengths) → l.entries ≡ length c.args.data.now
    → turn_fault (parties_of c.args.self.now.cells) (nodes_of c.args.self.now.cells) c.args.party l ((view_of c.args.self.now.cells).run c.args.party) ≡ turn_fault c.sizes.result.parties c.sizes.result.nodes c.args.party c.of_call-lengths.result c.running-running.result
fault g c l e = fault_of_entries c.args.party c.of_call-lengths.result l c.sizes.ensures (ap (λ z. z.entries) c.of_call-lengths.ensures ∙ sym e) c.running-running.ensures

pub returns-in_err-check_turn : goal.returns-in_err-check_turn
returns-in_err-check_turn g c =
    let told = err_from_is_err_and c.from_residual.result c.from_residual.ensures.1 in
    let f = fault g (goal.at.returns-in_err-check_turn g c).After-check_turn in
    record {
      moves = λ notes l e. turn_refused c.in_err-check_turn.field-0.0 (f l e ∙ c.in_err-check_turn.ensures) (told.1 ∙ ap Err told.2) refl;
      sizes = record { parties = refl; nodes = refl };
    }

pub unreachable-requires : goal.unreachable-requires
unreachable-requires g c =
    let s = c.args.self.now in
    let l : Lengths = record { entries = length c.args.data.now; marks = 0; worths = 0 } in
    let passed = fault g (goal.at.unreachable-requires g c).After-check_turn l refl ∙ c.in_ok-check_turn.ensures in
    settles_nothing _ _ _ _ (c.take_step.ensures.taken (no_notes g.K.Kind.none)) c.in-Settles.is
    (turn_walks_not (parties_of s.cells) (nodes_of s.cells) c.args.party l ((view_of s.cells).run c.args.party) passed)

pub returns : goal.returns
returns g c =
    let f = fault g (goal.at.returns g c).After-check_turn in
    record {
      moves = λ notes l e. turn (f l e ∙ c.in_ok-check_turn.ensures) (tells_at_turn _ _ _ _ (c.take_step.ensures.taken notes) c.in-Tells.is);
      sizes = c.take_step.ensures.sizes;
    }
