use Rattle.std.proofs.Common.{◌≡◌, ℕ, None, Err, refl, ap, ◌∙◌, arith}
use Rattle.std.proofs.lemmas.Result.{err_from_is_err_and}
use Rattle.model.specs.Checks.{walk_turn_fault}
use Rattle.model.specs.Fun.{upd}
use Rattle.model.specs.Runs.{Steps, walk_turn_refused, walk_turn}
use Rattle.model.specs.Setting.{setting_for}
use Rattle.model.specs.Walks.{Notes}
use Rattle.cells.specs.View.{view_of, parties_of, nodes_of}
use Rattle.store.specs.Given.{system_of}
use Rattle.store.specs.Moved.{noted_on, walk_lengths, with_lists}
use Rattle.store.specs.Shown.{shown}
use Rattle.store.proofs.Accepted.{sizes_twice, still_a_store}
use Rattle.store.proofs.Moving.{no_notes}
use Rattle.store.proofs.WalkTurns.{has_read, tells_at_turn}
use Rattle.store.proofs.WalkSteps.{same_walk_fault, walk_keeps_sound, settles_at_node, settled_step}
use Rattle.store.proofs.store.Store.turn_walk.Given.{Over}
use Rattle.store.proofs.store.Store.turn_walk.Goals.{After-take_step, After-settle}
use Rattle.store.proofs.store.Store.turn_walk.Goals as goal

passed : (g : Over) (c : After-take_step g) → walk_turn_fault (parties_of c.args.self.now.cells) (nodes_of c.args.self.now.cells) c.args.party
    (walk_lengths g.K.Kind g.U.Order g.V.Order (shown c.args.self.now c.args.data.now) c.args.notes.now) ((view_of c.args.self.now.cells).run c.args.party) ≡ None
passed g c = same_walk_fault c.args.party c.sizes.ensures c.lengths_of-lengths.ensures c.running-running.ensures ∙ c.in_ok-check_turn_walk.ensures

-- the step and the settling are the model's one
settled : (g : Over) (c : After-settle g) (notes : ℕ → Notes g.row.K-Worth.Denot) → Steps (setting_for g.K.Kind g.U.Order g.V.Order (parties_of c.args.self.now.cells) (nodes_of c.args.self.now.cells))
    (system_of g.K.Kind c.args.self.now.cells c.args.self.now.node_order c.args.self.now.party_order c.args.data.now (upd notes c.args.party (noted_on g.K.Kind (nodes_of c.args.self.now.cells) c.args.notes.now)))
    c.args.party c.settle.result
    (system_of g.K.Kind c.settle.new.cells c.take_step.new.self.node_order c.take_step.new.self.party_order c.take_step.new.data (upd notes c.args.party (noted_on g.K.Kind (nodes_of c.args.self.now.cells) c.settle.new.notes)))
settled g c notes =
    let s = c.args.self.now in
    let M : ℕ = nodes_of s.cells in
    settled_step g.K.Kind g.U.Order g.V.Order (parties_of s.cells) M notes c.args.notes.now c.settle.new.notes refl (has_read _ _ _ _ (c.take_step.ensures.taken (upd notes c.args.party (noted_on g.K.Kind M c.args.notes.now))) c.in-Settles.is)
    c.take_step.ensures.sizes.parties (c.nodes-nodes.ensures ∙ c.take_step.ensures.sizes.nodes) c.settle.ensures.settled

pub returns-in_err-check_turn_walk-clause-turns : goal.returns-in_err-check_turn_walk-clause-turns
returns-in_err-check_turn_walk-clause-turns g c =
    let told = err_from_is_err_and c.from_residual.result c.from_residual.ensures.1 in
    let fault = same_walk_fault c.args.party c.sizes.ensures c.lengths_of-lengths.ensures c.running-running.ensures ∙ c.in_err-check_turn_walk.ensures in
    record {
      moves = λ notes. walk_turn_refused c.in_err-check_turn_walk.field-0.0 fault (told.1 ∙ ap Err told.2) refl;
      further = λ n h. (refl, refl);
      sizes = record { parties = refl; nodes = refl };
    }

pub settle-requires-clause-node : goal.settle-requires-clause-node
settle-requires-clause-node g c =
    settles_at_node _ (passed g (goal.at.settle-requires-clause-node g c).After-take_step) c.args.self.now.sound (has_read _ _ _ _ (c.take_step.ensures.taken (no_notes g.K.Kind.none)) c.in-Settles.is)
    (c.nodes-nodes.ensures ∙ c.take_step.ensures.sizes.nodes)

pub invariant_of-self : goal.invariant_of-self
invariant_of-self g c =
    let at = goal.at.invariant_of-self g c in
    still_a_store c.args.self.now (sizes_twice c.take_step.ensures.sizes c.settle.ensures.sizes) refl
    (walk_keeps_sound _ (passed g at.After-take_step) (settled g at.After-settle (no_notes g.K.Kind.none)))

pub returns-in-Tells-clause-turns : goal.returns-in-Tells-clause-turns
returns-in-Tells-clause-turns g c = record {
  moves = λ notes. walk_turn (passed g (goal.at.returns-in-Tells-clause-turns g c).After-take_step)
      (tells_at_turn _ _ _ _ (c.take_step.ensures.taken (with_lists g.K.Kind g.U.Order g.V.Order notes c.args.party (shown c.args.self.now c.args.data.now) c.args.notes.now)) c.in-Tells.is);
  further = λ n h. (refl, refl);
  sizes = c.take_step.ensures.sizes;
}

pub returns-in-Settles-clause-turns : goal.returns-in-Settles-clause-turns
returns-in-Settles-clause-turns g c =
    let at = goal.at.returns-in-Settles-clause-turns g c in
    let sizes : c.nodes-nodes.result ≡ nodes_of c.args.self.now.cells = c.nodes-nodes.ensures ∙ c.take_step.ensures.sizes.nodes in
    record {
      moves = λ notes. walk_turn (passed g at.After-take_step) (settled g at.After-settle notes);
      further = λ n h. c.settle.ensures.further n (let e = sizes in omega arith);
      sizes = sizes_twice c.take_step.ensures.sizes c.settle.ensures.sizes;
    }
