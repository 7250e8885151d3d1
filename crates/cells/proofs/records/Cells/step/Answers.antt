use Rattle.std.proofs.Common.{sym, ap, ◌∙◌}
use Rattle.model.specs.State.{trail_of}
use Rattle.cells.specs.Ready.{has_room}
use Rattle.cells.proofs.Begun.{settles}
use Rattle.cells.proofs.Puts.{same_trail}
use Rattle.cells.proofs.Stepping.{no_word, no_move, no_room, steps}
use Rattle.cells.proofs.records.Cells.step.Goals as goal

pub returns-in_default-clause-steps : goal.returns-in_default-clause-steps
returns-in_default-clause-steps g c = λ d.
    (no_word g.row.W.Denot c.args.self.now c.args.data.now c.args.party c.args.pick c.in_ok-record.ensures.1 c.sizes.ensures c.address_of-address.ensures d
    c.in_default.ensures.stands)

pub returns-in_default-decide-clause-steps : goal.returns-in_default-decide-clause-steps
returns-in_default-decide-clause-steps g c = λ d.
    (no_move g.row.W.Denot c.args.self.now c.args.data.now c.args.party c.args.pick c.in_ok-record.ensures.1 c.sizes.ensures c.address_of-address.ensures d
    (c.in-Some.ensures.value d) c.decide.ensures c.in_default-decide.is)

pub returns-then-not-has_room-clause-steps : goal.returns-then-not-has_room-clause-steps
returns-then-not-has_room-clause-steps g c = λ d.
    no_room g.row.W.Denot c.args.self.now c.args.data.now c.args.party c.args.pick c.in_ok-record.ensures.1 c.sizes.ensures c.address_of-address.ensures d
    (c.in-Some.ensures.value d) c.decide.ensures c.in-Some-decide.is c.if-not-has_room.ensures

pub put-requires : goal.put-requires
put-requires g c = sym c.in-Some.ensures.stands

pub settle-requires : goal.settle-requires
settle-requires g c =
    let k = c.in-Some-decide.decision.change in
    ap (λ z. has_room (trail_of z.trail) k) c.in_ok-lend.ensures.value.1 ∙ ap (λ t. has_room t k) (same_trail _ _ c.args.party c.put.ensures.becomes)
    ∙ ap (λ z. has_room (trail_of z.trail) k) (sym c.in_ok-record.ensures.1) ∙ sym c.if-not-has_room.ensures

pub returns-clause-steps : goal.returns-clause-steps
returns-clause-steps g c =
    let k = c.in-Some-decide.decision in
    let lent = c.in_ok-lend.ensures.value in
    let last = settles c.put.new.self c.args.party lent.0 c.in_ok-lend.field-0.now c.settle.new.own lent.1 k.change k.next c.settle.ensures in
    λ d. steps g.row.W.Denot c.args.self.now c.args.data.now c.args.party c.args.pick c.in_ok-record.ensures.1 c.sizes.ensures c.address_of-address.ensures d
    (c.in-Some.ensures.value d) c.decide.ensures c.in-Some-decide.is c.in_ok-record.ensures.0 c.in-Some.ensures.stands c.if-not-has_room.ensures
    c.put.ensures.becomes.view (c.put.ensures.entries d) last.view
