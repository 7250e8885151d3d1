use Rattle.std.proofs.Common.{◌≡◌, ◌≤◌, vec_items, vec_len, vec_capacity}
use Rattle.orders.specs.Meaning.{PickedInTurn}
use Rattle.orders.proofs.picks.picks.Given as goal

abbrev pub invariant-loop : goal.invariant-loop
invariant-loop g l = PickedInTurn g.O.Order.numbers g.O.Order.horizon g.O.Order.due l.party l.initial.order (vec_items l.answers) l.order
    × (vec_len l.answers ≡ l.counter) × (l.times ≤ vec_capacity l.answers)
