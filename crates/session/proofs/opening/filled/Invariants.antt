use Rattle.std.proofs.Common.{◌≡◌, ◌≤◌, replicate, vec_items, vec_len, vec_capacity}
use Rattle.session.proofs.opening.filled.Given as goal

abbrev pub invariant-loop : goal.invariant-loop
invariant-loop g l = (vec_items l.list ≡ replicate l.counter l.entry) × (vec_len l.list ≡ l.counter) × (l.len ≤ vec_capacity l.list)
