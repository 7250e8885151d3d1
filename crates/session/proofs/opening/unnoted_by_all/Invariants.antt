use Rattle.std.proofs.Common.{◌≡◌, ◌≤◌, All, vec_items, vec_len, vec_capacity}
use Rattle.session.specs.Performed.{Unnoted}
use Rattle.session.proofs.opening.unnoted_by_all.Given as goal

abbrev pub invariant-loop : goal.invariant-loop
invariant-loop g l = All (Unnoted g.K.Kind.none l.nodes) (vec_items l.walks) × (vec_len l.walks ≡ l.counter) × (l.parties ≤ vec_capacity l.walks)
