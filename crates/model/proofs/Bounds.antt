-- How many references a node can have at the most.
use Rattle.std.proofs.Common.{ℕ, ◌+◌, ◌*◌, ◌≤◌, inl, inr, arith}
use Rattle.model.specs.Fun.{sum_to, is}
use Rattle.model.specs.Types.{Kids, Tray, Running}
use Rattle.model.specs.Inv.{occ, carry, reliance, tray_node, in_slots, in_boxes, in_trays, in_kids, carried}
use Rattle.model.proofs.Sums.{is_cases, sum_at_most}

is_at_most_one : (a b : ℕ) → is a b ≤ 1
is_at_most_one a b = elim (is_cases a b) [ inl h ↦ omega (arith, h.0) | inr h ↦ omega (arith, h.0) ]

pub few_slots : (N n : ℕ) (f : ℕ → ℕ → ℕ) → in_slots N f n ≤ N * 8
unfolding in_slots
few_slots N n f = sum_at_most 8 N (λ q. sum_to 8 (λ i. is (f q i) n)) (λ q _ _. sum_at_most 1 8 (λ i. is (f q i) n) (λ i _ _. is_at_most_one (f q i) n))

pub few_boxes : (N n : ℕ) (f : ℕ → ℕ) → in_boxes N f n ≤ N * 1
unfolding in_boxes
few_boxes N n f = sum_at_most 1 N (λ q. is (f q) n) (λ q _ _. is_at_most_one (f q) n)

pub few_trays : (N n : ℕ) (f : ℕ → Tray) → in_trays N f n ≤ N * 1
unfolding in_trays
few_trays N n f = sum_at_most 1 N (λ q. is (tray_node (f q)) n) (λ q _ _. is_at_most_one (tray_node (f q)) n)

pub few_carriers : {D : Type 0} (N n : ℕ) (f : ℕ → Running D) → carried N f n ≤ N * 2
unfolding carried carry
few_carriers N n f = sum_at_most 2 N (λ q. is (reliance (f q)).one n + is (reliance (f q)).other n)
    (λ q _ _. omega (arith, is_at_most_one (reliance (f q)).one n, is_at_most_one (reliance (f q)).other n))

pub few_kids : (M n : ℕ) (f : ℕ → Kids) → in_kids M f n ≤ M * 3
unfolding in_kids occ
few_kids M n f = sum_at_most 3 M (λ m. is (f m).first n + is (f m).second n + is (f m).third n)
    (λ m _ _. omega (arith, is_at_most_one (f m).first n, is_at_most_one (f m).second n, is_at_most_one (f m).third n))
