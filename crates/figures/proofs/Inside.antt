-- Results inside the limits stay as they are, through a node and through a copy of the result.
use Rattle.std.proofs.Common.{◌≡◌, ℕ, zero, suc, ◌+◌, ◌-◌, ◌≤◌, cond, ℤ, pos, negsuc, ◌+ℤ◌, ◌-ℤ◌, ap, ◌∙◌, arith, w32, to_z, of_z}
use Rattle.std.specs.Int.{int_max, int_min}
use Rattle.std.proofs.lemmas.Int.{to_z_pos}
use Rattle.std.proofs.lemmas.Bool.{le-ltb}
use Rattle.kinds.specs.Limits.{smallest}
use Rattle.kinds.specs.Maps.{limited}

pub inside_pos : (n : ℕ) → n ≤ 1000000 → limited (pos n) ≡ pos n
inside_pos n h = ap (λ t. int_max smallest (cond t (pos 1000000) (pos n))) (le-ltb 1000000 n h)

pub minus : (a b : ℕ) → b ≤ a → pos a -ℤ pos b ≡ pos (a - b)
minus a zero h = ap pos (omega arith)
minus a (suc b) h = ap (λ t. cond t (negsuc (suc b - suc a)) (pos (a - suc b))) (le-ltb a (suc b) h)

pub held_inside : (n low high : ℕ) → low ≤ n → n ≤ high → int_max (pos low) (int_min (pos n) (pos high)) ≡ pos n
held_inside n low high l h = ap (λ t. int_max (pos low) (cond t (pos high) (pos n))) (le-ltb high n h) ∙ ap (λ t. cond t (pos low) (pos n)) (le-ltb n low l)

-- a result that is read again is the same
abbrev pub again : ℤ → ℤ
again z = to_z w32 (of_z w32 z)

pub read_again : (z : ℤ) (n : ℕ) → z ≡ pos n → n ≤ 1000000 → again z ≡ pos n
read_again z n e h = ap again e ∙ to_z_pos w32 n (omega arith)

pub doubled : (z r : ℤ) (n : ℕ) → z ≡ pos n → n ≤ 500000 → r ≡ limited (again z +ℤ again z) → r ≡ pos (n + n)
doubled z r n e h d = d ∙ ap (λ y. limited (y +ℤ y)) (read_again z n e (omega arith)) ∙ inside_pos (n + n) (omega arith)
