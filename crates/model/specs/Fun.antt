-- Functions on numbers with one point changed, and sums over 1 to n.
use Rattle.std.specs.Prelude.{ℕ, zero, suc, ◌+◌, cond, ◌==◌}

abbrev pub upd : {A : Type 0} → (ℕ → A) → ℕ → A → ℕ → A
upd f n v m = cond (m == n) v (f m)

unfoldable pub sum_to : ℕ → (ℕ → ℕ) → ℕ
sum_to zero f = 0
sum_to (suc n) f = sum_to n f + f (suc n)

-- 1 where the numbers are equal
unfoldable pub is : ℕ → ℕ → ℕ
is a b = cond (a == b) 1 0
