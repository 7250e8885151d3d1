-- Two numbers with no shared factor: a multiple of the one is one above a multiple of the other.
use Rattle.std.specs.Prelude.{◌≡◌, ℕ, zero, suc, ◌+◌, ◌-◌, ◌*◌, ◌%◌, ◌<◌, ◌≤◌, ◌≢◌}
use Rattle.std.proofs.Common.{sym, subst, ap, ◌∙◌, inl, inr, arith, mul-add, add-mul, mul-one, mul-zero, mod-eq_of_lt}
use Rattle.std.proofs.Math.Nat.{add-mod, mod_self, zero-mod}
use Rattle.std.proofs.lemmas.Bool.{cases_order, cases_lt}
use Rattle.orders.specs.Making.{NoSharedFactor}

pub none_shared_with_one : (m : ℕ) → NoSharedFactor 1 m
none_shared_with_one m d h e _ = omega (arith, mod-eq_of_lt h, e)

-- a shared factor is at most the second number, so it is enough to look that far
pub none_up_to : (a b : ℕ) → 1 ≤ b → ((k : ℕ) → 1 < k → k ≤ b → a % k ≡ 0 → b % k ≢ 0) → NoSharedFactor a b
none_up_to a b hb h d hd ea eb = elim (cases_lt b d) [
  | inl l ↦ omega (arith, mod-eq_of_lt l, eb)
  | inr l ↦ h d hd l ea eb
]

sum_mod : (a b d : ℕ) → a % d ≡ 0 → b % d ≡ 0 → (a + b) % d ≡ 0
sum_mod a b d ea eb = add-mod a b d ∙ rw (ea, eb) (zero-mod d)

-- by taking the smaller from the larger, until they are equal and so 1
pub one_apart : (fuel a b : ℕ) → a + b ≤ fuel → 1 ≤ a → 1 ≤ b → NoSharedFactor a b → (x : ℕ) × (y : ℕ) × (a * x ≡ b * y + 1)
one_apart zero a b f ha hb c = absurd (omega arith)
one_apart (suc fuel) a b f ha hb c = elim (cases_order a b) [
  | inl e ↦ elim (cases_lt 1 a) [
    | inl more ↦ absurd (c a more (mod_self a) (rw (sym e) (mod_self a)))
    | inr one ↦ (1, 0, omega (arith, mul-one a, mul-zero b))
  ]
  | inr (inl l) ↦
      let back : a + (b - a) ≡ b = omega arith in
      let c' : NoSharedFactor a (b - a) = λ d hd ea eb. c d hd ea (let P : ℕ → Type 0 = λ n. n % d ≡ 0 in subst P back (sum_mod a (b - a) d ea eb)) in
      let r = one_apart fuel a (b - a) (omega arith) ha (omega arith) c' in
      let split : b * r.1 ≡ a * r.1 + (b - a) * r.1 = ap (λ n. n * r.1) (sym back) ∙ add-mul a (b - a) r.1 in
      (r.0 + r.1, r.1, omega (arith, mul-add a r.0 r.1, r.2, split))
  | inr (inr l) ↦
      let back : (a - b) + b ≡ a = omega arith in
      let c' : NoSharedFactor (a - b) b = λ d hd ea eb. c d hd (let P : ℕ → Type 0 = λ n. n % d ≡ 0 in subst P back (sum_mod (a - b) b d ea eb)) eb in
      let r = one_apart fuel (a - b) b (omega arith) (omega arith) hb c' in
      let split : a * r.0 ≡ (a - b) * r.0 + b * r.0 = ap (λ n. n * r.0) (sym back) ∙ add-mul (a - b) b r.0 in
      (r.0, r.1 + r.0, omega (arith, mul-add b r.1 r.0, r.2, split))
]
