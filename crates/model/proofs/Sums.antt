use Rattle.std.proofs.Common.{◌≡◌, ℕ, zero, suc, ◌+◌, ◌*◌, ◌≤◌, ◌≢◌, ◌⊎◌, sym, refl, ap, inl, inr, arith}
use Rattle.std.proofs.lemmas.Bool.{cases_eq, eq-eqb, ne_eqb}
use Rattle.std.proofs.lemmas.Bool.Decides.{nat_tests}
use Rattle.model.specs.Fun.{upd, sum_to, is}

pub upd_same : {A : Type 0} (f : ℕ → A) (n : ℕ) (v : A) → upd f n v n ≡ v
upd_same f n v = rw (eq-eqb n n refl)

pub upd_other : {A : Type 0} (f : ℕ → A) (n m : ℕ) (v : A) → (m ≡ n → ⊥) → upd f n v m ≡ f m
upd_other f n m v h = rw (ne_eqb m n h)

pub is_same : (a b : ℕ) → a ≡ b → is a b ≡ 1
unfolding is
is_same a b e = grind (arith, nat_tests)

pub is_other : (a b : ℕ) → (a ≡ b → ⊥) → is a b ≡ 0
unfolding is
is_other a b h = grind (arith, nat_tests)

pub is_cases : (a b : ℕ) → ((is a b ≡ 1) × (a ≡ b)) ⊎ ((is a b ≡ 0) × (a ≢ b))
unfolding is
is_cases a b = elim (cases_eq a b) [ inl e ↦ inl (is_same a b e, e) | inr h ↦ inr (is_other a b h, h) ]

pub sum_to_same : (n : ℕ) (f g : ℕ → ℕ) → ((k : ℕ) → 1 ≤ k → k ≤ n → f k ≡ g k) → sum_to n f ≡ sum_to n g
unfolding sum_to
sum_to_same zero f g h = refl
sum_to_same (suc n) f g h =
    let e = sum_to_same n f g (λ k a b. h k a (omega arith)) in
    let d = h (suc n) (omega arith) (omega arith) in
    cc

-- one term changed: what the sum gains is what the term gains
pub sum_to_one : (n : ℕ) (f g : ℕ → ℕ) (p : ℕ) → 1 ≤ p → p ≤ n → ((k : ℕ) → (k ≡ p → ⊥) → g k ≡ f k) → sum_to n g + f p ≡ sum_to n f + g p
unfolding sum_to
sum_to_one zero f g p a b h = omega arith
sum_to_one (suc n) f g p a b h =
    elim (cases_eq p (suc n)) [
      | inl e ↦ let d = sum_to_same n g f (λ k x y. h k (λ z. omega arith)) in
          let u : f p ≡ f (suc n) = ap f e in
          let v : g p ≡ g (suc n) = ap g e in
          omega arith
      | inr z ↦ let d = sum_to_one n f g p a (omega arith) h in
          let u = h (suc n) (λ y. z (sym y)) in
          omega arith
    ]

pub sum_to_at : (n : ℕ) (f : ℕ → ℕ) (p : ℕ) → 1 ≤ p → p ≤ n → f p ≤ sum_to n f
unfolding sum_to
sum_to_at zero f p a b = omega arith
sum_to_at (suc n) f p a b =
    elim (cases_eq p (suc n)) [
      | inl e ↦ let u : f p ≡ f (suc n) = ap f e in omega arith
      | inr z ↦ let d = sum_to_at n f p a (omega arith) in omega arith
    ]

-- two different terms
pub sum_to_two : (n : ℕ) (f : ℕ → ℕ) (p q : ℕ) → 1 ≤ p → p ≤ n → 1 ≤ q → q ≤ n → (p ≡ q → ⊥) → f p + f q ≤ sum_to n f
unfolding sum_to
sum_to_two zero f p q a b c d h = omega arith
sum_to_two (suc n) f p q a b c d h =
    elim (cases_eq p (suc n)) [
      | inl e ↦ let u : f p ≡ f (suc n) = ap f e in
          let v = sum_to_at n f q c (omega arith) in omega arith
      | inr z ↦ elim (cases_eq q (suc n)) [
        | inl e ↦ let u : f q ≡ f (suc n) = ap f e in
            let v = sum_to_at n f p a (omega arith) in omega arith
        | inr y ↦ let v = sum_to_two n f p q a (omega arith) c (omega arith) h in omega arith
      ]
    ]

-- a sum that is not 0 has a term that is not 0
pub sum_to_some : (n : ℕ) (f : ℕ → ℕ) → 1 ≤ sum_to n f → (k : ℕ) × (1 ≤ k) × (k ≤ n) × (1 ≤ f k)
unfolding sum_to
sum_to_some zero f h = absurd (omega arith)
sum_to_some (suc n) f h =
    elim (cases_eq (f (suc n)) 0) [
      | inl e ↦ let r = sum_to_some n f (omega arith) in (r.0, r.1, omega arith, r.3)
      | inr z ↦ (suc n, omega arith, omega arith, omega arith)
    ]

pub sum_le : (n : ℕ) (f g : ℕ → ℕ) → ((k : ℕ) → 1 ≤ k → k ≤ n → f k ≤ g k) → sum_to n f ≤ sum_to n g
unfolding sum_to
sum_le zero f g h = omega arith
sum_le (suc n) f g h = let d = sum_le n f g (λ k a b. h k a (omega arith)) in let e = h (suc n) (omega arith) (omega arith) in omega arith

-- a sum of terms of at most k each
pub sum_at_most : (k n : ℕ) (f : ℕ → ℕ) → ((i : ℕ) → 1 ≤ i → i ≤ n → f i ≤ k) → sum_to n f ≤ n * k
unfolding sum_to
sum_at_most k zero f h = omega arith
sum_at_most k (suc n) f h = let d = sum_at_most k n f (λ i a b. h i a (omega arith)) in let e = h (suc n) (omega arith) (omega arith) in omega arith

pub sum_to_const : (M : ℕ) → sum_to M (λ n. 1) ≡ M
unfolding sum_to
sum_to_const zero = refl
sum_to_const (suc M) = let i = sum_to_const M in omega arith

pub sum_to_none : (n : ℕ) (f : ℕ → ℕ) → ((k : ℕ) → 1 ≤ k → k ≤ n → f k ≡ 0) → sum_to n f ≡ 0
sum_to_none n f h = let u = sum_at_most 0 n f (λ k a b. (let e = h k a b in omega arith)) in omega arith
