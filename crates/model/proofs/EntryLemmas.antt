-- What a program's reads and writes of a list do to its entries by number.
use Rattle.std.proofs.Common.{◌≡◌, ℕ, zero, suc, ◌-◌, ◌≤◌, List, length, get_or, set, sym, ap, ◌∙◌, inl, inr, arith}
use mathlib.Core.Path.{fun_ext}
use Rattle.std.proofs.lemmas.List.{get_or-set_same, get_or-set_other}
use Rattle.std.proofs.lemmas.Bool.{cases_eq}
use Rattle.model.specs.Fun.{upd}
use Rattle.model.specs.Entries.{nth}
use Rattle.model.proofs.Sums.{upd_same, upd_other}

-- a program's `v[n - 1] = x` is a change at n
pub nth_set : {A : Type 0} (d : A) (l : List A) (n : ℕ) (v : A) → 1 ≤ n → n ≤ length l → nth d (set l (n - 1) v) ≡ upd (nth d l) n v
nth_set d l zero v h k = absurd (omega arith)
nth_set d l (suc n) v h k = fun_ext (λ m. go m)
  where
    e : suc n - 1 ≡ n
    e = omega arith

    go : (m : ℕ) → nth d (set l (suc n - 1) v) m ≡ upd (nth d l) (suc n) v m
    go zero = sym (upd_other (nth d l) (suc n) zero v (λ z. omega arith))
    go (suc m) = ap (λ i. get_or (set l i v) m d) e ∙ elim (cases_eq m n) [
      | inl q ↦ ap (λ i. get_or (set l n v) i d) q ∙ get_or-set_same l n v d (omega arith) ∙ sym (upd_same (nth d l) (suc n) v) ∙ ap (λ i. upd (nth d l) (suc n) v (suc i)) (sym q)
      | inr z ↦ get_or-set_other l n m v d z ∙ sym (upd_other (nth d l) (suc n) (suc m) v (λ y. z (let u : m ≡ n = omega arith in u)))
    ]

-- what a program's `v[n - 1]` reads
pub nth_read : {A : Type 0} (d : A) (l : List A) (n : ℕ) → 1 ≤ n → nth d l n ≡ get_or l (n - 1) d
nth_read d l zero h = absurd (omega arith)
nth_read d l (suc n) h = ap (λ i. get_or l i d) (let u : n ≡ suc n - 1 = omega arith in u)
