-- Heights fall from node to kid, so it can be told which nodes a term has; so each term has a size.
use Rattle.std.proofs.Common.{◌≡◌, ℕ, zero, suc, ◌<◌, ◌≢◌, ◌⊎◌, sym, refl, ◌∙◌, subst, inl, inr, arith}
use Rattle.std.proofs.lemmas.Bool.{cases_eq}
use Rattle.model.specs.Fun.{sum_to}
use Rattle.model.specs.Types.{Kid, First, Second, Third, Kids}
use Rattle.model.specs.State.{kid_at}
use Rattle.model.specs.Reach.{Below, kid, deeper, InTerm}
use Rattle.model.specs.Sound.{Ranked}
use Rattle.model.specs.Plain.{TermHas}

module _ (kids : ℕ → Kids) (R : Ranked kids) where
  -- what lies below a kid lies below its node
  over : (m c : ℕ) (k : Kid) → kid_at (kids m) k ≡ c → c ≢ 0 → {n : ℕ} → Below kids c n → Below kids m n
  over m c k f z (kid j e y) = deeper c j (kid k f z) e y
  over m c k f z (deeper l j b e y) = deeper l j (over m c k f z b) e y

  by_kid : (m : ℕ) (k : Kid) → kid_at (kids m) k ≢ 0 → {n : ℕ} → InTerm kids (kid_at (kids m) k) n → InTerm kids m n
  by_kid m k z (inl e) = inr (kid k (sym e) (λ h. z (sym e ∙ h)))
  by_kid m k z (inr b) = inr (over m (kid_at (kids m) k) k refl z b)

  -- what lies below a node is of some kid's term
  pub record OfKid (m n : ℕ) : Type 0 where
    pub which : Kid
    pub there : kid_at (kids m) which ≢ 0
    pub of_it : InTerm kids (kid_at (kids m) which) n

  of_kid : {m n : ℕ} → Below kids m n → OfKid m n
  of_kid (kid k e y) = record { which = k; there = λ h. y (sym e ∙ h); of_it = inl (sym e) }
  of_kid {n = n} (deeper l k b e y) =
      let u = of_kid b in
      record { which = u.which; there = u.there; of_it = elim u.of_it [ inl f ↦ inr (kid k (let P : ℕ → Type 0 = λ x. kid_at (kids x) k ≡ n in subst P f e) y) | inr c ↦ inr (deeper l k c e y) ] }

  abbrev Told : ℕ → ℕ → Type 0
  Told m n = InTerm kids m n ⊎ (InTerm kids m n → ⊥)

  -- a node is of the kid's term, or it is not
  abbrev ToldOfKid : ℕ → ℕ → Kid → Type 0
  ToldOfKid m n k = ((kid_at (kids m) k ≢ 0) × InTerm kids (kid_at (kids m) k) n) ⊎ ((kid_at (kids m) k ≢ 0) → InTerm kids (kid_at (kids m) k) n → ⊥)

  of_none : (m n : ℕ) → (n ≢ m) → ((k : Kid) → (kid_at (kids m) k ≢ 0) → InTerm kids (kid_at (kids m) k) n → ⊥) → InTerm kids m n → ⊥
  of_none m n ne none (inl e) = ne e
  of_none m n ne none (inr b) = let u = of_kid b in none u.which u.there u.of_it

  by_kids : (m n : ℕ) → (n ≢ m) → ToldOfKid m n First → ToldOfKid m n Second → ToldOfKid m n Third → Told m n
  by_kids m n ne (inl a) b c = inl (by_kid m First a.0 a.1)
  by_kids m n ne (inr a) (inl b) c = inl (by_kid m Second b.0 b.1)
  by_kids m n ne (inr a) (inr b) (inl c) = inl (by_kid m Third c.0 c.1)
  by_kids m n ne (inr a) (inr b) (inr c) = inr (of_none m n ne none)
    where
      none : (k : Kid) → kid_at (kids m) k ≢ 0 → InTerm kids (kid_at (kids m) k) n → ⊥
      none First = a
      none Second = b
      none Third = c

  at_kid : (m n : ℕ) (k : Kid) → ((kid_at (kids m) k ≢ 0) → Told (kid_at (kids m) k) n) → ToldOfKid m n k
  at_kid m n k t = elim (cases_eq (kid_at (kids m) k) 0) [
    | inl e ↦ inr (λ z _. z e)
    | inr z ↦ elim (t z) [ inl i ↦ inl (z, i) | inr o ↦ inr (λ _ i. o i) ]
  ]

  -- a node is of a term or not, by heights below h
  told : (h m n : ℕ) → R.rank m < h → Told m n
  told zero m n low = absurd (omega arith)
  told (suc h) m n low = elim (cases_eq n m) [
    | inl e ↦ inl (inl e)
    | inr ne ↦
        let at : (k : Kid) → ToldOfKid m n k = λ k. at_kid m n k (λ z. told h (kid_at (kids m) k) n (omega (arith, low, R.falls m k z))) in
        by_kids m n ne (at First) (at Second) (at Third)
  ]

  counted : {m n : ℕ} → Told m n → ℕ
  counted (inl i) = 1
  counted (inr o) = 0

  counts_it : (m n : ℕ) (t : Told m n) → ((counted t ≡ 1) × InTerm kids m n) ⊎ ((counted t ≡ 0) × (InTerm kids m n → ⊥))
  unfolding counted
  counts_it m n (inl i) = inl (refl, i)
  counts_it m n (inr o) = inr (refl, o)

  pub each_term_has_a_size : (M n : ℕ) → (m : ℕ) × TermHas M kids n m
  each_term_has_a_size M n =
      let in_term : (x : ℕ) → Told n x = λ x. told (suc (R.rank n)) n x (omega arith) in
      let counts : ℕ → ℕ = λ x. counted (in_term x) in
      (sum_to M counts, record { counts = counts; each = λ x _ _. counts_it n x (in_term x); total = refl })
