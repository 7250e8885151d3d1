-- The kids that a Make wants, by its party's slots.
use Rattle.std.proofs.Common.{◌≡◌, ℕ, suc, ◌<◌, ◌≤◌, cond, eqb, ◌≢◌, sym, ◌∙◌, inl, inr, arith}
use Rattle.std.proofs.lemmas.Bool.{cases_eq, cond-true, cond-false, eq-eqb, ne_eqb}
use Rattle.model.specs.Types.{Kid, Kids, Plan}
use Rattle.model.specs.State.{position, kid_at}
use Rattle.model.proofs.Make.{position_same}

module _ {D : Type 0} (slots : ℕ → ℕ) (x : Plan D) where
  abbrev pub wants : Kid → ℕ
  wants k = cond (eqb (kid_at x.kids k) 0) 0 (slots (kid_at x.kids k))

  pub wants_none : (k : Kid) → kid_at x.kids k ≡ 0 → wants k ≡ 0
  wants_none k z = cond-true (eqb (kid_at x.kids k) 0) 0 (slots (kid_at x.kids k)) (eq-eqb (kid_at x.kids k) 0 z)

  pub wants_some : (k : Kid) → kid_at x.kids k ≢ 0 → wants k ≡ slots (kid_at x.kids k)
  wants_some k z = cond-false (eqb (kid_at x.kids k) 0) 0 (slots (kid_at x.kids k)) (ne_eqb (kid_at x.kids k) 0 z)

  -- the kids before the position h are as wanted, the others none
  abbrev pub Shape : Kids → ℕ → Type 0
  Shape ks h = (k : Kid) → (position k < h → kid_at ks k ≡ wants k) × (h ≤ position k → kid_at ks k ≡ 0)

  -- so they are past a kid that is not wanted
  pub shape_past : (ks : Kids) (k : Kid) → Shape ks (position k) → kid_at x.kids k ≡ 0 → Shape ks (suc (position k))
  shape_past ks k sh z i = (
    (λ h. elim (cases_eq (position i) (position k)) [
      | inl d ↦ position_same (λ j. kid_at ks j ≡ wants j) i k d ((sh k).1 (omega arith) ∙ sym (wants_none k z))
      | inr d ↦ (sh i).0 (omega arith)
    ]),
    λ h. (sh i).1 (omega arith),
  )
