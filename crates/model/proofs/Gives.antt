-- What a Make comes to behind a kid: its next kid that is wanted, or its end.
use Rattle.std.proofs.Common.{◌≡◌, ℕ, suc, eqb, ◌≢◌}
use Rattle.std.proofs.lemmas.Bool.{cond_both, eqb-true, eqb-false}
use Rattle.model.specs.Types.{Kid, First, Second, Third, CountKid, Plan, Makes, Works}
use Rattle.model.specs.State.{position, kid_at, Store, set_run}
use Rattle.model.proofs.Explicit.{made, give_first, give_second, give_third, give_after}

-- B is what holds of the kids before a position
module _ {D : Type 0} (P : Store D → Type 0) (x : Plan D) (t : Store D) (p v : ℕ) (B : ℕ → Type 0) (end : B 4 → P (made x t p v))
    (stop : (k : Kid) → B (position k) → kid_at x.kids k ≢ 0 → P (set_run t p (Works (Makes x) (CountKid v k)))) (skip : (k : Kid) → B (position k) → kid_at x.kids k ≡ 0 → B (suc (position k))) where
  third : B 3 → P (give_third x t p v)
  third h = cond_both (eqb x.kids.third 0) (made x t p v) (set_run t p (Works (Makes x) (CountKid v Third))) P (λ z. end (skip Third h (eqb-true x.kids.third 0 z))) (λ z. stop Third h (eqb-false x.kids.third 0 z))

  second : B 2 → P (give_second x t p v)
  second h = cond_both (eqb x.kids.second 0) (give_third x t p v) (set_run t p (Works (Makes x) (CountKid v Second))) P (λ z. third (skip Second h (eqb-true x.kids.second 0 z))) (λ z. stop Second h (eqb-false x.kids.second 0 z))

  pub first_by : B 1 → P (give_first x t p v)
  first_by h = cond_both (eqb x.kids.first 0) (give_second x t p v) (set_run t p (Works (Makes x) (CountKid v First))) P (λ z. second (skip First h (eqb-true x.kids.first 0 z))) (λ z. stop First h (eqb-false x.kids.first 0 z))

  pub after_by : (k : Kid) → B (suc (position k)) → P (give_after x t p v k)
  after_by First h = second h
  after_by Second h = third h
  after_by Third h = end h

-- the same where it does not matter which kids are wanted
module _ {D : Type 0} (P : Store D → Type 0) (x : Plan D) (t : Store D) (p v : ℕ) (end : P (made x t p v)) (stop : (k : Kid) → P (set_run t p (Works (Makes x) (CountKid v k)))) where
  pub first_any : P (give_first x t p v)
  first_any = first_by P x t p v (λ n. Unit {0}) (λ _. end) (λ k _ _. stop k) (λ k _ _. tt) tt

  pub after_any : (k : Kid) → P (give_after x t p v k)
  after_any k = after_by P x t p v (λ n. Unit {0}) (λ _. end) (λ k _ _. stop k) (λ k _ _. tt) k tt
