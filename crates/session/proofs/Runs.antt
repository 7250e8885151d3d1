-- A run grows by a move at its end; what is known after a run from a new session.
use Rattle.std.proofs.Common.{◌≡◌, ℕ, zero, suc, ◌<◌, List, [], ◌∷◌, ◌++◌, length, take, get_or, sym, ap, arith}
use Rattle.std.specs.Prelude.{zip}
use Rattle.model.specs.declared.calls.Event.{Event}
use Rattle.model.specs.Types.{Outcome}
use Rattle.model.specs.Existing.{CanExist, moved}
use Rattle.model.specs.Runs.{System, Moves, Log, Run, still, more}
use Rattle.model.specs.Setting.{Setting}

module _ {D W A B : Type 0} {X : Setting D W A B} where
  pub run_grows : {F G H : System D W A B} {es : Log X} {e : Event D} {o : Outcome D W} → Run X F es G → Moves X G e o H → Run X F (es ++ (e, o) ∷ []) H
  run_grows still m = more m still
  run_grows (more n r) m = more n (run_grows r m)

  pub exists_after : {F G : System D W A B} {es : Log X} → CanExist X F → Run X F es G → CanExist X G
  exists_after c still = c
  exists_after c (more m r) = exists_after (moved c m) r

-- one command more with its outcome
pub zip_grows : {C O : Type 0} (cs : List C) (os : List O) (k : ℕ) (c : C) (o : O) → length os ≡ k → k < length cs → c ≡ get_or cs k c → zip (take k cs) os ++ (c, o) ∷ [] ≡ zip (take (suc k) cs) (os ++ o ∷ [])
zip_grows [] os k c o e low is = absurd (omega arith)
zip_grows (x ∷ cs) [] zero c o e low is = ap (λ y. (y, o) ∷ []) is
zip_grows (x ∷ cs) (p ∷ os) zero c o e low is = absurd (omega (arith, e))
zip_grows (x ∷ cs) [] (suc k) c o e low is = absurd (omega (arith, e))
zip_grows (x ∷ cs) (p ∷ os) (suc k) c o e low is = ap (λ l. (x, p) ∷ l) (zip_grows cs os k c o (let h = e in omega (arith, h)) (omega (arith, low)) is)

pub take_grows : {C : Type 0} (cs : List C) (k : ℕ) (c : C) → k < length cs → c ≡ get_or cs k c → take (suc k) cs ≡ take k cs ++ c ∷ []
take_grows [] k c low is = absurd (omega arith)
take_grows (x ∷ cs) zero c low is = ap (λ y. y ∷ []) (sym is)
take_grows (x ∷ cs) (suc k) c low is = ap (λ l. x ∷ l) (take_grows cs k c (omega (arith, low)) is)
