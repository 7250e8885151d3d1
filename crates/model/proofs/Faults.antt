-- What a Begin is refused with: it looks at the party's slots and trail alone, and at neither where the party is busy.
use Rattle.std.proofs.Common.{◌≡◌, ℕ, Bool, true, false, not, ◌||◌, ◌≢◌, ◌∷◌, Some, None, Option, sym, ap, ◌∙◌}
use Rattle.refusals.specs.Numbers.{number_of}
use Rattle.refusals.specs.declared.Refusal.{Refusal}
use Rattle.refusals.specs.declared.Refusal.TheVariants.{NoSuchParty, ShortList, Busy}
use Rattle.kinds.specs.declared.kids.PerKid.{PerKid}
use Rattle.model.specs.Types.{Lengths, Asked}
use Rattle.model.specs.State.{Trail}
use Rattle.model.specs.Steps.{between}
use Rattle.model.specs.Checks.{first_fault, no_receiver, too_short, faults, begin_fault}

-- the number of what a Begin is refused with, 11 for none
abbrev number_in : Option Refusal → ℕ
number_in o = elim o [ Some e ↦ number_of e | None ↦ 11 ]

module _ {D : Type 0} (suits : D → PerKid Bool → Bool) (N M : ℕ) where
  -- the same slots and the same trail: the same refusal
  pub fault_same : (busy : Bool) (p : ℕ) (a : Asked D) (l : Lengths) (f g : ℕ → ℕ) (T U : Trail) → f ≡ g → T ≡ U → begin_fault suits N M busy p a l f T ≡ begin_fault suits N M busy p a l g U
  fault_same busy p a l f g T U e h = ap (λ v. begin_fault suits N M busy p a l v T) e ∙ ap (begin_fault suits N M busy p a l g) h

  -- a refusal of a busy party that is not for being busy is that of an idle one, whatever its slots and trail
  pub fault_early : (p : ℕ) (a : Asked D) (l : Lengths) (f g : ℕ → ℕ) (T U : Trail) (e : Refusal) → number_of e ≢ 11 → begin_fault suits N M true p a l f T ≡ Some e → begin_fault suits N M false p a l g U ≡ Some e
  fault_early p a l f g T U e z h = by_first (not (between 1 N p) || no_receiver N a) (too_short M a l) h
    where
      by_first : (x y : Bool) → first_fault ((x, NoSuchParty) ∷ (y, ShortList) ∷ (true, Busy) ∷ faults suits a f T) ≡ Some e → first_fault ((x, NoSuchParty) ∷ (y, ShortList) ∷ (false, Busy) ∷ faults suits a g U) ≡ Some e
      by_first true y h = h
      by_first false true h = h
      by_first false false h = absurd (z (sym (ap number_in h)))
