use Rattle.std.specs.Prelude.{◌≡◌, Bool, false, cond, ℤ, pos, Some, None, Option, refl}
use Rattle.std.proofs.Common.{ap, inl, inr}
use Rattle.std.proofs.lemmas.Bool.{and_cases, both_ways}
use Rattle.kinds.specs.Codes.{kids_taken}
use Rattle.kinds.specs.Maps.{fits_as, worth_as, limited, exactly}
use Rattle.kinds.specs.declared.codes.Code.{Code}
use Rattle.kinds.specs.declared.kids.PerKid.{PerKid}
use Rattle.kinds.specs.declared.gearbox.Situation.{Situation}
use Rattle.kinds.specs.FirstKids.{first_kids, first_kids_given}

pub unfit : (o : Option Code) (number : ℤ) (s : Situation) (a b c : ℤ) → ((k : PerKid Bool) → fits_as o number k ≡ false) → worth_as o number s a b c ≡ pos 0
unfit None number s a b c h = refl
unfit (Some code) number s a b c h = elim (and_cases _ _ (h (first_kids (kids_taken code)))) [
  | inl e ↦ ap (λ t. cond t (limited (exactly code number s a b c)) (pos 0)) e
  | inr e ↦ absurd (both_ways _ e (first_kids_given (kids_taken code)))
]
