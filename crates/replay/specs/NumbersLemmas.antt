-- Numbers that no data stands as are read as data that fits no kids.
use Rattle.std.specs.Prelude.{◌≡◌, suc, ◌^◌, ℤ, pos, negsuc, Bool, false, Some, None, Option, refl, FitsSigned}
use Rattle.std.specs.Int.{w32}
use Rattle.std.proofs.Common.{inl, inr, arith}
use Rattle.std.proofs.lemmas.Bool.Decides.{leb_tells}
use Rattle.std.proofs.lemmas.Int.{fits_signed_from_abs}
use Rattle.std.proofs.Math.Bool.{and-false}
use Rattle.kinds.specs.Codes.{code_of}
use Rattle.kinds.specs.Maps.{fits_as, map_fits, MapStorable}
use Rattle.kinds.specs.Traces.{trace_fits, TraceStorable}
use Rattle.kinds.specs.declared.codes.Code.{Code}
use Rattle.kinds.specs.declared.kids.PerKid.{PerKid}
use Rattle.replay.specs.Numbers.{OthersFitNoKids, of_maps, of_traces}

-- a number that 32 bits cannot hold is beyond the limits
too_wide : (code : Option Code) (number : ℤ) → (FitsSigned w32 number → ⊥) → (kids : PerKid Bool) → fits_as code number kids ≡ false
too_wide None number wide kids = refl
too_wide (Some code) (pos n) wide kids = elim (leb_tells n 1000000) [
  | inl small ↦ absurd (wide (fits_signed_from_abs w32 (pos n) (omega (arith, small.1))))
  | inr large ↦ rw large.0 refl
]
too_wide (Some code) (negsuc n) wide kids = elim (leb_tells n 999999) [
  | inl small ↦ absurd (wide (fits_signed_from_abs w32 (negsuc n) (omega (arith, small.1))))
  | inr large ↦ rw large.0 refl
]

pub other_map_numbers : OthersFitNoKids of_maps MapStorable map_fits
other_map_numbers (negsuc n) number none kids = refl
other_map_numbers (pos n) number none kids = elim (leb_tells (suc n) 256) [
  | inl small ↦ rw small.0 (too_wide (code_of n) number (λ fits. none (record { code = n; number = number }) ((small.1, fits), refl)) kids)
  | inr large ↦ rw large.0 refl
]

pub other_trace_numbers : OthersFitNoKids of_traces TraceStorable (λ d kids. trace_fits d)
other_trace_numbers (negsuc s) hour none kids = refl
other_trace_numbers (pos s) (negsuc h) none kids = and-false _
other_trace_numbers (pos s) (pos h) none kids = elim (leb_tells (suc s) 256) [
  | inr large ↦ rw large.0 refl
  | inl small ↦ elim (leb_tells (suc h) (2 ^ 32)) [
    | inr late ↦ rw late.0 (and-false _)
    | inl early ↦ absurd (none (record { severity = s; hour = h }) ((small.1, early.1), refl))
  ]
]
