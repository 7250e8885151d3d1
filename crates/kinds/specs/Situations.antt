-- A situation of the gearbox: range, gear and oil temperature.
use Rattle.std.specs.Prelude.{◌≡◌, ℕ, Bool, false, ◌&&◌, ℤ, pos, Result, MatchResult}
use Rattle.refusals.specs.declared.Refusal.{Refusal}
use Rattle.refusals.specs.declared.Refusal.TheVariants.{BadSituation}
use Rattle.kinds.specs.Limits.{last_range, last_gear, coldest, hottest, between}
use Rattle.kinds.specs.declared.gearbox.Range.{Range}
use Rattle.kinds.specs.declared.gearbox.Range.TheVariants.{Low, High}
use Rattle.kinds.specs.declared.gearbox.Situation.{Situation}

abbrev pub range_number : Range → ℕ
range_number Low = 0
range_number High = 1

-- what a number is read as: the range that has it, or the refusal where none has
abbrev pub RangeOf : ℤ → Result Range Refusal → Type 0
RangeOf n r = MatchResult r (λ range. pos (range_number range) ≡ n) (λ e. (between (pos 0) (pos last_range) n ≡ false) × (e ≡ BadSituation))

-- whether there is such a situation
abbrev pub in_limits : ℤ → ℤ → ℤ → Bool
in_limits range gear temperature = between (pos 0) (pos last_range) range && (between (pos 1) (pos last_gear) gear && between coldest hottest temperature)

-- the situation is the one of these numbers
pub record Describes (s : Situation) (range gear temperature : ℤ) : Type 0 where
  pub the_range : pos (range_number s.range) ≡ range
  pub the_gear : pos s.gear ≡ gear
  pub the_temperature : s.temperature ≡ temperature
