-- The example shift map: the line pressure of a gearbox in kPa.
use Rattle.std.specs.Prelude.{◌≡◌, ℕ, suc, ◌+◌, ◌-◌, ◌*◌, ℤ, pos, negsuc}
use Rattle.kinds.specs.declared.gearbox.Range.{Range}
use Rattle.kinds.specs.declared.gearbox.Range.TheVariants.{Low, High}
use Rattle.kinds.specs.declared.gearbox.Situation.{Situation}

-- the low range pulls harder, so its clutches need more
abbrev pub base_pressure : Range → ℕ
base_pressure Low = 1450
base_pressure High = 900

-- a kPa for each degree that the oil is below zero
abbrev pub frost : ℤ → ℕ
frost (pos n) = 0
frost (negsuc n) = suc n

-- 16 kPa less for each gear
abbrev pub line_pressure : Situation → ℕ
line_pressure s = base_pressure s.range + frost s.temperature - 16 * s.gear

-- the same gear and oil in the other range
pub record OtherRange (s t : Situation) : Type 0 where
  pub other : s.range ≡ t.range → ⊥
  pub same_gear : s.gear ≡ t.gear
  pub same_oil : s.temperature ≡ t.temperature
