-- Shift maps: what map data fits, and what a node of it is worth in whole kPa.
use Rattle.std.specs.Prelude.{ℕ, ◌<◌, Bool, false, cond, ◌&&◌, ◌||◌, List, ℤ, pos, negsuc, ◌+ℤ◌, ◌-ℤ◌, ◌*ℤ◌, neg_ℤ, Some, None, Option, FitsSigned, ◌==◌, int_div}
use Rattle.std.specs.Int.{int_max, int_min, w32}
use Rattle.kinds.specs.Bytes.{four_bytes, value_of, complement, signed}
use Rattle.kinds.specs.Codes.{code_number, code_of, kids_taken, first_given}
use Rattle.kinds.specs.Limits.{smallest, largest, between}
use Rattle.kinds.specs.Situations.{range_number}
use Rattle.kinds.specs.declared.kids.PerKid.{PerKid}
use Rattle.kinds.specs.declared.codes.Code.{Code}
use Rattle.kinds.specs.declared.codes.Code.TheVariants.{Number, Range, Gear, Temperature, Negated, Sum, Difference, Smaller, Larger, Scaled, Choose, Held}
use Rattle.kinds.specs.declared.maps.MapData.{MapData}
use Rattle.kinds.specs.declared.gearbox.Situation.{Situation}

-- the data of a node of a listed code
abbrev pub map_data : Code → ℤ → MapData
map_data code number = record { code = code_number code; number = number }

abbrev pub is_zero : ℤ → Bool
is_zero (pos n) = n == 0
is_zero (negsuc n) = false

-- within the limits, and 0 unless the code is 0
abbrev pub number_fits : Code → ℤ → Bool
number_fits code number = between smallest largest number && (code_number code == 0 || is_zero number)

-- the exact result of a code, from the number, the situation and the worths of the three kids
abbrev pub exactly : Code → ℤ → Situation → ℤ → ℤ → ℤ → ℤ
exactly Number number s a b c = number
exactly Range number s a b c = pos (range_number s.range)
exactly Gear number s a b c = pos s.gear
exactly Temperature number s a b c = s.temperature
exactly Negated number s a b c = neg_ℤ a
exactly Sum number s a b c = a +ℤ b
exactly Difference number s a b c = a -ℤ b
exactly Smaller number s a b c = int_min a b
exactly Larger number s a b c = int_max a b
exactly Scaled number s a b c = int_div (a *ℤ b) (pos 100)
exactly Choose number s a b c = cond (is_zero a) b c
exactly Held number s a b c = int_max b (int_min a c)

-- a result beyond a limit becomes that limit
abbrev pub limited : ℤ → ℤ
limited z = int_max smallest (int_min z largest)

abbrev pub fits_as : Option Code → ℤ → PerKid Bool → Bool
fits_as None number kids = false
fits_as (Some code) number kids = number_fits code number && first_given (kids_taken code) kids

abbrev pub map_fits : MapData → PerKid Bool → Bool
map_fits d kids = fits_as (code_of d.code) d.number kids

abbrev pub worth_as : Option Code → ℤ → Situation → ℤ → ℤ → ℤ → ℤ
worth_as None number s a b c = pos 0
worth_as (Some code) number s a b c = cond (number_fits code number) (limited (exactly code number s a b c)) (pos 0)

abbrev pub map_worth : MapData → Situation → ℤ → ℤ → ℤ → ℤ
map_worth d s a b c = worth_as (code_of d.code) d.number s a b c

abbrev pub map_bytes : MapData → ℕ × List ℕ
map_bytes d = (d.code, four_bytes (complement d.number))

abbrev pub map_from : ℕ → List ℕ → MapData
map_from byte word = record { code = byte; number = signed (value_of word) }

-- what map data can hold at all: a code of one byte and a number of 32 bits
abbrev pub MapStorable : MapData → Type 0
MapStorable d = (d.code < 256) × FitsSigned w32 d.number
