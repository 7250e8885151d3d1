-- The codes of map data, each with its number, and how many kids each takes.
use Rattle.std.specs.Prelude.{ℕ, Bool, cond, ◌&&◌, List, [], ◌∷◌, ◌++◌, replicate, Some, None, Option, ◌==◌, nat_le, slice_index}
use Rattle.std.specs.Bool.{beq}
use Rattle.kinds.specs.declared.kids.PerKid.{PerKid}
use Rattle.kinds.specs.declared.codes.Code.{Code}
use Rattle.kinds.specs.declared.codes.Code.TheVariants.{Number, Range, Gear, Temperature, Negated, Sum, Difference, Smaller, Larger, Scaled, Choose, Held}

abbrev pub code_number : Code → ℕ
code_number Number = 0
code_number Range = 1
code_number Gear = 2
code_number Temperature = 3
code_number Negated = 8
code_number Sum = 16
code_number Difference = 17
code_number Smaller = 18
code_number Larger = 19
code_number Scaled = 20
code_number Choose = 24
code_number Held = 25

abbrev pub listed : List Code
listed = Number ∷ Range ∷ Gear ∷ Temperature ∷ Negated ∷ Sum ∷ Difference ∷ Smaller ∷ Larger ∷ Scaled ∷ Choose ∷ Held ∷ []

abbrev pub first_with_number : List Code → ℕ → Option Code
first_with_number [] n = None
first_with_number (code ∷ codes) n = cond (n == code_number code) (Some code) (first_with_number codes n)

-- the listed code of a number, if it has one
abbrev pub code_of : ℕ → Option Code
code_of n = first_with_number listed n

-- how many kids the codes 0 to 31 take
abbrev pub kids_table : List ℕ
kids_table = replicate 8 0 ++ (replicate 8 1 ++ (replicate 8 2 ++ replicate 8 3))

abbrev pub kids_taken : Code → ℕ
kids_taken code = slice_index kids_table (code_number code)

-- exactly the first n kids are given
abbrev pub first_given : ℕ → PerKid Bool → Bool
first_given n kids = beq kids.first (nat_le 1 n) && (beq kids.second (nat_le 2 n) && beq kids.third (nat_le 3 n))
