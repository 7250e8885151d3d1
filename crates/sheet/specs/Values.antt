-- Which parts of a sheet are values, and the number that each one is.
use Rattle.std.specs.Prelude.{ℕ, ◌+◌, ◌*◌, ◌-◌, cond, ◌&&◌, List, [], ◌∷◌, length, ℤ, pos, neg_ℤ, Some, None, Option, nat_le, ◌==◌}
use Rattle.std.specs.Char.{is_ascii_digit}
use Rattle.std.specs.Str.{byte}
use Rattle.std.specs.Option.{option_map}

-- what digits are in base ten when they go on from a number, if all of them are digits
abbrev pub going_on : ℕ → List ℕ → Option ℕ
going_on n [] = Some n
going_on n (b ∷ bs) = cond (is_ascii_digit b) (going_on (10 * n + (b - byte "0")) bs) None

abbrev pub most_digits : ℕ
most_digits = 7

-- the number that one to seven digits are in base ten
abbrev pub magnitude_of : List ℕ → Option ℕ
magnitude_of bs = cond (nat_le 1 (length bs) && nat_le (length bs) most_digits) (going_on 0 bs) None

abbrev pub plain : ℕ → ℤ
plain n = pos n

abbrev pub negated : ℕ → ℤ
negated n = neg_ℤ (pos n)

-- a value is digits, or a minus and digits
abbrev pub value_of : List ℕ → Option ℤ
value_of [] = None
value_of (b ∷ bs) = cond (b == byte "-") (option_map negated (magnitude_of bs)) (option_map plain (magnitude_of (b ∷ bs)))
