-- Four bytes and the number that they stand for.
use Rattle.std.specs.Prelude.{◌≡◌, ℕ, ◌+◌, ◌*◌, ◌/◌, ◌%◌, ◌^◌, ◌<◌, List, [], ◌∷◌}
use Rattle.std.proofs.Common.{arith}
use Rattle.kinds.specs.Bytes.{four_bytes, value_of, AreBytes}

-- the four digits of a number in base 256
digits : (a b c d : ℕ) → a < 256 → b < 256 → c < 256 → d < 256 →
    ((a * 16777216 + b * 65536 + c * 256 + d) / 16777216 % 256 ≡ a) × ((a * 16777216 + b * 65536 + c * 256 + d) / 65536 % 256 ≡ b) × ((a * 16777216 + b * 65536 + c * 256 + d) / 256 % 256 ≡ c) × ((a * 16777216 + b * 65536 + c * 256 + d) % 256 ≡ d)
digits a b c d ha hb hc hd = (omega arith, omega arith, omega arith, omega arith)

pub value_small : (w : List ℕ) → AreBytes w → value_of w < 2 ^ 32
value_small w is = omega (arith, is.small 0, is.small 1, is.small 2, is.small 3)

pub bytes_of_value : (w : List ℕ) → AreBytes w → four_bytes (value_of w) ≡ w
bytes_of_value [] is = absurd (omega (arith, is.four))
bytes_of_value (a ∷ []) is = absurd (omega (arith, is.four))
bytes_of_value (a ∷ b ∷ []) is = absurd (omega (arith, is.four))
bytes_of_value (a ∷ b ∷ c ∷ []) is = absurd (omega (arith, is.four))
bytes_of_value (a ∷ b ∷ c ∷ d ∷ []) is =
    let f = digits a b c d (is.small 0) (is.small 1) (is.small 2) (is.small 3) in
    rw (f.0, f.1, f.2, f.3)
bytes_of_value (a ∷ b ∷ c ∷ d ∷ x ∷ xs) is = absurd (omega (arith, is.four))
