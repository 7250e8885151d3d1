-- How data is written as a byte and four bytes.
use Rattle.std.specs.Prelude.{◌≡◌, ℕ, ◌+◌, ◌*◌, ◌/◌, ◌%◌, ◌<◌, List, [], ◌∷◌, length, ℤ, slice_index}
use Rattle.std.specs.Int.{w32}
use Rattle.std.proofs.Common.{of_z, to_z}

-- a number below 2 ^ 32 as four bytes, the high one first
abbrev pub four_bytes : ℕ → List ℕ
four_bytes n = (n / 16777216 % 256) ∷ (n / 65536 % 256) ∷ (n / 256 % 256) ∷ (n % 256) ∷ []

-- the number that four bytes stand for
abbrev pub value_of : List ℕ → ℕ
value_of w = slice_index w 0 * 16777216 + slice_index w 1 * 65536 + slice_index w 2 * 256 + slice_index w 3

-- a signed number of 32 bits by its two's complement, and back
abbrev pub complement : ℤ → ℕ
complement z = of_z w32 z

abbrev pub signed : ℕ → ℤ
signed n = to_z w32 n

-- what four bytes are
pub record AreBytes (w : List ℕ) : Type 0 where
  pub four : length w ≡ 4
  pub small : (i : ℕ) → slice_index w i < 256
