-- The two bytes at which a sheet is cut.
use Rattle.std.specs.Prelude.{ℕ, List, [], ◌∷◌, ◌==◌}
use Rattle.std.specs.List.{slice_split}

-- each line ends with this byte
abbrev pub line_end_byte : ℕ
line_end_byte = 10

-- and this one stands between the fields of a line
abbrev pub space_byte : ℕ
space_byte = 32

abbrev pub line_end : List ℕ
line_end = line_end_byte ∷ []

abbrev pub space : List ℕ
space = space_byte ∷ []

-- the parts of a text between the bytes at which it is cut
abbrev pub cut_at : ℕ → List ℕ → List (List ℕ)
cut_at byte text = slice_split (λ b. b == byte) text
