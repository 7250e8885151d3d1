-- The letters of a sheet, and the call that each one names.
use Rattle.std.specs.Prelude.{ℕ, cond, List, [], ◌∷◌, Some, None, Option, ◌==◌}
use Rattle.std.specs.Str.{byte}
use Rattle.sheet.specs.declared.letters.Letter.{Letter}
use Rattle.sheet.specs.declared.letters.Letter.TheVariants.{NewStore, Make, Read, Walk, Turns, Keep, Drop, Hand, Fetch, Enter, Down, Up, Leave, Sweep}

abbrev pub letters : List (ℕ × Letter)
letters =
    (byte "N", NewStore)
    ∷ (byte "M", Make)
    ∷ (byte "R", Read)
    ∷ (byte "W", Walk)
    ∷ (byte "T", Turns)
    ∷ (byte "K", Keep)
    ∷ (byte "D", Drop)
    ∷ (byte "H", Hand)
    ∷ (byte "F", Fetch)
    ∷ (byte "E", Enter)
    ∷ (byte "V", Down)
    ∷ (byte "U", Up)
    ∷ (byte "L", Leave)
    ∷ (byte "S", Sweep)
    ∷ []

abbrev pub named_in : List (ℕ × Letter) → ℕ → Option Letter
named_in [] b = None
named_in (entry ∷ entries) b = cond (b == entry.0) (Some entry.1) (named_in entries b)

-- the call that a part names: the part is one byte, and that byte is a letter
abbrev pub letter_of : List ℕ → Option Letter
letter_of [] = None
letter_of (b ∷ []) = named_in letters b
letter_of (b ∷ next ∷ more) = None
