-- The names line of a sheet, which says what the sheet is of.
use Rattle.std.specs.Prelude.{ℕ, cond, List, ◌++◌, length, codes, Some, None, Option, nat_le, take, drop}
use Rattle.std.specs.Str.{bytes_eq}
use Rattle.sheet.specs.Bytes.{line_end}
use Rattle.sheet.specs.declared.headings.SheetOf.{SheetOf}
use Rattle.sheet.specs.declared.headings.SheetOf.TheVariants.{Maps, Traces}

-- the names line, its end with it
abbrev pub names_of : SheetOf → List ℕ
names_of Maps = codes "party call a code number d e f" ++ line_end
names_of Traces = codes "party call a severity hour d e f" ++ line_end

-- a sheet has this many bytes at most, its names line among them
abbrev pub most_bytes : ℕ
most_bytes = 60000

-- the sheet after these names, if it begins with them
abbrev pub after_names : List ℕ → List ℕ → Option (List ℕ)
after_names names sheet = cond (bytes_eq (take (length names) sheet) names) (Some (drop (length names) sheet)) None

-- what a sheet is of, and the lines after its names line
abbrev pub Heading : Type 0
Heading = Option (SheetOf × List ℕ)

abbrev pub headed : SheetOf → Option (List ℕ) → Heading → Heading
headed kind None otherwise = otherwise
headed kind (Some lines) otherwise = Some (kind, lines)

abbrev pub heading_of : List ℕ → Heading
heading_of sheet = cond (nat_le (length sheet) most_bytes) (headed Maps (after_names (names_of Maps) sheet) (headed Traces (after_names (names_of Traces) sheet) None)) None
