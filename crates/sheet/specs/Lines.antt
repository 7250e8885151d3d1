-- The lines of a text, and the values that stand on a line. Lines and fields come of one cutting, `cut_at`.
use Rattle.std.specs.Prelude.{ℕ, ℤ, cond, Bool, true, false, List, [], ◌∷◌, ◌++◌, Option, Some, None}
use Rattle.sheet.specs.Bytes.{cut_at, line_end, line_end_byte, space_byte}
use Rattle.sheet.specs.Letters.{letter_of}
use Rattle.sheet.specs.Values.{value_of}
use Rattle.sheet.specs.declared.letters.Letter.{Letter}
use Rattle.sheet.specs.declared.lines.Values.{Values}

-- a line without its end, and whether its end stands
abbrev pub TextLine : Type 0
TextLine = List ℕ × Bool

-- what stands behind the last line end is a line without its end, or nothing
abbrev pub unended : List ℕ → List TextLine
unended [] = []
unended (b ∷ bs) = (b ∷ bs, false) ∷ []

-- the parts between line ends as lines
abbrev pub as_lines : List (List ℕ) → List TextLine
as_lines [] = []
as_lines (last ∷ []) = unended last
as_lines (line ∷ next ∷ more) = (line, true) ∷ as_lines (next ∷ more)

-- the lines of a text, of which only the last can be without its end
abbrev pub lines_of : List ℕ → List TextLine
lines_of text = as_lines (cut_at line_end_byte text)

-- a line with its end, if that stands
abbrev pub line_text : TextLine → List ℕ
line_text line = line.0 ++ cond line.1 line_end []

-- the parts of a line between its spaces
abbrev pub fields_of : List ℕ → List (List ℕ)
fields_of line = cut_at space_byte line

-- the values of a line, if each field is good at its place
abbrev pub row : Option ℤ → Option Letter → Option ℤ → Option ℤ → Option ℤ → Option ℤ → Option ℤ → Option ℤ → Option Values
row (Some party) (Some call) (Some a) (Some fourth) (Some fifth) (Some d) (Some e) (Some f) =
    Some (record { party = party; call = call; a = a; fourth = fourth; fifth = fifth; d = d; e = e; f = f })
row party call a fourth fifth d e f = None

-- eight fields, of which the second is a letter and the others are values
abbrev pub values_in : List (List ℕ) → Option Values
values_in (party ∷ call ∷ a ∷ fourth ∷ fifth ∷ d ∷ e ∷ f ∷ []) =
    row (value_of party) (letter_of call) (value_of a) (value_of fourth) (value_of fifth) (value_of d) (value_of e) (value_of f)
values_in fields = None

abbrev pub values_of : List ℕ → Option Values
values_of line = values_in (fields_of line)

-- the first line of a text; where a text has no line, an empty one without its end
abbrev pub head_line : List TextLine → TextLine
head_line [] = ([], false)
head_line (line ∷ lines) = line

abbrev pub first_line : List ℕ → TextLine
first_line text = head_line (lines_of text)

-- the values of a line, which is malformed without its end
abbrev pub values_on : TextLine → Option Values
values_on line = cond line.1 (values_of line.0) None
