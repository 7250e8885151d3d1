-- The fields of a text as `Reader::next_field` hands them out: parts, and what ends each of them. What a sheet says is told by its lines (Lines.antt).
use Rattle.std.specs.Prelude.{◌≡◌, ◌≢◌, ℕ, cond, All, List, [], ◌∷◌, ◌++◌, ◌==◌}
use Rattle.sheet.specs.Bytes.{line_end, line_end_byte, space, space_byte}
use Rattle.sheet.specs.declared.cuts.Ending.{Ending}
use Rattle.sheet.specs.declared.cuts.Ending.TheVariants.{Space, LineEnd, SheetEnd}

-- an ending as it stands in the text
abbrev pub ending_text : Ending → List ℕ
ending_text Space = space
ending_text LineEnd = line_end
ending_text SheetEnd = []

-- how many lines it ends
abbrev pub lines_ended : Ending → ℕ
lines_ended Space = 0
lines_ended LineEnd = 1
lines_ended SheetEnd = 0

-- a part with its ending
abbrev pub Piece : Type 0
Piece = List ℕ × Ending

abbrev pub onto_first : ℕ → List Piece → List Piece
onto_first b [] = (b ∷ [], SheetEnd) ∷ []
onto_first b (piece ∷ pieces) = (b ∷ piece.0, piece.1) ∷ pieces

-- a text, cut behind each space and each line end
abbrev pub pieces_of : List ℕ → List Piece
pieces_of [] = []
pieces_of (b ∷ bs) = cond (b == space_byte) (([], Space) ∷ pieces_of bs) (cond (b == line_end_byte) (([], LineEnd) ∷ pieces_of bs) (onto_first b (pieces_of bs)))

-- the text that pieces make when they are joined again
abbrev pub joined : List Piece → List ℕ
joined [] = []
joined (piece ∷ pieces) = piece.0 ++ (ending_text piece.1 ++ joined pieces)

-- neither a space nor a line end
abbrev pub IsInside : ℕ → Type 0
IsInside b = (b ≢ space_byte) × (b ≢ line_end_byte)

-- the text is this part, its ending and what is left after it; only where nothing is left may an ending be missing
pub record IsCut (text part : List ℕ) (ending : Ending) (after : List ℕ) : Type 0 where
  pub whole : text ≡ part ++ (ending_text ending ++ after)
  pub plain : All IsInside part
  pub last : ending ≡ SheetEnd → after ≡ []

-- the same, as one more of the text's pieces
pub record IsField (text part : List ℕ) (ending : Ending) (after : List ℕ) : Type 0 where
  pub cut : IsCut text part ending after
  pub first : pieces_of text ≡ (part, ending) ∷ pieces_of after
