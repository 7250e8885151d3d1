-- How the lines of a text come about byte by byte.
use Rattle.std.proofs.Common.{◌≡◌, ◌≢◌, ℕ, cond, Bool, true, false, List, [], ◌∷◌, ◌==◌, length, refl, ap, arith}
use Rattle.std.specs.List.{onto_first}
use Rattle.std.proofs.lemmas.List.Splits.{length-slice_split}
use Rattle.sheet.specs.Bytes.{cut_at, line_end_byte}
use Rattle.sheet.specs.Lines.{TextLine, as_lines, lines_of}

-- a byte in front of the first of these lines
abbrev pub onto_first_line : ℕ → List TextLine → List TextLine
onto_first_line b [] = (b ∷ [], false) ∷ []
onto_first_line b (line ∷ lines) = (b ∷ line.0, line.1) ∷ lines

as_lines-more : (b : ℕ) (parts : List (List ℕ)) (ends : Bool) → parts ≢ [] → as_lines (cond ends ([] ∷ parts) (onto_first b parts)) ≡ cond ends (([], true) ∷ as_lines parts) (onto_first_line b (as_lines parts))
as_lines-more b [] ends some = absurd (some refl)
as_lines-more b (part ∷ []) true some = refl
as_lines-more b ([] ∷ []) false some = refl
as_lines-more b ((c ∷ cs) ∷ []) false some = refl
as_lines-more b (part ∷ next ∷ parts) true some = refl
as_lines-more b (part ∷ next ∷ parts) false some = refl

parts-some : (text : List ℕ) → cut_at line_end_byte text ≢ []
parts-some text e = let n = length-slice_split (λ b. b == line_end_byte) text in let none = ap length e in absurd (omega arith)

pub lines_of-first : (b : ℕ) (bs : List ℕ) → lines_of (b ∷ bs) ≡ cond (b == line_end_byte) (([], true) ∷ lines_of bs) (onto_first_line b (lines_of bs))
lines_of-first b bs = as_lines-more b (cut_at line_end_byte bs) (b == line_end_byte) (parts-some bs)
