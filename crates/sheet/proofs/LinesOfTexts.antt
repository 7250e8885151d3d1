-- A line is what its fields, taken one after another, make.
use Rattle.std.proofs.Common.{◌≡◌, ◌≢◌, ℕ, cond, All, Bool, true, false, List, [], ◌∷◌, ◌++◌, ◌==◌, Option, None, append-nil, refl, ap, sym, ◌∙◌, arith}
use Rattle.std.specs.List.{flat_map, join_with_byte}
use Rattle.std.proofs.lemmas.Bool.{ne_eqb}
use Rattle.std.proofs.lemmas.Bool.Decides.{Decides-eqb}
use Rattle.std.proofs.lemmas.List.Elements.{All-head, All-tail, All-weaker}
use Rattle.std.proofs.lemmas.List.Splits.{join_with_byte-slice_split, slice_split_none, slice_split_at}
use Rattle.sheet.specs.declared.cuts.Ending.{Ending}
use Rattle.sheet.specs.declared.cuts.Ending.TheVariants.{Space, LineEnd, SheetEnd}
use Rattle.sheet.specs.declared.columns.Columns.{Columns}
use Rattle.sheet.specs.declared.columns.Place.TheVariants.{BehindEnd}
use Rattle.sheet.specs.declared.lines.Values.{Values}
use Rattle.sheet.proofs.LinesCut.{lines_of-first, onto_first_line}
use Rattle.sheet.specs.Bytes.{line_end_byte, space_byte}
use Rattle.sheet.specs.Columns.{ended_at, following, no_columns, read_at, values_taken, with_part}
use Rattle.sheet.specs.Fields.{IsCut, IsInside, lines_ended}
use Rattle.sheet.specs.Lines.{TextLine, fields_of, first_line, head_line, line_text, lines_of, values_in, values_on}

-- all of these parts taken
abbrev pub columns_after : Columns → List (List ℕ) → Columns
columns_after columns [] = columns
columns_after columns (part ∷ parts) = columns_after (with_part columns part) parts

-- the values of the first of these lines, behind the columns that were taken before it
abbrev pub values_ahead : Columns → List TextLine → Option Values
values_ahead columns [] = None
values_ahead columns (line ∷ lines) = cond line.1 (values_taken (columns_after columns (fields_of line.0))) None

abbrev pub lines_behind : List TextLine → List TextLine
lines_behind [] = []
lines_behind (line ∷ lines) = lines

abbrev pub outcome : Columns → List TextLine → Option Values × List TextLine
outcome columns lines = (values_ahead columns lines, lines_behind lines)

pub nothing_ahead : (columns : Columns) (text : List ℕ) → text ≡ [] → values_ahead columns (lines_of text) ≡ None
nothing_ahead columns text e = ap (λ (t : List ℕ). values_ahead columns (lines_of t)) e

-- a field too many stays one
taken_too_many : (columns : Columns) (parts : List (List ℕ)) → columns.next ≡ BehindEnd → values_taken (columns_after columns parts) ≡ None
taken_too_many columns [] e = ap (λ p. ended_at p columns) e
taken_too_many columns (part ∷ parts) e =
    taken_too_many (with_part columns part) parts (ap (λ p. (read_at p (record columns { next = following p }) part).next) e)

pub values_taken-all : (fields : List (List ℕ)) → values_taken (columns_after no_columns fields) ≡ values_in fields
values_taken-all [] = refl
values_taken-all (p ∷ []) = refl
values_taken-all (p ∷ c ∷ []) = refl
values_taken-all (p ∷ c ∷ a ∷ []) = refl
values_taken-all (p ∷ c ∷ a ∷ x ∷ []) = refl
values_taken-all (p ∷ c ∷ a ∷ x ∷ y ∷ []) = refl
values_taken-all (p ∷ c ∷ a ∷ x ∷ y ∷ d ∷ []) = refl
values_taken-all (p ∷ c ∷ a ∷ x ∷ y ∷ d ∷ e ∷ []) = refl
values_taken-all (p ∷ c ∷ a ∷ x ∷ y ∷ d ∷ e ∷ f ∷ []) = refl
values_taken-all (p ∷ c ∷ a ∷ x ∷ y ∷ d ∷ e ∷ f ∷ more ∷ fields) = taken_too_many _ fields refl

lines_of-cons : (b : ℕ) (bs : List ℕ) → IsInside b → lines_of (b ∷ bs) ≡ onto_first_line b (lines_of bs)
lines_of-cons b bs inside = lines_of-first b bs ∙ ap (λ ends. cond ends (([], true) ∷ lines_of bs) (onto_first_line b (lines_of bs))) (ne_eqb b line_end_byte inside.1)

-- bytes in front of the first line
abbrev onto_line : List ℕ → List TextLine → List TextLine
onto_line [] lines = lines
onto_line (b ∷ bs) lines = onto_first_line b (onto_line bs lines)

lines_of-append : (part after : List ℕ) → All IsInside part → lines_of (part ++ after) ≡ onto_line part (lines_of after)
lines_of-append [] after plain = refl
lines_of-append (b ∷ bs) after plain =
    lines_of-cons b (bs ++ after) (All-head IsInside b bs plain) ∙ ap (onto_first_line b) (lines_of-append bs after (All-tail IsInside b bs plain))

onto_line-some : (part : List ℕ) (line : TextLine) (lines : List TextLine) → onto_line part (line ∷ lines) ≡ (part ++ line.0, line.1) ∷ lines
onto_line-some [] line lines = refl
onto_line-some (b ∷ bs) line lines = ap (onto_first_line b) (onto_line-some bs line lines)

onto_line-none : (b : ℕ) (bs : List ℕ) → onto_line (b ∷ bs) [] ≡ (b ∷ bs, false) ∷ []
onto_line-none b [] = refl
onto_line-none b (c ∷ cs) = ap (onto_first_line b) (onto_line-none c cs)

-- a part is one field, and so is the part before a space
fields_of-part : (part : List ℕ) → All IsInside part → fields_of part ≡ part ∷ []
fields_of-part part plain = slice_split_none _ part (All-weaker IsInside _ (λ b inside. ne_eqb b space_byte inside.0) part plain)

fields_of-space : (part bs : List ℕ) → All IsInside part → fields_of (part ++ space_byte ∷ bs) ≡ part ∷ fields_of bs
fields_of-space part bs plain = slice_split_at _ part space_byte bs (All-weaker IsInside _ (λ b inside. ne_eqb b space_byte inside.0) part plain) refl

outcome-space : (columns : Columns) (part : List ℕ) (lines : List TextLine) → All IsInside part → outcome columns (onto_line part (onto_first_line space_byte lines)) ≡ outcome (with_part columns part) lines
outcome-space columns part [] plain = ap (outcome columns) (onto_line-some part (space_byte ∷ [], false) [])
outcome-space columns part (line ∷ lines) plain =
    ap (outcome columns) (onto_line-some part (space_byte ∷ line.0, line.1) lines)
    ∙ ap (λ (fields : List (List ℕ)). (cond line.1 (values_taken (columns_after columns fields)) None, lines)) (fields_of-space part line.0 plain)

outcome-unended : (columns : Columns) (part : List ℕ) → outcome columns (onto_line part []) ≡ (None, [])
outcome-unended columns [] = refl
outcome-unended columns (b ∷ bs) = ap (outcome columns) (onto_line-none b bs)

-- a field behind which the line goes on
pub outcome-goes_on : (columns : Columns) (text part : List ℕ) (ending : Ending) (after : List ℕ) → IsCut text part ending after → lines_ended ending ≡ 0 → outcome columns (lines_of text) ≡ outcome (with_part columns part) (lines_of after)
outcome-goes_on columns text part Space after cut same =
    ap (λ t. outcome columns (lines_of t)) cut.whole
    ∙ ap (outcome columns) (lines_of-append part (space_byte ∷ after) cut.plain ∙ ap (onto_line part) (lines_of-first space_byte after))
    ∙ outcome-space columns part (lines_of after) cut.plain
outcome-goes_on columns text part LineEnd after cut same = absurd (omega arith)
outcome-goes_on columns text part SheetEnd after cut same =
    let nothing : after ≡ [] = cut.last refl in
    ap (λ t. outcome columns (lines_of t)) cut.whole
    ∙ ap (outcome columns) (lines_of-append part after cut.plain)
    ∙ ap (λ (a : List ℕ). outcome columns (onto_line part (lines_of a))) nothing
    ∙ outcome-unended columns part
    ∙ ap (λ (a : List ℕ). outcome (with_part columns part) (lines_of a)) (sym nothing)

-- the last field of a line
pub outcome-ends : (columns : Columns) (text part : List ℕ) (ending : Ending) (after : List ℕ) → IsCut text part ending after → lines_ended ending ≢ 0 → outcome columns (lines_of text) ≡ (values_taken (with_part columns part), lines_of after)
outcome-ends columns text part Space after cut ends = absurd (ends refl)
outcome-ends columns text part SheetEnd after cut ends = absurd (ends refl)
outcome-ends columns text part LineEnd after cut ends =
    ap (λ t. outcome columns (lines_of t)) cut.whole
    ∙ ap (outcome columns) (lines_of-append part (line_end_byte ∷ after) cut.plain ∙ ap (onto_line part) (lines_of-first line_end_byte after) ∙ onto_line-some part ([], true) (lines_of after))
    ∙ ap (λ (l : List ℕ). (values_taken (columns_after columns (fields_of l)), lines_of after)) (append-nil part)
    ∙ ap (λ (fields : List (List ℕ)). (values_taken (columns_after columns fields), lines_of after)) (fields_of-part part cut.plain)

pub values_ahead-first : (lines : List TextLine) → values_ahead no_columns lines ≡ values_on (head_line lines)
values_ahead-first [] = refl
values_ahead-first (line ∷ lines) = ap (λ values. cond line.1 values None) (values_taken-all (fields_of line.0))

lines_of-some : (b : ℕ) (bs : List ℕ) → lines_of (b ∷ bs) ≢ []
lines_of-some b bs e = some_line b (lines_of bs) (b == line_end_byte) (sym (lines_of-first b bs) ∙ e)
  where
    some_line : (b : ℕ) (lines : List TextLine) (ends : Bool) → cond ends (([], true) ∷ lines) (onto_first_line b lines) ≢ []
    some_line b lines true e = cc
    some_line b [] false e = cc
    some_line b (line ∷ lines) false e = cc

first_and_behind : (lines left : List TextLine) → lines ≢ [] → lines_behind lines ≡ left → lines ≡ head_line lines ∷ left
first_and_behind [] left some e = absurd (some refl)
first_and_behind (line ∷ lines) left some e = ap (λ l. line ∷ l) e

-- behind the first line of a text
pub lines_left : (text : List ℕ) (left : List TextLine) → text ≢ [] → lines_behind (lines_of text) ≡ left → lines_of text ≡ first_line text ∷ left
lines_left [] left some e = absurd (some refl)
lines_left (b ∷ bs) left some e = first_and_behind (lines_of (b ∷ bs)) left (lines_of-some b bs) e

lines-more : (b : ℕ) (bs : List ℕ) (lines : List TextLine) (ends : Bool) → (ends ≡ true → b ≡ line_end_byte) → flat_map line_text lines ≡ bs → flat_map line_text (cond ends (([], true) ∷ lines) (onto_first_line b lines)) ≡ b ∷ bs
lines-more b bs lines true is_end e = ap (λ n. n ∷ flat_map line_text lines) (sym (is_end refl)) ∙ ap (λ l. b ∷ l) e
lines-more b bs [] false is_end e = ap (λ l. b ∷ l) e
lines-more b bs (line ∷ lines) false is_end e = ap (λ l. b ∷ l) e

text-lines_of : (text : List ℕ) → flat_map line_text (lines_of text) ≡ text
text-lines_of [] = refl
text-lines_of (b ∷ bs) =
    ap (flat_map line_text) (lines_of-first b bs) ∙ lines-more b bs (lines_of bs) (b == line_end_byte) (λ h. (Decides-eqb b line_end_byte).0 h) (text-lines_of bs)

pub whole_text : (text : List ℕ) → (flat_map line_text (lines_of text) ≡ text) × (join_with_byte space_byte (fields_of text) ≡ text)
whole_text text = (text-lines_of text, join_with_byte-slice_split space_byte text)
