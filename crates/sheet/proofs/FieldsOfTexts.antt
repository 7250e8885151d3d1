-- A text's pieces: what the first one is, and that they make the text again.
use Rattle.std.proofs.Common.{◌≡◌, ◌≢◌, ℕ, cond, All, Bool, true, false, List, [], ◌∷◌, ◌++◌, ◌==◌, length, refl, ap, sym, ◌∙◌}
use Rattle.std.proofs.lemmas.Bool.{ne_eqb}
use Rattle.std.proofs.lemmas.Bool.Decides.{Decides-eqb}
use Rattle.std.proofs.lemmas.List.Elements.{All-head, All-tail}
use Rattle.sheet.specs.Bytes.{line_end_byte, space_byte}
use Rattle.sheet.specs.declared.cuts.Ending.{Ending}
use Rattle.sheet.specs.declared.cuts.Ending.TheVariants.{Space, LineEnd, SheetEnd}
use Rattle.sheet.specs.Fields.{Piece, IsCut, IsField, IsInside, ending_text, joined, onto_first, pieces_of}

pub pieces_of-cons : (b : ℕ) (bs : List ℕ) → IsInside b → pieces_of (b ∷ bs) ≡ onto_first b (pieces_of bs)
pieces_of-cons b bs inside = rw (ne_eqb b space_byte inside.0, ne_eqb b line_end_byte inside.1) refl

pieces_of-part : (part : List ℕ) (ending : Ending) (after : List ℕ) → All IsInside part → (ending ≡ SheetEnd → after ≡ []) → part ++ (ending_text ending ++ after) ≢ [] → pieces_of (part ++ (ending_text ending ++ after)) ≡ (part, ending) ∷ pieces_of after
pieces_of-part [] Space after plain last some = refl
pieces_of-part [] LineEnd after plain last some = refl
pieces_of-part [] SheetEnd after plain last some = absurd (some (last refl))
pieces_of-part (b ∷ []) Space after plain last some = pieces_of-cons b (space_byte ∷ after) (All-head IsInside b [] plain)
pieces_of-part (b ∷ []) LineEnd after plain last some = pieces_of-cons b (line_end_byte ∷ after) (All-head IsInside b [] plain)
pieces_of-part (b ∷ []) SheetEnd after plain last some =
    let e : after ≡ [] = last refl in
    pieces_of-cons b after (All-head IsInside b [] plain)
    ∙ ap (λ (a : List ℕ). onto_first b (pieces_of a)) e
    ∙ ap (λ (a : List ℕ). (b ∷ [], SheetEnd) ∷ pieces_of a) (sym e)
pieces_of-part (b ∷ c ∷ bs) ending after plain last some =
    pieces_of-cons b ((c ∷ bs) ++ (ending_text ending ++ after)) (All-head IsInside b (c ∷ bs) plain)
    ∙ ap (onto_first b) (pieces_of-part (c ∷ bs) ending after (All-tail IsInside b (c ∷ bs) plain) last (λ e. cc))

joined-onto_first : (b : ℕ) (pieces : List Piece) → joined (onto_first b pieces) ≡ b ∷ joined pieces
joined-onto_first b [] = refl
joined-onto_first b (piece ∷ pieces) = refl

-- one more byte in front, whichever it is
joined-more : (b : ℕ) (bs : List ℕ) (pieces : List Piece) (space line_end : Bool) → (space ≡ true → b ≡ space_byte) → (line_end ≡ true → b ≡ line_end_byte) → joined pieces ≡ bs → joined (cond space (([], Space) ∷ pieces) (cond line_end (([], LineEnd) ∷ pieces) (onto_first b pieces))) ≡ b ∷ bs
joined-more b bs pieces true line_end is_space is_end e = ap (λ n. n ∷ joined pieces) (sym (is_space refl)) ∙ ap (λ l. b ∷ l) e
joined-more b bs pieces false true is_space is_end e = ap (λ n. n ∷ joined pieces) (sym (is_end refl)) ∙ ap (λ l. b ∷ l) e
joined-more b bs pieces false false is_space is_end e = joined-onto_first b pieces ∙ ap (λ l. b ∷ l) e

pub joined-pieces_of : (text : List ℕ) → joined (pieces_of text) ≡ text
joined-pieces_of [] = refl
joined-pieces_of (b ∷ bs) =
    joined-more b bs (pieces_of bs) (b == space_byte) (b == line_end_byte) (λ h. (Decides-eqb b space_byte).0 h) (λ h. (Decides-eqb b line_end_byte).0 h) (joined-pieces_of bs)

pub field_of_cut : (text part : List ℕ) (ending : Ending) (after : List ℕ) → IsCut text part ending after → text ≢ [] → IsField text part ending after
field_of_cut text part ending after cut some = record {
  cut = cut;
  first = ap pieces_of cut.whole ∙ pieces_of-part part ending after cut.plain cut.last (λ e. some (cut.whole ∙ e));
}

pub not_empty : (xs : List ℕ) (r : Bool) → r ≡ (length xs == 0) → r ≡ false → xs ≢ []
not_empty [] r is fails e = cc
not_empty (x ∷ xs) r is fails e = cc
