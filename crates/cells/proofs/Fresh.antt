-- The view of new cells is a new store.
use Rattle.std.proofs.Common.{◌≡◌, ℕ, zero, suc, List, replicate, refl, ap, ◌∙◌, inl, inr, arith}
use mathlib.Core.Path.{fun_ext}
use Rattle.std.proofs.lemmas.List.{get_or-replicate, get_or_past, length-replicate}
use Rattle.std.proofs.lemmas.Bool.{cases_lt}
use Rattle.model.specs.Entries.{nth}
use Rattle.model.specs.Party.{new_record}
use Rattle.model.specs.State.{Store, new_store}
use Rattle.model.specs.declared.party.PartyRecord.{PartyRecord}
use Rattle.cells.specs.declared.records.NodeWords.{NodeWords}
use Rattle.cells.specs.View.{new_words, seen}

all_alike : {A : Type 0} (n : ℕ) (d : A) (k : ℕ) → nth d (replicate n d) k ≡ d
all_alike n d zero = refl
all_alike n d (suc k) = elim (cases_lt k n) [ inl h ↦ get_or-replicate n k d d h | inr h ↦ get_or_past (replicate n d) k d (let e = length-replicate n d in omega arith) ]

pub new_view : {D : Type 0} (m n : ℕ) (nodes : List NodeWords) (records : List (PartyRecord D)) → nodes ≡ replicate m new_words → records ≡ replicate n new_record
    → seen (nth new_words nodes) (nth new_record records) ≡ new_store
new_view {D} m n nodes records en er =
    let f : nth new_words nodes ≡ (λ k. new_words) = fun_ext (λ k. ap (λ l. nth new_words l k) en ∙ all_alike m new_words k) in
    let g : nth new_record records ≡ (λ q. new_record {D = D}) = fun_ext (λ q. ap (λ l. nth new_record l q) er ∙ all_alike n new_record q) in
    let no_slots : (λ (q : ℕ). nth 0 (new_record {D = D}).slots) ≡ (λ q i. 0) = fun_ext (λ q. fun_ext (λ i. all_alike 8 0 i)) in
    let P : (ℕ → ℕ → ℕ) → Store D = λ h. record { count = λ k. 0; lock = λ k. 0; kids = (new_store {D = D}).kids; inbox = λ q. 0; tray = (new_store {D = D}).tray; slot = h; trail = (new_store {D = D}).trail; run = new_store.run } in
    ap (λ h. seen h (nth new_record records)) f ∙ ap (seen (λ k. new_words)) g ∙ ap P no_slots
