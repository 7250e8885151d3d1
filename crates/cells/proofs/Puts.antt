-- What is written: the word where a word of its sort stands, and nothing else.
use Rattle.std.proofs.Common.{◌≡◌, ℕ, List, refl, ap, ◌∙◌}
use Rattle.model.specs.Types.{Kid}
use Rattle.model.specs.declared.tray.Tray.{Tray}
use Rattle.model.specs.declared.words.Address.{Address}
use Rattle.model.specs.declared.words.Address.TheVariants.{CountOf, LockOf, KidOf, InboxOf, TrayOf}
use Rattle.model.specs.declared.words.Word.{Word}
use Rattle.model.specs.declared.words.Word.TheVariants.{CountWord, LockWord, KidWord, InboxWord, TrayWord}
use Rattle.model.specs.Entries.{nth}
use Rattle.model.specs.State.{Store}
use Rattle.model.specs.Steps.{written, data_written}
use Rattle.cells.specs.declared.records.Cells.{Cells}
use Rattle.cells.specs.View.{view_of, Becomes}

module _ {D : Type 0} where
  -- a word of another sort changes nothing
  pub record Untouched (a : Address) (w : Word D) : Type 0 where
    pub store : (s : Store D) → s ≡ written s a w
    pub entries : (k : ℕ → D) → k ≡ data_written k a w

  abbrev pub Unwritten : Cells D → List D → Address → Word D → Type 0
  Unwritten c l a w = record { becomes : Becomes c c (written (view_of c) a w); entries : (d : D) → nth d l ≡ data_written (nth d l) a w }

  pub untouched : {a : Address} {w : Word D} (c : Cells D) (l : List D) → Untouched a w → Unwritten c l a w
  untouched c l u = record { becomes = record { view = u.store (view_of c); sizes = record { parties = refl; nodes = refl } }; entries = λ d. u.entries (nth d l) }

  pub no_count_word : (n : ℕ) (w : Word D) → ((v : ℕ) → w ≡ CountWord v → ⊥) → Untouched (CountOf n) w
  no_count_word n (CountWord v) h = absurd (h v refl)
  no_count_word n w h = record { store = λ s. refl; entries = λ k. refl }

  pub no_lock_word : (n : ℕ) (w : Word D) → ((v : ℕ) → w ≡ LockWord v → ⊥) → Untouched (LockOf n) w
  no_lock_word n (LockWord v) h = absurd (h v refl)
  no_lock_word n w h = record { store = λ s. refl; entries = λ k. refl }

  pub no_kid_word : (n : ℕ) (k : Kid) (w : Word D) → ((v : ℕ) → w ≡ KidWord v → ⊥) → Untouched (KidOf n k) w
  no_kid_word n k (KidWord v) h = absurd (h v refl)
  no_kid_word n k w h = record { store = λ s. refl; entries = λ k. refl }

  pub no_inbox_word : (q : ℕ) (w : Word D) → ((v : ℕ) → w ≡ InboxWord v → ⊥) → Untouched (InboxOf q) w
  no_inbox_word q (InboxWord v) h = absurd (h v refl)
  no_inbox_word q w h = record { store = λ s. refl; entries = λ k. refl }

  pub no_tray_word : (q : ℕ) (w : Word D) → ((v : Tray) → w ≡ TrayWord v → ⊥) → Untouched (TrayOf q) w
  no_tray_word q (TrayWord v) h = absurd (h v refl)
  no_tray_word q w h = record { store = λ s. refl; entries = λ k. refl }

  trails_stay : (s : Store D) (a : Address) (w : Word D) → (written s a w).trail ≡ s.trail
  trails_stay s (CountOf n) (CountWord v) = refl
  trails_stay s (LockOf n) (LockWord v) = refl
  trails_stay s (KidOf n k) (KidWord v) = refl
  trails_stay s (InboxOf q) (InboxWord v) = refl
  trails_stay s (TrayOf q) (TrayWord v) = refl
  trails_stay s a w = refl

  -- no trail is a shared word
  pub same_trail : {c c' : Cells D} (a : Address) (w : Word D) (p : ℕ) → Becomes c c' (written (view_of c) a w) → (view_of c').trail p ≡ (view_of c).trail p
  same_trail {c} a w p h = ap (λ t. t.trail p) h.view ∙ ap (λ t. t p) (trails_stay (view_of c) a w)
