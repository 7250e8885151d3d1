-- What the head of a log counts for a party.
use Rattle.std.proofs.Common.{◌≡◌, ℕ, ◌+◌, ◌≤◌, Bool, true, false, cond, ◌&&◌, ◌⊎◌, List, ◌∷◌, refl, ap, ◌∙◌, inl, inr, arith}
use Rattle.std.proofs.lemmas.Bool.{cond_both, and_left, and_right}
use Rattle.model.specs.Types.{Event, Outcome}
use Rattle.model.specs.Runs.{is_turn_of, is_accepted, is_end, turns_of, ends_of}

none_at_head : (b : Bool) (n : ℕ) → cond b 1 0 + n ≡ 0 → (b ≡ false) × (n ≡ 0)
none_at_head true n h = absurd (omega arith)
none_at_head false n h = (refl, omega arith)

module _ {D W : Type 0} (e : Event D) (o : Outcome D W) (es : List (Event D × Outcome D W)) (p : ℕ) where
  -- where no call of the party ends, none ends at the head, and none later
  pub ends_not_now : ends_of p ((e, o) ∷ es) ≡ 0 → is_turn_of p e && is_end o ≡ false
  ends_not_now h = (none_at_head (is_turn_of p e && is_end o) (ends_of p es) h).0

  pub ends_not_later : ends_of p ((e, o) ∷ es) ≡ 0 → ends_of p es ≡ 0
  ends_not_later h = (none_at_head (is_turn_of p e && is_end o) (ends_of p es) h).1

  pub counts_one : turns_of p ((e, o) ∷ es) ≤ 1 + turns_of p es
  counts_one = cond_both (is_turn_of p e && is_accepted o) 1 0 (λ n. n + turns_of p es ≤ 1 + turns_of p es) (λ _. omega arith) (λ _. omega arith)

  pub counts_none : (is_turn_of p e ≡ false) ⊎ (is_accepted o ≡ false) → turns_of p ((e, o) ∷ es) ≡ turns_of p es
  counts_none h = ap (λ b. cond b 1 0 + turns_of p es) (elim h [ inl h ↦ and_left (is_turn_of p e) (is_accepted o) h | inr h ↦ and_right (is_turn_of p e) (is_accepted o) h ]) ∙ omega arith
