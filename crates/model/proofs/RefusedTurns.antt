-- A refused Turn ends no call.
use Rattle.std.proofs.Common.{◌≡◌, ℕ, Bool, true, false, not, ◌||◌, ltb, List, [], ◌∷◌, is_some, Some, None, sym, refl, ap, ◌∙◌, true≢false}
use Rattle.refusals.specs.declared.Refusal.{Refusal}
use Rattle.refusals.specs.declared.Refusal.TheVariants.{NoSuchParty, ShortList, Busy, NothingToTurn}
use Rattle.model.specs.Types.{Lengths, Running}
use Rattle.model.specs.Steps.{between}
use Rattle.model.specs.Checks.{first_fault, is_idle, is_walking, turn_fault, walk_turn_fault}
use Rattle.model.specs.Runs.{ends_call}

-- none of these refusals ends a call
abbrev NoneEnds : List (Bool × Refusal) → Type 0
NoneEnds [] = Unit {0}
NoneEnds ((b, r) ∷ faults) = (ends_call r ≡ false) × NoneEnds faults

found_not_ending : (faults : List (Bool × Refusal)) (e : Refusal) → NoneEnds faults → first_fault faults ≡ Some e → ends_call e ≡ false
found_not_ending [] e h k = absurd (true≢false (sym (ap is_some k)))
found_not_ending ((true, r) ∷ faults) e h k = ap ends_call (sym (ap (λ o. elim o [ Some x ↦ x | None ↦ r ]) k)) ∙ h.0
found_not_ending ((false, r) ∷ faults) e h k = found_not_ending faults e h.1 k

-- what a Turn is refused for ends no call
pub turn_refusal : {D : Type 0} (N M p : ℕ) (l : Lengths) (r : Running D) (e : Refusal) → turn_fault N M p l r ≡ Some e → ends_call e ≡ false
turn_refusal N M p l r e h = found_not_ending ((not (between 1 N p), NoSuchParty) ∷ (ltb l.entries M, ShortList) ∷ (is_walking r, Busy) ∷ (is_idle r, NothingToTurn) ∷ []) e (refl, (refl, (refl, (refl, tt)))) h

pub walk_turn_refusal : {D : Type 0} (N M p : ℕ) (l : Lengths) (r : Running D) (e : Refusal) → walk_turn_fault N M p l r ≡ Some e → ends_call e ≡ false
walk_turn_refusal N M p l r e h =
    found_not_ending ((not (between 1 N p), NoSuchParty) ∷ (ltb l.entries M || (ltb l.marks M || ltb l.worths M), ShortList) ∷ (not (is_walking r), NothingToTurn) ∷ []) e (refl, (refl, (refl, tt))) h
