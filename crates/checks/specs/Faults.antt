-- What it is to be accepted, and the first fault of a Begin, of a call and of a walk by their party's record.
use Rattle.std.specs.Prelude.{◌≡◌, ℕ, Bool, not, [], ◌∷◌, Some, None, Option, Result, MatchResult, ◌==◌}
use Rattle.refusals.specs.declared.Refusal.{Refusal}
use Rattle.refusals.specs.declared.Refusal.TheVariants.{NoSuchSlot, SlotEmpty, TrailStands}
use Rattle.kinds.specs.declared.kids.PerKid.{PerKid}
use Rattle.model.specs.declared.calls.Asked.{Asked}
use Rattle.model.specs.declared.calls.Call.{Call}
use Rattle.model.specs.declared.calls.Lengths.{Lengths}
use Rattle.model.specs.declared.calls.Walk.{Walk}
use Rattle.model.specs.declared.party.PartyRecord.{PartyRecord}
use Rattle.model.specs.declared.sizes.Sizes.{Sizes}
use Rattle.model.specs.Entries.{nth}
use Rattle.model.specs.State.{trail_of}
use Rattle.model.specs.Checks.{begin_fault, call_faults, first_fault, is_idle, no_slot, walk_faults}

-- accepted where there is no fault, and else refused with it
abbrev pub AcceptedUnless : {T : Type 0} → Option Refusal → Result T Refusal → Type 0
AcceptedUnless fault r = MatchResult r (λ _. fault ≡ None) (λ e. fault ≡ Some e)

-- refused so where this is the case, and else accepted
abbrev pub RefusedIf : Bool → Refusal → Result Unit Refusal → Type 0
RefusedIf there e r = AcceptedUnless (first_fault ((there, e) ∷ [])) r

module _ {D : Type 0} (suits : D → PerKid Bool → Bool) where
  -- the fault of a Begin
  abbrev pub begin_fault_of : Sizes → ℕ → Asked D → Lengths → PartyRecord D → Option Refusal
  begin_fault_of sizes p asked lengths own =
      begin_fault suits sizes.parties sizes.nodes (not (is_idle own.running)) p asked lengths (nth 0 own.slots) (trail_of own.trail)

  -- of a call, once the party, the lists and what it is running are looked at
  abbrev pub call_fault_of : Call D → PartyRecord D → Option Refusal
  call_fault_of c own = first_fault (call_faults suits c (nth 0 own.slots) (trail_of own.trail))

  -- of a walk, likewise
  abbrev pub walk_fault_of : Walk → PartyRecord D → Option Refusal
  walk_fault_of w own = first_fault (walk_faults suits w (nth 0 own.slots) (trail_of own.trail))

-- of taking the slot's node, where a trail may be in the way
abbrev pub taking_fault_of : {D : Type 0} → ℕ → Bool → PartyRecord D → Option Refusal
taking_fault_of i in_the_way own =
    first_fault ((no_slot i, NoSuchSlot) ∷ (in_the_way, TrailStands) ∷ ((nth 0 own.slots i == 0), SlotEmpty) ∷ [])
