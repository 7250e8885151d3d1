-- What a Begin and a Turn are refused for, each in the one order in which it is looked at.
use Rattle.std.specs.Prelude.{ℕ, Bool, true, false, cond, not, ◌&&◌, ◌||◌, List, [], ◌∷◌, Some, None, Option, ◌==◌, nat_le, nat_lt}
use Rattle.refusals.specs.declared.Refusal.{Refusal}
use Rattle.refusals.specs.declared.Refusal.TheVariants.{NoSuchParty, NoSuchSlot, ShortList, DataDoesNotFit, BadSituation, Busy, NothingToTurn, SlotEmpty, SlotFilled, NoTrail, TrailStands}
use Rattle.kinds.specs.Situations.{in_limits}
use Rattle.kinds.specs.declared.kids.PerKid.{PerKid}
use Rattle.model.specs.Types.{Kids, Lengths, Call, Enter, Up, Leave, Read, Down, Keep, Drop, Hand, Fetch, Make, Sweep, Walk, Asked, AsksCall, AsksWalk, Running, Idle, Reads, GoesDown, Keeps, Drops, Hands, Fetches, TakesOut, Works, WalkReads, WalkGoesDown}
use Rattle.model.specs.State.{Trail, no_trail, along}
use Rattle.model.specs.Steps.{between}
pub use Rattle.kinds.specs.Limits.{last_kid}

-- a party has this many slots
abbrev pub last_slot : ℕ
last_slot = 8

-- the first of several faults that is there
abbrev pub first_fault : List (Bool × Refusal) → Option Refusal
first_fault [] = None
first_fault ((there, e) ∷ faults) = cond there (Some e) (first_fault faults)

abbrev pub is_none : Trail → Bool
is_none no_trail = true
is_none (along i n ns) = false

-- the trail was entered at the slot
abbrev pub entered_at : Trail → ℕ → Bool
entered_at no_trail i = false
entered_at (along j n ns) i = j == i

abbrev pub no_slot : ℕ → Bool
no_slot i = not (between 1 last_slot i)

-- 0 stands for no kid slot
abbrev pub no_kid_slot : ℕ → Bool
no_kid_slot i = not (nat_le i last_slot)

abbrev pub kid_slot_empty : (ℕ → ℕ) → ℕ → Bool
kid_slot_empty slots i = not (i == 0) && slots i == 0

-- which kids a Make is given
abbrev pub given_by : Kids → PerKid Bool
given_by ks = record { first = not (ks.first == 0); second = not (ks.second == 0); third = not (ks.third == 0) }

abbrev pub no_receiver : {D : Type 0} → ℕ → Asked D → Bool
no_receiver N a = elim a [ AsksCall c ↦ elim c [ Hand i q ↦ not (between 1 N q) | Enter i ↦ false | Up ↦ false | Leave ↦ false | Read ↦ false | Down k ↦ false | Keep i ↦ false | Drop i ↦ false | Fetch i ↦ false | Make plan ↦ false | Sweep ↦ false ] | AsksWalk w ↦ false ]

abbrev pub too_short : {D : Type 0} → ℕ → Asked D → Lengths → Bool
too_short M a l = elim a [ AsksCall c ↦ nat_lt l.entries M | AsksWalk w ↦ nat_lt l.entries M || (nat_lt l.marks M || nat_lt l.worths M) ]

module _ {D : Type 0} (suits : D → PerKid Bool → Bool) where
  -- the faults of a call by its party's slots and trail
  abbrev pub call_faults : Call D → (ℕ → ℕ) → Trail → List (Bool × Refusal)
  call_faults (Enter i) slots t = (no_slot i, NoSuchSlot) ∷ (not (is_none t), TrailStands) ∷ ((slots i == 0), SlotEmpty) ∷ []
  call_faults Up slots t = (is_none t, NoTrail) ∷ []
  call_faults Leave slots t = (is_none t, NoTrail) ∷ []
  call_faults Read slots t = (is_none t, NoTrail) ∷ []
  call_faults (Down k) slots t = (not (between 1 last_kid k), NoSuchSlot) ∷ (is_none t, NoTrail) ∷ []
  call_faults (Keep i) slots t = (no_slot i, NoSuchSlot) ∷ (is_none t, NoTrail) ∷ (not (slots i == 0), SlotFilled) ∷ []
  call_faults (Drop i) slots t = (no_slot i, NoSuchSlot) ∷ (entered_at t i, TrailStands) ∷ ((slots i == 0), SlotEmpty) ∷ []
  call_faults (Hand i q) slots t = (no_slot i, NoSuchSlot) ∷ (entered_at t i, TrailStands) ∷ ((slots i == 0), SlotEmpty) ∷ []
  call_faults (Fetch i) slots t = (no_slot i, NoSuchSlot) ∷ (not (slots i == 0), SlotFilled) ∷ []
  call_faults (Make plan) slots t =
      (no_slot plan.slot || (no_kid_slot plan.kids.first || (no_kid_slot plan.kids.second || no_kid_slot plan.kids.third)), NoSuchSlot)
      ∷ (kid_slot_empty slots plan.kids.first || (kid_slot_empty slots plan.kids.second || kid_slot_empty slots plan.kids.third), SlotEmpty)
      ∷ (not (slots plan.slot == 0), SlotFilled)
      ∷ (not (suits plan.given (given_by plan.kids)), DataDoesNotFit) ∷ []
  call_faults Sweep slots t = []

  abbrev pub walk_faults : Walk → (ℕ → ℕ) → Trail → List (Bool × Refusal)
  walk_faults w slots t =
      (no_slot w.slot, NoSuchSlot) ∷ (not (in_limits w.range w.gear w.temperature), BadSituation)
      ∷ (not (is_none t), TrailStands) ∷ ((slots w.slot == 0), SlotEmpty) ∷ []

  abbrev pub faults : Asked D → (ℕ → ℕ) → Trail → List (Bool × Refusal)
  faults (AsksCall c) slots t = call_faults c slots t
  faults (AsksWalk w) slots t = walk_faults w slots t

  -- what a Begin is refused with; the plain store is never busy
  abbrev pub begin_fault : ℕ → ℕ → Bool → ℕ → Asked D → Lengths → (ℕ → ℕ) → Trail → Option Refusal
  begin_fault N M busy p a l slots t =
      first_fault ((not (between 1 N p) || no_receiver N a, NoSuchParty) ∷ (too_short M a l, ShortList) ∷ (busy, Busy) ∷ faults a slots t)

abbrev pub is_idle : {D : Type 0} → Running D → Bool
is_idle r = elim r [ Idle ↦ true | Reads g ↦ false | GoesDown k ↦ false | Keeps i ↦ false | Drops i ↦ false | Hands i q ↦ false | Fetches i ↦ false | TakesOut i v ↦ false | Works j c ↦ false | WalkReads t g ↦ false | WalkGoesDown t k ↦ false ]

abbrev pub is_walking : {D : Type 0} → Running D → Bool
is_walking r = elim r [ WalkReads t g ↦ true | WalkGoesDown t k ↦ true | Idle ↦ false | Reads g ↦ false | GoesDown k ↦ false | Keeps i ↦ false | Drops i ↦ false | Hands i q ↦ false | Fetches i ↦ false | TakesOut i v ↦ false | Works j c ↦ false ]

-- what a Turn, and a walk's Turn, is refused with
abbrev pub turn_fault : {D : Type 0} → ℕ → ℕ → ℕ → Lengths → Running D → Option Refusal
turn_fault N M p l r = first_fault ((not (between 1 N p), NoSuchParty) ∷ (nat_lt l.entries M, ShortList) ∷ (is_walking r, Busy) ∷ (is_idle r, NothingToTurn) ∷ [])

abbrev pub walk_turn_fault : {D : Type 0} → ℕ → ℕ → ℕ → Lengths → Running D → Option Refusal
walk_turn_fault N M p l r =
    first_fault ((not (between 1 N p), NoSuchParty) ∷ (nat_lt l.entries M || (nat_lt l.marks M || nat_lt l.worths M), ShortList) ∷ (not (is_walking r), NothingToTurn) ∷ [])
