-- What every store that can exist keeps, in whole.
use Rattle.std.specs.Prelude.{◌≡◌, ℕ, ◌<◌, ◌≤◌, Bool, true, false, ◌≢◌, ◌⊎◌}
use Rattle.model.specs.Types.{Kid, Kids, Closed, Place, OpenTray, ReadTray, LookForNode, LockNode, Recheck, UnlockAndGoBack, ReadKid, ClearKid, UncountKid, Claim, Unlock, Offer, KeepForOneself, GiveBack, CloseTray, WriteData, CountKid, LinkKid, Makes, Sweeps, Running, Idle, Reads, GoesDown, Keeps, Drops, Hands, Fetches, TakesOut, Works, WalkReads, WalkGoesDown}
use Rattle.model.specs.State.{kid_at, Trail, no_trail, along, Store}
use Rattle.model.specs.Checks.{last_slot, is_none}
use Rattle.model.specs.Reach.{Chain}
use Rattle.model.specs.Inv.{needs_of, Inv}

-- a height that falls from node to kid: no node reaches itself
pub record Ranked (kids : ℕ → Kids) : Type 0 where
  pub rank : ℕ → ℕ
  pub falls : (m : ℕ) (k : Kid) → kid_at (kids m) k ≢ 0 → rank (kid_at (kids m) k) < rank m

-- what is no node has no kids
abbrev pub Outside : ℕ → (ℕ → Kids) → Type 0
Outside M kids = (n : ℕ) (k : Kid) → (n ≡ 0) ⊎ (M < n) → kid_at (kids n) k ≡ 0

-- the slot that a Make fills is one
abbrev pub Into : {D : Type 0} → Running D → Type 0
Into r = elim r [ Works j c ↦ elim j [ Makes plan ↦ 1 ≤ plan.slot | Sweeps ↦ Unit {0} ] | Idle ↦ Unit {0} | Reads g ↦ Unit {0} | GoesDown k ↦ Unit {0} | Keeps i ↦ Unit {0} | Drops i ↦ Unit {0} | Hands i q ↦ Unit {0} | Fetches i ↦ Unit {0} | TakesOut i v ↦ Unit {0} | WalkReads t g ↦ Unit {0} | WalkGoesDown t k ↦ Unit {0} ]

-- a call that needs a trail
abbrev pub on_trail : {D : Type 0} → Running D → Bool
on_trail r = elim r [ Reads g ↦ true | GoesDown k ↦ true | Keeps i ↦ true | WalkReads t g ↦ true | WalkGoesDown t k ↦ true | Idle ↦ false | Drops i ↦ false | Hands i q ↦ false | Fetches i ↦ false | TakesOut i v ↦ false | Works j c ↦ false ]

-- the places of a Make at which its tray is not closed
abbrev pub opens_at : Place → Bool
opens_at c = elim c [ OpenTray ↦ false | ReadTray ↦ true | LookForNode ↦ true | LockNode n ↦ true | Recheck n ↦ true | UnlockAndGoBack n ↦ true | ReadKid n k ↦ true | ClearKid n k w ↦ true | UncountKid n k w ↦ true | Claim n ↦ true | Unlock n ↦ true | Offer n ↦ true | KeepForOneself n ↦ true | GiveBack n ↦ true | CloseTray n ↦ true | WriteData n ↦ false | CountKid n k ↦ false | LinkKid n k w ↦ false ]

abbrev pub opens : {D : Type 0} → Running D → Bool
opens r = elim r [ Works j c ↦ elim j [ Makes plan ↦ opens_at c | Sweeps ↦ false ] | Idle ↦ false | Reads g ↦ false | GoesDown k ↦ false | Keeps i ↦ false | Drops i ↦ false | Hands i q ↦ false | Fetches i ↦ false | TakesOut i v ↦ false | WalkReads t g ↦ false | WalkGoesDown t k ↦ false ]

-- while a Make seeks a node, its tray is not closed
abbrev pub SeekersOpen : {D : Type 0} → ℕ → Store D → Type 0
SeekersOpen N s = (q : ℕ) → 1 ≤ q → q ≤ N → opens (s.run q) ≡ true → s.tray q ≢ Closed

-- a trail is a path from the node of its slot along kids, and the running call does not take from that slot
abbrev pub TrailAt : (ℕ → Kids) → (ℕ → ℕ) → ℕ → Trail → Type 0
TrailAt kids slots source no_trail = Unit {0}
TrailAt kids slots source (along i n ns) = Chain kids (slots i) n ns × (1 ≤ i) × (i ≤ last_slot) × (slots i ≢ 0) × (source ≢ i)

pub record Sound {D : Type 0} (N M : ℕ) (s : Store D) : Type 0 where
  pub inv : Inv N M s
  pub into : (q : ℕ) → 1 ≤ q → q ≤ N → Into (s.run q)
  pub ranked : Ranked s.kids
  pub outside : Outside M s.kids
  pub shut : (q : ℕ) → 1 ≤ q → q ≤ N → opens (s.run q) ≡ false → s.tray q ≡ Closed
  pub trails : (q : ℕ) → 1 ≤ q → q ≤ N → TrailAt s.kids (s.slot q) (needs_of (s.run q)).source (s.trail q)
  pub standing : (q : ℕ) → 1 ≤ q → q ≤ N → on_trail (s.run q) ≡ true → is_none (s.trail q) ≡ false
