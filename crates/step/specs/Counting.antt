-- Whether the count that a step finds can move as the step wants, within the width of a count.
use Rattle.std.specs.Prelude.{ℕ, Bool, true, false, not, ◌&&◌, ◌==◌}
use Rattle.model.specs.declared.place.Place.{Place}
use Rattle.model.specs.declared.place.Place.TheVariants.{OpenTray, ReadTray, LookForNode, LockNode, Recheck, UnlockAndGoBack, ReadKid, ClearKid, UncountKid, Claim, Unlock, Offer, KeepForOneself, GiveBack, CloseTray, WriteData, CountKid, LinkKid}
use Rattle.model.specs.declared.running.Running.{Running}
use Rattle.model.specs.declared.running.Running.TheVariants.{Idle, Reads, GoesDown, Keeps, Drops, Hands, Fetches, TakesOut, Works, WalkReads, WalkGoesDown}
use Rattle.model.specs.declared.words.Word.{Word}
use Rattle.model.specs.declared.words.Word.TheVariants.{NoWord, CountWord, LockWord, KidWord, DataWord, InboxWord, TrayWord}

-- a count has sixteen bits
abbrev pub largest_count : ℕ
largest_count = 65535

-- a place that takes 1 off the count that it reads, and one that adds 1 to it
abbrev pub lowers_at : Place → Bool
lowers_at c = elim c [ UncountKid n k w ↦ true | OpenTray ↦ false | ReadTray ↦ false | LookForNode ↦ false | LockNode n ↦ false | Recheck n ↦ false | UnlockAndGoBack n ↦ false | ReadKid n k ↦ false | ClearKid n k w ↦ false | Claim n ↦ false | Unlock n ↦ false | Offer n ↦ false | KeepForOneself n ↦ false | GiveBack n ↦ false | CloseTray n ↦ false | WriteData n ↦ false | CountKid n k ↦ false | LinkKid n k w ↦ false ]

abbrev pub raises_at : Place → Bool
raises_at c = elim c [ CountKid n k ↦ true | OpenTray ↦ false | ReadTray ↦ false | LookForNode ↦ false | LockNode n ↦ false | Recheck n ↦ false | UnlockAndGoBack n ↦ false | ReadKid n k ↦ false | ClearKid n k w ↦ false | UncountKid n k w ↦ false | Claim n ↦ false | Unlock n ↦ false | Offer n ↦ false | KeepForOneself n ↦ false | GiveBack n ↦ false | CloseTray n ↦ false | WriteData n ↦ false | LinkKid n k w ↦ false ]

-- the count that a step finds can go down if it lowers it, and up if it raises it
abbrev pub fits_move : {D : Type 0} → Bool → Bool → Word D → Bool
fits_move lowered raised w = elim w [ CountWord c ↦ not (lowered && c == 0) && not (raised && c == largest_count) | NoWord ↦ true | LockWord v ↦ true | KidWord v ↦ true | DataWord v ↦ true | InboxWord v ↦ true | TrayWord v ↦ true ]

abbrev pub movable_at : {D : Type 0} → Place → Word D → Bool
movable_at c w = fits_move (lowers_at c) (raises_at c) w

abbrev pub movable : {D : Type 0} → Running D → Word D → Bool
movable r w = elim r [ Drops i ↦ fits_move true false w | Keeps i ↦ fits_move false true w | Works j c ↦ movable_at c w | Idle ↦ true | Reads g ↦ true | GoesDown k ↦ true | Hands i q ↦ true | Fetches i ↦ true | TakesOut i v ↦ true | WalkReads t g ↦ true | WalkGoesDown t k ↦ true ]
