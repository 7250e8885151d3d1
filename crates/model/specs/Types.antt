-- The declared types under their names.
use Rattle.std.specs.Prelude.{ℕ, Result}
pub use Rattle.std.specs.Prelude.{Ok, Err}
use Rattle.refusals.specs.declared.Refusal.{Refusal}
pub use Rattle.kinds.specs.declared.kids.Kid.{Kid}
pub use Rattle.kinds.specs.declared.kids.Kid.TheVariants.{First, Second, Third}
pub use Rattle.kinds.specs.declared.kids.PerKid.{PerKid}
pub use Rattle.model.specs.declared.trail.Trail.{Trail as TrailRecord}
pub use Rattle.model.specs.declared.tray.Tray.{Tray}
pub use Rattle.model.specs.declared.tray.Tray.TheVariants.{Closed, Open, Holding}
pub use Rattle.model.specs.declared.place.Place.{Place}
pub use Rattle.model.specs.declared.place.Place.TheVariants.{OpenTray, ReadTray, LookForNode, LockNode, Recheck, UnlockAndGoBack, ReadKid, ClearKid, UncountKid, Claim, Unlock, Offer, KeepForOneself, GiveBack, CloseTray, WriteData, CountKid, LinkKid}
pub use Rattle.model.specs.declared.running.Plan.{Plan}
pub use Rattle.model.specs.declared.running.Job.{Job}
pub use Rattle.model.specs.declared.running.Job.TheVariants.{Makes, Sweeps}
pub use Rattle.model.specs.declared.running.Reading.{Reading}
pub use Rattle.model.specs.declared.running.Reading.TheVariants.{ReadNothing, ReadData, ReadFirst, ReadSecond}
pub use Rattle.model.specs.declared.running.Running.{Running}
pub use Rattle.model.specs.declared.running.Running.TheVariants.{Idle, Reads, GoesDown, Keeps, Drops, Hands, Fetches, TakesOut, Works, WalkReads, WalkGoesDown}
pub use Rattle.model.specs.declared.calls.Call.{Call}
pub use Rattle.model.specs.declared.calls.Call.TheVariants.{Enter, Up, Leave, Read, Down, Keep, Drop, Hand, Fetch, Make, Sweep}
pub use Rattle.model.specs.declared.calls.Walk.{Walk}
pub use Rattle.model.specs.declared.calls.Asked.{Asked}
pub use Rattle.model.specs.declared.calls.Asked.TheVariants.{AsksCall, AsksWalk}
pub use Rattle.model.specs.declared.calls.Lengths.{Lengths}
pub use Rattle.model.specs.declared.calls.Event.{Event}
pub use Rattle.model.specs.declared.calls.Event.TheVariants.{Begins, Turns, WalkTurns}
pub use Rattle.model.specs.declared.outcomes.Answer.{Answer}
pub use Rattle.model.specs.declared.outcomes.Answer.TheVariants.{Done, AtNode, Contents, Swept, WorthIs}
pub use Rattle.model.specs.declared.outcomes.Progress.{Progress}
pub use Rattle.model.specs.declared.outcomes.Progress.TheVariants.{Begun, StillRunning, Ended}
pub use Rattle.model.specs.declared.words.Address.{Address}
pub use Rattle.model.specs.declared.words.Address.TheVariants.{Nowhere, CountOf, LockOf, KidOf, DataOf, InboxOf, TrayOf}
pub use Rattle.model.specs.declared.words.Word.{Word}
pub use Rattle.model.specs.declared.words.Word.TheVariants.{NoWord, CountWord, LockWord, KidWord, DataWord, InboxWord, TrayWord}
pub use Rattle.model.specs.declared.words.Change.{Change}
pub use Rattle.model.specs.declared.words.Change.TheVariants.{Stays, Fills, Lengthens}
pub use Rattle.model.specs.declared.words.NodeRead.{NodeRead}
pub use Rattle.model.specs.declared.words.Told.{Told}
pub use Rattle.model.specs.declared.words.Told.TheVariants.{Tells, Settles}
pub use Rattle.model.specs.declared.words.Decision.{Decision}
pub use Rattle.kinds.specs.declared.gearbox.Situation.{Situation}

-- a number for each kid
abbrev pub Kids : Type 0
Kids = PerKid ℕ

-- what a Begin or a Turn tells
abbrev pub Outcome : Type 0 → Type 0 → Type 0
Outcome D W = Result (Progress D W) Refusal
