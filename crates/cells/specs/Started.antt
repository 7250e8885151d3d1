-- What a Begin makes of its party's trail and of what the party runs: the model's `started`, for one party's record.
use Rattle.std.specs.Prelude.{ℕ, []}
use Rattle.model.specs.declared.calls.Call.{Call}
use Rattle.model.specs.declared.running.Running.{Running}
use Rattle.model.specs.declared.calls.Call.TheVariants.{Enter, Up, Leave, Read, Down, Keep, Drop, Hand, Fetch, Make, Sweep}
use Rattle.model.specs.declared.place.Place.TheVariants.{OpenTray, LookForNode}
use Rattle.model.specs.declared.running.Job.TheVariants.{Makes, Sweeps}
use Rattle.model.specs.declared.running.Reading.TheVariants.{ReadNothing}
use Rattle.model.specs.declared.running.Running.TheVariants.{Reads, GoesDown, Keeps, Drops, Hands, Fetches, Works}
use Rattle.model.specs.Begins.{kid_of}
use Rattle.model.specs.State.{Trail, no_trail, along, shorter}

abbrev pub trail_begun : {D : Type 0} → Call D → (ℕ → ℕ) → Trail → Trail
trail_begun c slots t = elim c [ Enter i ↦ along i (slots i) [] | Up ↦ shorter t | Leave ↦ no_trail | Read ↦ t | Down k ↦ t | Keep i ↦ t | Drop i ↦ t | Hand i q ↦ t | Fetch i ↦ t | Make plan ↦ t | Sweep ↦ t ]

abbrev pub run_begun : {D : Type 0} → Call D → Running D → Running D
run_begun c r = elim c [
  | Enter i ↦ r
  | Up ↦ r
  | Leave ↦ r
  | Read ↦ Reads ReadNothing
  | Down k ↦ GoesDown (kid_of k)
  | Keep i ↦ Keeps i
  | Drop i ↦ Drops i
  | Hand i q ↦ Hands i q
  | Fetch i ↦ Fetches i
  | Make plan ↦ Works (Makes plan) OpenTray
  | Sweep ↦ Works Sweeps LookForNode
]
