-- Where a running call goes on.
use Rattle.model.specs.declared.place.Place.{Place}
use Rattle.model.specs.declared.running.Running.{Running}
use Rattle.model.specs.declared.running.Running.TheVariants.{Idle, Reads, GoesDown, Keeps, Drops, Hands, Fetches, TakesOut, Works, WalkReads, WalkGoesDown}

-- a Make or a Sweep at another place; no other call has places
abbrev pub moved : {D : Type 0} → Running D → Place → Running D
moved r c = elim r [ Works j _ ↦ Works j c | Idle ↦ Idle | Reads g ↦ Reads g | GoesDown k ↦ GoesDown k | Keeps i ↦ Keeps i | Drops i ↦ Drops i | Hands i q ↦ Hands i q | Fetches i ↦ Fetches i | TakesOut i v ↦ TakesOut i v | WalkReads t g ↦ WalkReads t g | WalkGoesDown t k ↦ WalkGoesDown t k ]
