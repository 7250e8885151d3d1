-- Where a walk goes once it has read a node, down to a kid or up: the model's `settled_store`, for the kid that is told.
use Rattle.std.specs.Prelude.{ℕ, Some, None, Option}
use Rattle.model.specs.Types.{Kid, Situation}
use Rattle.model.specs.declared.running.Running.{Running}
use Rattle.model.specs.declared.running.Running.TheVariants.{WalkGoesDown}
use Rattle.model.specs.State.{Trail, shorter, Store, set_trail, set_run}
use Rattle.model.specs.Walks.{resumes}

-- a Down takes a step of its own, so the trail stays until then
abbrev pub trails_on : Option Kid → Trail → Trail
trails_on below t = elim below [ Some k ↦ t | None ↦ shorter t ]

-- t is the trail as it is then
abbrev pub runs_on : {D : Type 0} → Situation → Option Kid → Trail → Running D
runs_on situation below t = elim below [ Some k ↦ WalkGoesDown situation k | None ↦ resumes situation t ]

abbrev pub goes_on : {D : Type 0} → Store D → ℕ → Situation → Option Kid → Store D
goes_on s p situation below = set_run (set_trail s p (trails_on below (s.trail p))) p (runs_on situation below (trails_on below (s.trail p)))
