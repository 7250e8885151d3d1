-- What an accepted Begin makes of the store.
use Rattle.std.specs.Prelude.{ℕ, cond, [], ◌==◌}
use Rattle.model.specs.Types.{Kid, First, Second, Third, OpenTray, LookForNode, Makes, Sweeps, ReadNothing, Reads, GoesDown, Keeps, Drops, Hands, Fetches, Works, WalkReads, Call, Enter, Up, Leave, Read, Down, Keep, Drop, Hand, Fetch, Make, Sweep, Situation}
use Rattle.model.specs.State.{no_trail, along, shorter, Store, set_trail, set_run}

abbrev pub kid_of : ℕ → Kid
kid_of k = cond (k == 1) First (cond (k == 2) Second Third)

-- Enter, Up and Leave end here; every other call begins to run
abbrev pub started : {D : Type 0} → Call D → Store D → ℕ → Store D
started (Enter i) s p = set_trail s p (along i (s.slot p i) [])
started Up s p = set_trail s p (shorter (s.trail p))
started Leave s p = set_trail s p no_trail
started Read s p = set_run s p (Reads ReadNothing)
started (Down k) s p = set_run s p (GoesDown (kid_of k))
started (Keep i) s p = set_run s p (Keeps i)
started (Drop i) s p = set_run s p (Drops i)
started (Hand i q) s p = set_run s p (Hands i q)
started (Fetch i) s p = set_run s p (Fetches i)
started (Make plan) s p = set_run s p (Works (Makes plan) OpenTray)
started Sweep s p = set_run s p (Works Sweeps LookForNode)

-- a walk enters at its slot and begins to read
abbrev pub started_walk : {D : Type 0} → ℕ → Situation → Store D → ℕ → Store D
started_walk i t s p = set_run (set_trail s p (along i (s.slot p i) [])) p (WalkReads t ReadNothing)
