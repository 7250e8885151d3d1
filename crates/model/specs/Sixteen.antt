-- A Sweep that takes sixteen turns.
use Rattle.std.specs.Prelude.{◌≡◌, ℕ}
use Rattle.model.specs.Types.{LookForNode, Sweeps, Works}
use Rattle.model.specs.Runs.{System, Log, Run, turns_of, ends_of}
use Rattle.model.specs.Existing.{CanExist}
use Rattle.model.specs.SmallStore.{small}

-- in some store that can exist a Sweep that has just begun still runs after fifteen turns of its own
abbrev pub SixteenIsReached : Type 0
SixteenIsReached = (F : System ℕ ℕ (ℕ → ℕ) (ℕ → ℕ)) × CanExist small F × (F.store.run 1 ≡ Works Sweeps LookForNode)
    × ((later : Log small) × (H : System ℕ ℕ (ℕ → ℕ) (ℕ → ℕ)) × Run small F later H × (ends_of 1 later ≡ 0) × (turns_of 1 later ≡ 15))
