-- Several turns of what one party is running.
use Rattle.std.specs.Prelude.{◌≡◌, ℕ, suc, ◌≤◌, cond, ◌⊎◌, [], ◌∷◌, ◌++◌, Bool, true, false, Ok, Err}
use Rattle.model.specs.declared.calls.Event.{Event}
use Rattle.model.specs.declared.calls.Event.TheVariants.{Turns, WalkTurns}
use Rattle.model.specs.declared.calls.Lengths.{Lengths}
use Rattle.model.specs.declared.outcomes.Progress.TheVariants.{Begun, StillRunning, Ended}
use Rattle.model.specs.Types.{Outcome}
use Rattle.model.specs.Checks.{is_walking}
use Rattle.model.specs.Runs.{System, Moves, Log}
use Rattle.model.specs.Setting.{Setting}

-- lists with an entry for each of M nodes
abbrev pub all_entries : ℕ → Lengths
all_entries M = record { entries = M; marks = M; worths = M }

-- the call goes on
abbrev pub is_running_on : {D W : Type 0} → Outcome D W → Bool
is_running_on o = elim o [ Err e ↦ false | Ok progress ↦ elim progress [ Begun ↦ false | StillRunning ↦ true | Ended x ↦ false ] ]

module _ {D W A B : Type 0} (X : Setting D W A B) (p : ℕ) where
  -- a walk's Turn while the party walks, and else a plain Turn
  abbrev pub next_turn : System D W A B → Event D
  next_turn F = cond (is_walking (F.store.run p)) (WalkTurns p (all_entries X.nodes)) (Turns p (all_entries X.nodes))

  -- so many turns, each of which but the last left its call running; o is what the last one told
  pub data Turned (F : System D W A B) : ℕ → Log X → Outcome D W → System D W A B → Type 0 where
    once : {es : Log X} {o : Outcome D W} {G : System D W A B} → Moves X F (next_turn F) o G → es ≡ (next_turn F, o) ∷ [] → Turned F 1 es o G
    again : {k : ℕ} {es later : Log X} {o : Outcome D W} {G H : System D W A B} → Turned F k es (Ok StillRunning) G → Moves X G (next_turn G) o H → later ≡ es ++ (next_turn G, o) ∷ [] → Turned F (suc k) later o H

  -- as many as were asked for, or fewer where one told that nothing is running any longer, or was refused
  pub record TurnsUpTo (most : ℕ) (F : System D W A B) (es : Log X) (o : Outcome D W) (G : System D W A B) : Type 0 where
    pub count : ℕ
    pub at_most : count ≤ most
    pub turned : Turned F count es o G
    pub stops : (count ≡ most) ⊎ (is_running_on o ≡ false)
