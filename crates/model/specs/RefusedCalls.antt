-- A run with refused Begins and Turns: which of them stand in the order of calls, and where.
use Rattle.std.specs.Prelude.{◌≡◌, ℕ, List, [], ◌∷◌}
use Rattle.refusals.specs.declared.Refusal.TheVariants.{Busy, NothingToTurn, SlotEmpty, NoTrail, InboxEmpty}
use Rattle.model.specs.Types.{Begins, Turns, WalkTurns, Ok, Err, Up, Drop, Fetch, Sweep, AsksCall, Outcome, Begun}
use Rattle.model.specs.Plain.{Plain, NewPlain, Ask, PlainRun}
use Rattle.model.specs.Runs.{System, Log, Run, history}
use Rattle.model.specs.Opened.{Agrees, New}
use Rattle.model.specs.SmallStore.{small, long, by, asked_nothing}

-- a Begin that finds the party busy, and Turns of what it does not run, stand nowhere; a Begin that is refused otherwise
-- stands there; a Fetch that is begun and finds no node stands where it ends
abbrev pub refused_log : Log small
refused_log =
    (Begins 2 (AsksCall (Drop 1)) long, Err SlotEmpty)
    ∷ (Begins 1 (AsksCall Sweep) long, Ok Begun)
    ∷ (Begins 1 (AsksCall Sweep) long, Err Busy)
    ∷ (Turns 2 long, Err NothingToTurn)
    ∷ (Begins 2 (AsksCall (Fetch 1)) long, Ok Begun)
    ∷ (WalkTurns 2 long, Err NothingToTurn)
    ∷ (Turns 2 long, Err InboxEmpty)
    ∷ (Begins 2 (AsksCall Up) long, Err NoTrail)
    ∷ []

abbrev pub refused_calls : List (Ask ℕ × Outcome ℕ ℕ)
refused_calls =
    (by 2 (AsksCall (Drop 1)), Err SlotEmpty)
    ∷ (by 2 (AsksCall (Fetch 1)), Err InboxEmpty)
    ∷ (by 2 (AsksCall Up), Err NoTrail)
    ∷ []

-- from a new store this is a run, and these are its calls in the order in which they stand; so the plain store has just
-- these, refused with the same numbers, and agrees
pub record RefusedCallsStand : Type 0 where
  pub first : System ℕ ℕ (ℕ → ℕ) (ℕ → ℕ)
  pub last : System ℕ ℕ (ℕ → ℕ) (ℕ → ℕ)
  pub starts_new : New small first
  pub runs : Run small first refused_log last
  pub history_is : history asked_nothing refused_log ≡ refused_calls
  pub plainly : (s : Plain ℕ) → NewPlain s → (t : Plain ℕ) × PlainRun small s refused_calls t × Agrees small last t
