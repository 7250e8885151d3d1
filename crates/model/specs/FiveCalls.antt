-- A run in which two parties interleave a Make, a Hand, a Fetch, a walk and a Drop.
use Rattle.std.specs.Prelude.{◌≡◌, ℕ, true, List, [], ◌∷◌, ◌++◌, pos}
use Rattle.model.specs.Types.{Ok, Plan, Fetches, Drop, Hand, Fetch, Make, Walk, AsksCall, AsksWalk, AtNode, WorthIs, Outcome, Ended}
use Rattle.model.specs.Plain.{Plain, NewPlain, Ask, PlainRun}
use Rattle.model.specs.Runs.{System, Log, Run, history}
use Rattle.model.specs.Opened.{Agrees, New}
use Rattle.model.specs.Law.{is_making}
use Rattle.model.specs.SmallStore.{small, by, asked_nothing}

-- a node without kids whose data is 7, for slot 1
abbrev pub plan : Plan ℕ
plan = record { slot = 1; kids = record { first = 0; second = 0; third = 0 }; given = 7 }

-- from slot 2, in low range, first gear, oil at 20 degrees
abbrev pub over : Walk
over = record { slot = 2; range = pos 0; gear = pos 1; temperature = pos 20 }

-- party 1 makes node 1 and hands it to party 2, which fetches it, walks over it and drops it
abbrev pub five_calls : List (Ask ℕ × Outcome ℕ ℕ)
five_calls = (by 1 (AsksCall (Make plan)), Ok (Ended (AtNode 1))) ∷ (by 1 (AsksCall (Hand 1 2)), Ok (Ended (AtNode 1))) ∷ (by 2 (AsksCall (Fetch 2)), Ok (Ended (AtNode 1))) ∷ (by 2 (AsksWalk over), Ok (Ended (WorthIs 7 1))) ∷ (by 2 (AsksCall (Drop 2)), Ok (Ended (AtNode 1))) ∷ []

-- a run from a new store, with a moment at which party 1's Make and party 2's Fetch are both under way, whose calls in the
-- order in which they stand are these; so the plain store has just these, and agrees
pub record FiveCallsInterleaved : Type 0 where
  pub first : System ℕ ℕ (ℕ → ℕ) (ℕ → ℕ)
  pub middle : System ℕ ℕ (ℕ → ℕ) (ℕ → ℕ)
  pub last : System ℕ ℕ (ℕ → ℕ) (ℕ → ℕ)
  pub before : Log small
  pub after : Log small
  pub starts_new : New small first
  pub runs_before : Run small first before middle
  pub runs_after : Run small middle after last
  pub one_makes : is_making (middle.store.run 1) ≡ true
  pub two_fetches : middle.store.run 2 ≡ Fetches 2
  pub history_is : history asked_nothing (before ++ after) ≡ five_calls
  pub plainly : (s : Plain ℕ) → NewPlain s → (t : Plain ℕ) × PlainRun small s five_calls t × Agrees small last t
