-- What a line of values asks for.
use Rattle.std.specs.Prelude.{ℕ, ℤ, pos, negsuc, Bool, false, cond, Some, None, Option, ◌==◌}
use Rattle.std.specs.Option.{option_map}
use Rattle.model.specs.declared.calls.Asked.{Asked}
use Rattle.model.specs.declared.calls.Asked.TheVariants.{AsksCall, AsksWalk}
use Rattle.model.specs.declared.calls.Call.{Call}
use Rattle.model.specs.declared.calls.Call.TheVariants.{Enter, Up, Leave, Read, Down, Keep, Drop, Hand, Fetch, Make, Sweep}
use Rattle.model.specs.declared.calls.Walk.{Walk}
use Rattle.model.specs.declared.running.Plan.{Plan}
use Rattle.model.specs.Steps.{between}
use Rattle.sheet.specs.declared.letters.Letter.TheVariants.{NewStore as letter_N, Turns as letter_T, Make as letter_M, Read as letter_R, Walk as letter_W, Keep as letter_K, Drop as letter_D, Hand as letter_H, Fetch as letter_F, Enter as letter_E, Down as letter_V, Up as letter_U, Leave as letter_L, Sweep as letter_S}
use Rattle.sheet.specs.declared.lines.Values.{Values}
use Rattle.replay.specs.declared.requests.Opening.{Opening}
use Rattle.replay.specs.declared.requests.Request.{Request}
use Rattle.replay.specs.declared.requests.Request.TheVariants.{Open, Begin, Turn}
use Rattle.replay.specs.Numbers.{byte_or, word_or}

abbrev pub is_zero : ℤ → Bool
is_zero z = elim z [ pos n ↦ n == 0 | negsuc n ↦ false ]

-- N asks for a store, and its party is 0
abbrev pub opening_on : Values → Option Opening
opening_on v = cond (is_zero v.party) (Some (record { nodes = word_or 0 v.a; parties = word_or 0 v.fourth; node_stride = word_or 0 v.fifth; party_stride = word_or 0 v.d })) None

-- T asks for 1 to 9,999 turns
abbrev pub most_turns : ℕ
most_turns = 9999

abbrev pub turns_on : ℤ → Option ℕ
turns_on a = elim a [ pos n ↦ cond (between 1 most_turns n) (Some n) None | negsuc n ↦ None ]

-- the slot, and V's kid
abbrev pub slot_on : Values → ℕ
slot_on v = byte_or 0 v.a

abbrev pub walk_on : Values → Walk
walk_on v = record { slot = slot_on v; range = v.fourth; gear = v.fifth; temperature = v.d }

-- begins it for the line's party
abbrev pub begin_on : {D : Type 0} → Values → Asked D → Request D
begin_on v asked = Begin (byte_or 0 v.party) asked

abbrev pub begin_call_on : {D : Type 0} → Values → Call D → Request D
begin_call_on v call = begin_on v (AsksCall call)

module _ {D : Type 0} (on_sheet : ℤ → ℤ → D) where
  abbrev pub plan_on : Values → Plan D
  plan_on v = record { slot = slot_on v; kids = record { first = byte_or 255 v.d; second = byte_or 255 v.e; third = byte_or 255 v.f }; given = on_sheet v.fourth v.fifth }

  -- what each letter asks for
  abbrev pub request_on : Values → Option (Request D)
  request_on v = elim v.call [
    | letter_N ↦ option_map (λ o. Open o) (opening_on v)
    | letter_T ↦ option_map (λ n. Turn (byte_or 0 v.party) n) (turns_on v.a)
    | letter_W ↦ Some (begin_on v (AsksWalk (walk_on v)))
    | letter_M ↦ Some (begin_call_on v (Make (plan_on v)))
    | letter_R ↦ Some (begin_call_on v Read)
    | letter_K ↦ Some (begin_call_on v (Keep (slot_on v)))
    | letter_D ↦ Some (begin_call_on v (Drop (slot_on v)))
    | letter_H ↦ Some (begin_call_on v (Hand (slot_on v) (byte_or 0 v.fourth)))
    | letter_F ↦ Some (begin_call_on v (Fetch (slot_on v)))
    | letter_E ↦ Some (begin_call_on v (Enter (slot_on v)))
    | letter_V ↦ Some (begin_call_on v (Down (slot_on v)))
    | letter_U ↦ Some (begin_call_on v Up)
    | letter_L ↦ Some (begin_call_on v Leave)
    | letter_S ↦ Some (begin_call_on v Sweep)
  ]
