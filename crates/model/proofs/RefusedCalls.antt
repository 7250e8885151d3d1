-- The run in which Begins and Turns are refused, one by one.
use Rattle.std.proofs.Common.{refl}
use Rattle.refusals.specs.declared.Refusal.TheVariants.{Busy, NothingToTurn, SlotEmpty, NoTrail, InboxEmpty}
use Rattle.model.specs.Types.{LookForNode, Sweeps, Idle, Fetches, Works, Begins, Turns, WalkTurns, Ok, Err, Up, Drop, Fetch, Sweep, AsksCall, Begun}
use Rattle.model.specs.State.{set_run}
use Rattle.model.specs.Runs.{with_store, Moves, begin_refused, call_begun, turn_refused, walk_turn_refused, Run, still, more}
use Rattle.model.specs.SmallStore.{small, long, asked_nothing}
use Rattle.model.specs.RefusedCalls.{refused_log, RefusedCallsStand}
use Rattle.model.proofs.SmallOrders.{Small, fresh, fresh_is_new, dues_below_span, after, quiet_turn}
use Rattle.model.proofs.StoreLaw.{store_law}

abbrev sweeping : Small
sweeping = with_store small fresh (set_run fresh.store 1 (Works Sweeps LookForNode))

abbrev fetching : Small
fetching = with_store small sweeping (set_run sweeping.store 2 (Fetches 1))

abbrev ended : Small
ended = after fetching 2 (set_run fetching.store 2 Idle)

drop_refused : Moves small fresh (Begins 2 (AsksCall (Drop 1)) long) (Err SlotEmpty) fresh
drop_refused = begin_refused SlotEmpty refl refl refl

sweep_begun : Moves small fresh (Begins 1 (AsksCall Sweep) long) (Ok Begun) sweeping
sweep_begun = call_begun refl refl refl

busy : Moves small sweeping (Begins 1 (AsksCall Sweep) long) (Err Busy) sweeping
busy = begin_refused Busy refl refl refl

nothing_to_turn : Moves small sweeping (Turns 2 long) (Err NothingToTurn) sweeping
nothing_to_turn = turn_refused NothingToTurn refl refl refl

fetch_begun : Moves small sweeping (Begins 2 (AsksCall (Fetch 1)) long) (Ok Begun) fetching
fetch_begun = call_begun refl refl refl

no_walk : Moves small fetching (WalkTurns 2 long) (Err NothingToTurn) fetching
no_walk = walk_turn_refused NothingToTurn refl refl refl

inbox_empty : Moves small fetching (Turns 2 long) (Err InboxEmpty) ended
inbox_empty = quiet_turn fetching 2 refl refl refl refl

up_refused : Moves small ended (Begins 2 (AsksCall Up) long) (Err NoTrail) ended
up_refused = begin_refused NoTrail refl refl refl

runs : Run small fresh refused_log ended
runs = more drop_refused (more sweep_begun (more busy (more nothing_to_turn (more fetch_begun (more no_walk (more inbox_empty (more up_refused still)))))))

pub refused_calls_stand : RefusedCallsStand
refused_calls_stand =
    let law = store_law small (dues_below_span 4) (dues_below_span 2) in
    record {
      first = fresh;
      last = ended;
      starts_new = fresh_is_new;
      runs = runs;
      history_is = refl;
      plainly = λ s n. (law.0 fresh s asked_nothing (law.1 fresh s asked_nothing fresh_is_new n) refused_log ended runs).runs_as_plain;
    }
