-- The run in which two parties interleave five calls, Begin by Begin and Turn by Turn.
use Rattle.std.proofs.Common.{false, [], ◌∷◌, ◌++◌, pos, refl, arith}
use Rattle.kinds.specs.declared.gearbox.Range.TheVariants.{Low}
use Rattle.model.specs.Fun.{upd, sum_to}
use Rattle.model.specs.Types.{Begins, Turns, WalkTurns, Ok, First, Second, Third, Closed, Open, Holding, OpenTray, ReadTray, LookForNode, LockNode, Recheck, ReadKid, Claim, Unlock, Offer, CloseTray, WriteData, Makes, ReadNothing, ReadData, ReadFirst, ReadSecond, Idle, Drops, Hands, Fetches, TakesOut, Works, WalkReads, Drop, Hand, Fetch, Make, AsksCall, AsksWalk, AtNode, WorthIs, Begun, StillRunning, Ended, Situation}
use Rattle.model.specs.State.{no_trail, along, set_count, set_lock, set_inbox, set_tray, set_slot, set_trail, set_run}
use Rattle.model.specs.Walks.{noted}
use Rattle.model.specs.Runs.{with_store, Moves, call_begun, walk_begun, turn, walk_turn, Log, Run, still, more}
use Rattle.model.specs.SmallStore.{small, long, asked_nothing}
use Rattle.model.specs.FiveCalls.{plan, over, FiveCallsInterleaved}
use Rattle.model.proofs.SmallOrders.{Small, fresh, fresh_is_new, dues_below_span, picking, picks_one, rests, after, quiet_turn}
use Rattle.model.proofs.StoreLaw.{store_law}

abbrev mild : Situation
mild = record { range = Low; gear = 1; temperature = pos 20; geared = (omega arith, omega arith); warm = refl }

-- f with a number is the system after that many moves, m the move that led there
abbrev f0 : Small
f0 = fresh

abbrev f1 : Small
f1 = with_store small f0 (set_run f0.store 1 (Works (Makes plan) OpenTray))

m1 : Moves small f0 (Begins 1 (AsksCall (Make plan)) long) (Ok Begun) f1
m1 = call_begun refl refl refl

abbrev f2 : Small
f2 = after f1 1 (set_run (set_tray f1.store 1 Open) 1 (Works (Makes plan) ReadTray))

m2 : Moves small f1 (Turns 1 long) (Ok StillRunning) f2
m2 = quiet_turn f1 1 refl refl refl refl

abbrev f3 : Small
f3 = after f2 1 (set_run f2.store 1 (Works (Makes plan) LookForNode))

m3 : Moves small f2 (Turns 1 long) (Ok StillRunning) f3
m3 = quiet_turn f2 1 refl refl refl refl

abbrev f4 : Small
f4 = record f3 { store = set_run f3.store 1 (Works (Makes plan) (LockNode 1)); notes = upd f3.notes 1 (f3.notes 1); node_order = picking f3.node_order 1 }

m4 : Moves small f3 (Turns 1 long) (Ok StillRunning) f4
m4 = turn refl (record { pick = 1; store_is = refl; info_is = refl; notes_are = refl; node_picks = picks_one 4 f3.node_order 1 1 (omega arith, omega arith) (omega arith) (omega arith) (omega arith, omega arith); party_picks = rests 2 f3.party_order 1 1; tells = refl })

abbrev f5 : Small
f5 = after f4 1 (set_run (set_lock f4.store 1 1) 1 (Works (Makes plan) (Recheck 1)))

m5 : Moves small f4 (Turns 1 long) (Ok StillRunning) f5
m5 = quiet_turn f4 1 refl refl refl refl

abbrev f6 : Small
f6 = after f5 1 (set_run f5.store 1 (Works (Makes plan) (ReadKid 1 First)))

m6 : Moves small f5 (Turns 1 long) (Ok StillRunning) f6
m6 = quiet_turn f5 1 refl refl refl refl

abbrev f7 : Small
f7 = with_store small f6 (set_run f6.store 2 (Fetches 2))

m7 : Moves small f6 (Begins 2 (AsksCall (Fetch 2)) long) (Ok Begun) f7
m7 = call_begun refl refl refl

abbrev f8 : Small
f8 = after f7 1 (set_run f7.store 1 (Works (Makes plan) (ReadKid 1 Second)))

m8 : Moves small f7 (Turns 1 long) (Ok StillRunning) f8
m8 = quiet_turn f7 1 refl refl refl refl

abbrev f9 : Small
f9 = after f8 1 (set_run f8.store 1 (Works (Makes plan) (ReadKid 1 Third)))

m9 : Moves small f8 (Turns 1 long) (Ok StillRunning) f9
m9 = quiet_turn f8 1 refl refl refl refl

abbrev f10 : Small
f10 = after f9 1 (set_run f9.store 1 (Works (Makes plan) (Claim 1)))

m10 : Moves small f9 (Turns 1 long) (Ok StillRunning) f10
m10 = quiet_turn f9 1 refl refl refl refl

abbrev f11 : Small
f11 = after f10 1 (set_run (set_count f10.store 1 1) 1 (Works (Makes plan) (Unlock 1)))

m11 : Moves small f10 (Turns 1 long) (Ok StillRunning) f11
m11 = quiet_turn f10 1 refl refl refl refl

abbrev f12 : Small
f12 = after f11 1 (set_run (set_lock f11.store 1 0) 1 (Works (Makes plan) (Offer 1)))

m12 : Moves small f11 (Turns 1 long) (Ok StillRunning) f12
m12 = quiet_turn f11 1 refl refl refl refl

abbrev f13 : Small
f13 = record f12 { store = set_run (set_tray f12.store 1 (Holding 1)) 1 (Works (Makes plan) (CloseTray 1)); notes = upd f12.notes 1 (f12.notes 1); party_order = picking f12.party_order 1 }

m13 : Moves small f12 (Turns 1 long) (Ok StillRunning) f13
m13 = turn refl (record { pick = 1; store_is = refl; info_is = refl; notes_are = refl; node_picks = rests 4 f12.node_order 1 1; party_picks = picks_one 2 f12.party_order 1 1 (omega arith, omega arith) (omega arith) (omega arith) (omega arith, omega arith); tells = refl })

abbrev f14 : Small
f14 = after f13 1 (set_run (set_tray f13.store 1 Closed) 1 (Works (Makes plan) (WriteData 1)))

m14 : Moves small f13 (Turns 1 long) (Ok StillRunning) f14
m14 = quiet_turn f13 1 refl refl refl refl

abbrev f15 : Small
f15 = record f14 { store = set_run (set_slot f14.store 1 1 1) 1 Idle; info = upd f14.info 1 7; notes = upd f14.notes 1 (f14.notes 1) }

m15 : Moves small f14 (Turns 1 long) (Ok (Ended (AtNode 1))) f15
m15 = turn refl (record { pick = 0; store_is = refl; info_is = refl; notes_are = refl; node_picks = rests 4 f14.node_order 1 0; party_picks = rests 2 f14.party_order 1 0; tells = refl })

abbrev f16 : Small
f16 = with_store small f15 (set_run f15.store 1 (Hands 1 2))

m16 : Moves small f15 (Begins 1 (AsksCall (Hand 1 2)) long) (Ok Begun) f16
m16 = call_begun refl refl refl

abbrev f17 : Small
f17 = after f16 1 (set_run (set_slot (set_inbox f16.store 2 1) 1 1 0) 1 Idle)

m17 : Moves small f16 (Turns 1 long) (Ok (Ended (AtNode 1))) f17
m17 = quiet_turn f16 1 refl refl refl refl

abbrev f18 : Small
f18 = after f17 2 (set_run f17.store 2 (TakesOut 2 1))

m18 : Moves small f17 (Turns 2 long) (Ok StillRunning) f18
m18 = quiet_turn f17 2 refl refl refl refl

abbrev f19 : Small
f19 = with_store small f18 (set_run f18.store 1 (Works (Makes plan) OpenTray))

m19 : Moves small f18 (Begins 1 (AsksCall (Make plan)) long) (Ok Begun) f19
m19 = call_begun refl refl refl

abbrev f20 : Small
f20 = after f19 2 (set_run (set_slot (set_inbox f19.store 2 0) 2 2 1) 2 Idle)

m20 : Moves small f19 (Turns 2 long) (Ok (Ended (AtNode 1))) f20
m20 = quiet_turn f19 2 refl refl refl refl

abbrev f21 : Small
f21 = record f20 { store = set_run (set_trail f20.store 2 (along 2 1 [])) 2 (WalkReads mild ReadNothing); notes = upd f20.notes 2 (record { marks = λ n. false; worths = λ n. 0 }) }

m21 : Moves small f20 (Begins 2 (AsksWalk over) long) (Ok Begun) f21
m21 = walk_begun mild (λ n. 0) refl (record { the_range = refl; the_gear = refl; the_temperature = refl }) refl refl

abbrev f22 : Small
f22 = after f21 2 (set_run f21.store 2 (WalkReads mild (ReadData 7)))

m22 : Moves small f21 (WalkTurns 2 long) (Ok StillRunning) f22
m22 = walk_turn refl (record { pick = 0; store_is = refl; info_is = refl; notes_are = refl; node_picks = rests 4 f21.node_order 2 0; party_picks = rests 2 f21.party_order 2 0; tells = refl })

abbrev f23 : Small
f23 = after f22 1 (set_run (set_tray f22.store 1 Open) 1 (Works (Makes plan) ReadTray))

m23 : Moves small f22 (Turns 1 long) (Ok StillRunning) f23
m23 = quiet_turn f22 1 refl refl refl refl

abbrev f24 : Small
f24 = after f23 2 (set_run f23.store 2 (WalkReads mild (ReadFirst 7 0)))

m24 : Moves small f23 (WalkTurns 2 long) (Ok StillRunning) f24
m24 = walk_turn refl (record { pick = 0; store_is = refl; info_is = refl; notes_are = refl; node_picks = rests 4 f23.node_order 2 0; party_picks = rests 2 f23.party_order 2 0; tells = refl })

abbrev f25 : Small
f25 = after f24 1 (set_run f24.store 1 (Works (Makes plan) LookForNode))

m25 : Moves small f24 (Turns 1 long) (Ok StillRunning) f25
m25 = quiet_turn f24 1 refl refl refl refl

abbrev f26 : Small
f26 = after f25 2 (set_run f25.store 2 (WalkReads mild (ReadSecond 7 0 0)))

m26 : Moves small f25 (WalkTurns 2 long) (Ok StillRunning) f26
m26 = walk_turn refl (record { pick = 0; store_is = refl; info_is = refl; notes_are = refl; node_picks = rests 4 f25.node_order 2 0; party_picks = rests 2 f25.party_order 2 0; tells = refl })

abbrev f27 : Small
f27 = record f26 { store = set_run f26.store 1 (Works (Makes plan) (LockNode 2)); notes = upd f26.notes 1 (f26.notes 1); node_order = picking f26.node_order 1 }

m27 : Moves small f26 (Turns 1 long) (Ok StillRunning) f27
m27 = turn refl (record { pick = 2; store_is = refl; info_is = refl; notes_are = refl; node_picks = picks_one 4 f26.node_order 1 2 (omega arith, omega arith) (omega arith) (omega arith) (omega arith, omega arith); party_picks = rests 2 f26.party_order 1 2; tells = refl })

abbrev f28 : Small
f28 = record f27 { store = set_run (set_trail f27.store 2 no_trail) 2 Idle; notes = upd f27.notes 2 (noted (f27.notes 2) 1 7) }

m28 : Moves small f27 (WalkTurns 2 long) (Ok (Ended (WorthIs 7 1))) f28
unfolding sum_to
m28 = walk_turn refl (record { pick = 0; store_is = refl; info_is = refl; notes_are = refl; node_picks = rests 4 f27.node_order 2 0; party_picks = rests 2 f27.party_order 2 0; tells = refl })

abbrev f29 : Small
f29 = with_store small f28 (set_run f28.store 2 (Drops 2))

m29 : Moves small f28 (Begins 2 (AsksCall (Drop 2)) long) (Ok Begun) f29
m29 = call_begun refl refl refl

abbrev f30 : Small
f30 = after f29 1 (set_run (set_lock f29.store 2 1) 1 (Works (Makes plan) (Recheck 2)))

m30 : Moves small f29 (Turns 1 long) (Ok StillRunning) f30
m30 = quiet_turn f29 1 refl refl refl refl

abbrev f31 : Small
f31 = after f30 2 (set_run (set_slot (set_count f30.store 1 0) 2 2 0) 2 Idle)

m31 : Moves small f30 (Turns 2 long) (Ok (Ended (AtNode 1))) f31
m31 = quiet_turn f30 2 refl refl refl refl

abbrev head_log : Log small
head_log = (Begins 1 (AsksCall (Make plan)) long, Ok Begun) ∷ (Turns 1 long, Ok StillRunning) ∷ (Turns 1 long, Ok StillRunning) ∷ (Turns 1 long, Ok StillRunning) ∷ (Turns 1 long, Ok StillRunning) ∷ (Turns 1 long, Ok StillRunning) ∷ (Begins 2 (AsksCall (Fetch 2)) long, Ok Begun) ∷ (Turns 1 long, Ok StillRunning) ∷ (Turns 1 long, Ok StillRunning) ∷ (Turns 1 long, Ok StillRunning) ∷ []

abbrev tail_log : Log small
tail_log = (Turns 1 long, Ok StillRunning) ∷ (Turns 1 long, Ok StillRunning) ∷ (Turns 1 long, Ok StillRunning) ∷ (Turns 1 long, Ok StillRunning) ∷ (Turns 1 long, Ok (Ended (AtNode 1))) ∷ (Begins 1 (AsksCall (Hand 1 2)) long, Ok Begun) ∷ (Turns 1 long, Ok (Ended (AtNode 1))) ∷ (Turns 2 long, Ok StillRunning) ∷ (Begins 1 (AsksCall (Make plan)) long, Ok Begun) ∷ (Turns 2 long, Ok (Ended (AtNode 1))) ∷ (Begins 2 (AsksWalk over) long, Ok Begun) ∷ (WalkTurns 2 long, Ok StillRunning) ∷ (Turns 1 long, Ok StillRunning) ∷ (WalkTurns 2 long, Ok StillRunning) ∷ (Turns 1 long, Ok StillRunning) ∷ (WalkTurns 2 long, Ok StillRunning) ∷ (Turns 1 long, Ok StillRunning) ∷ (WalkTurns 2 long, Ok (Ended (WorthIs 7 1))) ∷ (Begins 2 (AsksCall (Drop 2)) long, Ok Begun) ∷ (Turns 1 long, Ok StillRunning) ∷ (Turns 2 long, Ok (Ended (AtNode 1))) ∷ []

head_runs : Run small f0 head_log f10
head_runs = more m1 (more m2 (more m3 (more m4 (more m5 (more m6 (more m7 (more m8 (more m9 (more m10 still)))))))))

tail_runs : Run small f10 tail_log f31
tail_runs = more m11 (more m12 (more m13 (more m14 (more m15 (more m16 (more m17 (more m18 (more m19 (more m20 (more m21 (more m22 (more m23 (more m24 (more m25 (more m26 (more m27 (more m28 (more m29 (more m30 (more m31 still))))))))))))))))))))

whole_runs : Run small f0 (head_log ++ tail_log) f31
whole_runs = more m1 (more m2 (more m3 (more m4 (more m5 (more m6 (more m7 (more m8 (more m9 (more m10 (more m11 (more m12 (more m13 (more m14 (more m15 (more m16 (more m17 (more m18 (more m19 (more m20 (more m21 (more m22 (more m23 (more m24 (more m25 (more m26 (more m27 (more m28 (more m29 (more m30 (more m31 still))))))))))))))))))))))))))))))

pub five_calls_interleaved : FiveCallsInterleaved
five_calls_interleaved =
    let law = store_law small (dues_below_span 4) (dues_below_span 2) in
    record {
      first = f0;
      middle = f10;
      last = f31;
      before = head_log;
      after = tail_log;
      starts_new = fresh_is_new;
      runs_before = head_runs;
      runs_after = tail_runs;
      one_makes = refl;
      two_fetches = refl;
      history_is = refl;
      plainly = λ s n. (law.0 f0 s asked_nothing (law.1 f0 s asked_nothing fresh_is_new n) (head_log ++ tail_log) f31 whole_runs).runs_as_plain;
    }
