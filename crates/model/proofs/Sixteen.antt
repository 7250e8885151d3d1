-- The run in which a Sweep takes sixteen turns, Begin by Begin and Turn by Turn.
use Rattle.std.proofs.Common.{ℕ, [], ◌∷◌, refl, arith}
use Rattle.model.specs.Fun.{upd}
use Rattle.model.specs.Types.{Begins, Turns, Ok, First, Second, Third, Closed, Open, Holding, OpenTray, ReadTray, LookForNode, LockNode, Recheck, ReadKid, ClearKid, UncountKid, Claim, Unlock, Offer, GiveBack, CloseTray, WriteData, CountKid, LinkKid, Plan, Makes, Sweeps, Idle, Drops, Works, Drop, Make, Sweep, AsksCall, AtNode, Begun, StillRunning, Ended}
use Rattle.model.specs.State.{set_count, set_lock, set_kid, set_tray, set_slot, set_run}
use Rattle.model.specs.Runs.{with_store, Moves, call_begun, turn, Log, Run, still, more}
use Rattle.model.specs.Existing.{CanExist, new, moved}
use Rattle.model.specs.SmallStore.{small, long}
use Rattle.model.specs.Sixteen.{SixteenIsReached}
use Rattle.model.proofs.SmallOrders.{Small, fresh, fresh_is_new, picking, picks_one, rests, after, quiet_turn}

abbrev plan1 : Plan ℕ
plan1 = record { slot = 1; kids = record { first = 0; second = 0; third = 0 }; given = 0 }

abbrev plan2 : Plan ℕ
plan2 = record { slot = 2; kids = record { first = 0; second = 0; third = 0 }; given = 0 }

abbrev plan3 : Plan ℕ
plan3 = record { slot = 3; kids = record { first = 0; second = 0; third = 0 }; given = 0 }

abbrev plan4 : Plan ℕ
plan4 = record { slot = 4; kids = record { first = 1; second = 2; third = 3 }; given = 0 }

-- f with a number is the system after that many moves, m the move that led there, c that such a store can exist
abbrev f0 : Small
f0 = fresh

exists_after : {F G : Small} {es : Log small} → CanExist small F → Run small F es G → CanExist small G
exists_after c still = c
exists_after c (more m r) = exists_after (moved c m) r

c0 : CanExist small f0
c0 = new fresh_is_new

abbrev f1 : Small
f1 = with_store small f0 (set_run f0.store 1 (Works (Makes plan1) OpenTray))

m1 : Moves small f0 (Begins 1 (AsksCall (Make plan1)) long) (Ok Begun) f1
m1 = call_begun refl refl refl

abbrev f2 : Small
f2 = after f1 1 (set_run (set_tray f1.store 1 Open) 1 (Works (Makes plan1) ReadTray))

m2 : Moves small f1 (Turns 1 long) (Ok StillRunning) f2
m2 = quiet_turn f1 1 refl refl refl refl

abbrev f3 : Small
f3 = after f2 1 (set_run f2.store 1 (Works (Makes plan1) LookForNode))

m3 : Moves small f2 (Turns 1 long) (Ok StillRunning) f3
m3 = quiet_turn f2 1 refl refl refl refl

abbrev f4 : Small
f4 = record f3 { store = set_run f3.store 1 (Works (Makes plan1) (LockNode 1)); notes = upd f3.notes 1 (f3.notes 1); node_order = picking f3.node_order 1 }

m4 : Moves small f3 (Turns 1 long) (Ok StillRunning) f4
m4 = turn refl (record { pick = 1; store_is = refl; info_is = refl; notes_are = refl; node_picks = picks_one 4 f3.node_order 1 1 (omega arith, omega arith) (omega arith) (omega arith) (omega arith, omega arith); party_picks = rests 2 f3.party_order 1 1; tells = refl })

abbrev f5 : Small
f5 = after f4 1 (set_run (set_lock f4.store 1 1) 1 (Works (Makes plan1) (Recheck 1)))

m5 : Moves small f4 (Turns 1 long) (Ok StillRunning) f5
m5 = quiet_turn f4 1 refl refl refl refl

abbrev f6 : Small
f6 = after f5 1 (set_run f5.store 1 (Works (Makes plan1) (ReadKid 1 First)))

m6 : Moves small f5 (Turns 1 long) (Ok StillRunning) f6
m6 = quiet_turn f5 1 refl refl refl refl

abbrev f7 : Small
f7 = after f6 1 (set_run f6.store 1 (Works (Makes plan1) (ReadKid 1 Second)))

m7 : Moves small f6 (Turns 1 long) (Ok StillRunning) f7
m7 = quiet_turn f6 1 refl refl refl refl

abbrev f8 : Small
f8 = after f7 1 (set_run f7.store 1 (Works (Makes plan1) (ReadKid 1 Third)))

m8 : Moves small f7 (Turns 1 long) (Ok StillRunning) f8
m8 = quiet_turn f7 1 refl refl refl refl

abbrev f9 : Small
f9 = after f8 1 (set_run f8.store 1 (Works (Makes plan1) (Claim 1)))

m9 : Moves small f8 (Turns 1 long) (Ok StillRunning) f9
m9 = quiet_turn f8 1 refl refl refl refl

abbrev f10 : Small
f10 = after f9 1 (set_run (set_count f9.store 1 1) 1 (Works (Makes plan1) (Unlock 1)))

m10 : Moves small f9 (Turns 1 long) (Ok StillRunning) f10
m10 = quiet_turn f9 1 refl refl refl refl

abbrev f11 : Small
f11 = after f10 1 (set_run (set_lock f10.store 1 0) 1 (Works (Makes plan1) (Offer 1)))

m11 : Moves small f10 (Turns 1 long) (Ok StillRunning) f11
m11 = quiet_turn f10 1 refl refl refl refl

abbrev f12 : Small
f12 = record f11 { store = set_run (set_tray f11.store 1 (Holding 1)) 1 (Works (Makes plan1) (CloseTray 1)); notes = upd f11.notes 1 (f11.notes 1); party_order = picking f11.party_order 1 }

m12 : Moves small f11 (Turns 1 long) (Ok StillRunning) f12
m12 = turn refl (record { pick = 1; store_is = refl; info_is = refl; notes_are = refl; node_picks = rests 4 f11.node_order 1 1; party_picks = picks_one 2 f11.party_order 1 1 (omega arith, omega arith) (omega arith) (omega arith) (omega arith, omega arith); tells = refl })

abbrev f13 : Small
f13 = after f12 1 (set_run (set_tray f12.store 1 Closed) 1 (Works (Makes plan1) (WriteData 1)))

m13 : Moves small f12 (Turns 1 long) (Ok StillRunning) f13
m13 = quiet_turn f12 1 refl refl refl refl

abbrev f14 : Small
f14 = record f13 { store = set_run (set_slot f13.store 1 1 1) 1 Idle; info = upd f13.info 1 0; notes = upd f13.notes 1 (f13.notes 1) }

m14 : Moves small f13 (Turns 1 long) (Ok (Ended (AtNode 1))) f14
m14 = turn refl (record { pick = 0; store_is = refl; info_is = refl; notes_are = refl; node_picks = rests 4 f13.node_order 1 0; party_picks = rests 2 f13.party_order 1 0; tells = refl })

abbrev f15 : Small
f15 = with_store small f14 (set_run f14.store 1 (Works (Makes plan2) OpenTray))

m15 : Moves small f14 (Begins 1 (AsksCall (Make plan2)) long) (Ok Begun) f15
m15 = call_begun refl refl refl

abbrev f16 : Small
f16 = after f15 1 (set_run (set_tray f15.store 1 Open) 1 (Works (Makes plan2) ReadTray))

m16 : Moves small f15 (Turns 1 long) (Ok StillRunning) f16
m16 = quiet_turn f15 1 refl refl refl refl

abbrev f17 : Small
f17 = after f16 1 (set_run f16.store 1 (Works (Makes plan2) LookForNode))

m17 : Moves small f16 (Turns 1 long) (Ok StillRunning) f17
m17 = quiet_turn f16 1 refl refl refl refl

abbrev f18 : Small
f18 = record f17 { store = set_run f17.store 1 (Works (Makes plan2) (LockNode 2)); notes = upd f17.notes 1 (f17.notes 1); node_order = picking f17.node_order 1 }

m18 : Moves small f17 (Turns 1 long) (Ok StillRunning) f18
m18 = turn refl (record { pick = 2; store_is = refl; info_is = refl; notes_are = refl; node_picks = picks_one 4 f17.node_order 1 2 (omega arith, omega arith) (omega arith) (omega arith) (omega arith, omega arith); party_picks = rests 2 f17.party_order 1 2; tells = refl })

abbrev f19 : Small
f19 = after f18 1 (set_run (set_lock f18.store 2 1) 1 (Works (Makes plan2) (Recheck 2)))

m19 : Moves small f18 (Turns 1 long) (Ok StillRunning) f19
m19 = quiet_turn f18 1 refl refl refl refl

abbrev f20 : Small
f20 = after f19 1 (set_run f19.store 1 (Works (Makes plan2) (ReadKid 2 First)))

m20 : Moves small f19 (Turns 1 long) (Ok StillRunning) f20
m20 = quiet_turn f19 1 refl refl refl refl

abbrev f21 : Small
f21 = after f20 1 (set_run f20.store 1 (Works (Makes plan2) (ReadKid 2 Second)))

m21 : Moves small f20 (Turns 1 long) (Ok StillRunning) f21
m21 = quiet_turn f20 1 refl refl refl refl

abbrev f22 : Small
f22 = after f21 1 (set_run f21.store 1 (Works (Makes plan2) (ReadKid 2 Third)))

m22 : Moves small f21 (Turns 1 long) (Ok StillRunning) f22
m22 = quiet_turn f21 1 refl refl refl refl

abbrev f23 : Small
f23 = after f22 1 (set_run f22.store 1 (Works (Makes plan2) (Claim 2)))

m23 : Moves small f22 (Turns 1 long) (Ok StillRunning) f23
m23 = quiet_turn f22 1 refl refl refl refl

abbrev f24 : Small
f24 = after f23 1 (set_run (set_count f23.store 2 1) 1 (Works (Makes plan2) (Unlock 2)))

m24 : Moves small f23 (Turns 1 long) (Ok StillRunning) f24
m24 = quiet_turn f23 1 refl refl refl refl

abbrev f25 : Small
f25 = after f24 1 (set_run (set_lock f24.store 2 0) 1 (Works (Makes plan2) (Offer 2)))

m25 : Moves small f24 (Turns 1 long) (Ok StillRunning) f25
m25 = quiet_turn f24 1 refl refl refl refl

abbrev f26 : Small
f26 = record f25 { store = set_run (set_tray f25.store 1 (Holding 2)) 1 (Works (Makes plan2) (CloseTray 2)); notes = upd f25.notes 1 (f25.notes 1); party_order = picking f25.party_order 1 }

m26 : Moves small f25 (Turns 1 long) (Ok StillRunning) f26
m26 = turn refl (record { pick = 1; store_is = refl; info_is = refl; notes_are = refl; node_picks = rests 4 f25.node_order 1 1; party_picks = picks_one 2 f25.party_order 1 1 (omega arith, omega arith) (omega arith) (omega arith) (omega arith, omega arith); tells = refl })

abbrev f27 : Small
f27 = after f26 1 (set_run (set_tray f26.store 1 Closed) 1 (Works (Makes plan2) (WriteData 2)))

m27 : Moves small f26 (Turns 1 long) (Ok StillRunning) f27
m27 = quiet_turn f26 1 refl refl refl refl

abbrev f28 : Small
f28 = record f27 { store = set_run (set_slot f27.store 1 2 2) 1 Idle; info = upd f27.info 2 0; notes = upd f27.notes 1 (f27.notes 1) }

m28 : Moves small f27 (Turns 1 long) (Ok (Ended (AtNode 2))) f28
m28 = turn refl (record { pick = 0; store_is = refl; info_is = refl; notes_are = refl; node_picks = rests 4 f27.node_order 1 0; party_picks = rests 2 f27.party_order 1 0; tells = refl })

abbrev f29 : Small
f29 = with_store small f28 (set_run f28.store 1 (Works (Makes plan3) OpenTray))

m29 : Moves small f28 (Begins 1 (AsksCall (Make plan3)) long) (Ok Begun) f29
m29 = call_begun refl refl refl

abbrev f30 : Small
f30 = after f29 1 (set_run (set_tray f29.store 1 Open) 1 (Works (Makes plan3) ReadTray))

m30 : Moves small f29 (Turns 1 long) (Ok StillRunning) f30
m30 = quiet_turn f29 1 refl refl refl refl

abbrev f31 : Small
f31 = after f30 1 (set_run f30.store 1 (Works (Makes plan3) LookForNode))

m31 : Moves small f30 (Turns 1 long) (Ok StillRunning) f31
m31 = quiet_turn f30 1 refl refl refl refl

abbrev f32 : Small
f32 = record f31 { store = set_run f31.store 1 (Works (Makes plan3) (LockNode 3)); notes = upd f31.notes 1 (f31.notes 1); node_order = picking f31.node_order 1 }

m32 : Moves small f31 (Turns 1 long) (Ok StillRunning) f32
m32 = turn refl (record { pick = 3; store_is = refl; info_is = refl; notes_are = refl; node_picks = picks_one 4 f31.node_order 1 3 (omega arith, omega arith) (omega arith) (omega arith) (omega arith, omega arith); party_picks = rests 2 f31.party_order 1 3; tells = refl })

abbrev f33 : Small
f33 = after f32 1 (set_run (set_lock f32.store 3 1) 1 (Works (Makes plan3) (Recheck 3)))

m33 : Moves small f32 (Turns 1 long) (Ok StillRunning) f33
m33 = quiet_turn f32 1 refl refl refl refl

abbrev f34 : Small
f34 = after f33 1 (set_run f33.store 1 (Works (Makes plan3) (ReadKid 3 First)))

m34 : Moves small f33 (Turns 1 long) (Ok StillRunning) f34
m34 = quiet_turn f33 1 refl refl refl refl

abbrev f35 : Small
f35 = after f34 1 (set_run f34.store 1 (Works (Makes plan3) (ReadKid 3 Second)))

m35 : Moves small f34 (Turns 1 long) (Ok StillRunning) f35
m35 = quiet_turn f34 1 refl refl refl refl

abbrev f36 : Small
f36 = after f35 1 (set_run f35.store 1 (Works (Makes plan3) (ReadKid 3 Third)))

m36 : Moves small f35 (Turns 1 long) (Ok StillRunning) f36
m36 = quiet_turn f35 1 refl refl refl refl

abbrev f37 : Small
f37 = after f36 1 (set_run f36.store 1 (Works (Makes plan3) (Claim 3)))

m37 : Moves small f36 (Turns 1 long) (Ok StillRunning) f37
m37 = quiet_turn f36 1 refl refl refl refl

abbrev f38 : Small
f38 = after f37 1 (set_run (set_count f37.store 3 1) 1 (Works (Makes plan3) (Unlock 3)))

m38 : Moves small f37 (Turns 1 long) (Ok StillRunning) f38
m38 = quiet_turn f37 1 refl refl refl refl

abbrev f39 : Small
f39 = after f38 1 (set_run (set_lock f38.store 3 0) 1 (Works (Makes plan3) (Offer 3)))

m39 : Moves small f38 (Turns 1 long) (Ok StillRunning) f39
m39 = quiet_turn f38 1 refl refl refl refl

abbrev f40 : Small
f40 = record f39 { store = set_run (set_tray f39.store 1 (Holding 3)) 1 (Works (Makes plan3) (CloseTray 3)); notes = upd f39.notes 1 (f39.notes 1); party_order = picking f39.party_order 1 }

m40 : Moves small f39 (Turns 1 long) (Ok StillRunning) f40
m40 = turn refl (record { pick = 1; store_is = refl; info_is = refl; notes_are = refl; node_picks = rests 4 f39.node_order 1 1; party_picks = picks_one 2 f39.party_order 1 1 (omega arith, omega arith) (omega arith) (omega arith) (omega arith, omega arith); tells = refl })

abbrev f41 : Small
f41 = after f40 1 (set_run (set_tray f40.store 1 Closed) 1 (Works (Makes plan3) (WriteData 3)))

m41 : Moves small f40 (Turns 1 long) (Ok StillRunning) f41
m41 = quiet_turn f40 1 refl refl refl refl

abbrev f42 : Small
f42 = record f41 { store = set_run (set_slot f41.store 1 3 3) 1 Idle; info = upd f41.info 3 0; notes = upd f41.notes 1 (f41.notes 1) }

m42 : Moves small f41 (Turns 1 long) (Ok (Ended (AtNode 3))) f42
m42 = turn refl (record { pick = 0; store_is = refl; info_is = refl; notes_are = refl; node_picks = rests 4 f41.node_order 1 0; party_picks = rests 2 f41.party_order 1 0; tells = refl })

abbrev f43 : Small
f43 = with_store small f42 (set_run f42.store 1 (Works (Makes plan4) OpenTray))

m43 : Moves small f42 (Begins 1 (AsksCall (Make plan4)) long) (Ok Begun) f43
m43 = call_begun refl refl refl

abbrev f44 : Small
f44 = after f43 1 (set_run (set_tray f43.store 1 Open) 1 (Works (Makes plan4) ReadTray))

m44 : Moves small f43 (Turns 1 long) (Ok StillRunning) f44
m44 = quiet_turn f43 1 refl refl refl refl

abbrev f45 : Small
f45 = after f44 1 (set_run f44.store 1 (Works (Makes plan4) LookForNode))

m45 : Moves small f44 (Turns 1 long) (Ok StillRunning) f45
m45 = quiet_turn f44 1 refl refl refl refl

abbrev f46 : Small
f46 = record f45 { store = set_run f45.store 1 (Works (Makes plan4) (LockNode 4)); notes = upd f45.notes 1 (f45.notes 1); node_order = picking f45.node_order 1 }

m46 : Moves small f45 (Turns 1 long) (Ok StillRunning) f46
m46 = turn refl (record { pick = 4; store_is = refl; info_is = refl; notes_are = refl; node_picks = picks_one 4 f45.node_order 1 4 (omega arith, omega arith) (omega arith) (omega arith) (omega arith, omega arith); party_picks = rests 2 f45.party_order 1 4; tells = refl })

abbrev f47 : Small
f47 = after f46 1 (set_run (set_lock f46.store 4 1) 1 (Works (Makes plan4) (Recheck 4)))

m47 : Moves small f46 (Turns 1 long) (Ok StillRunning) f47
m47 = quiet_turn f46 1 refl refl refl refl

abbrev f48 : Small
f48 = after f47 1 (set_run f47.store 1 (Works (Makes plan4) (ReadKid 4 First)))

m48 : Moves small f47 (Turns 1 long) (Ok StillRunning) f48
m48 = quiet_turn f47 1 refl refl refl refl

abbrev f49 : Small
f49 = after f48 1 (set_run f48.store 1 (Works (Makes plan4) (ReadKid 4 Second)))

m49 : Moves small f48 (Turns 1 long) (Ok StillRunning) f49
m49 = quiet_turn f48 1 refl refl refl refl

abbrev f50 : Small
f50 = after f49 1 (set_run f49.store 1 (Works (Makes plan4) (ReadKid 4 Third)))

m50 : Moves small f49 (Turns 1 long) (Ok StillRunning) f50
m50 = quiet_turn f49 1 refl refl refl refl

abbrev f51 : Small
f51 = after f50 1 (set_run f50.store 1 (Works (Makes plan4) (Claim 4)))

m51 : Moves small f50 (Turns 1 long) (Ok StillRunning) f51
m51 = quiet_turn f50 1 refl refl refl refl

abbrev f52 : Small
f52 = after f51 1 (set_run (set_count f51.store 4 1) 1 (Works (Makes plan4) (Unlock 4)))

m52 : Moves small f51 (Turns 1 long) (Ok StillRunning) f52
m52 = quiet_turn f51 1 refl refl refl refl

abbrev f53 : Small
f53 = after f52 1 (set_run (set_lock f52.store 4 0) 1 (Works (Makes plan4) (Offer 4)))

m53 : Moves small f52 (Turns 1 long) (Ok StillRunning) f53
m53 = quiet_turn f52 1 refl refl refl refl

abbrev f54 : Small
f54 = record f53 { store = set_run (set_tray f53.store 1 (Holding 4)) 1 (Works (Makes plan4) (CloseTray 4)); notes = upd f53.notes 1 (f53.notes 1); party_order = picking f53.party_order 1 }

m54 : Moves small f53 (Turns 1 long) (Ok StillRunning) f54
m54 = turn refl (record { pick = 1; store_is = refl; info_is = refl; notes_are = refl; node_picks = rests 4 f53.node_order 1 1; party_picks = picks_one 2 f53.party_order 1 1 (omega arith, omega arith) (omega arith) (omega arith) (omega arith, omega arith); tells = refl })

abbrev f55 : Small
f55 = after f54 1 (set_run (set_tray f54.store 1 Closed) 1 (Works (Makes plan4) (WriteData 4)))

m55 : Moves small f54 (Turns 1 long) (Ok StillRunning) f55
m55 = quiet_turn f54 1 refl refl refl refl

abbrev f56 : Small
f56 = record f55 { store = set_run f55.store 1 (Works (Makes plan4) (CountKid 4 First)); info = upd f55.info 4 0; notes = upd f55.notes 1 (f55.notes 1) }

m56 : Moves small f55 (Turns 1 long) (Ok StillRunning) f56
m56 = turn refl (record { pick = 0; store_is = refl; info_is = refl; notes_are = refl; node_picks = rests 4 f55.node_order 1 0; party_picks = rests 2 f55.party_order 1 0; tells = refl })

abbrev f57 : Small
f57 = after f56 1 (set_run (set_count f56.store 1 2) 1 (Works (Makes plan4) (LinkKid 4 First 1)))

m57 : Moves small f56 (Turns 1 long) (Ok StillRunning) f57
m57 = quiet_turn f56 1 refl refl refl refl

abbrev f58 : Small
f58 = after f57 1 (set_run (set_kid f57.store 4 First 1) 1 (Works (Makes plan4) (CountKid 4 Second)))

m58 : Moves small f57 (Turns 1 long) (Ok StillRunning) f58
m58 = quiet_turn f57 1 refl refl refl refl

abbrev f59 : Small
f59 = after f58 1 (set_run (set_count f58.store 2 2) 1 (Works (Makes plan4) (LinkKid 4 Second 2)))

m59 : Moves small f58 (Turns 1 long) (Ok StillRunning) f59
m59 = quiet_turn f58 1 refl refl refl refl

abbrev f60 : Small
f60 = after f59 1 (set_run (set_kid f59.store 4 Second 2) 1 (Works (Makes plan4) (CountKid 4 Third)))

m60 : Moves small f59 (Turns 1 long) (Ok StillRunning) f60
m60 = quiet_turn f59 1 refl refl refl refl

abbrev f61 : Small
f61 = after f60 1 (set_run (set_count f60.store 3 2) 1 (Works (Makes plan4) (LinkKid 4 Third 3)))

m61 : Moves small f60 (Turns 1 long) (Ok StillRunning) f61
m61 = quiet_turn f60 1 refl refl refl refl

abbrev f62 : Small
f62 = after f61 1 (set_run (set_slot (set_kid f61.store 4 Third 3) 1 4 4) 1 Idle)

m62 : Moves small f61 (Turns 1 long) (Ok (Ended (AtNode 4))) f62
m62 = quiet_turn f61 1 refl refl refl refl

abbrev f63 : Small
f63 = with_store small f62 (set_run f62.store 1 (Drops 4))

m63 : Moves small f62 (Begins 1 (AsksCall (Drop 4)) long) (Ok Begun) f63
m63 = call_begun refl refl refl

abbrev f64 : Small
f64 = after f63 1 (set_run (set_slot (set_count f63.store 4 0) 1 4 0) 1 Idle)

m64 : Moves small f63 (Turns 1 long) (Ok (Ended (AtNode 4))) f64
m64 = quiet_turn f63 1 refl refl refl refl

abbrev f65 : Small
f65 = with_store small f64 (set_run f64.store 1 (Works Sweeps LookForNode))

m65 : Moves small f64 (Begins 1 (AsksCall (Sweep)) long) (Ok Begun) f65
m65 = call_begun refl refl refl

c65 : CanExist small f65
c65 = exists_after c0 (more m1 (more m2 (more m3 (more m4 (more m5 (more m6 (more m7 (more m8 (more m9 (more m10 (more m11 (more m12 (more m13 (more m14 (more m15 (more m16 (more m17 (more m18 (more m19 (more m20 (more m21 (more m22 (more m23 (more m24 (more m25 (more m26 (more m27 (more m28 (more m29 (more m30 (more m31 (more m32 (more m33 (more m34 (more m35 (more m36 (more m37 (more m38 (more m39 (more m40 (more m41 (more m42 (more m43 (more m44 (more m45 (more m46 (more m47 (more m48 (more m49 (more m50 (more m51 (more m52 (more m53 (more m54 (more m55 (more m56 (more m57 (more m58 (more m59 (more m60 (more m61 (more m62 (more m63 (more m64 (more m65 still)))))))))))))))))))))))))))))))))))))))))))))))))))))))))))))))))

abbrev f66 : Small
f66 = record f65 { store = set_run f65.store 1 (Works Sweeps (LockNode 4)); notes = upd f65.notes 1 (f65.notes 1); node_order = picking f65.node_order 1 }

m66 : Moves small f65 (Turns 1 long) (Ok StillRunning) f66
m66 = turn refl (record { pick = 4; store_is = refl; info_is = refl; notes_are = refl; node_picks = picks_one 4 f65.node_order 1 4 (omega arith, omega arith) (omega arith) (omega arith) (omega arith, omega arith); party_picks = rests 2 f65.party_order 1 4; tells = refl })

abbrev f67 : Small
f67 = after f66 1 (set_run (set_lock f66.store 4 1) 1 (Works Sweeps (Recheck 4)))

m67 : Moves small f66 (Turns 1 long) (Ok StillRunning) f67
m67 = quiet_turn f66 1 refl refl refl refl

abbrev f68 : Small
f68 = after f67 1 (set_run f67.store 1 (Works Sweeps (ReadKid 4 First)))

m68 : Moves small f67 (Turns 1 long) (Ok StillRunning) f68
m68 = quiet_turn f67 1 refl refl refl refl

abbrev f69 : Small
f69 = after f68 1 (set_run f68.store 1 (Works Sweeps (ClearKid 4 First 1)))

m69 : Moves small f68 (Turns 1 long) (Ok StillRunning) f69
m69 = quiet_turn f68 1 refl refl refl refl

abbrev f70 : Small
f70 = after f69 1 (set_run (set_kid f69.store 4 First 0) 1 (Works Sweeps (UncountKid 4 First 1)))

m70 : Moves small f69 (Turns 1 long) (Ok StillRunning) f70
m70 = quiet_turn f69 1 refl refl refl refl

abbrev f71 : Small
f71 = after f70 1 (set_run (set_count f70.store 1 1) 1 (Works Sweeps (ReadKid 4 Second)))

m71 : Moves small f70 (Turns 1 long) (Ok StillRunning) f71
m71 = quiet_turn f70 1 refl refl refl refl

abbrev f72 : Small
f72 = after f71 1 (set_run f71.store 1 (Works Sweeps (ClearKid 4 Second 2)))

m72 : Moves small f71 (Turns 1 long) (Ok StillRunning) f72
m72 = quiet_turn f71 1 refl refl refl refl

abbrev f73 : Small
f73 = after f72 1 (set_run (set_kid f72.store 4 Second 0) 1 (Works Sweeps (UncountKid 4 Second 2)))

m73 : Moves small f72 (Turns 1 long) (Ok StillRunning) f73
m73 = quiet_turn f72 1 refl refl refl refl

abbrev f74 : Small
f74 = after f73 1 (set_run (set_count f73.store 2 1) 1 (Works Sweeps (ReadKid 4 Third)))

m74 : Moves small f73 (Turns 1 long) (Ok StillRunning) f74
m74 = quiet_turn f73 1 refl refl refl refl

abbrev f75 : Small
f75 = after f74 1 (set_run f74.store 1 (Works Sweeps (ClearKid 4 Third 3)))

m75 : Moves small f74 (Turns 1 long) (Ok StillRunning) f75
m75 = quiet_turn f74 1 refl refl refl refl

abbrev f76 : Small
f76 = after f75 1 (set_run (set_kid f75.store 4 Third 0) 1 (Works Sweeps (UncountKid 4 Third 3)))

m76 : Moves small f75 (Turns 1 long) (Ok StillRunning) f76
m76 = quiet_turn f75 1 refl refl refl refl

abbrev f77 : Small
f77 = after f76 1 (set_run (set_count f76.store 3 1) 1 (Works Sweeps (Claim 4)))

m77 : Moves small f76 (Turns 1 long) (Ok StillRunning) f77
m77 = quiet_turn f76 1 refl refl refl refl

abbrev f78 : Small
f78 = after f77 1 (set_run (set_count f77.store 4 1) 1 (Works Sweeps (Unlock 4)))

m78 : Moves small f77 (Turns 1 long) (Ok StillRunning) f78
m78 = quiet_turn f77 1 refl refl refl refl

abbrev f79 : Small
f79 = after f78 1 (set_run (set_lock f78.store 4 0) 1 (Works Sweeps (Offer 4)))

m79 : Moves small f78 (Turns 1 long) (Ok StillRunning) f79
m79 = quiet_turn f78 1 refl refl refl refl

abbrev f80 : Small
f80 = record f79 { store = set_run f79.store 1 (Works Sweeps (GiveBack 4)); notes = upd f79.notes 1 (f79.notes 1); party_order = picking f79.party_order 1 }

m80 : Moves small f79 (Turns 1 long) (Ok StillRunning) f80
m80 = turn refl (record { pick = 2; store_is = refl; info_is = refl; notes_are = refl; node_picks = rests 4 f79.node_order 1 2; party_picks = picks_one 2 f79.party_order 1 2 (omega arith, omega arith) (omega arith) (omega arith) (omega arith, omega arith); tells = refl })

pub sixteen_is_reached : SixteenIsReached
sixteen_is_reached = (f65, c65, refl, (((Turns 1 long, Ok StillRunning) ∷ (Turns 1 long, Ok StillRunning) ∷ (Turns 1 long, Ok StillRunning) ∷ (Turns 1 long, Ok StillRunning) ∷ (Turns 1 long, Ok StillRunning) ∷ (Turns 1 long, Ok StillRunning) ∷ (Turns 1 long, Ok StillRunning) ∷ (Turns 1 long, Ok StillRunning) ∷ (Turns 1 long, Ok StillRunning) ∷ (Turns 1 long, Ok StillRunning) ∷ (Turns 1 long, Ok StillRunning) ∷ (Turns 1 long, Ok StillRunning) ∷ (Turns 1 long, Ok StillRunning) ∷ (Turns 1 long, Ok StillRunning) ∷ (Turns 1 long, Ok StillRunning) ∷ []), f80, more m66 (more m67 (more m68 (more m69 (more m70 (more m71 (more m72 (more m73 (more m74 (more m75 (more m76 (more m77 (more m78 (more m79 (more m80 still)))))))))))))), refl, refl))
