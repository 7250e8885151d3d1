-- What a step does to the store, place by place: the form that the proofs go by.
use Rattle.std.proofs.Common.{ℕ, ◌+◌, ◌-◌, Bool, true, false, cond, eqb}
use Rattle.model.specs.Types.{Kid, First, Second, Third, Kids, Tray, Closed, Open, Holding, Place, OpenTray, ReadTray, LookForNode, LockNode, Recheck, UnlockAndGoBack, ReadKid, ClearKid, UncountKid, Claim, Unlock, Offer, KeepForOneself, GiveBack, CloseTray, WriteData, CountKid, LinkKid, Plan, Job, Makes, Sweeps, Reading, ReadNothing, ReadData, ReadFirst, ReadSecond, Running, Idle, Reads, GoesDown, Keeps, Drops, Hands, Fetches, TakesOut, Works, WalkReads, WalkGoesDown}
use Rattle.model.specs.State.{kid_at, longer, Store, set_count, set_lock, set_kid, set_inbox, set_tray, set_slot, set_trail, set_run, last}
use Rattle.model.specs.Steps.{after_kid}

abbrev pub is_open : Tray → Bool
is_open Closed = false
is_open Open = true
is_open (Holding v) = false

module _ {D : Type 0} where
  -- where a Make goes back to its tray, a Sweep ends
  abbrev pub back : Job D → Running D
  back (Makes a) = Works (Makes a) ReadTray
  back Sweeps = Idle

  -- the last step of a Make fills the slot
  abbrev pub made : Plan D → Store D → ℕ → ℕ → Store D
  made a s p v = set_run (set_slot s p a.slot v) p Idle

  abbrev pub give_third : Plan D → Store D → ℕ → ℕ → Store D
  give_third a s p v = cond (eqb a.kids.third 0) (made a s p v) (set_run s p (Works (Makes a) (CountKid v Third)))

  abbrev pub give_second : Plan D → Store D → ℕ → ℕ → Store D
  give_second a s p v = cond (eqb a.kids.second 0) (give_third a s p v) (set_run s p (Works (Makes a) (CountKid v Second)))

  abbrev pub give_first : Plan D → Store D → ℕ → ℕ → Store D
  give_first a s p v = cond (eqb a.kids.first 0) (give_second a s p v) (set_run s p (Works (Makes a) (CountKid v First)))

  abbrev pub give_after : Plan D → Store D → ℕ → ℕ → Kid → Store D
  give_after a s p v First = give_second a s p v
  give_after a s p v Second = give_third a s p v
  give_after a s p v Third = made a s p v

  abbrev pub at_ReadTray : Tray → Job D → Running D
  at_ReadTray Closed j = Works j LookForNode
  at_ReadTray Open j = Works j LookForNode
  at_ReadTray (Holding v) j = Works j (CloseTray v)

  abbrev pub no_taker : Job D → ℕ → Running D
  no_taker (Makes a) n = Works (Makes a) (KeepForOneself n)
  no_taker Sweeps n = Works Sweeps (GiveBack n)

  abbrev pub own_tray : Job D → Store D → ℕ → ℕ → Store D
  own_tray j s p n = cond (is_open (s.tray p)) (set_run (set_tray s p (Holding n)) p (Works j (CloseTray n))) (set_run s p (Works j (GiveBack n)))

  abbrev pub let_go_at : Job D → Store D → ℕ → ℕ → Store D
  let_go_at j s p n = set_run (set_count s n 0) p (back j)

  abbrev pub self_picked : Job D → Store D → ℕ → ℕ → Store D
  self_picked (Makes a) s p n = own_tray (Makes a) s p n
  self_picked Sweeps s p n = let_go_at Sweeps s p n

  abbrev pub writes : Job D → Store D → ℕ → ℕ → Store D
  writes (Makes a) s p v = give_first a s p v
  writes Sweeps s p v = s

  abbrev pub gives : Job D → Store D → ℕ → ℕ → Kid → Store D
  gives (Makes a) s p v k =
      let w = s.slot p (kid_at a.kids k) in
      set_run (set_count s w (s.count w + 1)) p (Works (Makes a) (LinkKid v k w))
  gives Sweeps s p v k = s

  abbrev pub gave : Job D → Store D → ℕ → ℕ → Kid → ℕ → Store D
  gave (Makes a) s p v k w = give_after a (set_kid s v k w) p v k
  gave Sweeps s p v k w = s

  abbrev pub place_step : Place → Job D → Store D → ℕ → ℕ → Store D
  place_step OpenTray j s p x = set_run (set_tray s p Open) p (Works j ReadTray)
  place_step ReadTray j s p x = set_run s p (at_ReadTray (s.tray p) j)
  place_step LookForNode j s p x = cond (eqb (s.count x) 0) (set_run s p (Works j (LockNode x))) (set_run s p (back j))
  place_step (LockNode n) j s p x = cond (eqb (s.lock n) 0) (set_run (set_lock s n p) p (Works j (Recheck n))) (set_run s p (back j))
  place_step (Recheck n) j s p x = cond (eqb (s.count n) 0) (set_run s p (Works j (ReadKid n First))) (set_run s p (Works j (UnlockAndGoBack n)))
  place_step (UnlockAndGoBack n) j s p x = set_run (set_lock s n 0) p (back j)
  place_step (ReadKid n k) j s p x =
      let w = kid_at (s.kids n) k in
      cond (eqb w 0) (set_run s p (Works j (after_kid n k))) (set_run s p (Works j (ClearKid n k w)))
  place_step (ClearKid n k w) j s p x = set_run (set_kid s n k 0) p (Works j (UncountKid n k w))
  place_step (UncountKid n k w) j s p x = set_run (set_count s w (s.count w - 1)) p (Works j (after_kid n k))
  place_step (Claim n) j s p x = set_run (set_count s n 1) p (Works j (Unlock n))
  place_step (Unlock n) j s p x = set_run (set_lock s n 0) p (Works j (Offer n))
  place_step (Offer n) j s p x =
      cond (eqb x p) (self_picked j s p n)
      (cond (is_open (s.tray x)) (set_run (set_tray s x (Holding n)) p (back j)) (set_run s p (no_taker j n)))
  place_step (KeepForOneself n) j s p x = own_tray j s p n
  place_step (GiveBack n) j s p x = let_go_at j s p n
  place_step (CloseTray v) j s p x = set_run (set_tray s p Closed) p (Works j (WriteData v))
  place_step (WriteData v) j s p x = writes j s p v
  place_step (CountKid v k) j s p x = gives j s p v k
  place_step (LinkKid v k w) j s p x = gave j s p v k w

  -- a Read's next place; the fourth reading ends it
  abbrev pub read_on_at : Reading D → D → Kids → (Reading D → Running D) → Running D
  read_on_at ReadNothing d ks f = f (ReadData d)
  read_on_at (ReadData e) d ks f = f (ReadFirst e ks.first)
  read_on_at (ReadFirst e i) d ks f = f (ReadSecond e i ks.second)
  read_on_at (ReadSecond e i j) d ks f = Idle

  -- the trail goes on to a kid, unless there is none
  abbrev pub down_to : Store D → ℕ → ℕ → Store D
  down_to s p n = cond (eqb n 0) s (set_trail s p (longer (s.trail p) n))

  -- a step of the party p, whose call stands at the given place
  abbrev pub turn_at : Running D → Store D → (ℕ → D) → ℕ → ℕ → Store D
  turn_at Idle s info p x = s
  turn_at (Works j c) s info p x = place_step c j s p x
  turn_at (Reads g) s info p x = set_run s p (read_on_at g (info (last s p)) (s.kids (last s p)) (λ h. Reads h))
  turn_at (GoesDown k) s info p x = set_run (down_to s p (kid_at (s.kids (last s p)) k)) p Idle
  turn_at (WalkReads t g) s info p x = set_run s p (read_on_at g (info (last s p)) (s.kids (last s p)) (λ h. WalkReads t h))
  turn_at (WalkGoesDown t k) s info p x = set_run (down_to s p (kid_at (s.kids (last s p)) k)) p (WalkReads t ReadNothing)
  turn_at (Keeps i) s info p x =
      let w = last s p in
      set_run (set_slot (set_count s w (s.count w + 1)) p i w) p Idle
  turn_at (Drops i) s info p x =
      let w = s.slot p i in
      set_run (set_slot (set_count s w (s.count w - 1)) p i 0) p Idle
  turn_at (Fetches i) s info p x = cond (eqb (s.inbox p) 0) (set_run s p Idle) (set_run s p (TakesOut i (s.inbox p)))
  turn_at (Hands i q) s info p x =
      cond (eqb (s.inbox q) 0) (set_run (set_slot (set_inbox s q (s.slot p i)) p i 0) p Idle) (set_run s p Idle)
  turn_at (TakesOut i v) s info p x = set_run (set_slot (set_inbox s p 0) p i v) p Idle
