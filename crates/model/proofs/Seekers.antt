-- While a Make seeks a node its tray is not closed: what every Begin and Turn keeps.
use Rattle.std.proofs.Common.{◌≡◌, ℕ, ◌+◌, ◌-◌, ◌≤◌, true, false, cond, eqb, ◌≢◌, [], Some, None, Option, sym, refl, ap, ◌∙◌, subst, inl, inr, true≢false, arith}
use Rattle.std.proofs.lemmas.Bool.{cases_eq, cond_both, eqb-false}
use Rattle.model.specs.Types.{Event, Kid, First, Kids, Tray, Closed, Open, Holding, Place, OpenTray, ReadTray, LookForNode, LockNode, Recheck, UnlockAndGoBack, ReadKid, ClearKid, UncountKid, Claim, Unlock, Offer, KeepForOneself, GiveBack, CloseTray, WriteData, CountKid, LinkKid, Plan, Job, Makes, Sweeps, Reading, ReadNothing, ReadData, ReadFirst, ReadSecond, Running, Idle, Reads, GoesDown, Keeps, Drops, Hands, Fetches, TakesOut, Works, WalkReads, WalkGoesDown, Call, Read, Down, Keep, Drop, Hand, Fetch, Make, Sweep, AsksCall, AsksWalk, Outcome, Told, Tells, Settles, Decision, Situation}
use Rattle.model.specs.State.{kid_at, Trail, no_trail, along, shorter, Store, new_store, set_count, set_lock, set_kid, set_inbox, set_tray, set_slot, set_trail, set_run, last}
use Rattle.model.specs.Steps.{after_kid, decision, stepped}
use Rattle.model.specs.Checks.{is_idle}
use Rattle.model.specs.Begins.{kid_of, started, started_walk}
use Rattle.model.specs.Sound.{opens_at, opens, SeekersOpen}
use Rattle.model.specs.Walks.{Notes, resumes, first_unmarked, gone_up, settled_store}
use Rattle.model.specs.Setting.{Setting}
use Rattle.model.specs.Runs.{System, Steps, moved_as, Moves, begin_refused, call_begun, walk_begun, turn_refused, turn, walk_turn_refused, walk_turn}
use Rattle.model.specs.Existing.{CanExist, new, moved}
use Rattle.model.proofs.Gives.{first_any, after_any}
use Rattle.model.proofs.Explicit.{is_open, back, give_first, give_after, at_ReadTray, own_tray, place_step, read_on_at, down_to, turn_at}
use Rattle.model.proofs.Sums.{upd_same, upd_other}
use Rattle.model.proofs.Begins.{accepted_idle}
use Rattle.model.proofs.Accepted.{turn_passed, walk_turn_passed}
use Rattle.model.proofs.Stays.{Frame, Stands, turn_frame}
use Rattle.model.proofs.Kept.{Kept, existing_kept}
use Rattle.model.proofs.FitsAlways.{step_is}
use Rattle.model.proofs.Rank.{waits}
use Rattle.model.proofs.RankBeside.{Calm, as_it_was, filled, tray_after}
use Rattle.model.proofs.RankCalm.{NoJob, job_or_none, calm_started, calm_started_walk}
use Rattle.model.proofs.TurnSteps.{job_step, calm_step}

open_not_closed : {t : Tray} → t ≡ Open → t ≢ Closed
open_not_closed e z = let u : Open ≡ Closed = sym e ∙ z in let w : ◌≡◌ {A = ℕ} 0 1 = cc in omega arith

holding_not_closed : {t : Tray} (v : ℕ) → t ≡ Holding v → t ≢ Closed
holding_not_closed v e z = let u : Holding v ≡ Closed = sym e ∙ z in let w : ◌≡◌ {A = ℕ} 0 1 = cc in omega arith

-- p's own step of a Make or Sweep
module _ {D : Type 0} (s : Store D) (p x : ℕ) (O : opens (s.run p) ≡ true → s.tray p ≢ Closed) where
  abbrev Ajar : Store D → Type 0
  Ajar t = opens (t.run p) ≡ true → t.tray p ≢ Closed

  shut_run : (u : Store D) (r : Running D) → opens r ≡ false → Ajar (set_run u p r)
  shut_run u r h k = absurd (true≢false (sym k ∙ ap opens (upd_same u.run p r) ∙ h))

  open_run : (u : Store D) (r : Running D) → u.tray p ≢ Closed → Ajar (set_run u p r)
  open_run u r h k = h

  seek_to : (j : Job D) (c : Place) → s.run p ≡ Works j c → opens_at c ≡ true → (u : Store D) (d : Place) → u.tray ≡ s.tray → Ajar (set_run u p (Works j d))
  seek_to (Makes y) c e h u d t = open_run u (Works (Makes y) d) (λ z. O (ap opens e ∙ h) (ap (λ f. f p) (sym t) ∙ z))
  seek_to Sweeps c e h u d t = shut_run u (Works Sweeps d) refl

  seek_back : (j : Job D) (c : Place) → s.run p ≡ Works j c → opens_at c ≡ true → (u : Store D) → u.tray ≡ s.tray → Ajar (set_run u p (back j))
  seek_back (Makes y) c e h u t = open_run u (Works (Makes y) ReadTray) (λ z. O (ap opens e ∙ h) (ap (λ f. f p) (sym t) ∙ z))
  seek_back Sweeps c e h u t = shut_run u Idle refl

  seek_read : (j : Job D) → s.run p ≡ Works j ReadTray → (t : Tray) → Ajar (set_run s p (at_ReadTray t j))
  seek_read j e Closed = seek_to j ReadTray e refl s LookForNode refl
  seek_read j e Open = seek_to j ReadTray e refl s LookForNode refl
  seek_read j e (Holding v) = seek_to j ReadTray e refl s (CloseTray v) refl

  seek_own : (j : Job D) (c : Place) → s.run p ≡ Works j c → opens_at c ≡ true → (n : ℕ) → Ajar (own_tray j s p n)
  seek_own j c e h n = cond_both (is_open (s.tray p)) (set_run (set_tray s p (Holding n)) p (Works j (CloseTray n))) (set_run s p (Works j (GiveBack n))) Ajar
      (λ _. open_run (set_tray s p (Holding n)) (Works j (CloseTray n)) (holding_not_closed n (upd_same s.tray p (Holding n))))
      (λ _. seek_to j c e h s (GiveBack n) refl)

  shut_first : (y : Plan D) (u : Store D) (v : ℕ) → Ajar (give_first y u p v)
  shut_first y u v = first_any Ajar y u p v (shut_run (set_slot u p y.slot v) Idle refl) (λ k. shut_run u (Works (Makes y) (CountKid v k)) refl)

  shut_after : (y : Plan D) (u : Store D) (v : ℕ) (k : Kid) → Ajar (give_after y u p v k)
  shut_after y u v = after_any Ajar y u p v (shut_run (set_slot u p y.slot v) Idle refl) (λ k. shut_run u (Works (Makes y) (CountKid v k)) refl)

  own_ajar : (c : Place) (j : Job D) → s.run p ≡ Works j c → Ajar (place_step c j s p x)
  own_ajar OpenTray j e = open_run (set_tray s p Open) (Works j ReadTray) (open_not_closed (upd_same s.tray p Open))
  own_ajar ReadTray j e = seek_read j e (s.tray p)
  own_ajar LookForNode j e = cond_both (eqb (s.count x) 0) (set_run s p (Works j (LockNode x))) (set_run s p (back j)) Ajar (λ _. seek_to j LookForNode e refl s (LockNode x) refl) (λ _. seek_back j LookForNode e refl s refl)
  own_ajar (LockNode n) j e = cond_both (eqb (s.lock n) 0) (set_run (set_lock s n p) p (Works j (Recheck n))) (set_run s p (back j)) Ajar (λ _. seek_to j (LockNode n) e refl (set_lock s n p) (Recheck n) refl) (λ _. seek_back j (LockNode n) e refl s refl)
  own_ajar (Recheck n) j e = cond_both (eqb (s.count n) 0) (set_run s p (Works j (ReadKid n First))) (set_run s p (Works j (UnlockAndGoBack n))) Ajar (λ _. seek_to j (Recheck n) e refl s (ReadKid n First) refl) (λ _. seek_to j (Recheck n) e refl s (UnlockAndGoBack n) refl)
  own_ajar (UnlockAndGoBack n) j e = seek_back j (UnlockAndGoBack n) e refl (set_lock s n 0) refl
  own_ajar (ReadKid n k) j e = cond_both (eqb (kid_at (s.kids n) k) 0) (set_run s p (Works j (after_kid n k))) (set_run s p (Works j (ClearKid n k (kid_at (s.kids n) k)))) Ajar
      (λ _. seek_to j (ReadKid n k) e refl s (after_kid n k) refl) (λ _. seek_to j (ReadKid n k) e refl s (ClearKid n k (kid_at (s.kids n) k)) refl)
  own_ajar (ClearKid n k w) j e = seek_to j (ClearKid n k w) e refl (set_kid s n k 0) (UncountKid n k w) refl
  own_ajar (UncountKid n k w) j e = seek_to j (UncountKid n k w) e refl (set_count s w (s.count w - 1)) (after_kid n k) refl
  own_ajar (Claim n) j e = seek_to j (Claim n) e refl (set_count s n 1) (Unlock n) refl
  own_ajar (Unlock n) j e = seek_to j (Unlock n) e refl (set_lock s n 0) (Offer n) refl
  own_ajar (Offer n) (Makes y) e = cond_both (eqb x p) (own_tray (Makes y) s p n) (cond (is_open (s.tray x)) (set_run (set_tray s x (Holding n)) p (back (Makes y))) (set_run s p (Works (Makes y) (KeepForOneself n)))) Ajar
      (λ _. seek_own (Makes y) (Offer n) e refl n)
      (λ d. cond_both (is_open (s.tray x)) (set_run (set_tray s x (Holding n)) p (back (Makes y))) (set_run s p (Works (Makes y) (KeepForOneself n))) Ajar
      (λ _. open_run (set_tray s x (Holding n)) (back (Makes y)) (λ z. O (ap opens e) (sym (upd_other s.tray x p (Holding n) (λ k. eqb-false x p d (sym k))) ∙ z)))
      (λ _. seek_to (Makes y) (Offer n) e refl s (KeepForOneself n) refl))
  own_ajar (Offer n) Sweeps e = cond_both (eqb x p) (set_run (set_count s n 0) p Idle) (cond (is_open (s.tray x)) (set_run (set_tray s x (Holding n)) p Idle) (set_run s p (Works Sweeps (GiveBack n)))) Ajar
      (λ _. shut_run (set_count s n 0) Idle refl)
      (λ _. cond_both (is_open (s.tray x)) (set_run (set_tray s x (Holding n)) p Idle) (set_run s p (Works Sweeps (GiveBack n))) Ajar (λ _. shut_run (set_tray s x (Holding n)) Idle refl) (λ _. shut_run s (Works Sweeps (GiveBack n)) refl))
  own_ajar (KeepForOneself n) j e = seek_own j (KeepForOneself n) e refl n
  own_ajar (GiveBack n) j e = seek_back j (GiveBack n) e refl (set_count s n 0) refl
  own_ajar (CloseTray v) (Makes y) e = shut_run (set_tray s p Closed) (Works (Makes y) (WriteData v)) refl
  own_ajar (CloseTray v) Sweeps e = shut_run (set_tray s p Closed) (Works Sweeps (WriteData v)) refl
  own_ajar (WriteData v) (Makes y) e = shut_first y s v
  own_ajar (CountKid v k) (Makes y) e = let w = s.slot p (kid_at y.kids k) in shut_run (set_count s w (s.count w + 1)) (Works (Makes y) (LinkKid v k w)) refl
  own_ajar (LinkKid v k w) (Makes y) e = shut_after y (set_kid s v k w) v k
  own_ajar _ Sweeps e = O

-- a call that is no Make and no Sweep does not become one by a step
module _ {D : Type 0} (s : Store D) (q : ℕ) where
  runs_shut : (u : Store D) (r : Running D) → opens r ≡ false → opens ((set_run u q r).run q) ≡ false
  runs_shut u r h = ap opens (upd_same u.run q r) ∙ h

  read_on_shut : (g : Reading D) (d : D) (ks : Kids) (f : Reading D → Running D) → ((h : Reading D) → opens (f h) ≡ false) → opens (read_on_at g d ks f) ≡ false
  read_on_shut ReadNothing d ks f h = h (ReadData d)
  read_on_shut (ReadData e) d ks f h = h (ReadFirst e ks.first)
  read_on_shut (ReadFirst e i) d ks f h = h (ReadSecond e i ks.second)
  read_on_shut (ReadSecond e i j) d ks f h = refl

  turn_shut : (info : ℕ → D) (x : ℕ) (r : Running D) → s.run q ≡ r → NoJob r → opens ((turn_at r s info q x).run q) ≡ false
  turn_shut info x Idle e h = ap opens e
  turn_shut info x (Reads g) e h = runs_shut s (read_on_at g (info (last s q)) (s.kids (last s q)) (λ y. Reads y)) (read_on_shut g (info (last s q)) (s.kids (last s q)) (λ y. Reads y) (λ y. refl))
  turn_shut info x (GoesDown k) e h = runs_shut (down_to s q (kid_at (s.kids (last s q)) k)) Idle refl
  turn_shut info x (WalkReads t g) e h = runs_shut s (read_on_at g (info (last s q)) (s.kids (last s q)) (λ y. WalkReads t y)) (read_on_shut g (info (last s q)) (s.kids (last s q)) (λ y. WalkReads t y) (λ y. refl))
  turn_shut info x (WalkGoesDown t k) e h = runs_shut (down_to s q (kid_at (s.kids (last s q)) k)) (WalkReads t ReadNothing) refl
  turn_shut info x (Works j c) e h = absurd h
  turn_shut info x (Keeps i) e h = let w = last s q in runs_shut (set_slot (set_count s w (s.count w + 1)) q i w) Idle refl
  turn_shut info x (Drops i) e h = let w = s.slot q i in runs_shut (set_slot (set_count s w (s.count w - 1)) q i 0) Idle refl
  turn_shut info x (Fetches i) e h = cond_both (eqb (s.inbox q) 0) (set_run s q Idle) (set_run s q (TakesOut i (s.inbox q))) (λ t. opens (t.run q) ≡ false) (λ _. runs_shut s Idle refl) (λ _. runs_shut s (TakesOut i (s.inbox q)) refl)
  turn_shut info x (Hands i k) e h = cond_both (eqb (s.inbox k) 0) (set_run (set_slot (set_inbox s k (s.slot q i)) q i 0) q Idle) (set_run s q Idle) (λ t. opens (t.run q) ≡ false)
      (λ _. runs_shut (set_slot (set_inbox s k (s.slot q i)) q i 0) Idle refl) (λ _. runs_shut s Idle refl)
  turn_shut info x (TakesOut i v) e h = runs_shut (set_slot (set_inbox s q 0) q i v) Idle refl

  resumes_shut : (t : Situation) (T : Trail) → opens (resumes {D = D} t T) ≡ false
  resumes_shut t no_trail = refl
  resumes_shut t (along i n ns) = refl

  settled_shut : {W : Type 0} (worth : D → Situation → W → W → W → W) (blank : W) (notes : Notes W) (t : Situation) (ks : Kids) → opens ((settled_store worth blank s notes q t ks).run q) ≡ false
  settled_shut worth blank notes t ks = to (first_unmarked notes ks)
    where
      to : (o : Option Kid) → opens ((elim o as (λ _. Store D) [ Some k ↦ set_run s q (WalkGoesDown t k) | None ↦ gone_up worth blank s q t ]).run q) ≡ false
      to (Some k) = runs_shut s (WalkGoesDown t k) refl
      to None = runs_shut (set_trail s q (shorter (s.trail q))) (resumes t (shorter (s.trail q))) (resumes_shut t (shorter (s.trail q)))

  started_shut : s.run q ≡ Idle → (c : Call D) → opens ((started c s q).run q) ≡ false
  started_shut e Read = runs_shut s (Reads ReadNothing) refl
  started_shut e (Down k) = runs_shut s (GoesDown (kid_of k)) refl
  started_shut e (Keep i) = runs_shut s (Keeps i) refl
  started_shut e (Drop i) = runs_shut s (Drops i) refl
  started_shut e (Hand i k) = runs_shut s (Hands i k) refl
  started_shut e (Fetch i) = runs_shut s (Fetches i) refl
  started_shut e (Make plan) = runs_shut s (Works (Makes plan) OpenTray) refl
  started_shut e Sweep = runs_shut s (Works Sweeps LookForNode) refl
  started_shut e _ = ap opens e

  -- a step that takes nothing and offers nothing
  calm_open : (N : ℕ) (t : Store D) → Calm s t q → opens (t.run q) ≡ false → SeekersOpen N s → SeekersOpen N t
  calm_open N t C h O k ka kb o z = elim (cases_eq k q) [
    | inl e ↦ true≢false (sym o ∙ ap (λ i. opens (t.run i)) e ∙ h)
    | inr d ↦ O k ka kb (ap opens (sym (C.runs k d)) ∙ o) (ap (λ f. f k) (sym C.trays) ∙ z)
  ]

  -- a step of a Make or Sweep
  job_open : (N x : ℕ) (c : Place) (j : Job D) → s.run q ≡ Works j c → 1 ≤ q → q ≤ N → ((k : ℕ) → k ≢ q → (place_step c j s q x).run k ≡ s.run k) → SeekersOpen N s → SeekersOpen N (place_step c j s q x)
  job_open N x c j e a b runs O k ka kb o = elim (cases_eq k q) [
    | inl u ↦ subst (λ i. opens ((place_step c j s q x).run i) ≡ true → (place_step c j s q x).tray i ≢ Closed) (sym u) (own_ajar s q x (O q a b) c j e) o
    | inr d ↦ elim (tray_after s q x k d c j) [
      | as_it_was t h ↦ λ z. O k ka kb (ap opens (sym (runs k d)) ∙ o) (sym t ∙ z)
      | filled v h t ↦ holding_not_closed v t
    ]
  ]

module _ {D W A B : Type 0} (X : Setting D W A B) where
  steps_open : (F G : System D W A B) → Kept X F → (q : ℕ) (o : Outcome D W) → 1 ≤ q → q ≤ X.parties → is_idle (F.store.run q) ≡ false → Steps X F q o G → SeekersOpen X.parties F.store → SeekersOpen X.parties G.store
  steps_open F G K q o a b runs T O = elim (job_or_none (F.store.run q)) [
    | inl h ↦ subst (SeekersOpen X.parties) (sym (job_step X F G K q o a b runs T h.0 h.1.0 h.1.1)) (job_open F.store q X.parties T.pick h.1.0 h.0 h.1.1 a b (framed h.0 h.1.0 h.1.1) O)
    | inr h ↦ calm_open F.store q X.parties G.store (calm_step X F G K q o a b runs T h) (shut h) O
  ]
    where
      framed : (j : Job D) (c : Place) → F.store.run q ≡ Works j c → (k : ℕ) → k ≢ q → (place_step c j F.store q T.pick).run k ≡ F.store.run k
      framed j c e k d =
          let R : Frame X.parties X.nodes F.store (place_step c j F.store q T.pick) q =
          subst (λ r. Stands r → Frame X.parties X.nodes F.store (turn_at r F.store F.info q T.pick) q) e (turn_frame X.parties X.nodes F.store K.sound.inv q a b (K.sound.into q a b) F.info T.pick) tt in
          R.runs k d

      told_shut : (d : Decision D W) (t : Told D W) → opens ((stepped X.parties X.nodes F.store F.info q T.pick d).run q) ≡ false → opens ((moved_as X F q T.pick d t).store.run q) ≡ false
      told_shut d (Tells u) h = h
      told_shut d (Settles n) h = settled_shut F.store q X.worth X.blank (F.notes q) n.situation n.kids

      shut : NoJob (F.store.run q) → opens (G.store.run q) ≡ false
      shut h =
          let d = decision X.parties X.nodes F.store F.info q T.pick in
          ap (λ t. opens (t.run q)) T.store_is ∙ told_shut d d.told
          (ap (λ t. opens (t.run q)) (step_is X F G K q o a b T runs) ∙ turn_shut F.store q F.info T.pick (F.store.run q) refl h)

  -- every Begin and Turn keeps it
  pub seekers_stay_open : {F G : System D W A B} {e : Event D} {o : Outcome D W} → Kept X F → SeekersOpen X.parties F.store → Moves X F e o G → SeekersOpen X.parties G.store
  seekers_stay_open K O (begin_refused r h t g) = subst (λ H. SeekersOpen X.parties H.store) (sym g) O
  seekers_stay_open {F} {G} K O (call_begun {p = q} {c = c} {l = l} h t g) =
      let idle = accepted_idle X.suits X.parties X.nodes F.store q (AsksCall c) l h in
      subst (λ H. SeekersOpen X.parties H.store) (sym g)
      (calm_open F.store q X.parties (started c F.store q) (calm_started F.store q (ap (waits F.store.count) idle) c) (started_shut F.store q idle c) O)
  seekers_stay_open {F} {G} K O (walk_begun {p = q} {w = w} {l = l} s worths h y t g) =
      let idle = accepted_idle X.suits X.parties X.nodes F.store q (AsksWalk w) l h in
      subst (λ H. SeekersOpen X.parties H.store) (sym g)
      (calm_open F.store q X.parties (started_walk w.slot s F.store q) (calm_started_walk F.store q (ap (waits F.store.count) idle) w.slot s)
      (runs_shut F.store q (set_trail F.store q (along w.slot (F.store.slot q w.slot) [])) (WalkReads s ReadNothing) refl) O)
  seekers_stay_open K O (turn_refused r h t g) = subst (λ H. SeekersOpen X.parties H.store) (sym g) O
  seekers_stay_open {F} {G} {o = o} K O (turn {p = q} {l = l} h T) = let u = turn_passed X.parties X.nodes q l (F.store.run q) h in steps_open F G K q o u.0 u.1 u.2 T O
  seekers_stay_open K O (walk_turn_refused r h t g) = subst (λ H. SeekersOpen X.parties H.store) (sym g) O
  seekers_stay_open {F} {G} {o = o} K O (walk_turn {p = q} {l = l} h T) = let u = walk_turn_passed X.parties X.nodes q l (F.store.run q) h in steps_open F G K q o u.0 u.1 u.2 T O

  pub new_seekers_open : (F : System D W A B) → F.store ≡ new_store → SeekersOpen X.parties F.store
  new_seekers_open F e q a b o = absurd (true≢false (sym o ∙ ap (λ t. opens (t.run q)) e))

  -- it holds of every store that can exist
  pub existing_seekers_open : (F : System D W A B) → CanExist X F → SeekersOpen X.parties F.store
  existing_seekers_open F (new n) = new_seekers_open F n.store_is
  existing_seekers_open F (moved {F = E} c m) = seekers_stay_open (existing_kept X E c) (existing_seekers_open E c) m
