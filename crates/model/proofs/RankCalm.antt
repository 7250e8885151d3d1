-- Begins, and the steps of calls that are no Make and no Sweep, take nothing and offer nothing.
use Rattle.std.proofs.Common.{◌≡◌, ℕ, ◌+◌, ◌-◌, ◌≤◌, eqb, ◌⊎◌, [], Some, None, Option, sym, refl, ap, ◌∙◌, inl, inr, arith}
use Rattle.std.proofs.lemmas.Bool.{cases_eq, cond_both}
use Rattle.model.specs.Fun.{upd}
use Rattle.model.specs.Types.{Kid, Kids, Place, OpenTray, LookForNode, Job, Makes, Sweeps, ReadNothing, Running, Idle, Reads, GoesDown, Keeps, Drops, Hands, Fetches, TakesOut, Works, WalkReads, WalkGoesDown, Call, Enter, Up, Leave, Read, Down, Keep, Drop, Hand, Fetch, Make, Sweep, Situation}
use Rattle.model.specs.State.{kid_at, Trail, no_trail, along, longer, shorter, Store, set_count, set_inbox, set_slot, set_trail, set_run, last}
use Rattle.model.specs.Begins.{kid_of, started, started_walk}
use Rattle.model.specs.Sound.{on_trail, Sound}
use Rattle.model.specs.Walks.{Notes, resumes, first_unmarked, gone_up, settled_store}
use Rattle.model.proofs.Explicit.{read_on_at, down_to, turn_at}
use Rattle.model.proofs.Sums.{upd_same, upd_other}
use Rattle.model.proofs.Reached.{reached_counts}
use Rattle.model.proofs.Trails.{last_reached}
use Rattle.model.proofs.Rank.{waits}
use Rattle.model.proofs.RankBeside.{Calm}

-- a call that is no Make and no Sweep
abbrev pub NoJob : {D : Type 0} → Running D → Type 0
NoJob r = elim r [ Works j c ↦ ⊥ | _ ↦ Unit {0} ]

pub job_or_none : {D : Type 0} (r : Running D) → ((j : Job D) × ((c : Place) × (r ≡ Works j c))) ⊎ NoJob r
job_or_none (Works j c) = inl (j, (c, refl))
job_or_none _ = inr tt

pub no_job_waits : {D : Type 0} (f : ℕ → ℕ) (r : Running D) → NoJob r → waits f r ≡ 1
no_job_waits f (Works j c) h = absurd h
no_job_waits f _ h = refl

module _ {D : Type 0} (s : Store D) (q : ℕ) (w : waits s.count (s.run q) ≡ 1) where
  run_calm : (u : Store D) (r : Running D) → ((n : ℕ) → s.count n ≡ 0 → u.count n ≡ 0) → u.lock ≡ s.lock → u.tray ≡ s.tray → u.run ≡ s.run → Calm s (set_run u q r) q
  run_calm u r z l t e = record { zeros = z; locks = l; trays = t; runs = λ k d. upd_other u.run q k r d ∙ ap (λ f. f k) e; waiting = w }

  quiet : (r : Running D) → Calm s (set_run s q r) q
  quiet r = run_calm s r (λ n z. z) refl refl refl

  trail_calm : (T : Trail) → Calm s (set_trail s q T) q
  trail_calm T = record { zeros = λ n z. z; locks = refl; trays = refl; runs = λ k d. refl; waiting = w }

  down_calm : (n : ℕ) (r : Running D) → Calm s (set_run (down_to s q n) q r) q
  down_calm n r = cond_both (eqb n 0) s (set_trail s q (longer (s.trail q) n)) (λ u. Calm s (set_run u q r) q) (λ _. quiet r) (λ _. run_calm (set_trail s q (longer (s.trail q) n)) r (λ m z. z) refl refl refl)

  count_calm : (m v n : ℕ) → (s.count m ≡ 0 → v ≡ 0) → s.count n ≡ 0 → upd s.count m v n ≡ 0
  count_calm m v n h z = elim (cases_eq n m) [
    | inl e ↦ ap (upd s.count m v) e ∙ upd_same s.count m v ∙ h (ap s.count (sym e) ∙ z)
    | inr d ↦ upd_other s.count m n v d ∙ z
  ]

  -- a Begin
  pub calm_started : (c : Call D) → Calm s (started c s q) q
  calm_started (Enter i) = trail_calm (along i (s.slot q i) [])
  calm_started Up = trail_calm (shorter (s.trail q))
  calm_started Leave = trail_calm no_trail
  calm_started Read = quiet (Reads ReadNothing)
  calm_started (Down k) = quiet (GoesDown (kid_of k))
  calm_started (Keep i) = quiet (Keeps i)
  calm_started (Drop i) = quiet (Drops i)
  calm_started (Hand i k) = quiet (Hands i k)
  calm_started (Fetch i) = quiet (Fetches i)
  calm_started (Make plan) = quiet (Works (Makes plan) OpenTray)
  calm_started Sweep = quiet (Works Sweeps LookForNode)

  pub calm_started_walk : (i : ℕ) (t : Situation) → Calm s (started_walk i t s q) q
  calm_started_walk i t = run_calm (set_trail s q (along i (s.slot q i) [])) (WalkReads t ReadNothing) (λ n z. z) refl refl refl

  -- a walk that has read its last node
  pub calm_settled : {W : Type 0} (worth : D → Situation → W → W → W → W) (blank : W) (notes : Notes W) (t : Situation) (ks : Kids) → Calm s (settled_store worth blank s notes q t ks) q
  calm_settled worth blank notes t ks = to (first_unmarked notes ks)
    where
      to : (o : Option Kid) → Calm s (elim o [ Some k ↦ set_run s q (WalkGoesDown t k) | None ↦ gone_up worth blank s q t ]) q
      to (Some k) = quiet (WalkGoesDown t k)
      to None = run_calm (set_trail s q (shorter (s.trail q))) (resumes t (shorter (s.trail q))) (λ n z. z) refl refl refl

-- a step of a call that is no Make and no Sweep
module _ {D : Type 0} (N M : ℕ) (s : Store D) (S : Sound N M s) (info : ℕ → D) (q : ℕ) (a : 1 ≤ q) (b : q ≤ N) (x : ℕ) where
  pub calm_turn_at : (r : Running D) → s.run q ≡ r → NoJob r → Calm s (turn_at r s info q x) q
  calm_turn_at Idle e h = record { zeros = λ n z. z; locks = refl; trays = refl; runs = λ k d. refl; waiting = ap (waits s.count) e }
  calm_turn_at (Reads g) e h = quiet s q (ap (waits s.count) e) (read_on_at g (info (last s q)) (s.kids (last s q)) (λ h. Reads h))
  calm_turn_at (GoesDown k) e h = down_calm s q (ap (waits s.count) e) (kid_at (s.kids (last s q)) k) Idle
  calm_turn_at (WalkReads t g) e h = quiet s q (ap (waits s.count) e) (read_on_at g (info (last s q)) (s.kids (last s q)) (λ h. WalkReads t h))
  calm_turn_at (WalkGoesDown t k) e h = down_calm s q (ap (waits s.count) e) (kid_at (s.kids (last s q)) k) (WalkReads t ReadNothing)
  calm_turn_at (Works j c) e h = absurd h
  calm_turn_at (Keeps i) e h =
      let v = last s q in
      let one : 1 ≤ s.count v = reached_counts N M s S.inv v (last_reached N M s S q a b (ap on_trail e)) in
      let w : waits s.count (s.run q) ≡ 1 = ap (waits s.count) e in
      run_calm s q w (set_slot (set_count s v (s.count v + 1)) q i v) Idle (λ n z. count_calm s q w v (s.count v + 1) n (λ y. absurd (omega arith)) z) refl refl refl
  calm_turn_at (Drops i) e h =
      let v = s.slot q i in
      let w : waits s.count (s.run q) ≡ 1 = ap (waits s.count) e in
      run_calm s q w (set_slot (set_count s v (s.count v - 1)) q i 0) Idle (λ n z. count_calm s q w v (s.count v - 1) n (λ y. omega arith) z) refl refl refl
  calm_turn_at (Fetches i) e h =
      let w : waits s.count (s.run q) ≡ 1 = ap (waits s.count) e in
      cond_both (eqb (s.inbox q) 0) (set_run s q Idle) (set_run s q (TakesOut i (s.inbox q))) (λ u. Calm s u q) (λ _. quiet s q w Idle) (λ _. quiet s q w (TakesOut i (s.inbox q)))
  calm_turn_at (Hands i k) e h =
      let w : waits s.count (s.run q) ≡ 1 = ap (waits s.count) e in
      cond_both (eqb (s.inbox k) 0) (set_run (set_slot (set_inbox s k (s.slot q i)) q i 0) q Idle) (set_run s q Idle) (λ u. Calm s u q)
      (λ _. run_calm s q w (set_slot (set_inbox s k (s.slot q i)) q i 0) Idle (λ n z. z) refl refl refl) (λ _. quiet s q w Idle)
  calm_turn_at (TakesOut i v) e h = run_calm s q (ap (waits s.count) e) (set_slot (set_inbox s q 0) q i v) Idle (λ n z. z) refl refl refl
