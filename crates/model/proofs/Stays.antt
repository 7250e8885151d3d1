-- What a step of a call that is no Down and no walk leaves as it is.
use Rattle.std.proofs.Common.{◌≡◌, ℕ, ◌+◌, ◌-◌, ◌≤◌, true, false, cond, eqb, ◌≢◌, ◌⊎◌, sym, refl, ap, ◌∙◌, subst, inl, inr, true≢false, arith}
use Rattle.std.proofs.lemmas.Bool.{cases_eq, cases_lt, cond_both}
use Rattle.model.specs.Fun.{upd, is}
use Rattle.model.specs.Types.{Kid, First, Tray, Closed, Open, Holding, Place, OpenTray, ReadTray, LookForNode, LockNode, Recheck, UnlockAndGoBack, ReadKid, ClearKid, UncountKid, Claim, Unlock, Offer, KeepForOneself, GiveBack, CloseTray, WriteData, CountKid, LinkKid, Plan, Job, Makes, Sweeps, ReadNothing, ReadData, ReadFirst, ReadSecond, Running, Idle, Reads, GoesDown, Keeps, Drops, Hands, Fetches, TakesOut, Works, WalkReads, WalkGoesDown}
use Rattle.model.specs.State.{kid_at, put_kid, Store, set_count, set_lock, set_kid, set_inbox, set_tray, set_slot, set_run, last}
use Rattle.model.specs.Steps.{after_kid}
use Rattle.model.specs.Reach.{Reached}
use Rattle.model.specs.Inv.{reliance_at, reliance, needs_job, needs_of, carry, Good, Inv}
use Rattle.model.specs.Sound.{Ranked, Outside, Into, on_trail}
use Rattle.model.proofs.Gives.{first_any, after_any}
use Rattle.model.proofs.Explicit.{is_open, back, made, give_first, give_after, at_ReadTray, own_tray, place_step, turn_at}
use Rattle.model.proofs.Sums.{upd_same, upd_other, is_same}
use Rattle.model.proofs.Refs.{carried_at, kids_at}
use Rattle.model.proofs.Make.{good, carry_is}
use Rattle.model.proofs.Reached.{reached_not_empty, reached_not_one, rank_clear, rank_give}

-- a call that neither lengthens a trail nor walks
abbrev pub Stands : {D : Type 0} → Running D → Type 0
Stands (GoesDown k) = ⊥
Stands (WalkReads t g) = ⊥
Stands (WalkGoesDown t k) = ⊥
Stands _ = Unit {0}

pub record Frame {D : Type 0} (N M : ℕ) (s t : Store D) (p : ℕ) : Type 0 where
  pub kept : (n : ℕ) → Reached N s n → (t.kids n ≡ s.kids n)
  pub slots : (q : ℕ) → q ≢ p → t.slot q ≡ s.slot q
  pub own_slots : (i : ℕ) → s.slot p i ≢ 0 → (needs_of (s.run p)).source ≢ i → t.slot p i ≡ s.slot p i
  pub trails : t.trail ≡ s.trail
  pub runs : (q : ℕ) → q ≢ p → t.run q ≡ s.run q
  pub no_source : (needs_of (t.run p)).source ≡ 0
  pub into : Into (t.run p)
  pub on_trail_before : on_trail (t.run p) ≡ true → on_trail (s.run p) ≡ true
  pub ranked : Outside M s.kids → Ranked s.kids → Ranked t.kids
  pub outside : Outside M s.kids → Outside M t.kids

module _ {D : Type 0} (N M : ℕ) (s : Store D) (I : Inv N M s) (p : ℕ) (a : 1 ≤ p) (b : p ≤ N) (A : Into (s.run p)) where
  -- what a store with p's words written has to do with s
  record Near (t : Store D) : Type 0 where
    kept : (n : ℕ) → Reached N s n → (t.kids n ≡ s.kids n)
    slots : t.slot ≡ s.slot
    trails : t.trail ≡ s.trail
    runs : t.run ≡ s.run
    ranked : Outside M s.kids → Ranked s.kids → Ranked t.kids
    outside : Outside M s.kids → Outside M t.kids

  near : (t : Store D) → t.kids ≡ s.kids → t.slot ≡ s.slot → t.trail ≡ s.trail → t.run ≡ s.run → Near t
  near t e1 e3 e4 e5 = record { kept = λ n r. ap (λ f. f n) e1; slots = e3; trails = e4; runs = e5; ranked = λ o R. subst Ranked (sym e1) R; outside = λ o. subst (Outside M) (sym e1) o }

  abbrev Calm : Running D → Type 0
  Calm r = ((needs_of r).source ≡ 0) × (on_trail r ≡ true → on_trail (s.run p) ≡ true)

  calm : ◌≡◌ {A = ℕ} 0 0 × (false ≡ true → on_trail (s.run p) ≡ true)
  calm = (refl, λ h. absurd (true≢false (sym h)))

  to : (t : Store D) (r : Running D) → Near t → Calm r → Into r → Frame N M s (set_run t p r) p
  to t r E z i = record {
    kept = E.kept;
    slots = λ q d. ap (λ f. f q) E.slots;
    own_slots = λ j h d. ap (λ f. f p j) E.slots;
    trails = E.trails;
    runs = λ q d. upd_other t.run p q r d ∙ ap (λ f. f q) E.runs;
    no_source = ap (λ f. (needs_of f).source) (upd_same t.run p r) ∙ z.0;
    on_trail_before = λ h. z.1 (ap on_trail (sym (upd_same t.run p r)) ∙ h);
    into = subst Into (sym (upd_same t.run p r)) i;
    ranked = E.ranked;
    outside = E.outside;
  }

  quiet : (r : Running D) → Calm r → Into r → Frame N M s (set_run s p r) p
  quiet r z i = to s r (near s refl refl refl refl) z i

  -- a slot that is empty, or the source, is written
  to_slot : (t : Store D) (j v : ℕ) → Near t → (s.slot p j ≡ 0) ⊎ ((needs_of (s.run p)).source ≡ j) → Frame N M s (set_run (set_slot t p j v) p Idle) p
  to_slot t j v E h = record {
    kept = E.kept;
    slots = λ q d. upd_other t.slot p q (upd (t.slot p) j v) d ∙ ap (λ f. f q) E.slots;
    own_slots = λ i z d. ap (λ f. f i) (upd_same t.slot p (upd (t.slot p) j v)) ∙ upd_other (t.slot p) j i v (λ e. elim h [
      | inl u ↦ z (ap (s.slot p) e ∙ u)
      | inr u ↦ d (u ∙ sym e)
    ]) ∙ ap (λ f. f p i) E.slots;
    trails = E.trails;
    runs = λ q d. upd_other t.run p q Idle d ∙ ap (λ f. f q) E.runs;
    no_source = ap (λ f. (needs_of f).source) (upd_same t.run p Idle);
    on_trail_before = λ h. absurd (true≢false (sym (ap on_trail (sym (upd_same t.run p Idle)) ∙ h)));
    into = subst Into (sym (upd_same t.run p Idle)) tt;
    ranked = E.ranked;
    outside = E.outside;
  }

  outside_put : (n : ℕ) (k : Kid) (v : ℕ) → 1 ≤ n → n ≤ M → Outside M s.kids → Outside M (upd s.kids n (put_kid (s.kids n) k v))
  outside_put n k v h1 h2 o m i h = ap (λ t. kid_at t i) (upd_other s.kids n m (put_kid (s.kids n) k v) (λ e. elim h [ inl z ↦ omega arith | inr z ↦ omega arith ])) ∙ o m i h

  near_kid : (n : ℕ) (k : Kid) (v : ℕ) → 1 ≤ n → n ≤ M → (Reached N s n → ⊥) → (Outside M s.kids → Ranked s.kids → Ranked (upd s.kids n (put_kid (s.kids n) k v))) → Near (set_kid s n k v)
  near_kid n k v h1 h2 out g = record {
    kept = λ m r. upd_other s.kids n m (put_kid (s.kids n) k v) (λ e. out (subst (Reached N s) e r));
    slots = refl;
    trails = refl;
    runs = refl;
    ranked = g;
    outside = outside_put n k v h1 h2;
  }

  -- the end of a Make, or its next kid
  module _ (x : Plan D) (c : Place) (e : s.run p ≡ Works (Makes x) c) (t : Store D) (v : ℕ) (E : Near t) where
    i1 : 1 ≤ x.slot
    i1 = subst Into e A

    end : Frame N M s (made x t p v) p
    end = to_slot t x.slot v E (inl ((good N M s I p a b (Makes x) c e).1.into_is (let h = i1 in omega arith)).1)

    more_kids : (k : Kid) → Frame N M s (set_run t p (Works (Makes x) (CountKid v k))) p
    more_kids k = to t (Works (Makes x) (CountKid v k)) E calm i1

    frame_first : Frame N M s (give_first x t p v) p
    frame_first = first_any (λ u. Frame N M s u p) x t p v end more_kids

    frame_after : (k : Kid) → Frame N M s (give_after x t p v k) p
    frame_after = after_any (λ u. Frame N M s u p) x t p v end more_kids

  job_source : (j : Job D) → ((needs_job j).source ≡ 0) × (false ≡ true → on_trail (s.run p) ≡ true)
  job_source (Makes x) = calm
  job_source Sweeps = calm

  back_source : (j : Job D) → Calm (back j)
  back_source (Makes x) = calm
  back_source Sweeps = calm

  job_into : (j : Job D) (c d : Place) → s.run p ≡ Works j c → Into (Works j d)
  job_into (Makes x) c d e = subst Into e A
  job_into Sweeps c d e = tt

  back_into : (j : Job D) (c : Place) → s.run p ≡ Works j c → Into (back j)
  back_into (Makes x) c e = subst Into e A
  back_into Sweeps c e = tt

  -- a node held as empty, or as one's own, is out of reach
  pub out_empty : (j : Job D) (c : Place) (n : ℕ) → s.run p ≡ Works j c → (reliance_at c).empty ≡ n → Reached N s n → ⊥
  out_empty j c n e h r = reached_not_empty N M s I n p r a b (ap (λ f. (reliance f).empty) e ∙ h)

  pub out_one : (j : Job D) (c : Place) (n : ℕ) → s.run p ≡ Works j c → (reliance_at c).one ≡ n → Reached N s n → ⊥
  out_one j c n e h r = reached_not_one N M s I n p r a b (ap (λ f. (reliance f).one) e ∙ h)

  -- nothing has v as kid while a Make carries it, and what it gives is another
  lone : (j : Job D) (v : ℕ) (k : Kid) (w : ℕ) → s.run p ≡ Works j (LinkKid v k w) → Outside M s.kids → ((m : ℕ) (i : Kid) → kid_at (s.kids m) i ≢ v) × (v ≢ w)
  lone j v k w e o =
      let g = good N M s I p a b j (LinkKid v k w) e in
      let v1 : 1 ≤ v = g.2.0.0 in
      let one : s.count v ≡ 1 = g.0.one_is (omega arith) in
      let c = I.counts v v1 in
      let u = carried_at N M v s.run p a b in
      let ce : carry (reliance (s.run p)) v ≡ is v v + is w v = ap (λ f. carry (reliance f) v) e ∙ carry_is (reliance_at (LinkKid v k w)) v in
      let sv = is_same v v refl in (
        (λ m i h. elim (cases_eq m 0) [
          | inl z ↦ (let y = o m i (inl z) in omega arith)
          | inr z ↦ elim (cases_lt M m) [
            | inl y ↦ (let y' = o m i (inr y) in omega arith)
            | inr y ↦ (let q = kids_at N M v s.kids m i (omega arith) y h in omega arith)
          ]
        ]),
        λ h. (let sw = is_same w v (sym h) in omega arith),
      )

  frame_place : (x : ℕ) (c : Place) (j : Job D) → s.run p ≡ Works j c → Frame N M s (place_step c j s p x) p
  frame_place x OpenTray j e = to (set_tray s p Open) (Works j ReadTray) (near (set_tray s p Open) refl refl refl refl) (job_source j) (job_into j OpenTray ReadTray e)
  frame_place x ReadTray j e = quiet (at_ReadTray (s.tray p) j) (tray_calm (s.tray p)) (tray_into (s.tray p))
    where
      tray_calm : (t : Tray) → Calm (at_ReadTray t j)
      tray_calm Closed = job_source j
      tray_calm Open = job_source j
      tray_calm (Holding v) = job_source j

      tray_into : (t : Tray) → Into (at_ReadTray t j)
      tray_into Closed = job_into j ReadTray LookForNode e
      tray_into Open = job_into j ReadTray LookForNode e
      tray_into (Holding v) = job_into j ReadTray (CloseTray v) e
  frame_place x LookForNode j e = cond_both (eqb (s.count x) 0) (set_run s p (Works j (LockNode x))) (set_run s p (back j)) (λ u. Frame N M s u p) (λ _. quiet (Works j (LockNode x)) (job_source j) (job_into j LookForNode (LockNode x) e)) (λ _. quiet (back j) (back_source j) (back_into j LookForNode e))
  frame_place x (LockNode n) j e = cond_both (eqb (s.lock n) 0) (set_run (set_lock s n p) p (Works j (Recheck n))) (set_run s p (back j)) (λ u. Frame N M s u p)
      (λ _. to (set_lock s n p) (Works j (Recheck n)) (near (set_lock s n p) refl refl refl refl) (job_source j) (job_into j (LockNode n) (Recheck n) e)) (λ _. quiet (back j) (back_source j) (back_into j (LockNode n) e))
  frame_place x (Recheck n) j e = cond_both (eqb (s.count n) 0) (set_run s p (Works j (ReadKid n First))) (set_run s p (Works j (UnlockAndGoBack n))) (λ u. Frame N M s u p)
      (λ _. quiet (Works j (ReadKid n First)) (job_source j) (job_into j (Recheck n) (ReadKid n First) e)) (λ _. quiet (Works j (UnlockAndGoBack n)) (job_source j) (job_into j (Recheck n) (UnlockAndGoBack n) e))
  frame_place x (UnlockAndGoBack n) j e = to (set_lock s n 0) (back j) (near (set_lock s n 0) refl refl refl refl) (back_source j) (back_into j (UnlockAndGoBack n) e)
  frame_place x (ReadKid n k) j e = cond_both (eqb (kid_at (s.kids n) k) 0) (set_run s p (Works j (after_kid n k))) (set_run s p (Works j (ClearKid n k (kid_at (s.kids n) k)))) (λ u. Frame N M s u p)
      (λ _. quiet (Works j (after_kid n k)) (job_source j) (job_into j (ReadKid n k) (after_kid n k) e)) (λ _. quiet (Works j (ClearKid n k (kid_at (s.kids n) k))) (job_source j) (job_into j (ReadKid n k) (ClearKid n k (kid_at (s.kids n) k)) e))
  frame_place x (ClearKid n k w) j e =
      let g = good N M s I p a b j (ClearKid n k w) e in
      to (set_kid s n k 0) (Works j (UncountKid n k w)) (near_kid n k 0 g.2.0.0 g.0.within (out_empty j (ClearKid n k w) n e refl) (λ o R. rank_clear s.kids n k R)) (job_source j) (job_into j (ClearKid n k w) (UncountKid n k w) e)
  frame_place x (UncountKid n k w) j e = to (set_count s w (s.count w - 1)) (Works j (after_kid n k)) (near (set_count s w (s.count w - 1)) refl refl refl refl) (job_source j) (job_into j (UncountKid n k w) (after_kid n k) e)
  frame_place x (Claim n) j e = to (set_count s n 1) (Works j (Unlock n)) (near (set_count s n 1) refl refl refl refl) (job_source j) (job_into j (Claim n) (Unlock n) e)
  frame_place x (Unlock n) j e = to (set_lock s n 0) (Works j (Offer n)) (near (set_lock s n 0) refl refl refl refl) (job_source j) (job_into j (Unlock n) (Offer n) e)
  frame_place x (Offer n) (Makes y) e = cond_both (eqb x p) (own_tray (Makes y) s p n) (cond (is_open (s.tray x)) (set_run (set_tray s x (Holding n)) p (back (Makes y))) (set_run s p (Works (Makes y) (KeepForOneself n)))) (λ u. Frame N M s u p)
      (λ _. cond_both (is_open (s.tray p)) (set_run (set_tray s p (Holding n)) p (Works (Makes y) (CloseTray n))) (set_run s p (Works (Makes y) (GiveBack n))) (λ u. Frame N M s u p)
      (λ _. to (set_tray s p (Holding n)) (Works (Makes y) (CloseTray n)) (near (set_tray s p (Holding n)) refl refl refl refl) calm (subst Into e A)) (λ _. quiet (Works (Makes y) (GiveBack n)) calm (subst Into e A)))
      (λ _. cond_both (is_open (s.tray x)) (set_run (set_tray s x (Holding n)) p (back (Makes y))) (set_run s p (Works (Makes y) (KeepForOneself n))) (λ u. Frame N M s u p)
      (λ _. to (set_tray s x (Holding n)) (back (Makes y)) (near (set_tray s x (Holding n)) refl refl refl refl) calm (subst Into e A)) (λ _. quiet (Works (Makes y) (KeepForOneself n)) calm (subst Into e A)))
  frame_place x (Offer n) Sweeps e = cond_both (eqb x p) (set_run (set_count s n 0) p Idle) (cond (is_open (s.tray x)) (set_run (set_tray s x (Holding n)) p Idle) (set_run s p (Works Sweeps (GiveBack n)))) (λ u. Frame N M s u p)
      (λ _. to (set_count s n 0) Idle (near (set_count s n 0) refl refl refl refl) calm tt)
      (λ _. cond_both (is_open (s.tray x)) (set_run (set_tray s x (Holding n)) p Idle) (set_run s p (Works Sweeps (GiveBack n))) (λ u. Frame N M s u p)
      (λ _. to (set_tray s x (Holding n)) Idle (near (set_tray s x (Holding n)) refl refl refl refl) calm tt) (λ _. quiet (Works Sweeps (GiveBack n)) calm tt))
  frame_place x (KeepForOneself n) j e = cond_both (is_open (s.tray p)) (set_run (set_tray s p (Holding n)) p (Works j (CloseTray n))) (set_run s p (Works j (GiveBack n))) (λ u. Frame N M s u p)
      (λ _. to (set_tray s p (Holding n)) (Works j (CloseTray n)) (near (set_tray s p (Holding n)) refl refl refl refl) (job_source j) (job_into j (KeepForOneself n) (CloseTray n) e)) (λ _. quiet (Works j (GiveBack n)) (job_source j) (job_into j (KeepForOneself n) (GiveBack n) e))
  frame_place x (GiveBack n) j e = to (set_count s n 0) (back j) (near (set_count s n 0) refl refl refl refl) (back_source j) (back_into j (GiveBack n) e)
  frame_place x (CloseTray v) j e = to (set_tray s p Closed) (Works j (WriteData v)) (near (set_tray s p Closed) refl refl refl refl) (job_source j) (job_into j (CloseTray v) (WriteData v) e)
  frame_place x (WriteData v) (Makes y) e = frame_first y (WriteData v) e s v (near s refl refl refl refl)
  frame_place x (CountKid v k) (Makes y) e =
      let w = s.slot p (kid_at y.kids k) in
      to (set_count s w (s.count w + 1)) (Works (Makes y) (LinkKid v k w)) (near (set_count s w (s.count w + 1)) refl refl refl refl) calm (subst Into e A)
  frame_place x (LinkKid v k w) (Makes y) e =
      let g = good N M s I p a b (Makes y) (LinkKid v k w) e in
      frame_after y (LinkKid v k w) e (set_kid s v k w) v (near_kid v k w g.2.0.0 g.0.within (out_one (Makes y) (LinkKid v k w) v e refl)
      (λ o R. (let l = lone (Makes y) v k w e o in rank_give s.kids v k w l.1 l.0 R))) k
  frame_place x c Sweeps e = absurd (good N M s I p a b Sweeps c e).2.1

  frame_at : (info : ℕ → D) (x : ℕ) (r : Running D) → Stands r → s.run p ≡ r → Frame N M s (turn_at r s info p x) p
  frame_at info x Idle h e = record { kept = λ n r. refl; slots = λ q d. refl; own_slots = λ i z d. refl; trails = refl; runs = λ q d. refl; no_source = ap (λ f. (needs_of f).source) e; into = A; on_trail_before = λ h. h; ranked = λ o R. R; outside = λ o. o }
  frame_at info x (Reads ReadNothing) h e = quiet (Reads (ReadData (info (last s p)))) (refl, λ _. ap on_trail e) tt
  frame_at info x (Reads (ReadData d)) h e = quiet (Reads (ReadFirst d (s.kids (last s p)).first)) (refl, λ _. ap on_trail e) tt
  frame_at info x (Reads (ReadFirst d i)) h e = quiet (Reads (ReadSecond d i (s.kids (last s p)).second)) (refl, λ _. ap on_trail e) tt
  frame_at info x (Reads (ReadSecond d i j)) h e = quiet Idle calm tt
  frame_at info x (Works j c) h e = frame_place x c j e
  frame_at info x (Keeps i) h e =
      let g : Good N M s p (Keeps i) = subst (Good N M s p) e (I.parties p a b) in
      let i1 = g.2 in
      let w = last s p in
      to_slot (set_count s w (s.count w + 1)) i w (near (set_count s w (s.count w + 1)) refl refl refl refl) (inl (g.1.into_is (omega arith)).1)
  frame_at info x (Drops i) h e =
      let w = s.slot p i in
      to_slot (set_count s w (s.count w - 1)) i 0 (near (set_count s w (s.count w - 1)) refl refl refl refl) (inr (ap (λ f. (needs_of f).source) e))
  frame_at info x (Fetches i) h e = cond_both (eqb (s.inbox p) 0) (set_run s p Idle) (set_run s p (TakesOut i (s.inbox p))) (λ u. Frame N M s u p) (λ _. quiet Idle calm tt) (λ _. quiet (TakesOut i (s.inbox p)) calm tt)
  frame_at info x (Hands i q) h e = cond_both (eqb (s.inbox q) 0) (set_run (set_slot (set_inbox s q (s.slot p i)) p i 0) p Idle) (set_run s p Idle) (λ u. Frame N M s u p)
      (λ _. to_slot (set_inbox s q (s.slot p i)) i 0 (near (set_inbox s q (s.slot p i)) refl refl refl refl) (inr (ap (λ f. (needs_of f).source) e))) (λ _. quiet Idle calm tt)
  frame_at info x (TakesOut i v) h e =
      let g : Good N M s p (TakesOut i v) = subst (Good N M s p) e (I.parties p a b) in
      let i1 = g.2.0 in
      to_slot (set_inbox s p 0) i v (near (set_inbox s p 0) refl refl refl refl) (inl (g.1.into_is (omega arith)).1)
  frame_at info x _ h e = absurd h

  pub turn_frame : (info : ℕ → D) (x : ℕ) → Stands (s.run p) → Frame N M s (turn_at (s.run p) s info p x) p
  turn_frame info x h = frame_at info x (s.run p) h refl
