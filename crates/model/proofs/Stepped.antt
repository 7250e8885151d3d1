-- The step as it is specified is the step place by place; so every step keeps the store sound, whatever is picked.
use Rattle.std.proofs.Common.{◌≡◌, ℕ, ◌≤◌, Bool, true, false, cond, eqb, Some, None, Option, sym, refl, ap, ◌∙◌, subst, inl, inr, true≢false}
use Rattle.std.proofs.lemmas.Bool.{cases_Bool, cond-true, cond-false, ne_eqb}
use Rattle.refusals.specs.declared.Refusal.TheVariants.{NoKid, InboxFull, InboxEmpty}
use Rattle.model.specs.Types.{Ok, Err, Kid, First, Second, Third, Kids, Tray, Closed, Open, Holding, Place, ReadTray, LookForNode, LockNode, Recheck, UnlockAndGoBack, ReadKid, ClearKid, Offer, KeepForOneself, GiveBack, CloseTray, WriteData, CountKid, LinkKid, Plan, Job, Makes, Sweeps, Reading, ReadNothing, ReadData, ReadFirst, ReadSecond, Running, Idle, Reads, GoesDown, Hands, Fetches, TakesOut, Works, WalkReads, WalkGoesDown, Address, Nowhere, CountOf, LockOf, KidOf, DataOf, InboxOf, TrayOf, Word, NoWord, LockWord, KidWord, DataWord, InboxWord, TrayWord, Stays, Fills, Lengthens, Tells, Swept, AtNode, StillRunning, Decision, Situation}
use Rattle.model.specs.State.{kid_at, Trail, no_trail, along, shorter, longer, Store, set_lock, set_inbox, set_tray, set_slot, set_trail, set_run, last}
use Rattle.model.specs.Checks.{is_idle, is_none}
use Rattle.model.specs.Steps.{between, own_address, address, loaded, written, changed, going, ending, ended_by, backward, into_tray, made, after_kid, not_taken, offered, offered_to_oneself, on_tray, from_third, from_second, from_first, onward, decide_place, decide, decision, stepped}
use Rattle.model.specs.Inv.{none, reliance, needs_of, FitJob, Fit, Good, Inv}
use Rattle.model.specs.Sound.{Into, on_trail, opens, TrailAt, Sound}
use Rattle.model.specs.Walks.{Notes, resumes, first_unmarked, gone_up, settled_store}
use Rattle.model.proofs.Explicit
use Rattle.model.proofs.Explicit.{is_open, back, no_taker, self_picked, give_first, give_second, give_third, give_after, at_ReadTray, place_step, turn_at}
use Rattle.model.proofs.Between.{within, is_within}
use Rattle.model.proofs.Sums.{upd_same}
use Rattle.model.proofs.Frames.{upd_all}
use Rattle.model.proofs.Make.{good, quiet, to_back}
use Rattle.model.proofs.Fill.{no_needs}
use Rattle.model.proofs.Turn.{at_rest}
use Rattle.model.proofs.Stays.{Stands}
use Rattle.model.proofs.Trails.{Picks, sound_turn, sound_down, sound_trail, up_trail}

-- where a place looks for a node, a node is picked; where it offers one, a party
abbrev pub PickedAt : ℕ → ℕ → ℕ → Place → Type 0
PickedAt N M x c = elim c [ LookForNode ↦ (1 ≤ x) × (x ≤ M) | Offer n ↦ (1 ≤ x) × (x ≤ N) | _ ↦ Unit {0} ]

abbrev pub Picked : {D : Type 0} → ℕ → ℕ → ℕ → Running D → Type 0
Picked N M x r = elim r [ Works j c ↦ PickedAt N M x c | _ ↦ Unit {0} ]

pub cond_map : {A B : Type 0} (f : A → B) (b : Bool) (x y : A) (u v : B) → f x ≡ u → f y ≡ v → f (cond b x y) ≡ cond b u v
cond_map f true x y u v h k = h
cond_map f false x y u v h k = k

module _ {D : Type 0} (W : Type 0) (N M : ℕ) (s : Store D) (info : ℕ → D) (p x : ℕ) where
  -- what a decision on the word at an address does
  abbrev decided : Address → Decision D W → Store D
  decided a d = set_run (changed (written s a d.word) p d.change) p d.next

  -- the specified step of a call that stands at the given place
  abbrev step_from : Running D → Store D
  step_from r =
      let a = address N M r p x (s.slot p) (last s p) in
      decided a (decide r (loaded s info a) p x (s.slot p) (last s p))

  -- the step of the place c on the word at an address
  abbrev placed : Place → Job D → Address → Store D
  placed c j a = decided a (decide_place c j (loaded s info a) p x (s.slot p))

  into_is : (a : Address) (d e : Decision D W) (t : Tray) → decided a (into_tray t d e) ≡ cond (is_open t) (decided a d) (decided a e)
  into_is a d e Closed = refl
  into_is a d e Open = refl
  into_is a d e (Holding v) = refl

  nothing_written : (a : Address) → written s a NoWord ≡ s
  nothing_written Nowhere = refl
  nothing_written _ = refl

  back_is : (a : Address) (j : Job D) → decided a (backward j NoWord) ≡ set_run s p (back j)
  back_is a (Makes y) = ap (λ t. set_run t p (Works (Makes y) ReadTray)) (nothing_written a)
  back_is a Sweeps = ap (λ t. set_run t p Idle) (nothing_written a)

  not_taken_is : (a : Address) (j : Job D) (n : ℕ) → decided a (not_taken j n) ≡ set_run s p (no_taker j n)
  not_taken_is a (Makes y) n = ap (λ t. set_run t p (Works (Makes y) (KeepForOneself n))) (nothing_written a)
  not_taken_is a Sweeps n = ap (λ t. set_run t p (Works Sweeps (GiveBack n))) (nothing_written a)

  read_tray_is : (j : Job D) (t : Tray) → decided (TrayOf p) (decide_place ReadTray j (TrayWord t) p x (s.slot p)) ≡ set_run s p (at_ReadTray t j)
  read_tray_is j Closed = refl
  read_tray_is j Open = refl
  read_tray_is j (Holding v) = refl

  -- LookForNode, with any pick
  look_is : (j : Job D) → step_from (Works j LookForNode) ≡ cond (between 1 M x) (place_step LookForNode j s p x) (set_run s p (back j))
  look_is j = cond_map (placed LookForNode j) (between 1 M x) (CountOf x) Nowhere (place_step LookForNode j s p x) (set_run s p (back j))
      (cond_map (decided (CountOf x)) (eqb (s.count x) 0) (going NoWord (Works j (LockNode x))) (backward j NoWord) (set_run s p (Works j (LockNode x))) (set_run s p (back j)) refl (back_is (CountOf x) j))
      (back_is Nowhere j)

  to_oneself : (j : Job D) (n : ℕ) → decided (own_address j p n) (offered_to_oneself j n (loaded s info (own_address j p n))) ≡ self_picked j s p n
  to_oneself (Makes y) n = into_is (TrayOf p) (going (TrayWord (Holding n)) (Works (Makes y) (CloseTray n))) (going NoWord (Works (Makes y) (GiveBack n))) (s.tray p)
  to_oneself Sweeps n = refl

  to_other : (j : Job D) (n : ℕ) → decided (TrayOf x) (offered j n x (s.tray x)) ≡ cond (is_open (s.tray x)) (set_run (set_tray s x (Holding n)) p (back j)) (set_run s p (no_taker j n))
  to_other (Makes y) n = into_is (TrayOf x) (going (TrayWord (Holding n)) (Works (Makes y) ReadTray)) (not_taken (Makes y) n) (s.tray x)
  to_other Sweeps n = into_is (TrayOf x) (ending (TrayWord (Holding n)) Stays (Swept n x)) (not_taken Sweeps n) (s.tray x)

  -- Offer, with any pick
  offer_is : (j : Job D) (n : ℕ) → step_from (Works j (Offer n)) ≡ cond (eqb x p) (self_picked j s p n) (cond (between 1 N x) (cond (is_open (s.tray x)) (set_run (set_tray s x (Holding n)) p (back j)) (set_run s p (no_taker j n))) (set_run s p (no_taker j n)))
  offer_is j n = picks (eqb x p)
    where
      looks : Bool → Address
      looks b = cond b (own_address j p n) (cond (between 1 N x) (TrayOf x) Nowhere)

      picks : (b : Bool) → decided (looks b) (cond b (offered_to_oneself j n (loaded s info (looks b))) (on_tray (loaded s info (looks b)) (not_taken j n) (offered j n x)))
          ≡ cond b (self_picked j s p n) (cond (between 1 N x) (cond (is_open (s.tray x)) (set_run (set_tray s x (Holding n)) p (back j)) (set_run s p (no_taker j n))) (set_run s p (no_taker j n)))
      picks true = to_oneself j n
      picks false = cond_map (λ a. decided a (on_tray (loaded s info a) (not_taken j n) (offered j n x))) (between 1 N x) (TrayOf x) Nowhere
          (cond (is_open (s.tray x)) (set_run (set_tray s x (Holding n)) p (back j)) (set_run s p (no_taker j n))) (set_run s p (no_taker j n)) (to_other j n) (not_taken_is Nowhere j n)

  -- a Make's next given kid, or its end, after a word is written
  module _ (y : Plan D) (v : ℕ) (a : Address) (w : Word D) where
    third_is : decided a (from_third y v w) ≡ give_third y (written s a w) p v
    third_is = cond_map (decided a) (eqb y.kids.third 0) (made y v w) (going w (Works (Makes y) (CountKid v Third)))
        (Explicit.made y (written s a w) p v) (set_run (written s a w) p (Works (Makes y) (CountKid v Third))) refl refl

    second_is : decided a (from_second y v w) ≡ give_second y (written s a w) p v
    second_is = cond_map (decided a) (eqb y.kids.second 0) (from_third y v w) (going w (Works (Makes y) (CountKid v Second)))
        (give_third y (written s a w) p v) (set_run (written s a w) p (Works (Makes y) (CountKid v Second))) third_is refl

    first_is : decided a (from_first y v w) ≡ give_first y (written s a w) p v
    first_is = cond_map (decided a) (eqb y.kids.first 0) (from_second y v w) (going w (Works (Makes y) (CountKid v First)))
        (give_second y (written s a w) p v) (set_run (written s a w) p (Works (Makes y) (CountKid v First))) second_is refl

    onward_is : (k : Kid) → decided a (onward y v k w) ≡ give_after y (written s a w) p v k
    onward_is First = second_is
    onward_is Second = third_is
    onward_is Third = refl

  place_is : (c : Place) (j : Job D) → FitJob j c → PickedAt N M x c → step_from (Works j c) ≡ place_step c j s p x
  place_is ReadTray j f h = read_tray_is j (s.tray p)
  place_is LookForNode j f h = look_is j ∙ cond-true (between 1 M x) (place_step LookForNode j s p x) (set_run s p (back j)) (is_within 1 M x h.0 h.1)
  place_is (LockNode n) j f h = cond_map (decided (LockOf n)) (eqb (s.lock n) 0) (going (LockWord p) (Works j (Recheck n))) (backward j NoWord)
      (set_run (set_lock s n p) p (Works j (Recheck n))) (set_run s p (back j)) refl (back_is (LockOf n) j)
  place_is (Recheck n) j f h = cond_map (decided (CountOf n)) (eqb (s.count n) 0) (going NoWord (Works j (ReadKid n First))) (going NoWord (Works j (UnlockAndGoBack n)))
      (set_run s p (Works j (ReadKid n First))) (set_run s p (Works j (UnlockAndGoBack n))) refl refl
  place_is (UnlockAndGoBack n) Sweeps f h = refl
  place_is (ReadKid n k) j f h =
      let w = kid_at (s.kids n) k in
      cond_map (decided (KidOf n k)) (eqb w 0) (going NoWord (Works j (after_kid n k))) (going NoWord (Works j (ClearKid n k w)))
      (set_run s p (Works j (after_kid n k))) (set_run s p (Works j (ClearKid n k w))) refl refl
  place_is (Offer n) j f h =
      let taken = cond (is_open (s.tray x)) (set_run (set_tray s x (Holding n)) p (back j)) (set_run s p (no_taker j n)) in
      offer_is j n ∙ ap (λ t. cond (eqb x p) (self_picked j s p n) t) (cond-true (between 1 N x) taken (set_run s p (no_taker j n)) (is_within 1 N x h.0 h.1))
  place_is (KeepForOneself n) j f h = into_is (TrayOf p) (going (TrayWord (Holding n)) (Works j (CloseTray n))) (going NoWord (Works j (GiveBack n))) (s.tray p)
  place_is (GiveBack n) Sweeps f h = refl
  place_is (WriteData v) (Makes y) f h = first_is y v (DataOf v) (DataWord y.given)
  place_is (LinkKid v k w) (Makes y) f h = onward_is y v (KidOf v k) (KidWord w) k
  place_is (WriteData v) Sweeps f h = absurd f
  place_is (CountKid v k) Sweeps f h = absurd f
  place_is (LinkKid v k w) Sweeps f h = absurd f
  place_is _ j f h = refl

  down_is : (b : Bool) (a : Address) (d e : Decision D W) (t u : Store D) (r : Running D) → decided a d ≡ set_run t p r → decided a e ≡ set_run u p r → decided a (cond b d e) ≡ set_run (cond b t u) p r
  down_is true a d e t u r h k = h
  down_is false a d e t u r h k = k

  from_is : (r : Running D) → is_idle r ≡ false → Fit N r → Picked N M x r → step_from r ≡ turn_at r s info p x
  from_is Idle z f h = absurd (true≢false z)
  from_is (GoesDown k) z f h =
      let c = kid_at (s.kids (last s p)) k in
      down_is (eqb c 0) (KidOf (last s p) k) (ended_by (Err NoKid)) (ending NoWord (Lengthens c) (AtNode c)) s (set_trail s p (longer (s.trail p) c)) Idle refl refl
  from_is (Hands i q) z f h =
      let v = s.slot p i in
      cond_map (decided (InboxOf q)) (eqb (s.inbox q) 0) (ending (InboxWord v) (Fills i 0) (AtNode v)) (ended_by (Err InboxFull)) (set_run (set_slot (set_inbox s q v) p i 0) p Idle) (set_run s p Idle) refl refl
  from_is (Fetches i) z f h =
      let v = s.inbox p in
      cond_map (decided (InboxOf p)) (eqb v 0) (ended_by (Err InboxEmpty)) (going NoWord (TakesOut i v)) (set_run s p Idle) (set_run s p (TakesOut i v)) refl refl
  from_is (Works j c) z f h = place_is c j f.1 h
  from_is (WalkGoesDown t k) z f h =
      let c = kid_at (s.kids (last s p)) k in
      down_is (eqb c 0) (KidOf (last s p) k) (going NoWord (WalkReads t ReadNothing)) (record { word = NoWord; change = Lengthens c; next = WalkReads t ReadNothing; told = Tells (Ok StillRunning) })
      s (set_trail s p (longer (s.trail p) c)) (WalkReads t ReadNothing) refl refl
  from_is (Reads ReadNothing) z f h = refl
  from_is (WalkReads t ReadNothing) z f h = refl
  from_is _ z f h = refl

  -- the specified step is the step place by place
  pub stepped_is : (r : Running D) → s.run p ≡ r → is_idle r ≡ false → Fit N r → Picked N M x r → stepped N M s info p x (decision {W = W} N M s info p x) ≡ turn_at r s info p x
  stepped_is r e z f h = ap step_from e ∙ from_is r z f h

module _ {D : Type 0} (N M : ℕ) (s : Store D) (S : Sound N M s) (p : ℕ) (a : 1 ≤ p) (b : p ≤ N) where
  -- p's call moves on, nothing else changed
  pub sound_move : (r : Running D) → Inv N M (set_run s p r) → (opens r ≡ false → opens (s.run p) ≡ false) → Into r → (needs_of (s.run p)).source ≡ (needs_of r).source → (on_trail r ≡ true → is_none (s.trail p) ≡ false) → Sound N M (set_run s p r)
  sound_move r I o i e u = record {
    inv = I;
    ranked = S.ranked;
    outside = S.outside;
    into = λ q x y. upd_all (λ k f. Into f) s.run p r i q (λ d. S.into q x y);
    shut = λ q x y. upd_all (λ k f. opens f ≡ false → s.tray k ≡ Closed) s.run p r (λ h. S.shut p a b (o h)) q (λ d. S.shut q x y);
    trails = λ q x y. upd_all (λ k f. TrailAt s.kids (s.slot k) (needs_of f).source (s.trail k)) s.run p r (subst (λ v. TrailAt s.kids (s.slot p) v (s.trail p)) e (S.trails p a b)) q (λ d. S.trails q x y);
    standing = λ q x y. upd_all (λ k f. on_trail f ≡ true → is_none (s.trail k) ≡ false) s.run p r u q (λ d. S.standing q x y);
  }

  job_into : (j : Job D) (c : Place) → s.run p ≡ Works j c → Into (Works j c)
  job_into j c e = subst Into e (S.into p a b)

  -- no node was picked
  sound_back : (j : Job D) → s.run p ≡ Works j LookForNode → Sound N M (set_run s p (back j))
  sound_back (Makes y) e = sound_move (back (Makes y)) (to_back N M s S.inv p a b (Makes y) LookForNode e refl (λ m. refl)) (λ h. absurd (true≢false h)) (job_into (Makes y) LookForNode e) (ap (λ f. (needs_of f).source) e) (λ h. absurd (true≢false (sym h)))
  sound_back Sweeps e = sound_move Idle (to_back N M s S.inv p a b Sweeps LookForNode e refl (λ m. refl)) (λ _. ap opens e) tt (ap (λ f. (needs_of f).source) e) (λ h. absurd (true≢false (sym h)))

  -- no party was picked
  sound_no_taker : (j : Job D) (n : ℕ) → s.run p ≡ Works j (Offer n) → Sound N M (set_run s p (no_taker j n))
  sound_no_taker (Makes y) n e =
      let g = good N M s S.inv p a b (Makes y) (Offer n) e in
      sound_move (Works (Makes y) (KeepForOneself n)) (quiet N M s S.inv p a b (Makes y) (Offer n) e (KeepForOneself n) refl (λ m. refl) g.0 g.2.0 tt) (λ h. absurd (true≢false h)) (job_into (Makes y) (Offer n) e) (ap (λ f. (needs_of f).source) e) (λ h. absurd (true≢false (sym h)))
  sound_no_taker Sweeps n e =
      let g = good N M s S.inv p a b Sweeps (Offer n) e in
      sound_move (Works Sweeps (GiveBack n)) (quiet N M s S.inv p a b Sweeps (Offer n) e (GiveBack n) refl (λ m. refl) g.0 g.2.0 tt) (λ _. ap opens e) tt (ap (λ f. (needs_of f).source) e) (λ h. absurd (true≢false (sym h)))

  -- a walk at a place moves on
  sound_walk : (t : Situation) (g : Reading D) → s.run p ≡ WalkReads t g → (r : Running D) → reliance r ≡ none → Good N M s p r → Into r → (needs_of r).source ≡ 0 → Sound N M (set_run s p r)
  sound_walk t g e r cr G i z = sound_move r (at_rest N M s S.inv p a b r (ap reliance e) cr G) (λ _. ap opens e) i (ap (λ f. (needs_of f).source) e ∙ sym z) (λ _. S.standing p a b (ap on_trail e))

  calm : Good N M s p Idle
  calm = no_needs N M s S.inv p a b s

  picks : (x : ℕ) (r : Running D) → s.run p ≡ r → Picked N M x r → Picks N M s S p a b x
  picks x r e h = record { node = λ j u. subst (Picked N M x) (sym e ∙ u) h; party = λ j n u. subst (Picked N M x) (sym e ∙ u) h }

  -- what stepped_is asks of the call, in a sound store
  pub fit_of : (r : Running D) → s.run p ≡ r → Fit N r
  fit_of r e = (subst (Good N M s p) e (S.inv.parties p a b)).2

  module _ (W : Type 0) (info : ℕ → D) (x : ℕ) where
    abbrev After : Running D → Type 0
    After r = Sound N M (step_from W N M s info p x r)

    by_turn : (r : Running D) → s.run p ≡ r → is_idle r ≡ false → Stands r → Picked N M x r → After r
    by_turn r e z h k =
        subst (Sound N M) (sym (from_is W N M s info p x r z (fit_of r e) k))
        (subst (λ f. Stands f → Sound N M (turn_at f s info p x)) e (sound_turn N M s S p a b info x (picks x r e k)) h)

    look_after : (j : Job D) → s.run p ≡ Works j LookForNode → After (Works j LookForNode)
    look_after j e = elim (cases_Bool (between 1 M x)) [
      | inl h ↦ by_turn (Works j LookForNode) e refl tt (within 1 M x h)
      | inr h ↦ subst (Sound N M) (sym (look_is W N M s info p x j ∙ cond-false (between 1 M x) (place_step LookForNode j s p x) (set_run s p (back j)) h)) (sound_back j e)
    ]

    offer_after : (j : Job D) (n : ℕ) → s.run p ≡ Works j (Offer n) → After (Works j (Offer n))
    offer_after j n e =
        let u = set_run s p (no_taker j n) in
        let v = cond (is_open (s.tray x)) (set_run (set_tray s x (Holding n)) p (back j)) u in
        elim (cases_Bool (between 1 N x)) [
          | inl h ↦ by_turn (Works j (Offer n)) e refl tt (within 1 N x h)
          | inr h ↦ subst (Sound N M) (sym (offer_is W N M s info p x j n ∙ cond-false (eqb x p) (self_picked j s p n) (cond (between 1 N x) v u) (ne_eqb x p (λ q. true≢false (sym (subst (λ y. between 1 N y ≡ true) (sym q) (is_within 1 N p a b)) ∙ h))) ∙ cond-false (between 1 N x) v u h)) (sound_no_taker j n e)
        ]

    place_after : (c : Place) (j : Job D) → s.run p ≡ Works j c → After (Works j c)
    place_after LookForNode j e = look_after j e
    place_after (Offer n) j e = offer_after j n e
    place_after c j e = by_turn (Works j c) e refl tt tt

    after : (r : Running D) → s.run p ≡ r → is_idle r ≡ false → After r
    after Idle e z = absurd (true≢false z)
    after (GoesDown k) e z = subst (Sound N M) (sym (from_is W N M s info p x (GoesDown k) z tt tt))
        (sound_down N M s S p a b k Idle (ap on_trail e) (ap reliance e) refl (ap opens e) (ap (λ f. (needs_of f).source) e) calm tt refl)
    after (Works j c) e z = place_after c j e
    after (WalkReads t ReadNothing) e z = sound_walk t ReadNothing e (WalkReads t (ReadData (info (last s p)))) refl calm tt refl
    after (WalkReads t (ReadData d)) e z = sound_walk t (ReadData d) e (WalkReads t (ReadFirst d (s.kids (last s p)).first)) refl calm tt refl
    after (WalkReads t (ReadFirst d i)) e z = sound_walk t (ReadFirst d i) e (WalkReads t (ReadSecond d i (s.kids (last s p)).second)) refl calm tt refl
    after (WalkReads t (ReadSecond d i j)) e z = sound_walk t (ReadSecond d i j) e Idle refl calm tt refl
    after (WalkGoesDown t k) e z = subst (Sound N M) (sym (from_is W N M s info p x (WalkGoesDown t k) z tt tt))
        (sound_down N M s S p a b k (WalkReads t ReadNothing) (ap on_trail e) (ap reliance e) refl (ap opens e) (ap (λ f. (needs_of f).source) e) calm tt refl)
    after c e z = by_turn c e z tt tt

  -- up from the last node
  module _ (t : Situation) (g : Reading D) (e : s.run p ≡ WalkReads t g) where
    resumed : (T : Trail) → Sound N M (set_run s p (resumes t T))
    resumed no_trail = sound_walk t g e Idle refl calm tt refl
    resumed (along i n ns) = sound_walk t g e (WalkReads t ReadNothing) refl calm tt refl

    no_source : (T : Trail) → (needs_of (resumes {D = D} t T)).source ≡ 0
    no_source no_trail = refl
    no_source (along i n ns) = refl

    stands_if_on : (T : Trail) → on_trail (resumes {D = D} t T) ≡ true → is_none T ≡ false
    stands_if_on no_trail h = absurd (true≢false (sym h))
    stands_if_on (along i n ns) h = refl

    sound_up : Sound N M (set_run (set_trail s p (shorter (s.trail p))) p (resumes t (shorter (s.trail p))))
    sound_up =
        let T : Trail = shorter (s.trail p) in
        let r : Running D = resumes t T in
        sound_trail N M (set_run s p r) (resumed T) p a b T
        (subst (λ v. TrailAt s.kids (s.slot p) v T) (ap (λ f. (needs_of f).source) e ∙ sym (no_source T) ∙ ap (λ f. (needs_of f).source) (sym (upd_same s.run p r))) (up_trail N M s S p a b))
        (λ h. stands_if_on T (ap on_trail (sym (upd_same s.run p r)) ∙ h))

-- every step of a running call keeps the store sound, whatever is picked
pub sound_stepped : {D : Type 0} (W : Type 0) (N M : ℕ) (s : Store D) → Sound N M s → (p : ℕ) → 1 ≤ p → p ≤ N → (info : ℕ → D) (x : ℕ) → is_idle (s.run p) ≡ false → Sound N M (stepped N M s info p x (decision {W = W} N M s info p x))
sound_stepped W N M s S p a b info x z = after N M s S p a b W info x (s.run p) refl z

-- a walk that has read its last node goes on, or up, in a sound store
pub sound_settled : {D W : Type 0} (worth : D → Situation → W → W → W → W) (blank : W) (N M : ℕ) (s : Store D) → Sound N M s → (p : ℕ) → 1 ≤ p → p ≤ N → (t : Situation) (d : D) (i j : ℕ) → s.run p ≡ WalkReads t (ReadSecond d i j)
    → (notes : Notes W) (ks : Kids) → Sound N M (settled_store worth blank s notes p t ks)
sound_settled worth blank N M s S p a b t d i j e notes ks = goes (first_unmarked notes ks)
  where
    goes : (o : Option Kid) → Sound N M (elim o [ Some k ↦ set_run s p (WalkGoesDown t k) | None ↦ gone_up worth blank s p t ])
    goes (Some k) = sound_walk N M s S p a b t (ReadSecond d i j) e (WalkGoesDown t k) refl (calm N M s S p a b) tt refl
    goes None = sound_up N M s S p a b t (ReadSecond d i j) e
