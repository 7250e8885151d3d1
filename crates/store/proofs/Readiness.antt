-- In a sound store all that a step needs is there, and a call that is no walk tells its outcome at once.
use Rattle.std.proofs.Common.{Err, Ok, ◌≡◌, ℕ, ◌<◌, ◌≤◌, Bool, true, false, cond, eqb, ◌≢◌, ◌∷◌, sym, refl, ap, ◌∙◌, subst, arith}
use mathlib.Core.Logic.{∥∥₁_elim}
use mathlib.Core.Bool.{Bool-set}
use Rattle.std.proofs.lemmas.Bool.{true≢false, and_from, not_from_false, lt-ltb, ne_eqb, eqb-false, cond_both}
use Rattle.orders.specs.Limits.{last_party, largest_size}
use Rattle.refusals.specs.declared.Refusal.TheVariants.{NoKid, InboxFull, InboxEmpty}
use Rattle.kinds.specs.declared.kids.Kid.{Kid}
use Rattle.model.specs.Types.{Kids, Outcome}
use Rattle.kinds.specs.declared.kids.Kid.TheVariants.{First, Second, Third}
use Rattle.model.specs.declared.tray.Tray.{Tray}
use Rattle.model.specs.declared.tray.Tray.TheVariants.{Closed, Open, Holding}
use Rattle.model.specs.declared.place.Place.{Place}
use Rattle.model.specs.declared.place.Place.TheVariants.{OpenTray, ReadTray, LookForNode, LockNode, Recheck, UnlockAndGoBack, ReadKid, ClearKid, UncountKid, Claim, Unlock, Offer, KeepForOneself, GiveBack, CloseTray, WriteData, CountKid, LinkKid}
use Rattle.model.specs.declared.running.Plan.{Plan}
use Rattle.model.specs.declared.running.Job.{Job}
use Rattle.model.specs.declared.running.Job.TheVariants.{Makes, Sweeps}
use Rattle.model.specs.declared.running.Reading.{Reading}
use Rattle.model.specs.declared.running.Reading.TheVariants.{ReadNothing, ReadData, ReadFirst, ReadSecond}
use Rattle.model.specs.declared.running.Running.{Running}
use Rattle.model.specs.declared.running.Running.TheVariants.{Idle, Reads, GoesDown, Keeps, Drops, Hands, Fetches, TakesOut, Works, WalkReads, WalkGoesDown}
use Rattle.model.specs.declared.outcomes.Answer.TheVariants.{AtNode}
use Rattle.model.specs.declared.outcomes.Progress.TheVariants.{StillRunning}
use Rattle.model.specs.declared.words.Address.{Address}
use Rattle.model.specs.declared.words.Address.TheVariants.{Nowhere, CountOf, TrayOf}
use Rattle.model.specs.declared.words.Word.{Word}
use Rattle.model.specs.declared.words.Word.TheVariants.{NoWord, CountWord, LockWord, KidWord, DataWord, InboxWord}
use Rattle.model.specs.declared.words.Change.TheVariants.{Fills, Lengthens}
use Rattle.model.specs.declared.words.Told.{Told}
use Rattle.model.specs.declared.words.Told.TheVariants.{Tells, Settles}
use Rattle.model.specs.declared.words.Decision.{Decision}
use Rattle.model.specs.State.{kid_at, Trail, no_trail, along, last_of, Store, last}
use Rattle.model.specs.Checks.{last_slot, is_idle, is_walking}
use Rattle.model.specs.Steps.{between, read_address, own_address, address, loaded, looks_at, after_kid, going, ending, ended_by, backward, into_own_tray, not_taken, offered, let_go, offered_to_oneself, on_tray, made, from_third, from_second, from_first, onward, read_on, decide, decision}
use Rattle.model.specs.Reach.{Reached, by_slot}
use Rattle.model.specs.Inv.{reliance_at, reliance, needs_of, carry, FitPlace, FitJob, Good}
use Rattle.model.specs.Sound.{Into, on_trail, TrailAt, Sound}
use Rattle.model.specs.Existing.{trail_length}
use Rattle.model.proofs.Bounds.{few_slots, few_boxes, few_trays, few_carriers, few_kids}
use Rattle.model.proofs.Make.{below}
use Rattle.model.proofs.Paths.{chain_short}
use Rattle.model.proofs.Reached.{reached_held, reached_counts}
use Rattle.model.proofs.Refs.{carried_at, carry_other}
use Rattle.model.proofs.Between.{is_within}
use Rattle.model.proofs.Tells.{TellsAtOnce, IsFourth, tells_at_once}
use Rattle.model.proofs.Trails.{term_low, last_reached}
use Rattle.step.specs.Counting.{largest_count, fits_move, movable}
use Rattle.cells.specs.Ready.{stands, has_room, ready}

-- a count that is not 0 can go down, and one below the largest can go up
can_fall : (D : Type 0) (c : ℕ) → 1 ≤ c → fits_move {D = D} true false (CountWord c) ≡ true
can_fall D c h = and_from _ true (not_from_false (eqb c 0) (ne_eqb c 0 (omega arith))) refl

can_rise : (D : Type 0) (c : ℕ) → c < largest_count → fits_move {D = D} false true (CountWord c) ≡ true
can_rise D c h = not_from_false (eqb c largest_count) (ne_eqb c largest_count (omega arith))

module _ {D : Type 0} (N M : ℕ) (s : Store D) (S : Sound N M s) (p : ℕ) (a : 1 ≤ p) (b : p ≤ N) where
  good_at : (r : Running D) → s.run p ≡ r → Good N M s p r
  good_at r e = subst (Good N M s p) e (S.inv.parties p a b)

  is_party : between 1 N p ≡ true
  is_party = is_within 1 N p a b

  -- a node that is reached is one of the store's
  reached_within : (n : ℕ) → Reached N s n → between 1 M n ≡ true
  reached_within n r = let h = reached_held N M s S.inv r in is_within 1 M n h.pos h.low

  -- no count is as large as a count can be
  count_low : N ≤ last_party → M ≤ largest_size → (n : ℕ) → Reached N s n → s.count n < largest_count
  count_low f g n r =
      omega (arith, S.inv.counts n (reached_held N M s S.inv r).pos, few_slots N n s.slot, few_boxes N n s.inbox, few_trays N n s.tray, few_carriers N n s.run, few_kids M n s.kids)

  -- the last node of the trail, where the running call needs one
  last_at_lem : (r : Running D) → s.run p ≡ r → on_trail r ≡ true → Reached N s (last s p)
  last_at_lem r e h = last_reached N M s S p a b (ap on_trail e ∙ h)

  -- the node that a Drop takes out of its slot
  source_reached : (i : ℕ) → s.run p ≡ Drops i → Reached N s (s.slot p i)
  source_reached i e =
      let g = good_at (Drops i) e in
      let low : 1 ≤ i = g.2 in
      let h = g.1.source_is (omega arith) in
      by_slot p i a b low h.0 refl h.1

  -- the node that a slot gives a Make as a kid
  kid_reached : (y : Plan D) (v : ℕ) (k : Kid) → s.run p ≡ Works (Makes y) (CountKid v k) → Reached N s (s.slot p (kid_at y.kids k))
  kid_reached y v k e =
      let g = good_at (Works (Makes y) (CountKid v k)) e in
      let z : kid_at y.kids k ≢ 0 = g.2.1 in
      let h = g.1.wants_is k z in
      by_slot p (kid_at y.kids k) a b (omega arith) h.0 refl h.1

  -- the kid that is about to be uncounted has a count
  taken_counts : (j : Job D) (n : ℕ) (k : Kid) (w : ℕ) → s.run p ≡ Works j (UncountKid n k w) → 1 ≤ w → 1 ≤ s.count w
  taken_counts j n k w e h =
      let c : 1 ≤ carry (reliance (s.run p)) w = subst (λ t. 1 ≤ carry (reliance t) w) (sym e) (carry_other N M w (reliance_at (UncountKid n k w)) refl) in
      omega (arith, S.inv.counts w h, carried_at N M w s.run p a b)

  -- the slot that a Make fills is one of the party's
  slot_made : (y : Plan D) (c : Place) → s.run p ≡ Works (Makes y) c → between 1 last_slot y.slot ≡ true
  slot_made y c e =
      let low : 1 ≤ y.slot = subst Into e (S.into p a b) in
      is_within 1 last_slot y.slot low ((good_at (Works (Makes y) c) e).1.into_is (omega arith)).0

  -- a trail that can go on to a kid has room for it
  room_down : M ≤ largest_size → (k : Kid) (source : ℕ) (T : Trail) → TrailAt s.kids (s.slot p) source T → kid_at (s.kids (last_of T)) k ≢ 0 → trail_length T < largest_size
  room_down g k source no_trail t z = omega arith
  room_down g k source (along i n ns) t z =
      let root = s.slot p i in
      let h = chain_short s.kids S.ranked M root (kid_at (s.kids n) k) (n ∷ ns) ((k, refl, z), t.0) (term_low N M s S root (by_slot p i a b t.1 t.2 refl t.3)) in
      omega arith

  module _ (j : Job D) (c : Place) (e : s.run p ≡ Works j c) where
    fit_place : FitPlace c
    fit_place = (good_at (Works j c) e).2.0

    fit_job : FitJob j c
    fit_job = (good_at (Works j c) e).2.1

    -- the node that a place works at is one of the store's
    at_node : 1 ≤ (reliance_at c).node → between 1 M (reliance_at c).node ≡ true
    at_node h = is_within 1 M (reliance_at c).node h (good_at (Works j c) e).0.within

  module _ (W : Type 0) where
    -- what is decided leaves room
    abbrev Room : Decision D W → Type 0
    Room d = has_room (s.trail p) d.change ≡ true

    either_room : (c : Bool) (d e : Decision D W) → Room d → Room e → Room (cond c d e)
    either_room c d e h k = cond_both c d e Room (λ _. h) (λ _. k)

    back_room : (j : Job D) (w : Word D) → Room (backward j w)
    back_room (Makes y) w = refl
    back_room Sweeps w = refl

    read_tray_room : (j : Job D) (t : Tray) → Room (elim t as (λ _. Decision D W) [ Holding v ↦ going NoWord (Works j (CloseTray v)) | Closed ↦ going NoWord (Works j LookForNode) | Open ↦ going NoWord (Works j LookForNode) ])
    read_tray_room j Closed = refl
    read_tray_room j Open = refl
    read_tray_room j (Holding v) = refl

    own_tray_room : (j : Job D) (n : ℕ) (t : Tray) → Room (into_own_tray j n t)
    own_tray_room j n Closed = refl
    own_tray_room j n Open = refl
    own_tray_room j n (Holding v) = refl

    not_taken_room : (j : Job D) (n : ℕ) → Room (not_taken j n)
    not_taken_room (Makes y) n = refl
    not_taken_room Sweeps n = refl

    offered_room : (j : Job D) (n x : ℕ) (t : Tray) → Room (offered j n x t)
    offered_room (Makes y) n x Closed = refl
    offered_room (Makes y) n x Open = refl
    offered_room (Makes y) n x (Holding v) = refl
    offered_room Sweeps n x Closed = refl
    offered_room Sweeps n x Open = refl
    offered_room Sweeps n x (Holding v) = refl

    let_go_room : (j : Job D) (n : ℕ) → Room (let_go j n)
    let_go_room (Makes y) n = refl
    let_go_room Sweeps n = refl

    -- a Make goes on to its next given kid, or fills its slot
    module _ (y : Plan D) (h : between 1 last_slot y.slot ≡ true) (v : ℕ) (w : Word D) where
      third_room : Room (from_third y v w)
      third_room = either_room (eqb y.kids.third 0) (made y v w) (going w (Works (Makes y) (CountKid v Third))) h refl

      second_room : Room (from_second y v w)
      second_room = either_room (eqb y.kids.second 0) (from_third y v w) (going w (Works (Makes y) (CountKid v Second))) third_room refl

      first_room : Room (from_first y v w)
      first_room = either_room (eqb y.kids.first 0) (from_second y v w) (going w (Works (Makes y) (CountKid v First))) second_room refl

      onward_room : (k : Kid) → Room (onward y v k w)
      onward_room First = second_room
      onward_room Second = third_room
      onward_room Third = h

    -- down to a kid, or not: d where there is none
    down_room : M ≤ largest_size → (k : Kid) (d e : Decision D W) → Room d → e.change ≡ Lengthens (kid_at (s.kids (last s p)) k) → Room (cond (eqb (kid_at (s.kids (last s p)) k) 0) d e)
    down_room g k d e h u =
        let c = kid_at (s.kids (last s p)) k in
        cond_both (eqb c 0) d e Room (λ _. h)
        (λ z. subst (λ t. has_room (s.trail p) t ≡ true) (sym u) (lt-ltb (trail_length (s.trail p)) largest_size (room_down g k (needs_of (s.run p)).source (s.trail p) (S.trails p a b) (eqb-false c 0 z))))

    module _ (f : N ≤ last_party) (g : M ≤ largest_size) (entries : ℕ) (l : M ≤ entries) (info : ℕ → D) (x : ℕ) where
      -- what the step of r needs besides its party, where it looks at A and decides d
      abbrev Fine : Running D → Address → Decision D W → Type 0
      Fine r A d = (stands N M entries A ≡ true) × (movable r (loaded s info A) ≡ true) × Room d

      abbrev FineAt : Running D → Address → Type 0
      FineAt r A = Fine r A (decide r (loaded s info A) p x (s.slot p) (last s p))

      abbrev ReadyAs : Running D → Type 0
      ReadyAs r = FineAt r (address N M r p x (s.slot p) (last s p))

      -- a reading, of a call or of a walk
      reading_stands : (h : Reading D) (n : ℕ) → Reached N s n → stands N M entries (read_address h n) ≡ true
      reading_stands ReadNothing n r = let u = reached_held N M s S.inv r in is_within 1 entries n u.pos (let v = u.low in omega arith)
      reading_stands (ReadData d) n r = reached_within n r
      reading_stands (ReadFirst d i) n r = reached_within n r
      reading_stands (ReadSecond d i j) n r = reached_within n r

      reading_room : (h : Reading D) (n : ℕ) (on : Reading D → Running D) (done : D → Kids → Decision D W) → ((d : D) (ks : Kids) → Room (done d ks)) → Room (read_on h (loaded s info (read_address h n)) on done)
      reading_room ReadNothing n on done k = refl
      reading_room (ReadData d) n on done k = refl
      reading_room (ReadFirst d i) n on done k = refl
      reading_room (ReadSecond d i j) n on done k = k d (record { first = i; second = j; third = kid_at (s.kids n) Third })

      look_ready : (j : Job D) → ReadyAs (Works j LookForNode)
      look_ready j = cond_both (between 1 M x) (CountOf x) Nowhere (FineAt (Works j LookForNode))
          (λ h. (h, refl, either_room (eqb (s.count x) 0) (going NoWord (Works j (LockNode x))) (backward j NoWord) refl (back_room j NoWord)))
          (λ _. (refl, refl, back_room j NoWord))

      offer_ready : (j : Job D) (n : ℕ) → between 1 M n ≡ true → ReadyAs (Works j (Offer n))
      offer_ready j n h = picks (eqb x p)
        where
          looks : Bool → Address
          looks own = cond own (own_address j p n) (cond (between 1 N x) (TrayOf x) Nowhere)

          to_oneself : (i : Job D) → Fine (Works j (Offer n)) (own_address i p n) (offered_to_oneself i n (loaded s info (own_address i p n)))
          to_oneself (Makes y) = (is_party, refl, own_tray_room (Makes y) n (s.tray p))
          to_oneself Sweeps = (h, refl, refl)

          picks : (own : Bool) → Fine (Works j (Offer n)) (looks own) (cond own (offered_to_oneself j n (loaded s info (looks own))) (on_tray (loaded s info (looks own)) (not_taken j n) (offered j n x)))
          picks true = to_oneself j
          picks false = cond_both (between 1 N x) (TrayOf x) Nowhere (λ A. Fine (Works j (Offer n)) A (on_tray (loaded s info A) (not_taken j n) (offered j n x)))
              (λ k. (k, refl, offered_room j n x (s.tray x))) (λ _. (refl, refl, not_taken_room j n))

      -- each place of a Make or a Sweep
      place_ready : (c : Place) (j : Job D) → s.run p ≡ Works j c → ReadyAs (Works j c)
      place_ready OpenTray j e = (is_party, refl, refl)
      place_ready ReadTray j e = (is_party, refl, read_tray_room j (s.tray p))
      place_ready LookForNode j e = look_ready j
      place_ready (LockNode n) j e =
          (at_node j (LockNode n) e (fit_place j (LockNode n) e), refl, either_room (eqb (s.lock n) 0) (going (LockWord p) (Works j (Recheck n))) (backward j NoWord) refl (back_room j NoWord))
      place_ready (Recheck n) j e =
          (at_node j (Recheck n) e (fit_place j (Recheck n) e), refl, either_room (eqb (s.count n) 0) (going NoWord (Works j (ReadKid n First))) (going NoWord (Works j (UnlockAndGoBack n))) refl refl)
      place_ready (UnlockAndGoBack n) j e = (at_node j (UnlockAndGoBack n) e (fit_place j (UnlockAndGoBack n) e), refl, back_room j (LockWord 0))
      place_ready (ReadKid n k) j e =
          let v = kid_at (s.kids n) k in
          (at_node j (ReadKid n k) e (fit_place j (ReadKid n k) e), refl, either_room (eqb v 0) (going NoWord (Works j (after_kid n k))) (going NoWord (Works j (ClearKid n k v))) refl refl)
      place_ready (ClearKid n k w) j e = (at_node j (ClearKid n k w) e (fit_place j (ClearKid n k w) e).0, refl, refl)
      place_ready (UncountKid n k w) j e =
          let low = (fit_place j (UncountKid n k w) e).1 in
          let h = taken_counts j n k w e low in
          (is_within 1 M w low (below N M s S.inv p a b w low h), can_fall D (s.count w) h, refl)
      place_ready (Claim n) j e = (at_node j (Claim n) e (fit_place j (Claim n) e), refl, refl)
      place_ready (Unlock n) j e = (at_node j (Unlock n) e (fit_place j (Unlock n) e), refl, refl)
      place_ready (Offer n) j e = offer_ready j n (at_node j (Offer n) e (fit_place j (Offer n) e))
      place_ready (KeepForOneself n) j e = (is_party, refl, own_tray_room j n (s.tray p))
      place_ready (GiveBack n) j e = (at_node j (GiveBack n) e (fit_place j (GiveBack n) e), refl, let_go_room j n)
      place_ready (CloseTray v) j e = (is_party, refl, refl)
      place_ready (WriteData v) (Makes y) e =
          let h = good_at (Works (Makes y) (WriteData v)) e in
          (is_within 1 entries v h.2.0 (let k = h.0.within in omega arith), refl, first_room y (slot_made y (WriteData v) e) v (DataWord y.given))
      place_ready (WriteData v) Sweeps e = absurd (fit_job Sweeps (WriteData v) e)
      place_ready (CountKid v k) (Makes y) e =
          let w = s.slot p (kid_at y.kids k) in
          let h = kid_reached y v k e in
          (reached_within w h, can_rise D (s.count w) (count_low f g w h), refl)
      place_ready (CountKid v k) Sweeps e = absurd (fit_job Sweeps (CountKid v k) e)
      place_ready (LinkKid v k w) (Makes y) e = (at_node (Makes y) (LinkKid v k w) e (fit_place (Makes y) (LinkKid v k w) e).0, refl, onward_room y (slot_made y (LinkKid v k w) e) v (KidWord w) k)
      place_ready (LinkKid v k w) Sweeps e = absurd (fit_job Sweeps (LinkKid v k w) e)

      run_ready : (r : Running D) → s.run p ≡ r → ReadyAs r
      run_ready Idle e = (refl, refl, refl)
      run_ready (Reads h) e = (reading_stands h (last s p) (last_at_lem (Reads h) e refl), refl, reading_room h (last s p) _ _ (λ d ks. refl))
      run_ready (GoesDown k) e =
          let c = kid_at (s.kids (last s p)) k in
          (reached_within (last s p) (last_at_lem (GoesDown k) e refl), refl, down_room g k (ended_by (Err NoKid)) (ending NoWord (Lengthens c) (AtNode c)) refl refl)
      run_ready (Keeps i) e =
          let h = last_at_lem (Keeps i) e refl in
          let u = good_at (Keeps i) e in
          let low : 1 ≤ i = u.2 in
          (reached_within (last s p) h, can_rise D (s.count (last s p)) (count_low f g (last s p) h), is_within 1 last_slot i low (u.1.into_is (omega arith)).0)
      run_ready (Drops i) e =
          let n = s.slot p i in
          let h = source_reached i e in
          let u = good_at (Drops i) e in
          let low : 1 ≤ i = u.2 in
          (reached_within n h, can_fall D (s.count n) (reached_counts N M s S.inv n h), is_within 1 last_slot i low (u.1.source_is (omega arith)).0)
      run_ready (Hands i q) e =
          let n = s.slot p i in
          let u = good_at (Hands i q) e in
          let low : 1 ≤ i = u.2.0 in
          let slot = is_within 1 last_slot i low (u.1.source_is (omega arith)).0 in
          (is_within 1 N q u.2.1 u.2.2, refl, either_room (eqb (s.inbox q) 0) (ending (InboxWord n) (Fills i 0) (AtNode n)) (ended_by (Err InboxFull)) slot refl)
      run_ready (Fetches i) e = (is_party, refl, either_room (eqb (s.inbox p) 0) (ended_by (Err InboxEmpty)) (going NoWord (TakesOut i (s.inbox p))) refl refl)
      run_ready (TakesOut i v) e =
          let u = good_at (TakesOut i v) e in
          let low : 1 ≤ i = u.2.0 in
          (is_party, refl, is_within 1 last_slot i low (u.1.into_is (omega arith)).0)
      run_ready (Works j c) e = place_ready c j e
      run_ready (WalkReads t h) e = (reading_stands h (last s p) (last_at_lem (WalkReads t h) e refl), refl, reading_room h (last s p) _ _ (λ d ks. refl))
      run_ready (WalkGoesDown t k) e =
          let n = kid_at (s.kids (last s p)) k in
          let on = WalkReads t ReadNothing in
          (reached_within (last s p) (last_at_lem (WalkGoesDown t k) e refl), refl, down_room g k (going NoWord on) (record { word = NoWord; change = Lengthens n; next = on; told = Tells (Ok StillRunning) }) refl refl)

-- in a sound store each step of a running call finds what it needs
pub sound_ready : {D : Type 0} (W : Type 0) (N M : ℕ) (s : Store D) → Sound N M s → (p : ℕ) → 1 ≤ p → p ≤ N → N ≤ last_party → M ≤ largest_size → (entries : ℕ) → M ≤ entries
    → (info : ℕ → D) (x : ℕ) → is_idle (s.run p) ≡ false → ready N M entries s info p x (decision {W = W} N M s info p x) ≡ true
sound_ready W N M s S p a b f g entries l info x z =
    let h = run_ready N M s S p a b W f g entries l info x (s.run p) refl in
    and_from _ _ (is_within 1 N p a b) (and_from _ _ h.0 (and_from _ _ h.1 h.2))

-- the same where no more is known than that the store is sound
pub ready_when_sound : {D : Type 0} (W : Type 0) (N M : ℕ) (s : Store D) → ∥ Sound N M s ∥₁ → (p : ℕ) → 1 ≤ p → p ≤ N → N ≤ last_party → M ≤ largest_size → (entries : ℕ) → M ≤ entries
    → (info : ℕ → D) (x : ℕ) → is_idle (s.run p) ≡ false → ready N M entries s info p x (decision {W = W} N M s info p x) ≡ true
ready_when_sound W N M s t p a b f g entries l info x z =
    ∥∥₁_elim t (Bool-set (ready N M entries s info p x (decision {W = W} N M s info p x)) true) (λ S. sound_ready W N M s S p a b f g entries l info x z)

-- no step of a call is a walk's fourth reading
not_fourth : {D : Type 0} (r : Running D) → is_walking r ≡ false → IsFourth r → ⊥
not_fourth (WalkReads t g) h z = true≢false h
not_fourth _ h z = z

told_outcome : {D W : Type 0} (t : Told D W) → TellsAtOnce t → (o : Outcome D W) × (t ≡ Tells o)
told_outcome (Tells o) h = (o, refl)
told_outcome (Settles read) h = absurd h

-- a step of a call that is no walk tells an outcome
pub told_at_once : {D : Type 0} (W : Type 0) (N M : ℕ) (s : Store D) (info : ℕ → D) (p x : ℕ) → is_walking (s.run p) ≡ false → (o : Outcome D W) × ((decision {W = W} N M s info p x).told ≡ Tells o)
told_at_once W N M s info p x h = told_outcome (decision {W = W} N M s info p x).told
    (tells_at_once W (s.run p) (loaded s info (looks_at N M s p x)) p x (s.slot p) (last s p) (not_fourth (s.run p) h))
