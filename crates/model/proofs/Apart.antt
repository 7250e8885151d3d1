-- What one party's Begin or Turn leaves of another: its slots, trail, running call and notes, and all that it relies on.
use Rattle.std.proofs.Common.{◌≡◌, ℕ, ◌≤◌, true, false, eqb, ◌≢◌, [], Some, None, sym, refl, ap, ◌∙◌, subst, inl, inr}
use Rattle.std.proofs.lemmas.Bool.{cond_both}
use Rattle.model.specs.Fun.{upd}
use Rattle.model.specs.Types.{Kids, OpenTray, LookForNode, Makes, Sweeps, ReadNothing, ReadData, ReadFirst, ReadSecond, Running, Idle, Reads, GoesDown, Keeps, Drops, Hands, Fetches, TakesOut, Works, WalkReads, WalkGoesDown, Call, Enter, Up, Leave, Read, Down, Keep, Drop, Hand, Fetch, Make, Sweep, Asked, AsksCall, AsksWalk, Outcome, Told, Tells, Settles, Decision, Situation}
use Rattle.model.specs.State.{kid_at, Trail, no_trail, along, shorter, longer, last_of, set_trail, set_run, last}
use Rattle.model.specs.Steps.{decision, stepped, data_after}
use Rattle.model.specs.Begins.{kid_of, started, started_walk}
use Rattle.model.specs.Walks.{Notes, first_unmarked, gone_up, resumes, settled_store}
use Rattle.model.specs.Reach.{by_slot, Reached, InTerm}
use Rattle.model.specs.Inv.{reliance, needs_of}
use Rattle.model.specs.Sound.{on_trail, TrailAt, Sound}
use Rattle.model.specs.Setting.{Setting}
use Rattle.model.specs.Plain.{Plain, Ask, WorksOut}
use Rattle.model.specs.Runs.{System, moved_as, Steps, with_store, with_walk}
use Rattle.model.specs.Opened.{OnTrail, ReadSoFar, Agrees, AskedFor, WalkSoFar, WalkAsked, Underway}
use Rattle.model.proofs.Explicit.{down_to, turn_at}
use Rattle.model.proofs.Sums.{upd_other}
use Rattle.model.proofs.Make.{good}
use Rattle.model.proofs.Stays.{Stands, Frame, turn_frame}
use Rattle.model.proofs.Trails.{last_reached, term_reached}
use Rattle.model.proofs.Fitting.{StepIs, data_at, data_after_lem, written_kept, unseen}
use Rattle.model.proofs.Faults.{fault_same}
use Rattle.model.proofs.Follow.{shown, having}
use Rattle.model.proofs.Worths.{SameTerm, term_there, worth_there}

module _ {D W A B : Type 0} (X : Setting D W A B) where
  -- what another party does to what q sees
  pub record Apart (F G : System D W A B) (q : ℕ) : Type 0 where
    pub kept : (n : ℕ) → Reached X.parties F.store n → (G.store.kids n ≡ F.store.kids n) × (G.info n ≡ F.info n)
    pub own_info : (v : ℕ) → 1 ≤ q → q ≤ X.parties → 1 ≤ v → (reliance (F.store.run q)).one ≡ v → G.info v ≡ F.info v
    pub slot : G.store.slot q ≡ F.store.slot q
    pub trail : G.store.trail q ≡ F.store.trail q
    pub run : G.store.run q ≡ F.store.run q
    pub notes : G.notes q ≡ F.notes q

  module _ (F : System D W A B) (p q : ℕ) (ne : q ≢ p) where
    apart_along : (H G : System D W A B) → G.store ≡ H.store → G.info ≡ H.info → G.notes q ≡ H.notes q → Apart F H q → Apart F G q
    apart_along H G es ei en Q = record {
      kept = λ n r. (ap (λ s. s.kids n) es ∙ (Q.kept n r).0, ap (λ f. f n) ei ∙ (Q.kept n r).1);
      own_info = λ v h1 h2 h3 e. ap (λ f. f v) ei ∙ Q.own_info v h1 h2 h3 e;
      slot = ap (λ s. s.slot q) es ∙ Q.slot;
      trail = ap (λ s. s.trail q) es ∙ Q.trail;
      run = ap (λ s. s.run q) es ∙ Q.run;
      notes = en ∙ Q.notes;
    }

    apart_run : (r : Running D) → Apart F (having X F (set_run F.store p r) F.info) q
    apart_run r = record { kept = λ n r. (refl, refl); own_info = λ v h1 h2 h3 e. refl; slot = refl; trail = refl; run = upd_other F.store.run p q r ne; notes = refl }

    apart_trail : (T : Trail) → Apart F (having X F (set_trail F.store p T) F.info) q
    apart_trail T = record { kept = λ n r. (refl, refl); own_info = λ v h1 h2 h3 e. refl; slot = refl; trail = upd_other F.store.trail p q T ne; run = refl; notes = refl }

    apart_both : (T : Trail) (r : Running D) → Apart F (having X F (set_run (set_trail F.store p T) p r) F.info) q
    apart_both T r = record { kept = λ n r. (refl, refl); own_info = λ v h1 h2 h3 e. refl; slot = refl; trail = upd_other F.store.trail p q T ne; run = upd_other F.store.run p q r ne; notes = refl }

    -- a call that p begins
    pub apart_begun : (c : Call D) → Apart F (with_store X F (started c F.store p)) q
    apart_begun (Enter i) = apart_trail (along i (F.store.slot p i) [])
    apart_begun Up = apart_trail (shorter (F.store.trail p))
    apart_begun Leave = apart_trail no_trail
    apart_begun Read = apart_run (Reads ReadNothing)
    apart_begun (Down k) = apart_run (GoesDown (kid_of k))
    apart_begun (Keep i) = apart_run (Keeps i)
    apart_begun (Drop i) = apart_run (Drops i)
    apart_begun (Hand i r) = apart_run (Hands i r)
    apart_begun (Fetch i) = apart_run (Fetches i)
    apart_begun (Make plan) = apart_run (Works (Makes plan) OpenTray)
    apart_begun Sweep = apart_run (Works Sweeps LookForNode)

    -- a walk that p begins
    pub apart_walk_begun : (i : ℕ) (t : Situation) (worths : ℕ → W) → Apart F (with_walk X F (started_walk i t F.store p) p worths) q
    apart_walk_begun i t worths =
        let T : Trail = along i (F.store.slot p i) [] in
        let s = set_run (set_trail F.store p T) p (WalkReads t ReadNothing) in
        apart_along (having X F s F.info) (with_walk X F s p worths) refl refl (upd_other F.notes p q (record { marks = λ n. false; worths = worths }) ne) (apart_both T (WalkReads t ReadNothing))

    apart_down : (n : ℕ) (r : Running D) → Apart F (having X F (set_run (down_to F.store p n) p r) F.info) q
    apart_down n r =
        let T : Trail = longer (F.store.trail p) n in
        cond_both (eqb n 0) F.store (set_trail F.store p T) (λ s. Apart F (having X F (set_run s p r) F.info) q) (λ _. apart_run r) (λ _. apart_both T r)

    apart_settled : (notes : Notes W) (t : Situation) (ks : Kids) → Apart F (having X F (settled_store X.worth X.blank F.store notes p t ks) F.info) q
    apart_settled notes t ks =
        elim (first_unmarked notes ks) as (λ o. Apart F (having X F (elim o [ Some k ↦ set_run F.store p (WalkGoesDown t k) | None ↦ gone_up X.worth X.blank F.store p t ]) F.info) q) [
          | Some k ↦ apart_run (WalkGoesDown t k)
          | None ↦ apart_both (shorter (F.store.trail p)) (resumes t (shorter (F.store.trail p)))
        ]

    module _ (U : Sound X.parties X.nodes F.store) (a : 1 ≤ p) (b : p ≤ X.parties) (x : ℕ) where
      framed : (r : Running D) → F.store.run p ≡ r → Stands r → Apart F (having X F (turn_at r F.store F.info p x) (data_at r F.info)) q
      framed r e st =
          let N = X.parties in
          let M = X.nodes in
          let s = F.store in
          let R : Frame N M s (turn_at r s F.info p x) p = subst (λ r. Stands r → Frame N M s (turn_at r s F.info p x) p) e (turn_frame N M s U.inv p a b (U.into p a b) F.info x) st in
          let V = unseen X.suits N M s U F.info p a b r e in
          record { kept = λ n h. (R.kept n h, V.seen n h); own_info = λ v h1 h2 h3 o. V.others q h1 h2 ne v h3 o; slot = R.slots q ne; trail = ap (λ f. f q) R.trails; run = R.runs q ne; notes = refl }

      -- the explicit step of p
      apart_turn : (r : Running D) → F.store.run p ≡ r → Apart F (having X F (turn_at r F.store F.info p x) (data_at r F.info)) q
      apart_turn (GoesDown k) e = apart_down (kid_at (F.store.kids (last F.store p)) k) Idle
      apart_turn (WalkReads t ReadNothing) e = apart_run (WalkReads t (ReadData (F.info (last F.store p))))
      apart_turn (WalkReads t (ReadData d)) e = apart_run (WalkReads t (ReadFirst d (F.store.kids (last F.store p)).first))
      apart_turn (WalkReads t (ReadFirst d i)) e = apart_run (WalkReads t (ReadSecond d i (F.store.kids (last F.store p)).second))
      apart_turn (WalkReads t (ReadSecond d i j)) e = apart_run Idle
      apart_turn (WalkGoesDown t k) e = apart_down (kid_at (F.store.kids (last F.store p)) k) (WalkReads t ReadNothing)
      apart_turn c e = framed c e tt

      apart_moved : (d : Decision D W) → stepped X.parties X.nodes F.store F.info p x d ≡ turn_at (F.store.run p) F.store F.info p x
          → data_after X.parties X.nodes F.store F.info p x d ≡ data_at (F.store.run p) F.info
          → (T : Told D W) (G : System D W A B) → G.store ≡ (moved_as X F p x d T).store → G.info ≡ (moved_as X F p x d T).info → G.notes ≡ upd F.notes p (moved_as X F p x d T).notes → Apart F G q
      apart_moved d hs hi (Tells o) G es ei en =
          apart_along (having X F (turn_at (F.store.run p) F.store F.info p x) (data_at (F.store.run p) F.info)) G (es ∙ hs) (ei ∙ hi) (ap (λ f. f q) en ∙ upd_other F.notes p q (F.notes p) ne) (apart_turn (F.store.run p) refl)
      apart_moved d hs hi (Settles n) G es ei en =
          apart_along (having X F (settled_store X.worth X.blank F.store (F.notes p) p n.situation n.kids) F.info) G es ei (ap (λ f. f q) en ∙ upd_other F.notes p q (moved_as X F p x d (Settles n)).notes ne) (apart_settled (F.notes p) n.situation n.kids)

    -- an accepted Turn of p, whose step is the explicit one
    pub apart_steps : Sound X.parties X.nodes F.store → 1 ≤ p → p ≤ X.parties → (o : Outcome D W) (G : System D W A B) (T : Steps X F p o G) → StepIs X F p T.pick → Apart F G q
    apart_steps U a b o G T e =
        let d = decision {W = W} X.parties X.nodes F.store F.info p T.pick in
        apart_moved U a b T.pick d e (data_after_lem W X.parties X.nodes F.store F.info p T.pick) d.told G T.store_is T.info_is T.notes_are

  -- all of a walk's term is reached
  pub walk_reaches : (F : System D W A B) → Sound X.parties X.nodes F.store → (q : ℕ) → 1 ≤ q → q ≤ X.parties → (i : ℕ) (t : Situation) → WalkSoFar X F q i t
      → (x : ℕ) → InTerm F.store.kids (F.store.slot q i) x → Reached X.parties F.store x
  walk_reaches F U q a b i t w x h =
      let N = X.parties in
      let s = F.store in
      let T : TrailAt s.kids (s.slot q) (needs_of (s.run q)).source (along i w.at w.before) = subst (TrailAt s.kids (s.slot q) (needs_of (s.run q)).source) w.entered (U.trails q a b) in
      let root : Reached N s (s.slot q i) = by_slot q i a b T.1 T.2 refl T.3 in
      elim h [ inl e ↦ subst (Reached N s) (sym e) root | inr c ↦ term_reached N s (s.slot q i) root c ]

  -- what q has under way stays so when another moves
  module _ (F G : System D W A B) (U : Sound X.parties X.nodes F.store) (q : ℕ) (a : 1 ≤ q) (b : q ≤ X.parties) (Q : Apart F G q) where
    -- a walk that others leave alone
    pub walk_stays : (i : ℕ) (t : Situation) → WalkSoFar X F q i t → WalkSoFar X G q i t
    walk_stays i t w =
        let s = F.store in
        let r = s.slot q i in
        let there = walk_reaches F U q a b i t w in
        let same : SameTerm s.kids F.info G.store.kids G.info r = λ x h. Q.kept x (there x h) in
        let was : (n : ℕ) → (G.notes q).marks n ≡ true → (F.notes q).marks n ≡ true = λ n h. ap (λ o. o.marks n) (sym Q.notes) ∙ h in
        record {
          at = w.at;
          before = w.before;
          entered = Q.trail ∙ w.entered;
          of_term = λ n h. subst (λ v. InTerm G.store.kids v n) (sym (ap (λ f. f i) Q.slot)) (term_there s.kids F.info G.store.kids G.info r same n (w.of_term n (was n h)));
          with_kids = λ n k h z.
              let e : G.store.kids n ≡ s.kids n = (Q.kept n (there n (w.of_term n (was n h)))).0 in
              ap (λ o. o.marks (kid_at (G.store.kids n) k)) Q.notes ∙ ap (λ v. (F.notes q).marks (kid_at v k)) e ∙ w.with_kids n k (was n h) (λ y. z (ap (λ v. kid_at v k) e ∙ y));
          worths = λ n h. subst (λ o. WorksOut X.worth X.blank G.store.kids G.info t n (o.worths n)) (sym Q.notes)
              (worth_there s.kids F.info G.store.kids G.info r same X.worth X.blank t (λ _. w.of_term n (was n h)) (w.worths n (was n h)));
          to_come = subst (λ o. OnTrail (λ n. o.marks n ≡ false) (G.store.trail q)) (sym Q.notes) (subst (OnTrail (λ n. (F.notes q).marks n ≡ false)) (sym Q.trail) w.to_come);
        }

    module _ (t u : Plain D) (S : Agrees X F t) (V : Agrees X G u) (k : Ask D) where
      asked_stays : (c : Asked D) → AskedFor X t q k c → AskedFor X u q k c
      asked_stays c h = (
        h.0,
        h.1,
        fault_same X.suits X.parties X.nodes false q c k.lengths (u.slot q) (t.slot q) (u.trail q) (t.trail q)
            (ap (λ z. z q) V.slots ∙ Q.slot ∙ ap (λ z. z q) (sym S.slots))
            (V.trails q ∙ ap (λ r. shown r (G.store.trail q)) Q.run ∙ ap (shown (F.store.run q)) Q.trail ∙ sym (S.trails q)) ∙ h.2,
      )

      last_stays : last G.store q ≡ last F.store q
      last_stays = ap last_of Q.trail

      walk_asked_stays : (y : Situation) → WalkAsked X F t q k y → WalkAsked X G u q k y
      walk_asked_stays y h = (h.0, asked_stays (AsksWalk h.0) h.1, h.2, walk_stays h.0.slot y h.3)

      -- what stands at the last node of its trail
      seen : (r : Running D) → F.store.run q ≡ r → on_trail r ≡ true → (G.store.kids (last G.store q) ≡ F.store.kids (last F.store q)) × (G.info (last G.store q) ≡ F.info (last F.store q))
      seen r e o =
          let z = Q.kept (last F.store q) (last_reached X.parties X.nodes F.store U q a b (ap on_trail e ∙ o)) in
          (ap G.store.kids last_stays ∙ z.0, ap G.info last_stays ∙ z.1)

      underway_at : (r : Running D) → F.store.run q ≡ r → Underway X F t q k r → Underway X G u q k r
      underway_at Idle e h = tt
      underway_at (Reads g) e h = let z = seen (Reads g) e refl in
          (asked_stays (AsksCall Read) h.0, subst (λ d. ReadSoFar d (G.store.kids (last G.store q)) g) (sym z.1) (subst (λ d. ReadSoFar (F.info (last F.store q)) d g) (sym z.0) h.1))
      underway_at (GoesDown j) e h = (h.0, asked_stays (AsksCall (Down h.0)) h.1, h.2)
      underway_at (Keeps i) e h = asked_stays (AsksCall (Keep i)) h
      underway_at (Drops i) e h = asked_stays (AsksCall (Drop i)) h
      underway_at (Hands i r) e h = asked_stays (AsksCall (Hand i r)) h
      underway_at (Fetches i) e h = asked_stays (AsksCall (Fetch i)) h
      underway_at (TakesOut i v) e h = asked_stays (AsksCall (Fetch i)) h
      underway_at (Works (Makes x) c) e h =
          (asked_stays (AsksCall (Make x)) h.0, written_kept F.info G.info x c (good X.parties X.nodes F.store U.inv q a b (Makes x) c e).2.0 (λ v low o. Q.own_info v a b low (ap (λ r. (reliance r).one) e ∙ o)) h.1)
      underway_at (Works Sweeps c) e h = asked_stays (AsksCall Sweep) h
      underway_at (WalkReads y g) e h = let z = seen (WalkReads y g) e refl in
          (walk_asked_stays y h.0, subst (λ d. ReadSoFar d (G.store.kids (last G.store q)) g) (sym z.1) (subst (λ d. ReadSoFar (F.info (last F.store q)) d g) (sym z.0) h.1))
      underway_at (WalkGoesDown y j) e h = let z = seen (WalkGoesDown y j) e refl in
          let ek : kid_at (G.store.kids (last G.store q)) j ≡ kid_at (F.store.kids (last F.store q)) j = ap (λ v. kid_at v j) z.0 in
          (walk_asked_stays y h.0, (λ o. h.1 (sym ek ∙ o)), ap (λ o. o.marks (kid_at (G.store.kids (last G.store q)) j)) Q.notes ∙ ap (F.notes q).marks ek ∙ h.2)

      pub underway_stays : Underway X F t q k (F.store.run q) → Underway X G u q k (G.store.run q)
      underway_stays h = subst (Underway X G u q k) (sym Q.run) (underway_at (F.store.run q) refl h)
