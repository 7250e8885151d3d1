-- The plain store follows every turn of a Make and of a Sweep.
use Rattle.std.proofs.Common.{◌≡◌, ℕ, suc, ◌+◌, ◌-◌, ◌≤◌, Bool, true, false, cond, eqb, ◌≢◌, sym, refl, ap, ◌∙◌, subst, inl, inr, arith}
use Rattle.std.proofs.lemmas.Bool.{cases_eq, eqb-true, cond_both}
use Rattle.model.specs.Fun.{upd}
use Rattle.model.specs.Types.{Ok, Kid, First, Second, Third, Tray, Closed, Open, Holding, Place, OpenTray, ReadTray, LookForNode, LockNode, Recheck, UnlockAndGoBack, ReadKid, ClearKid, UncountKid, Claim, Unlock, Offer, KeepForOneself, GiveBack, CloseTray, WriteData, CountKid, LinkKid, Plan, Job, Makes, Sweeps, Idle, Works, Call, Make, Sweep, AsksCall, AtNode, Swept, Outcome, StillRunning, Ended}
use Rattle.model.specs.State.{position, kid_at, put_kid, Store, set_count, set_lock, set_kid, set_tray, set_run}
use Rattle.model.specs.Steps.{after_kid}
use Rattle.model.specs.Checks.{is_walking}
use Rattle.model.specs.Reach.{Reach, by_slot, by_box, by_kid, Reached}
use Rattle.model.specs.Inv.{reliance_at}
use Rattle.model.specs.Sound.{Sound}
use Rattle.model.specs.Setting.{Setting}
use Rattle.model.specs.Plain.{Plain, Happens, makes, sweeps_nothing, sweeps, OutOfReach, put_slot, put_node, kid_from, kids_from}
use Rattle.model.specs.Runs.{System}
use Rattle.model.specs.Opened.{Agrees, WrittenSoFar}
use Rattle.model.proofs.Explicit.{is_open, back, made, give_first, give_second, give_third, give_after, at_ReadTray, own_tray, place_step}
use Rattle.model.proofs.Sums.{upd_same, upd_other}
use Rattle.model.proofs.Wants.{wants, wants_none, wants_some, Shape, shape_past}
use Rattle.model.proofs.Make.{good, position_pos, position_low}
use Rattle.model.proofs.Stays.{out_one}
use Rattle.model.proofs.Stepped.{PickedAt}
use Rattle.model.proofs.Fitting.{data_at, reach_into, reach_more, after_kid_written, linked_shape}
use Rattle.model.proofs.ToldAt.{told_back, told_third, told_second, told_first, told_after, told_place}
use Rattle.model.proofs.Follow.{shown, having, agrees_by, within_same, trails_stay, Does}

abbrev pub call_of : {D : Type 0} → Job D → Call D
call_of (Makes plan) = Make plan
call_of Sweeps = Sweep

-- what a Make that links kids has written
abbrev pub Wrote : {D : Type 0} → (ℕ → D) → Job D → Place → Type 0
Wrote info (Makes plan) c = WrittenSoFar info plan c
Wrote info Sweeps c = Unit {0}

wrote_nothing : {D : Type 0} (info : ℕ → D) (j : Job D) (c : Place) → ((plan : Plan D) → WrittenSoFar info plan c) → Wrote info j c
wrote_nothing info (Makes plan) c h = h plan
wrote_nothing info Sweeps c h = tt

pub by_bool : (v : Bool) (P : Bool → Type 0) → (v ≡ true → P true) → (v ≡ false → P false) → P v
by_bool true P f g = f refl
by_bool false P f g = g refl

module _ {D W A B : Type 0} (X : Setting D W A B) (F : System D W A B) (t : Plain D) (S : Agrees X F t) where
  -- a plain store reaches only what the store reaches
  pub agrees_reach : {n : ℕ} → Reach X.parties t.slot t.inbox t.kids n → Reached X.parties F.store n
  agrees_reach (by_slot q i a b c d e z) = by_slot q i a b c d (ap (λ f. f q i) (sym S.slots) ∙ e) z
  agrees_reach (by_box q a b e z) = by_box q a b (ap (λ f. f q) (sym S.inboxes) ∙ e) z
  agrees_reach (by_kid m k r e z) = let o = agrees_reach r in by_kid m k o (ap (λ x. kid_at x k) (sym (S.terms m o).0) ∙ e) z

  module _ (U : Sound X.parties X.nodes F.store) (p : ℕ) (a : 1 ≤ p) (b : p ≤ X.parties) (w : is_walking (F.store.run p) ≡ false) where
    abbrev Doing : Job D → Outcome D W → Store D → (ℕ → D) → Type 0
    Doing j o s info = Does X F t S U p a b w (AsksCall (call_of j)) o (having X F s info)

    lost : (v : ℕ) → 1 ≤ v → v ≤ X.nodes → (Reached X.parties F.store v → ⊥) → OutOfReach X t v
    lost v low high out = (low, high, λ r. out (agrees_reach r))

    -- a store with p's words written, and the data then
    record Beside (u : Store D) (info : ℕ → D) : Type 0 where
      slots : u.slot ≡ F.store.slot
      boxes : u.inbox ≡ F.store.inbox
      trails : u.trail ≡ F.store.trail
      runs : u.run ≡ F.store.run
      kept : (n : ℕ) → Reached X.parties F.store n → (u.kids n ≡ F.store.kids n) × (info n ≡ F.info n)

    beside : (u : Store D) → u.kids ≡ F.store.kids → u.slot ≡ F.store.slot → u.inbox ≡ F.store.inbox → u.trail ≡ F.store.trail → u.run ≡ F.store.run → Beside u F.info
    beside u ek es eb et er = record { slots = es; boxes = eb; trails = et; runs = er; kept = λ n r. (ap (λ f. f n) ek, refl) }

    -- p's call ends in such a store: the plain store's trails are still those
    idle_trails_in : (u : Store D) (info : ℕ → D) → Beside u info → (q : ℕ) → t.trail q ≡ shown (upd u.run p Idle q) (u.trail q)
    idle_trails_in u info E q =
        trails_stay X F t S U p a b w (upd u.run p Idle) (ap is_walking (upd_same u.run p Idle)) (λ k d. upd_other u.run p k Idle d ∙ ap (λ f. f k) E.runs) q
        ∙ ap (λ f. shown (upd u.run p Idle q) (f q)) (sym E.trails)

    -- the end of a Make: its node, its data and its kids stand as asked, and it was out of reach
    follow_made : (x : Plan D) (c : Place) → F.store.run p ≡ Works (Makes x) c → (u : Store D) (info : ℕ → D) → Beside u info → (v : ℕ) → 1 ≤ v → v ≤ X.nodes → (Reached X.parties F.store v → ⊥)
        → info v ≡ x.given → ((k : Kid) → kid_at (u.kids v) k ≡ wants (F.store.slot p) x k) → Doing (Makes x) (Ok (Ended (AtNode v))) (made x u p v) info
    follow_made x c e u info E v low high out ed sh =
        let N = X.parties in
        let s = F.store in
        let g = good N X.nodes s U.inv p a b (Makes x) c e in
        let ks = kids_from t p x.kids in
        let from : (k : Kid) → kid_at (u.kids v) k ≡ kid_from t p (kid_at x.kids k) = λ k. sh k ∙ ap (λ f. cond (eqb (kid_at x.kids k) 0) 0 (f p (kid_at x.kids k))) (sym S.slots) in
        let ek : u.kids v ≡ ks = (λ z. record { first = from First z; second = from Second z; third = from Third z }) in
        let rooted : (k : Kid) → kid_at (u.kids v) k ≢ 0 → Reach N u.slot u.inbox u.kids (kid_at (u.kids v) k) = λ k z. elim (cases_eq (kid_at x.kids k) 0) [
          | inl y ↦ absurd (z (sh k ∙ wants_none (F.store.slot p) x k y))
          | inr y ↦ (let q = g.1.wants_is k y in by_slot p (kid_at x.kids k) a b (omega arith) q.0 (ap (λ f. f p (kid_at x.kids k)) E.slots ∙ sym (sh k ∙ wants_some (F.store.slot p) x k y)) z)
        ] in
        let r : Plain D = put_slot (put_node t v ks x.given) p x.slot v in (
          r,
          makes v (lost v low high out),
          record {
            slots = ap (λ f. upd f p (upd (f p) x.slot v)) (S.slots ∙ sym E.slots);
            inboxes = S.inboxes ∙ sym E.boxes;
            trails = idle_trails_in u info E;
            terms = λ n h. elim (reach_more N u.slot u.inbox u.kids p x.slot v rooted h) [
              | inl q ↦ (ap (upd t.kids v ks) q ∙ upd_same t.kids v ks ∙ sym ek ∙ ap u.kids (sym q), ap (upd t.info v x.given) q ∙ upd_same t.info v x.given ∙ sym ed ∙ ap info (sym q))
              | inr o ↦ (let V = within_same X F t S (having X F u info) E.slots E.boxes E.kept in
                  let old : Reached N s n = reach_into N s u V.slots V.boxes (λ m y. (E.kept m y).0) o in
                  let d : n ≢ v = λ q. out (subst (Reached N s) q old) in
                  let y = S.terms n old in
                  let z = E.kept n old in
                  (upd_other t.kids v n ks d ∙ y.0 ∙ sym z.0, upd_other t.info v n x.given d ∙ y.1 ∙ sym z.1))
            ];
          },
        )

    -- p's turn: the call goes on with its own arguments, and nothing is to be seen; or it ends, and the plain store does it
    pub data Deed (j : Job D) (o : Outcome D W) (s : Store D) (info : ℕ → D) : Type 0 where
      goes_on : (d : Place) → s.run p ≡ Works j d → Wrote info j d → o ≡ Ok StillRunning → s.slot ≡ F.store.slot → s.inbox ≡ F.store.inbox → Deed j o s info
      ends_so : s.run p ≡ Idle → Doing j o s info → Deed j o s info

    on : (j : Job D) (u : Store D) (d : Place) (info : ℕ → D) → Wrote info j d → u.slot ≡ F.store.slot → u.inbox ≡ F.store.inbox → Deed j (Ok StillRunning) (set_run u p (Works j d)) info
    on j u d info h es eb = goes_on d (upd_same u.run p (Works j d)) h refl es eb

    plainly_on : (j : Job D) (u : Store D) (d : Place) → ((plan : Plan D) → WrittenSoFar F.info plan d) → u.slot ≡ F.store.slot → u.inbox ≡ F.store.inbox → Deed j (Ok StillRunning) (set_run u p (Works j d)) F.info
    plainly_on j u d h es eb = on j u d F.info (wrote_nothing F.info j d h) es eb

    -- a Sweep's end: shared words have changed that nothing here speaks of
    swept : (u : Store D) (o : Outcome D W) → Beside u F.info → Happens X t p (AsksCall Sweep) o t → Deed Sweeps o (set_run u p Idle) F.info
    swept u o E h = ends_so (upd_same u.run p Idle) (
      t,
      h,
      let G = having X F (set_run u p Idle) F.info in
          agrees_by X F t S G t refl refl (S.slots ∙ sym E.slots) (S.inboxes ∙ sym E.boxes) (idle_trails_in u F.info E) (within_same X F t S G E.slots E.boxes E.kept),
    )

    backs : (j : Job D) (u : Store D) → Beside u F.info → Deed j (told_back j) (set_run u p (back j)) F.info
    backs (Makes y) u E = on (Makes y) u ReadTray F.info tt E.slots E.boxes
    backs Sweeps u E = swept u (Ok (Ended (Swept 0 0))) E sweeps_nothing

    -- the next kid of a Make, or its end
    module _ (x : Plan D) (c : Place) (e : F.store.run p ≡ Works (Makes x) c) (u : Store D) (info : ℕ → D) (E : Beside u info) (v : ℕ)
        (low : 1 ≤ v) (high : v ≤ X.nodes) (out : Reached X.parties F.store v → ⊥) (ed : info v ≡ x.given) where
      abbrev Giving : Outcome D W → Store D → Type 0
      Giving o s = Deed (Makes x) o s info

      end : Shape (F.store.slot p) x (u.kids v) 4 → Giving (Ok (Ended (AtNode v))) (made x u p v)
      end sh = ends_so (upd_same u.run p Idle) (follow_made x c e u info E v low high out ed (λ k. (sh k).0 (position_low k)))

      next : (k : Kid) → Giving (Ok StillRunning) (set_run u p (Works (Makes x) (CountKid v k)))
      next k = on (Makes x) u (CountKid v k) info ed E.slots E.boxes

      deed_third : Shape (F.store.slot p) x (u.kids v) 3 → Giving (told_third x v) (give_third x u p v)
      deed_third sh = by_bool (eqb x.kids.third 0) (λ z. Giving (cond z (Ok (Ended (AtNode v))) (Ok StillRunning)) (cond z (made x u p v) (set_run u p (Works (Makes x) (CountKid v Third)))))
          (λ z. end (shape_past (F.store.slot p) x (u.kids v) Third sh (eqb-true x.kids.third 0 z))) (λ _. next Third)

      deed_second : Shape (F.store.slot p) x (u.kids v) 2 → Giving (told_second x v) (give_second x u p v)
      deed_second sh = by_bool (eqb x.kids.second 0) (λ z. Giving (cond z (told_third x v) (Ok StillRunning)) (cond z (give_third x u p v) (set_run u p (Works (Makes x) (CountKid v Second)))))
          (λ z. deed_third (shape_past (F.store.slot p) x (u.kids v) Second sh (eqb-true x.kids.second 0 z))) (λ _. next Second)

      deed_first : Shape (F.store.slot p) x (u.kids v) 1 → Giving (told_first x v) (give_first x u p v)
      deed_first sh = by_bool (eqb x.kids.first 0) (λ z. Giving (cond z (told_second x v) (Ok StillRunning)) (cond z (give_second x u p v) (set_run u p (Works (Makes x) (CountKid v First)))))
          (λ z. deed_second (shape_past (F.store.slot p) x (u.kids v) First sh (eqb-true x.kids.first 0 z))) (λ _. next First)

      deed_after : (k : Kid) → Shape (F.store.slot p) x (u.kids v) (suc (position k)) → Giving (told_after x v k) (give_after x u p v k)
      deed_after First sh = deed_second sh
      deed_after Second sh = deed_third sh
      deed_after Third sh = end sh

    lost_at : (j : Job D) (c : Place) (n : ℕ) → F.store.run p ≡ Works j c → (reliance_at c).one ≡ n → 1 ≤ n → n ≤ X.nodes → OutOfReach X t n
    lost_at j c n e h low high = lost n low high (out_one X.parties X.nodes F.store U.inv p a b (U.into p a b) j c n e h)

    own_tray_deed : (j : Job D) (n : ℕ) → Deed j (Ok StillRunning) (own_tray j F.store p n) F.info
    own_tray_deed j n =
        let s = F.store in
        cond_both (is_open (s.tray p)) (set_run (set_tray s p (Holding n)) p (Works j (CloseTray n))) (set_run s p (Works j (GiveBack n))) (λ v. Deed j (Ok StillRunning) v F.info)
        (λ _. plainly_on j (set_tray s p (Holding n)) (CloseTray n) (λ _. tt) refl refl) (λ _. plainly_on j s (GiveBack n) (λ _. tt) refl refl)

    as_is : Beside F.store F.info
    as_is = beside F.store refl refl refl refl refl

    offer_deed : (x n : ℕ) (j : Job D) → F.store.run p ≡ Works j (Offer n) → x ≤ X.parties → Deed j (told_place (Offer n) j F.store p x) (place_step (Offer n) j F.store p x) F.info
    offer_deed x n (Makes y) e h =
        let s = F.store in
        cond_both (eqb x p) (own_tray (Makes y) s p n) (cond (is_open (s.tray x)) (set_run (set_tray s x (Holding n)) p (back (Makes y))) (set_run s p (Works (Makes y) (KeepForOneself n)))) (λ v. Deed (Makes y) (Ok StillRunning) v F.info)
        (λ _. own_tray_deed (Makes y) n)
        (λ _. cond_both (is_open (s.tray x)) (set_run (set_tray s x (Holding n)) p (back (Makes y))) (set_run s p (Works (Makes y) (KeepForOneself n))) (λ v. Deed (Makes y) (Ok StillRunning) v F.info)
        (λ _. plainly_on (Makes y) (set_tray s x (Holding n)) ReadTray (λ _. tt) refl refl) (λ _. plainly_on (Makes y) s (KeepForOneself n) (λ _. tt) refl refl))
    offer_deed x n Sweeps e h =
        let s = F.store in
        let g = good X.parties X.nodes s U.inv p a b Sweeps (Offer n) e in
        let L = lost_at Sweeps (Offer n) n e refl g.2.0 g.0.within in
        let taken = set_run (set_tray s x (Holding n)) p Idle in
        let kept = set_run s p (Works Sweeps (GiveBack n)) in
        by_bool (eqb x p) (λ v. Deed Sweeps (cond v (Ok (Ended (Swept n 0))) (cond (is_open (s.tray x)) (Ok (Ended (Swept n x))) (Ok StillRunning))) (cond v (set_run (set_count s n 0) p Idle) (cond (is_open (s.tray x)) taken kept)) F.info)
        (λ _. swept (set_count s n 0) (Ok (Ended (Swept n 0))) (beside (set_count s n 0) refl refl refl refl refl) (sweeps n 0 L (omega arith)))
        (λ _. by_bool (is_open (s.tray x)) (λ v. Deed Sweeps (cond v (Ok (Ended (Swept n x))) (Ok StillRunning)) (cond v taken kept) F.info)
        (λ _. swept (set_tray s x (Holding n)) (Ok (Ended (Swept n x))) (beside (set_tray s x (Holding n)) refl refl refl refl refl) (sweeps n x L h)) (λ _. plainly_on Sweeps s (GiveBack n) (λ _. tt) refl refl))

    pub place_deed : (x : ℕ) (c : Place) (j : Job D) → F.store.run p ≡ Works j c → PickedAt X.parties X.nodes x c → Wrote F.info j c
        → Deed j (told_place c j F.store p x) (place_step c j F.store p x) (data_at (Works j c) F.info)
    place_deed x OpenTray j e h dt = plainly_on j (set_tray F.store p Open) ReadTray (λ _. tt) refl refl
    place_deed x ReadTray j e h dt = read (F.store.tray p)
      where
        read : (v : Tray) → Deed j (Ok StillRunning) (set_run F.store p (at_ReadTray v j)) F.info
        read Closed = plainly_on j F.store LookForNode (λ _. tt) refl refl
        read Open = plainly_on j F.store LookForNode (λ _. tt) refl refl
        read (Holding v) = plainly_on j F.store (CloseTray v) (λ _. tt) refl refl
    place_deed x LookForNode j e h dt =
        let s = F.store in
        by_bool (eqb (s.count x) 0) (λ v. Deed j (cond v (Ok StillRunning) (told_back j)) (cond v (set_run s p (Works j (LockNode x))) (set_run s p (back j))) F.info)
        (λ _. plainly_on j s (LockNode x) (λ _. tt) refl refl) (λ _. backs j s as_is)
    place_deed x (LockNode n) j e h dt =
        let s = F.store in
        by_bool (eqb (s.lock n) 0) (λ v. Deed j (cond v (Ok StillRunning) (told_back j)) (cond v (set_run (set_lock s n p) p (Works j (Recheck n))) (set_run s p (back j))) F.info)
        (λ _. plainly_on j (set_lock s n p) (Recheck n) (λ _. tt) refl refl) (λ _. backs j s as_is)
    place_deed x (Recheck n) j e h dt =
        let s = F.store in
        cond_both (eqb (s.count n) 0) (set_run s p (Works j (ReadKid n First))) (set_run s p (Works j (UnlockAndGoBack n))) (λ v. Deed j (Ok StillRunning) v F.info)
        (λ _. plainly_on j s (ReadKid n First) (λ _. tt) refl refl) (λ _. plainly_on j s (UnlockAndGoBack n) (λ _. tt) refl refl)
    place_deed x (UnlockAndGoBack n) j e h dt = backs j (set_lock F.store n 0) (beside (set_lock F.store n 0) refl refl refl refl refl)
    place_deed x (ReadKid n k) j e h dt =
        let s = F.store in
        cond_both (eqb (kid_at (s.kids n) k) 0) (set_run s p (Works j (after_kid n k))) (set_run s p (Works j (ClearKid n k (kid_at (s.kids n) k)))) (λ v. Deed j (Ok StillRunning) v F.info)
        (λ _. plainly_on j s (after_kid n k) (after_kid_written F.info n k) refl refl) (λ _. plainly_on j s (ClearKid n k (kid_at (s.kids n) k)) (λ _. tt) refl refl)
    place_deed x (ClearKid n k z) j e h dt = plainly_on j (set_kid F.store n k 0) (UncountKid n k z) (λ _. tt) refl refl
    place_deed x (UncountKid n k z) j e h dt = plainly_on j (set_count F.store z (F.store.count z - 1)) (after_kid n k) (after_kid_written F.info n k) refl refl
    place_deed x (Claim n) j e h dt = plainly_on j (set_count F.store n 1) (Unlock n) (λ _. tt) refl refl
    place_deed x (Unlock n) j e h dt = plainly_on j (set_lock F.store n 0) (Offer n) (λ _. tt) refl refl
    place_deed x (Offer n) j e h dt = offer_deed x n j e h.1
    place_deed x (KeepForOneself n) j e h dt = own_tray_deed j n
    place_deed x (GiveBack n) (Makes y) e h dt = plainly_on (Makes y) (set_count F.store n 0) ReadTray (λ _. tt) refl refl
    place_deed x (GiveBack n) Sweeps e h dt =
        let g = good X.parties X.nodes F.store U.inv p a b Sweeps (GiveBack n) e in
        swept (set_count F.store n 0) (Ok (Ended (Swept n 0))) (beside (set_count F.store n 0) refl refl refl refl refl) (sweeps n 0 (lost_at Sweeps (GiveBack n) n e refl g.2.0 g.0.within) (omega arith))
    place_deed x (CloseTray v) j e h dt = plainly_on j (set_tray F.store p Closed) (WriteData v) (λ _. tt) refl refl
    place_deed x (WriteData v) (Makes y) e h dt =
        let N = X.parties in
        let s = F.store in
        let g = good N X.nodes s U.inv p a b (Makes y) (WriteData v) e in
        let out = out_one N X.nodes s U.inv p a b (U.into p a b) (Makes y) (WriteData v) v e refl in
        let E : Beside s (upd F.info v y.given) = record { slots = refl; boxes = refl; trails = refl; runs = refl; kept = λ n r. (refl, upd_other F.info v n y.given (λ q. out (subst (Reached N s) q r))) } in
        deed_first y (WriteData v) e s (upd F.info v y.given) E v g.2.0 g.0.within out (upd_same F.info v y.given)
        (λ k. ((λ z. absurd (let u = position_pos k in omega arith)), λ z. g.0.bare k z (position_low k)))
    place_deed x (CountKid v k) (Makes y) e h dt =
        let z = F.store.slot p (kid_at y.kids k) in
        on (Makes y) (set_count F.store z (F.store.count z + 1)) (LinkKid v k z) F.info dt refl refl
    place_deed x (LinkKid v k z) (Makes y) e h dt =
        let N = X.parties in
        let s = F.store in
        let g = good N X.nodes s U.inv p a b (Makes y) (LinkKid v k z) e in
        let out = out_one N X.nodes s U.inv p a b (U.into p a b) (Makes y) (LinkKid v k z) v e refl in
        let E : Beside (set_kid s v k z) F.info = record { slots = refl; boxes = refl; trails = refl; runs = refl; kept = λ n r. (upd_other s.kids v n (put_kid (s.kids v) k z) (λ q. out (subst (Reached N s) q r)), refl) } in
        deed_after y (LinkKid v k z) e (set_kid s v k z) F.info E v g.2.0.0 g.0.within out dt k (linked_shape X.suits N X.nodes s U F.info p a b y v k z e)
    place_deed x c Sweeps e h dt = absurd (good X.parties X.nodes F.store U.inv p a b Sweeps c e).2.1
