-- Every step of Make and Sweep keeps the invariant.
use Rattle.std.proofs.Common.{◌≡◌, ℕ, suc, ◌+◌, ◌-◌, ◌<◌, ◌≤◌, true, ◌≢◌, sym, refl, ap, ◌∙◌, subst, inl, inr, arith}
use Rattle.std.proofs.lemmas.Bool.{cases_eq, cases_lt, cond_both, eqb-true, eqb-false}
use Rattle.model.specs.Fun.{upd, is}
use Rattle.model.specs.Types.{Kid, First, Second, Third, Kids, Tray, Closed, Open, Holding, Place, OpenTray, ReadTray, LookForNode, LockNode, Recheck, UnlockAndGoBack, ReadKid, ClearKid, UncountKid, Claim, Unlock, Offer, CloseTray, WriteData, Job, Makes, Sweeps, Running, Works}
use Rattle.model.specs.State.{position, kid_at, put_kid, Store, set_count, set_lock, set_kid, set_tray, set_run}
use Rattle.model.specs.Steps.{after_kid}
use Rattle.model.specs.Inv.{Reliance, relies, none, reliance_at, reliance, needs_job, tray_node, carry, Local, Own, FitPlace, FitJob, LocalOf, Good, Bare, Inv}
use Rattle.model.proofs.Explicit.{is_open, back, at_ReadTray, place_step}
use Rattle.model.proofs.Sums.{upd_same, upd_other, is_same, is_other}
use Rattle.model.proofs.Refs.{carried_at, carry_one, carry_other}
use Rattle.model.proofs.Frames.{upd_all, alone_locked, alone_refs, quiet_step, kid_step, tray_step, count_step, take_step, free_step}

pub carry_is : (c : Reliance) (m : ℕ) → carry c m ≡ is c.one m + is c.other m
unfolding carry
carry_is c m = refl

pub open_is : (t : Tray) → is_open t ≡ true → t ≡ Open
open_is Closed e = let z : ◌≡◌ {A = ℕ} 0 1 = cc in absurd (omega arith)
open_is Open e = refl
open_is (Holding v) e = let z : ◌≡◌ {A = ℕ} 0 1 = cc in absurd (omega arith)

-- a claim with nothing pending, nothing in the tray and no kids given
pub plain : (M : ℕ) (count lock : ℕ → ℕ) (kids : ℕ → Kids) (t : Tray) (f : ℕ → ℕ) (q : ℕ) (n l e o x a b : ℕ) (w : Kid → ℕ)
    → n ≤ M → (l ≢ 0 → lock l ≡ q) → (e ≢ 0 → count e ≡ 0) → (o ≢ 0 → count o ≡ 1)
    → ((k : Kid) → a ≤ position k → position k < b → kid_at (kids n) k ≡ 0) → Local M count lock kids t f q (relies n l e o x a b) w
plain M count lock kids t f q n l e o x a b w h1 h2 h3 h4 h5 = record {
  within = h1;
  lock_is = h2;
  empty_is = h3;
  one_is = h4;
  bare = h5;
  pend_is = λ z. absurd (z refl);
  put_is = λ z. absurd (z refl);
  held_is = λ z. absurd (z refl);
  none_given = λ k z. absurd (omega arith);
  given = λ k z. absurd (omega arith);
}

pub position_same : (P : Kid → Type 0) (i k : Kid) → position i ≡ position k → P k → P i
position_same P First First e h = h
position_same P Second Second e h = h
position_same P Third Third e h = h
position_same P _ _ e h = absurd (omega arith)

pub put_same : (ks : Kids) (k : Kid) (v : ℕ) → kid_at (put_kid ks k v) k ≡ v
put_same ks First v = refl
put_same ks Second v = refl
put_same ks Third v = refl

pub put_other : (ks : Kids) (i k : Kid) (v : ℕ) → position i ≢ position k → kid_at (put_kid ks k v) i ≡ kid_at ks i
put_other ks First First v z = absurd (z refl)
put_other ks Second Second v z = absurd (z refl)
put_other ks Third Third v z = absurd (z refl)
put_other ks _ _ v z = refl

pub after_kid_claim : (n : ℕ) (k : Kid) → reliance_at (after_kid n k) ≡ relies n n n 0 0 1 (suc (position k))
after_kid_claim n First = refl
after_kid_claim n Second = refl
after_kid_claim n Third = refl

pub after_kid_fit : (n : ℕ) (k : Kid) → 1 ≤ n → FitPlace (after_kid n k)
after_kid_fit n First h = h
after_kid_fit n Second h = h
after_kid_fit n Third h = h

pub after_kid_job : {D : Type 0} (j : Job D) (n : ℕ) (k : Kid) → FitJob j (after_kid n k)
after_kid_job (Makes x) n First = tt
after_kid_job Sweeps n First = tt
after_kid_job _ n _ = tt

pub position_low : (k : Kid) → position k < 4
position_low First = omega arith
position_low Second = omega arith
position_low Third = omega arith

pub position_pos : (k : Kid) → 1 ≤ position k
position_pos First = omega arith
position_pos Second = omega arith
position_pos Third = omega arith

module _ {D : Type 0} (N M : ℕ) (s : Store D) (I : Inv N M s) (p : ℕ) (a : 1 ≤ p) (b : p ≤ N) where
  pub below : (w : ℕ) → 1 ≤ w → 1 ≤ s.count w → w ≤ M
  below w h k = elim (cases_lt M w) [ inl z ↦ absurd (let u = I.beyond w z in omega arith) | inr z ↦ z ]

  -- a party at a place without a claim
  pub idle_claim : (t : Store D) (w : Kid → ℕ) → LocalOf M t p none w
  idle_claim t w = plain M t.count t.lock t.kids (t.tray p) (t.slot p) p 0 0 0 0 0 0 0 w (omega arith) (λ z. absurd (z refl)) (λ z. absurd (z refl)) (λ z. absurd (z refl)) (λ k y z. absurd (omega arith))

  pub same_carry : (r : Running D) → s.run p ≡ r → (r' : Running D) → ((m : ℕ) → is (reliance r).one m + is (reliance r).other m ≡ is (reliance r').one m + is (reliance r').other m)
      → (m : ℕ) → 1 ≤ m → carry (reliance (s.run p)) m ≡ carry (reliance r') m
  same_carry r e r' h m x = ap (λ t. carry (reliance t) m) e ∙ carry_is (reliance r) m ∙ h m ∙ sym (carry_is (reliance r') m)

  module _ (j : Job D) (c : Place) (e : s.run p ≡ Works j c) where
    pub good : Good N M s p (Works j c)
    good = subst (Good N M s p) e (I.parties p a b)

    -- to another place of the same call, nothing shared changed
    pub quiet : (d : Place) → (reliance_at d).locked ≡ (reliance_at c).locked → ((m : ℕ) → is (reliance_at c).one m + is (reliance_at c).other m ≡ is (reliance_at d).one m + is (reliance_at d).other m)
        → LocalOf M s p (reliance_at d) (needs_job j).wants → FitPlace d → FitJob j d → Inv N M (set_run s p (Works j d))
    quiet d l h L f g =
        quiet_step N M s I p (Works j d) a b (l ∙ ap (λ t. (reliance t).locked) (sym e)) (same_carry (Works j c) e (Works j d) h) (L, good.1, (f, g))

    -- back to ReadTray, or the end of a Sweep
    pub back_claim : reliance (back j) ≡ none
    back_claim = elim j as (λ v. reliance (back v) ≡ none) [ Makes x ↦ refl | Sweeps ↦ refl ]

    pub back_good : (t : Store D) → t.slot ≡ s.slot → t.inbox ≡ s.inbox → Good N M t p (back j)
    back_good t es eb =
        let o : Own (t.slot p) (t.inbox p) (needs_job j) = subst (λ f. Own (f p) (t.inbox p) (needs_job j)) (sym es) (subst (λ f. Own (s.slot p) (f p) (needs_job j)) (sym eb) good.1) in
        (elim j as (λ v. Own (t.slot p) (t.inbox p) (needs_job v) → Good N M t p (back v)) [
          | Makes x ↦ λ h. (idle_claim t (kid_at x.kids), h, (tt, tt))
          | Sweeps ↦ λ h. (idle_claim t (λ k. 0), h, tt)
        ]) o

    pub to_back : (reliance_at c).locked ≡ 0 → ((m : ℕ) → is (reliance_at c).one m + is (reliance_at c).other m ≡ is 0 m + is 0 m) → Inv N M (set_run s p (back j))
    to_back l h =
        quiet_step N M s I p (back j) a b (ap (λ t. t.locked) back_claim ∙ sym l ∙ ap (λ t. (reliance t).locked) (sym e))
        (λ m x. ap (λ t. carry (reliance t) m) e ∙ carry_is (reliance_at c) m ∙ h m ∙ sym (carry_is none m) ∙ ap (λ t. carry t m) (sym back_claim))
        (back_good s refl refl)

  -- LookForNode reads the count of the node that the order picks
  pub at_LookForNode : (j : Job D) (x : ℕ) → s.run p ≡ Works j LookForNode → 1 ≤ x → x ≤ M → FitJob j (LockNode x) → Inv N M (place_step LookForNode j s p x)
  at_LookForNode j x e h1 h2 f =
      cond_both _ _ _ (Inv N M)
      (λ z. quiet j LookForNode e (LockNode x) refl (λ m. refl) (plain M s.count s.lock s.kids (s.tray p) (s.slot p) p x 0 0 0 0 0 0 (needs_job j).wants h2 (λ z. absurd (z refl)) (λ z. absurd (z refl)) (λ z. absurd (z refl)) (λ k y z. absurd (omega arith))) h1 f)
      (λ z. to_back j LookForNode e refl (λ m. refl))

  pub at_LockNode : (j : Job D) (n x : ℕ) → s.run p ≡ Works j (LockNode n) → FitJob j (Recheck n) → Inv N M (place_step (LockNode n) j s p x)
  at_LockNode j n x e f =
      let g = good j (LockNode n) e in
      cond_both _ _ _ (Inv N M)
      (λ z. take_step N M s I p n (Works j (Recheck n)) a b g.2.0 (eqb-true (s.lock n) 0 z) refl (ap (λ t. (reliance t).locked) e)
      (same_carry (Works j (LockNode n)) e (Works j (Recheck n)) (λ m. refl))
      (plain M s.count (upd s.lock n p) s.kids (s.tray p) (s.slot p) p n n 0 0 0 0 0 (needs_job j).wants g.0.within (λ z. upd_same s.lock n p) (λ z. absurd (z refl)) (λ z. absurd (z refl)) (λ k y z. absurd (omega arith)), g.1, (g.2.0, f)))
      (λ z. to_back j (LockNode n) e refl (λ m. refl))

  pub at_Recheck : (j : Job D) (n x : ℕ) → s.run p ≡ Works j (Recheck n) → FitJob j (ReadKid n First) → FitJob j (UnlockAndGoBack n) → Inv N M (place_step (Recheck n) j s p x)
  at_Recheck j n x e f f' =
      let g = good j (Recheck n) e in
      let l : s.lock n ≡ p = g.0.lock_is (let h = g.2.0 in omega arith) in
      cond_both _ _ _ (Inv N M)
      (λ z. quiet j (Recheck n) e (ReadKid n First) refl (λ m. refl) (plain M s.count s.lock s.kids (s.tray p) (s.slot p) p n n n 0 0 1 1 (needs_job j).wants g.0.within (λ _. l) (λ _. eqb-true (s.count n) 0 z) (λ z. absurd (z refl)) (λ k y z. absurd (omega arith))) g.2.0 f)
      (λ z. quiet j (Recheck n) e (UnlockAndGoBack n) refl (λ m. refl) (plain M s.count s.lock s.kids (s.tray p) (s.slot p) p n n 0 0 0 0 0 (needs_job j).wants g.0.within (λ _. l) (λ z. absurd (z refl)) (λ z. absurd (z refl)) (λ k y z. absurd (omega arith))) g.2.0 f')

  pub at_UnlockAndGoBack : (j : Job D) (n x : ℕ) → s.run p ≡ Works j (UnlockAndGoBack n) → Inv N M (place_step (UnlockAndGoBack n) j s p x)
  at_UnlockAndGoBack j n x e =
      let g = good j (UnlockAndGoBack n) e in
      free_step N M s I p n (back j) a b g.2.0 (ap (λ t. (reliance t).locked) e) (ap (λ t. t.locked) (back_claim j (UnlockAndGoBack n) e))
      (λ m x. ap (λ t. carry (reliance t) m) e ∙ carry_is (reliance_at (UnlockAndGoBack n)) m ∙ sym (carry_is none m) ∙ ap (λ t. carry t m) (sym (back_claim j (UnlockAndGoBack n) e)))
      (back_good j (UnlockAndGoBack n) e (set_lock s n 0) refl refl)

  -- the kids up to k of an empty, locked node are 0
  pub cleared : (t : Store D) (n : ℕ) (k : Kid) (x : ℕ) (w : Kid → ℕ) → n ≤ M → t.lock n ≡ p → t.count n ≡ 0 → ((i : Kid) → position i < position k → kid_at (t.kids n) i ≡ 0) → kid_at (t.kids n) k ≡ 0 → LocalOf M t p (relies n n n 0 x 1 (suc (position k))) w
  cleared t n k x w h1 h2 h3 h4 h5 = plain M t.count t.lock t.kids (t.tray p) (t.slot p) p n n n 0 x 1 (suc (position k)) w h1 (λ _. h2) (λ _. h3) (λ z. absurd (z refl))
      (λ i u v. elim (cases_eq (position i) (position k)) [ inl d ↦ position_same (λ g. kid_at (t.kids n) g ≡ 0) i k d h5 | inr d ↦ h4 i (omega arith) ])

  pub at_ReadKid : (j : Job D) (n : ℕ) (k : Kid) (x : ℕ) → s.run p ≡ Works j (ReadKid n k) → FitJob j (ClearKid n k (kid_at (s.kids n) k)) → Inv N M (place_step (ReadKid n k) j s p x)
  at_ReadKid j n k x e f =
      let g = good j (ReadKid n k) e in
      let nz : n ≢ 0 = (let h = g.2.0 in omega arith) in
      let w = kid_at (s.kids n) k in
      cond_both _ _ _ (Inv N M)
      (λ z. quiet j (ReadKid n k) e (after_kid n k) (ap (λ t. t.locked) (after_kid_claim n k)) (λ m. ap (λ t. is t.one m + is t.other m) (sym (after_kid_claim n k)))
      (subst (λ t. LocalOf M s p t (needs_job j).wants) (sym (after_kid_claim n k))
      (cleared s n k 0 (needs_job j).wants g.0.within (g.0.lock_is nz) (g.0.empty_is nz) (λ i u. g.0.bare i (position_pos i) u) (eqb-true w 0 z)))
      (after_kid_fit n k g.2.0) (after_kid_job j n k))
      (λ z. quiet j (ReadKid n k) e (ClearKid n k w) refl (λ m. refl)
      (record {
        within = g.0.within;
        lock_is = g.0.lock_is;
        empty_is = g.0.empty_is;
        one_is = λ z. absurd (z refl);
        bare = g.0.bare;
        pend_is = λ _. refl;
        put_is = λ z. absurd (z refl);
        held_is = λ z. absurd (z refl);
        none_given = λ i z. absurd (omega arith);
        given = λ i z. absurd (omega arith);
      })
      (g.2.0, (let h : w ≢ 0 = eqb-false w 0 z in omega arith)) f)

  pub at_ClearKid : (j : Job D) (n : ℕ) (k : Kid) (w x : ℕ) → s.run p ≡ Works j (ClearKid n k w) → FitJob j (UncountKid n k w) → Inv N M (place_step (ClearKid n k w) j s p x)
  at_ClearKid j n k w x e f =
      let g = good j (ClearKid n k w) e in
      let nz : n ≢ 0 = (let h = g.2.0 in omega arith) in
      let wz : w ≢ 0 = (let h = g.2.0 in omega arith) in
      let u = upd_same s.kids n (put_kid (s.kids n) k 0) in
      kid_step N M s I p n k 0 (Works j (UncountKid n k w)) a b g.2.0.0 g.0.within
      (alone_locked N M s I p n g.2.0.0 (g.0.lock_is nz) (g.0.empty_is nz))
      (sym (ap (λ t. (reliance t).locked) e))
      (λ m h. omega (arith, carry_is (reliance_at (UncountKid n k w)) m, ap (λ t. carry (reliance t) m) e, carry_is (reliance_at (ClearKid n k w)) m, ap (λ t. is t m) (g.0.pend_is wz), is_other 0 m (omega arith))) (
        cleared (set_kid s n k 0) n k w (needs_job j).wants g.0.within (g.0.lock_is nz) (g.0.empty_is nz)
            (λ i h. ap (λ t. kid_at t i) u ∙ put_other (s.kids n) i k 0 (omega arith) ∙ g.0.bare i (position_pos i) h)
            (ap (λ t. kid_at t k) u ∙ put_same (s.kids n) k 0),
        g.1,
        ((g.2.0.0, g.2.0.1), f),
      )

  -- taking 1 off a count that the party has a part in
  pub at_UncountKid : (j : Job D) (n : ℕ) (k : Kid) (w x : ℕ) → s.run p ≡ Works j (UncountKid n k w) → Inv N M (place_step (UncountKid n k w) j s p x)
  at_UncountKid j n k w x e =
      let g = good j (UncountKid n k w) e in
      let nz : n ≢ 0 = (let h = g.2.0 in omega arith) in
      let w1 : 1 ≤ w = g.2.0.1 in
      let cw : 1 ≤ carry (reliance (s.run p)) w = subst (λ t. 1 ≤ carry (reliance t) w) (sym e) (carry_other N M w (reliance_at (UncountKid n k w)) refl) in
      let Up = carried_at N M w s.run p a b in
      let cnt = I.counts w w1 in
      let ne : n ≢ w = λ h. (let z : s.count n ≡ 0 = g.0.empty_is nz in let y : s.count n ≡ s.count w = ap s.count h in omega arith) in
      count_step N M s I p w (s.count w - 1) (Works j (after_kid n k)) a b (below w w1 (omega arith)) (alone_refs N M s I p w a b w1 (omega arith))
      (ap (λ t. t.locked) (after_kid_claim n k) ∙ sym (ap (λ t. (reliance t).locked) e))
      (λ m h. upd_all (λ i v. 1 ≤ i → v + carry (reliance (s.run p)) i ≡ s.count i + carry (reliance_at (after_kid n k)) i) s.count w (s.count w - 1)
      (λ _. omega (arith, ap (λ t. carry t w) (after_kid_claim n k), carry_is (relies n n n 0 0 1 (suc (position k))) w, ap (λ t. carry (reliance t) w) e, carry_is (reliance_at (UncountKid n k w)) w, is_same w w refl, is_other 0 w (omega arith)))
      m (λ d _. omega (arith, ap (λ t. carry t m) (after_kid_claim n k), carry_is (relies n n n 0 0 1 (suc (position k))) m, ap (λ t. carry (reliance t) m) e, carry_is (reliance_at (UncountKid n k w)) m, is_other w m (λ y. d (sym y)), is_other 0 m (omega arith))) h) (
        subst (λ t. LocalOf M (set_count s w (s.count w - 1)) p t (needs_job j).wants) (sym (after_kid_claim n k))
            (plain M (upd s.count w (s.count w - 1)) s.lock s.kids (s.tray p) (s.slot p) p n n n 0 0 1 (suc (position k)) (needs_job j).wants g.0.within g.0.lock_is
            (λ z. upd_other s.count w n (s.count w - 1) ne ∙ g.0.empty_is z) (λ z. absurd (z refl)) g.0.bare),
        g.1,
        (after_kid_fit n k g.2.0.0, after_kid_job j n k),
      )

  pub at_Claim : (j : Job D) (n x : ℕ) → s.run p ≡ Works j (Claim n) → FitJob j (Unlock n) → Inv N M (place_step (Claim n) j s p x)
  at_Claim j n x e f =
      let g = good j (Claim n) e in
      let nz : n ≢ 0 = (let h = g.2.0 in omega arith) in
      let z0 : s.count n ≡ 0 = g.0.empty_is nz in
      count_step N M s I p n 1 (Works j (Unlock n)) a b g.0.within (alone_locked N M s I p n g.2.0 (g.0.lock_is nz) z0)
      (sym (ap (λ t. (reliance t).locked) e))
      (λ m h. upd_all (λ i v. 1 ≤ i → v + carry (reliance (s.run p)) i ≡ s.count i + carry (reliance_at (Unlock n)) i) s.count n 1
      (λ _. omega (arith, carry_is (reliance_at (Unlock n)) n, ap (λ t. carry (reliance t) n) e, carry_is (reliance_at (Claim n)) n, is_same n n refl, is_other 0 n (omega arith)))
      m (λ d _. omega (arith, carry_is (reliance_at (Unlock n)) m, ap (λ t. carry (reliance t) m) e, carry_is (reliance_at (Claim n)) m, is_other n m (λ y. d (sym y)), is_other 0 m (omega arith))) h)
      (plain M (upd s.count n 1) s.lock s.kids (s.tray p) (s.slot p) p n n 0 n 0 1 4 (needs_job j).wants g.0.within g.0.lock_is (λ z. absurd (z refl)) (λ _. upd_same s.count n 1) g.0.bare, g.1, (g.2.0, f))

  pub at_Unlock : (j : Job D) (n x : ℕ) → s.run p ≡ Works j (Unlock n) → FitJob j (Offer n) → Inv N M (place_step (Unlock n) j s p x)
  at_Unlock j n x e f =
      let g = good j (Unlock n) e in
      free_step N M s I p n (Works j (Offer n)) a b g.2.0 (ap (λ t. (reliance t).locked) e) refl
      (same_carry (Works j (Unlock n)) e (Works j (Offer n)) (λ m. refl))
      (plain M s.count (upd s.lock n 0) s.kids (s.tray p) (s.slot p) p n 0 0 n 0 1 4 (needs_job j).wants g.0.within (λ z. absurd (z refl)) (λ z. absurd (z refl)) g.0.one_is g.0.bare, g.1, (g.2.0, f))

  pub at_OpenTray : (j : Job D) (x : ℕ) → s.run p ≡ Works j OpenTray → FitJob j ReadTray → tray_node (s.tray p) ≡ 0 → Inv N M (place_step OpenTray j s p x)
  at_OpenTray j x e f z =
      let g = good j OpenTray e in
      tray_step N M s I p p Open (Works j ReadTray) a b a b (inl refl) (sym (ap (λ t. (reliance t).locked) e))
      (λ m h. omega (arith, carry_is none m, ap (λ t. carry (reliance t) m) e, ap (λ t. is t m) z))
      (λ z. absurd (z refl)) (λ v q. (let u : ◌≡◌ {A = ℕ} 0 1 = cc in omega arith))
      (idle_claim (set_tray s p Open) (needs_job j).wants, g.1, (tt, f))

  pub at_ReadTray' : (j : Job D) → s.run p ≡ Works j ReadTray → FitJob j LookForNode → ((v : ℕ) → FitJob j (CloseTray v)) → (t : Tray) → s.tray p ≡ t → Inv N M (set_run s p (at_ReadTray t j))
  at_ReadTray' j e f f' Closed q = quiet j ReadTray e LookForNode refl (λ m. refl) (idle_claim s (needs_job j).wants) tt f
  at_ReadTray' j e f f' Open q = quiet j ReadTray e LookForNode refl (λ m. refl) (idle_claim s (needs_job j).wants) tt f
  at_ReadTray' j e f f' (Holding v) q = quiet j ReadTray e (CloseTray v) refl (λ m. refl)
      (record { within = omega arith; lock_is = λ z. absurd (z refl); empty_is = λ z. absurd (z refl); one_is = λ z. absurd (z refl); bare = λ k x y. absurd (omega arith); pend_is = λ z. absurd (z refl); put_is = λ z. absurd (z refl); held_is = λ _. q; none_given = λ k x. absurd (omega arith); given = λ k x. absurd (omega arith) })
      (I.filled p v q) (f' v)

  -- a node that is claimed goes into a tray
  pub offered : (j : Job D) (n q₀ : ℕ) (c : Place) → s.run p ≡ Works j c → reliance_at c ≡ relies n 0 0 n 0 1 4 → 1 ≤ n → 1 ≤ q₀ → q₀ ≤ N → s.tray q₀ ≡ Open
      → (r : Running D) → (reliance r).locked ≡ 0 → (reliance r).one ≡ 0 → (reliance r).other ≡ 0 → Good N M (set_tray s q₀ (Holding n)) p r → Inv N M (set_run (set_tray s q₀ (Holding n)) p r)
  offered j n q₀ c e ec n1 h1 h2 o r r1 r2 r3 G =
      let g = good j c e in
      let L : LocalOf M s p (relies n 0 0 n 0 1 4) (needs_job j).wants = subst (λ t. LocalOf M s p t (needs_job j).wants) ec g.0 in
      let er : reliance (s.run p) ≡ relies n 0 0 n 0 1 4 = ap reliance e ∙ ec in
      tray_step N M s I p q₀ (Holding n) r a b h1 h2 (inr o) (r1 ∙ sym (ap (λ t. t.locked) er))
      (λ m h. omega (arith, carry_is (reliance r) m, ap (λ t. is t m) r2, ap (λ t. is t m) r3, ap (λ t. carry t m) er, carry_is (relies n 0 0 n 0 1 4) m, ap (λ t. is (tray_node t) m) o))
      (λ _. record { is_one = L.one_is (omega arith); no_kids = λ k. L.bare k (position_pos k) (position_low k) })
      (λ v q. subst (λ t. 1 ≤ t) (ap tray_node q) n1) G

  pub at_GiveBack : (j : Job D) (n : ℕ) (c : Place) → s.run p ≡ Works j c → reliance_at c ≡ relies n 0 0 n 0 1 4 → 1 ≤ n → Inv N M (set_run (set_count s n 0) p (back j))
  at_GiveBack j n c e ec n1 =
      let g = good j c e in
      let L : LocalOf M s p (relies n 0 0 n 0 1 4) (needs_job j).wants = subst (λ t. LocalOf M s p t (needs_job j).wants) ec g.0 in
      let er : reliance (s.run p) ≡ relies n 0 0 n 0 1 4 = ap reliance e ∙ ec in
      let o1 : s.count n ≡ 1 = L.one_is (omega arith) in
      let cn : 1 ≤ carry (reliance (s.run p)) n = subst (λ t. 1 ≤ carry t n) (sym er) (carry_one N M n (relies n 0 0 n 0 1 4) refl) in
      count_step N M s I p n 0 (back j) a b L.within (alone_refs N M s I p n a b n1 (omega arith))
      (ap (λ t. t.locked) (back_claim j c e) ∙ sym (ap (λ t. t.locked) er))
      (λ m h. upd_all (λ i v. 1 ≤ i → v + carry (reliance (s.run p)) i ≡ s.count i + carry (reliance (back j)) i) s.count n 0
      (λ _. omega (arith, ap (λ t. carry t n) (back_claim j c e), carry_is none n, ap (λ t. carry t n) er, carry_is (relies n 0 0 n 0 1 4) n, is_same n n refl, is_other 0 n (omega arith)))
      m (λ d _. omega (arith, ap (λ t. carry t m) (back_claim j c e), carry_is none m, ap (λ t. carry t m) er, carry_is (relies n 0 0 n 0 1 4) m, is_other n m (λ y. d (sym y)), is_other 0 m (omega arith))) h)
      (back_good j c e (set_count s n 0) refl refl)

  pub at_CloseTray : (j : Job D) (v x : ℕ) → s.run p ≡ Works j (CloseTray v) → FitJob j (WriteData v) → Inv N M (place_step (CloseTray v) j s p x)
  at_CloseTray j v x e f =
      let g = good j (CloseTray v) e in
      let vz : v ≢ 0 = (let h = g.2.0 in omega arith) in
      let t = g.0.held_is vz in
      let tn : tray_node (s.tray p) ≡ v = ap tray_node t in
      let B : Bare s.count s.kids v = subst (Bare s.count s.kids) tn (I.trays p a b (λ z. vz (sym tn ∙ z))) in
      let c1 = B.is_one in
      tray_step N M s I p p Closed (Works j (WriteData v)) a b a b (inl refl) (sym (ap (λ t. (reliance t).locked) e))
      (λ m h. omega (arith, carry_is (reliance_at (WriteData v)) m, ap (λ t. carry (reliance t) m) e, carry_is (reliance_at (CloseTray v)) m, ap (λ t. is t m) tn))
      (λ z. absurd (z refl)) (λ u q. (let w : ◌≡◌ {A = ℕ} 0 1 = cc in omega arith))
      (plain M s.count s.lock s.kids (upd s.tray p Closed p) (s.slot p) p v 0 0 v 0 1 4 (needs_job j).wants (below v g.2.0 (omega arith)) (λ z. absurd (z refl)) (λ z. absurd (z refl)) (λ _. c1) (λ k x y. B.no_kids k), g.1, (g.2.0, f))
