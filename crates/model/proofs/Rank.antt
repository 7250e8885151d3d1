-- Make's bound: what a step does to the free nodes, and to the number of takings still possible.
use Rattle.std.proofs.Common.{◌≡◌, ℕ, zero, suc, ◌+◌, ◌-◌, ◌*◌, ◌<◌, ◌≤◌, cond, eqb, ◌≢◌, ◌⊎◌, sym, refl, ap, ◌∙◌, subst, inl, inr, mul-le-mul_left, arith}
use Rattle.std.proofs.lemmas.Bool.{cases_eq, cond_both, eq-eqb, ne_eqb, cond-true, cond-false}
use Rattle.model.specs.Fun.{upd, sum_to}
use Rattle.model.specs.Types.{Kid, First, Second, Third, Holding, Place, ReadTray, LookForNode, LockNode, Recheck, UnlockAndGoBack, ReadKid, ClearKid, UncountKid, Claim, Unlock, Offer, KeepForOneself, GiveBack, CloseTray, WriteData, CountKid, LinkKid, Job, Makes, Sweeps, Running, Idle, Works}
use Rattle.model.specs.State.{position, kid_at, Store, set_count, set_lock, set_kid, set_tray, set_run}
use Rattle.model.specs.Steps.{after_kid}
use Rattle.model.specs.Reach.{Free}
use Rattle.model.specs.Inv.{reliance, Inv}
use Rattle.model.proofs.Gives.{first_any, after_any}
use Rattle.model.proofs.Explicit.{is_open, back, own_tray, place_step}
use Rattle.model.proofs.Sums.{upd_same, upd_other, sum_to_at, sum_le}
use Rattle.model.proofs.Refs.{slots_at}
use Rattle.model.proofs.Make.{good}

module _ {D : Type 0} (N M : ℕ) (s : Store D) (I : Inv N M s) (p : ℕ) (a : 1 ≤ p) (b : p ≤ N) (x : ℕ) where
  -- a count of 0 at a node that p has not locked stays 0
  module _ (n : ℕ) (z : s.count n ≡ 0) (l : s.lock n ≢ p) where
    StaysZero : Store D → Type 0
    StaysZero t = t.count n ≡ 0

    zero_less : (w : ℕ) → upd s.count w (s.count w - 1) n ≡ 0
    zero_less w = elim (cases_eq n w) [ inl e ↦ ap (upd s.count w (s.count w - 1)) e ∙ upd_same s.count w (s.count w - 1) ∙ (let h : s.count w ≡ 0 = ap s.count (sym e) ∙ z in omega arith) | inr d ↦ upd_other s.count w n (s.count w - 1) d ∙ z ]

    zero_off : (w v : ℕ) → n ≢ w → upd s.count w v n ≡ 0
    zero_off w v d = upd_other s.count w n v d ∙ z

    zero_set : (w : ℕ) → upd s.count w 0 n ≡ 0
    zero_set w = elim (cases_eq n w) [ inl e ↦ ap (upd s.count w 0) e ∙ upd_same s.count w 0 | inr d ↦ zero_off w 0 d ]

    off_more : (w : ℕ) → 1 ≤ s.count w → n ≢ w
    off_more w h e = let k : s.count n ≡ s.count w = ap s.count e in omega arith

    pub zero_stays : (c : Place) (j : Job D) → s.run p ≡ Works j c → (place_step c j s p x).count n ≡ 0
    unfolding StaysZero
    zero_stays LookForNode j e = cond_both (eqb (s.count x) 0) (set_run s p (Works j (LockNode x))) (set_run s p (back j)) StaysZero (λ _. z) (λ _. z)
    zero_stays (LockNode m) j e = cond_both (eqb (s.lock m) 0) (set_run (set_lock s m p) p (Works j (Recheck m))) (set_run s p (back j)) StaysZero (λ _. z) (λ _. z)
    zero_stays (Recheck m) j e = cond_both (eqb (s.count m) 0) (set_run s p (Works j (ReadKid m First))) (set_run s p (Works j (UnlockAndGoBack m))) StaysZero (λ _. z) (λ _. z)
    zero_stays (ReadKid m k) j e = cond_both (eqb (kid_at (s.kids m) k) 0) (set_run s p (Works j (after_kid m k))) (set_run s p (Works j (ClearKid m k (kid_at (s.kids m) k)))) StaysZero (λ _. z) (λ _. z)
    zero_stays (UncountKid m k w) j e = zero_less w
    zero_stays (Claim m) j e =
        let g = good N M s I p a b j (Claim m) e in
        let k : s.lock m ≡ p = g.0.lock_is (let h = g.2.0 in omega arith) in
        zero_off m 1 (λ q. l (ap s.lock q ∙ k))
    zero_stays (Offer m) (Makes y) e = cond_both (eqb x p) (own_tray (Makes y) s p m) (cond (is_open (s.tray x)) (set_run (set_tray s x (Holding m)) p (back (Makes y))) (set_run s p (Works (Makes y) (KeepForOneself m)))) StaysZero
        (λ _. cond_both (is_open (s.tray p)) (set_run (set_tray s p (Holding m)) p (Works (Makes y) (CloseTray m))) (set_run s p (Works (Makes y) (GiveBack m))) StaysZero (λ _. z) (λ _. z))
        (λ _. cond_both (is_open (s.tray x)) (set_run (set_tray s x (Holding m)) p (back (Makes y))) (set_run s p (Works (Makes y) (KeepForOneself m))) StaysZero (λ _. z) (λ _. z))
    zero_stays (Offer m) Sweeps e = cond_both (eqb x p) (set_run (set_count s m 0) p Idle) (cond (is_open (s.tray x)) (set_run (set_tray s x (Holding m)) p Idle) (set_run s p (Works Sweeps (GiveBack m)))) StaysZero
        (λ _. zero_set m)
        (λ _. cond_both (is_open (s.tray x)) (set_run (set_tray s x (Holding m)) p Idle) (set_run s p (Works Sweeps (GiveBack m))) StaysZero (λ _. z) (λ _. z))
    zero_stays (KeepForOneself m) j e = cond_both (is_open (s.tray p)) (set_run (set_tray s p (Holding m)) p (Works j (CloseTray m))) (set_run s p (Works j (GiveBack m))) StaysZero (λ _. z) (λ _. z)
    zero_stays (GiveBack m) j e = zero_set m
    zero_stays (WriteData v) (Makes y) e = first_any StaysZero y s p v z (λ k. z)
    zero_stays (CountKid v k) (Makes y) e =
        let g = good N M s I p a b (Makes y) (CountKid v k) e in
        let w = s.slot p (kid_at y.kids k) in
        let want = g.1.wants_is k g.2.1 in
        let wpos : 1 ≤ w = (let u : w ≢ 0 = want.1 in omega arith) in
        let sl = slots_at N M w s.slot p (kid_at y.kids k) a b (let u : kid_at y.kids k ≢ 0 = g.2.1 in omega arith) want.0 refl in
        zero_off w (s.count w + 1) (off_more w (let c = I.counts w wpos in omega arith))
    zero_stays (LinkKid v k w) (Makes y) e = after_any StaysZero y (set_kid s v k w) p v z (λ k. z) k
    zero_stays _ j e = z

-- 1 where a place asks the node order, 2 where it asks the party order
abbrev pub asks_at : Place → ℕ
asks_at c = elim c [ LookForNode ↦ 1 | Offer n ↦ 2 | _ ↦ 0 ]

-- 1 unless the party has taken a free node and not yet offered it
abbrev pub waits_at : (ℕ → ℕ) → Place → ℕ
waits_at f (Recheck n) = cond (eqb (f n) 0) 0 1
waits_at f (ReadKid n k) = 0
waits_at f (ClearKid n k w) = 0
waits_at f (UncountKid n k w) = 0
waits_at f (Claim n) = 0
waits_at f (Unlock n) = 0
waits_at f (Offer n) = 0
waits_at f _ = 1

abbrev pub waits : {D : Type 0} → (ℕ → ℕ) → Running D → ℕ
waits f (Works j c) = waits_at f c
waits f _ = 1

-- how many takings may still happen before o is served
unfoldable pub togo : {D : Type 0} → ℕ → (ℕ → ℕ → ℕ) → (ℕ → ℕ) → (ℕ → Running D) → ℕ → ℕ
togo N due f run o = sum_to N (λ q. due q o + waits f (run q))

pub sum_lt : (n : ℕ) (f g : ℕ → ℕ) (p : ℕ) → 1 ≤ p → p ≤ n → ((k : ℕ) → 1 ≤ k → k ≤ n → f k ≤ g k) → f p < g p → sum_to n f < sum_to n g
unfolding sum_to
sum_lt zero f g p a b h l = absurd (omega arith)
sum_lt (suc n) f g p a b h l =
    elim (cases_eq p (suc n)) [
      | inl e ↦ let d = sum_le n f g (λ k a b. h k a (omega arith)) in
          let u : f p ≡ f (suc n) = ap f e in let v : g p ≡ g (suc n) = ap g e in omega arith
      | inr z ↦ let d = sum_lt n f g p a (omega arith) (λ k a b. h k a (omega arith)) l in
          let e = h (suc n) (omega arith) (omega arith) in omega arith
    ]

bit_le : (f g : ℕ → ℕ) (n : ℕ) → (f n ≡ 0 → g n ≡ 0) → cond {A = ℕ} (eqb (g n) 0) 0 1 ≤ cond (eqb (f n) 0) 0 1
bit_le f g n h =
    elim (cases_eq (f n) 0) [
      | inl e ↦ rw (eq-eqb (g n) 0 (h e)) (omega arith)
      | inr z ↦ rw (ne_eqb (f n) 0 z) (cond_both (eqb (g n) 0) 0 1 (λ t. t ≤ 1) (λ _. omega arith) (λ _. omega arith))
    ]

-- another's step: whoever waits goes on waiting, or less
pub waits_le : {D : Type 0} (f g : ℕ → ℕ) (r : Running D) → ((n : ℕ) → (reliance r).locked ≡ n → f n ≡ 0 → g n ≡ 0) → waits g r ≤ waits f r
waits_le f g (Works j (Recheck n)) h = bit_le f g n (h n refl)
waits_le f g _ h = omega arith

module _ {D : Type 0} (N M : ℕ) (s : Store D) (I : Inv N M s) (p : ℕ) (a : 1 ≤ p) (b : p ≤ N) (x : ℕ) (c : Place) (j : Job D) (e : s.run p ≡ Works j c) where
  -- the others wait no more than before
  pub others_wait : (q : ℕ) → 1 ≤ q → q ≤ N → q ≢ p → waits (place_step c j s p x).count (s.run q) ≤ waits s.count (s.run q)
  others_wait q ga gb d = waits_le s.count (place_step c j s p x).count (s.run q) (λ n l z. zero_stays N M s I p a b x n z (not_mine n l) c j e)
    where
      not_mine : (n : ℕ) → (reliance (s.run q)).locked ≡ n → s.lock n ≢ p
      not_mine n l k = elim (cases_eq n 0) [
        | inl o ↦ (let u : s.lock n ≡ 0 = ap s.lock o ∙ I.nowhere in omega arith)
        | inr o ↦ (let g : s.lock (reliance (s.run q)).locked ≡ q = (I.parties q ga gb).0.lock_is (λ y. o (sym l ∙ y)) in
            let h : s.lock n ≡ q = subst (λ m. s.lock m ≡ q) l g in d (sym h ∙ k))
      ]

  -- a step of p, in terms of what p itself adds to the sum
  pub togo_le : (due due' : ℕ → ℕ → ℕ) (o : ℕ) → ((q : ℕ) → 1 ≤ q → q ≤ N → q ≢ p → due' q o ≡ due q o) → (t : Store D) → t.count ≡ (place_step c j s p x).count → ((q : ℕ) → q ≢ p → t.run q ≡ s.run q)
      → due' p o + waits t.count (t.run p) ≤ due p o + waits s.count (s.run p)
      → togo N due' t.count t.run o ≤ togo N due s.count s.run o
  unfolding togo
  togo_le due due' o h t ec er own = sum_le N (λ q. due' q o + waits t.count (t.run q)) (λ q. due q o + waits s.count (s.run q))
      (λ q ga gb. elim (cases_eq q p) [
        | inl u ↦ subst (λ k. due' k o + waits t.count (t.run k) ≤ due k o + waits s.count (s.run k)) (sym u) own
        | inr d ↦ (let w = others_wait q ga gb d in
            let w' : waits t.count (t.run q) ≡ waits (place_step c j s p x).count (s.run q) = ap (λ f. waits f (t.run q)) ec ∙ ap (waits (place_step c j s p x).count) (er q d) in
            let y = h q ga gb d in omega arith)
      ])

  togo_lt : (due due' : ℕ → ℕ → ℕ) (o : ℕ) → ((q : ℕ) → 1 ≤ q → q ≤ N → q ≢ p → due' q o ≡ due q o) → (t : Store D) → t.count ≡ (place_step c j s p x).count → ((q : ℕ) → q ≢ p → t.run q ≡ s.run q)
      → due' p o + waits t.count (t.run p) < due p o + waits s.count (s.run p)
      → togo N due' t.count t.run o < togo N due s.count s.run o
  unfolding togo
  togo_lt due due' o h t ec er own = sum_lt N (λ q. due' q o + waits t.count (t.run q)) (λ q. due q o + waits s.count (s.run q)) p a b
      (λ q ga gb. elim (cases_eq q p) [
        | inl u ↦ subst (λ k. due' k o + waits t.count (t.run k) ≤ due k o + waits s.count (s.run k)) (sym u) (omega arith)
        | inr d ↦ (let w = others_wait q ga gb d in
            let w' : waits t.count (t.run q) ≡ waits (place_step c j s p x).count (s.run q) = ap (λ f. waits f (t.run q)) ec ∙ ap (waits (place_step c j s p x).count) (er q d) in
            let y = h q ga gb d in omega arith)
      ]) own

-- a taking: LockNode at a free node lowers the number of takings to go
pub taking : {D : Type 0} (N M : ℕ) (s : Store D) (I : Inv N M s) (p : ℕ) (a : 1 ≤ p) (b : p ≤ N) (x : ℕ) (n : ℕ) (j : Job D) → s.run p ≡ Works j (LockNode n)
    → s.count n ≡ 0 → s.lock n ≡ 0 → (due : ℕ → ℕ → ℕ) (o : ℕ)
    → togo N due (place_step (LockNode n) j s p x).count (place_step (LockNode n) j s p x).run o < togo N due s.count s.run o
taking N M s I p a b x n j e z l due o =
    let t = set_run (set_lock s n p) p (Works j (Recheck n)) in
    let q : place_step (LockNode n) j s p x ≡ t = cond-true (eqb (s.lock n) 0) t (set_run s p (back j)) (eq-eqb (s.lock n) 0 l) in
    let r : t.run p ≡ Works j (Recheck n) = upd_same s.run p (Works j (Recheck n)) in
    let w : waits t.count (t.run p) ≡ 0 = ap (waits s.count) r ∙ cond-true (eqb (s.count n) 0) 0 1 (eq-eqb (s.count n) 0 z) in
    let before : waits s.count (s.run p) ≡ 1 = ap (waits s.count) e in
    subst (λ u. togo N due u.count u.run o < togo N due s.count s.run o) (sym q)
    (togo_lt N M s I p a b x (LockNode n) j e due due o (λ k _ _ d. refl) t (ap (λ u. u.count) (sym q)) (λ k d. upd_other s.run p k (Works j (Recheck n)) d) (omega arith))

pub waits_one : {D : Type 0} (f : ℕ → ℕ) (r : Running D) → waits f r ≤ 1
waits_one f (Works j (Recheck n)) = cond_both (eqb (f n) 0) 0 1 (λ t. t ≤ 1) (λ _. omega arith) (λ _. omega arith)
waits_one f _ = omega arith

after_kid_waits : {D : Type 0} (f : ℕ → ℕ) (j : Job D) (n : ℕ) (k : Kid) → waits f (Works j (after_kid n k)) ≡ 0
after_kid_waits f j n First = refl
after_kid_waits f j n Second = refl
after_kid_waits f j n Third = refl

module _ {D : Type 0} (s : Store D) (p x : ℕ) (d d' : ℕ) where
  -- what p adds to the sum does not grow; d and d' are p's due of the waiting party before and after
  unfoldable pub NoMore : Place → Store D → Type 0
  NoMore c t = d' + waits t.count (t.run p) ≤ d + waits_at s.count c

  free_no_more : (c : Place) → waits_at s.count c ≡ 1 → d' ≤ d → (t : Store D) → NoMore c t
  unfolding NoMore
  free_no_more c h l t = omega (arith, waits_one t.count (t.run p))

  moved_no_more : (c : Place) (f : ℕ → ℕ) (r : Running D) → d' + waits f r ≤ d + waits_at s.count c → d' + waits f (upd s.run p r p) ≤ d + waits_at s.count c
  moved_no_more c f r h = subst (λ q. d' + waits f q ≤ d + waits_at s.count c) (sym (upd_same s.run p r)) h

  pub own_no_more : (c : Place) (j : Job D) → d' ≤ d → ((n : ℕ) → c ≡ Offer n → d' + 1 ≤ d) → NoMore c (place_step c j s p x)
  unfolding NoMore
  own_no_more (Recheck n) j l h = elim (cases_eq (s.count n) 0) [
    | inr z ↦ free_no_more (Recheck n) (cond-false (eqb (s.count n) 0) 0 1 (ne_eqb (s.count n) 0 z)) l (place_step (Recheck n) j s p x)
    | inl z ↦ subst (NoMore (Recheck n)) (sym (cond-true (eqb (s.count n) 0) (set_run s p (Works j (ReadKid n First))) (set_run s p (Works j (UnlockAndGoBack n))) (eq-eqb (s.count n) 0 z))) (moved_no_more (Recheck n) s.count (Works j (ReadKid n First)) (omega arith))
  ]
  own_no_more (ReadKid n k) j l h = cond_both (eqb (kid_at (s.kids n) k) 0) (set_run s p (Works j (after_kid n k))) (set_run s p (Works j (ClearKid n k (kid_at (s.kids n) k)))) (NoMore (ReadKid n k))
      (λ _. moved_no_more (ReadKid n k) s.count (Works j (after_kid n k)) (omega (arith, after_kid_waits s.count j n k)))
      (λ _. moved_no_more (ReadKid n k) s.count (Works j (ClearKid n k (kid_at (s.kids n) k))) (omega arith))
  own_no_more (ClearKid n k w) j l h = moved_no_more (ClearKid n k w) s.count (Works j (UncountKid n k w)) (omega arith)
  own_no_more (UncountKid n k w) j l h = moved_no_more (UncountKid n k w) (upd s.count w (s.count w - 1)) (Works j (after_kid n k)) (omega (arith, after_kid_waits (upd s.count w (s.count w - 1)) j n k))
  own_no_more (Claim n) j l h = moved_no_more (Claim n) (upd s.count n 1) (Works j (Unlock n)) (omega arith)
  own_no_more (Unlock n) j l h = moved_no_more (Unlock n) s.count (Works j (Offer n)) (omega arith)
  own_no_more (Offer n) j l h = let k = h n refl in omega (arith, waits_one (place_step (Offer n) j s p x).count ((place_step (Offer n) j s p x).run p))
  own_no_more c j l h = free_no_more c refl l (place_step c j s p x)

-- the arithmetic of the rank: S is the span, T the takings to go, d the due of a free node, L the steps left
pub miss : (S T d d' L L' r : ℕ) → d' + 1 ≤ d → L' ≤ L + 17 → 18 * (S * T + d) + L + 9 ≤ suc r → 18 * (S * T + d') + L' + 9 ≤ r
miss S T d d' L L' r h k b = omega arith

pub promise : (S T d L L' r : ℕ) → L' ≤ L + 17 → 18 * (suc S * suc T + d) + L + 9 ≤ suc r → 18 * (suc S * T + S) + L' + 9 ≤ r
promise S T d L L' r k b = omega arith

pub taken : (S T T' d d' L r : ℕ) → T' < T → d' < S → 18 * (S * T + d) + L + 9 ≤ r → 18 * (S * T' + d') + L + 9 ≤ r
taken S T T' d d' L r h k b = omega (arith, mul-le-mul_left S h)

pub fewer : (S T T' d L r : ℕ) → T' ≤ T → 18 * (S * T + d) + L + 9 ≤ r → 18 * (S * T' + d) + L + 9 ≤ r
fewer S T T' d L r h b = omega (arith, mul-le-mul_left S h)

module _ {D : Type 0} (s : Store D) (p x n : ℕ) (z : s.lock n ≡ 0) where
  StaysUnlocked : Store D → Type 0
  StaysUnlocked t = t.lock n ≡ 0

  unlock : (m : ℕ) → upd s.lock m 0 n ≡ 0
  unlock m = elim (cases_eq n m) [ inl e ↦ ap (upd s.lock m 0) e ∙ upd_same s.lock m 0 | inr d ↦ upd_other s.lock m n 0 d ∙ z ]

  -- only LockNode locks
  pub unlocked_stays : (c : Place) (j : Job D) → ((m : ℕ) → c ≡ LockNode m → n ≢ m) → (place_step c j s p x).lock n ≡ 0
  unfolding StaysUnlocked
  unlocked_stays LookForNode j h = cond_both (eqb (s.count x) 0) (set_run s p (Works j (LockNode x))) (set_run s p (back j)) StaysUnlocked (λ _. z) (λ _. z)
  unlocked_stays (LockNode m) j h = cond_both (eqb (s.lock m) 0) (set_run (set_lock s m p) p (Works j (Recheck m))) (set_run s p (back j)) StaysUnlocked (λ _. upd_other s.lock m n p (h m refl) ∙ z) (λ _. z)
  unlocked_stays (Recheck m) j h = cond_both (eqb (s.count m) 0) (set_run s p (Works j (ReadKid m First))) (set_run s p (Works j (UnlockAndGoBack m))) StaysUnlocked (λ _. z) (λ _. z)
  unlocked_stays (UnlockAndGoBack m) j h = unlock m
  unlocked_stays (ReadKid m k) j h = cond_both (eqb (kid_at (s.kids m) k) 0) (set_run s p (Works j (after_kid m k))) (set_run s p (Works j (ClearKid m k (kid_at (s.kids m) k)))) StaysUnlocked (λ _. z) (λ _. z)
  unlocked_stays (Unlock m) j h = unlock m
  unlocked_stays (Offer m) (Makes y) h = cond_both (eqb x p) (own_tray (Makes y) s p m) (cond (is_open (s.tray x)) (set_run (set_tray s x (Holding m)) p (back (Makes y))) (set_run s p (Works (Makes y) (KeepForOneself m)))) StaysUnlocked
      (λ _. cond_both (is_open (s.tray p)) (set_run (set_tray s p (Holding m)) p (Works (Makes y) (CloseTray m))) (set_run s p (Works (Makes y) (GiveBack m))) StaysUnlocked (λ _. z) (λ _. z))
      (λ _. cond_both (is_open (s.tray x)) (set_run (set_tray s x (Holding m)) p (back (Makes y))) (set_run s p (Works (Makes y) (KeepForOneself m))) StaysUnlocked (λ _. z) (λ _. z))
  unlocked_stays (Offer m) Sweeps h = cond_both (eqb x p) (set_run (set_count s m 0) p Idle) (cond (is_open (s.tray x)) (set_run (set_tray s x (Holding m)) p Idle) (set_run s p (Works Sweeps (GiveBack m)))) StaysUnlocked
      (λ _. z) (λ _. cond_both (is_open (s.tray x)) (set_run (set_tray s x (Holding m)) p Idle) (set_run s p (Works Sweeps (GiveBack m))) StaysUnlocked (λ _. z) (λ _. z))
  unlocked_stays (KeepForOneself m) j h = cond_both (is_open (s.tray p)) (set_run (set_tray s p (Holding m)) p (Works j (CloseTray m))) (set_run s p (Works j (GiveBack m))) StaysUnlocked (λ _. z) (λ _. z)
  unlocked_stays (WriteData v) (Makes y) h = first_any StaysUnlocked y s p v z (λ k. z)
  unlocked_stays (CountKid v k) (Makes y) h = z
  unlocked_stays (LinkKid v k w) (Makes y) h = after_any StaysUnlocked y (set_kid s v k w) p v z (λ k. z) k
  unlocked_stays _ j h = z

-- o waits: some free node is near enough in its order for the turns r that it is given
abbrev pub Waiting : {D : Type 0} → (N M S : ℕ) → Store D → (ℕ → ℕ → ℕ) → (ℕ → ℕ) → (o L r : ℕ) → Type 0
Waiting N M S s due nd o L r = (n : ℕ) × Free M s n × (18 * (S * togo N due s.count s.run o + nd n) + L + 9 ≤ r)

pub locks_it_or_not : (c : Place) (n : ℕ) → (c ≡ LockNode n) ⊎ ((m : ℕ) → c ≡ LockNode m → n ≢ m)
locks_it_or_not (LockNode m) n = elim (cases_eq m n) [ inl e ↦ inl (ap LockNode e) | inr d ↦ inr (λ k e q. d (let u : m ≡ k = cc in u ∙ sym q)) ]
locks_it_or_not _ n = inr (λ k e q. (let u : ◌≡◌ {A = ℕ} 0 1 = cc in omega arith))

pub same_due : {D : Type 0} (N : ℕ) (due due' : ℕ → ℕ → ℕ) (f : ℕ → ℕ) (run : ℕ → Running D) (o : ℕ) → ((k : ℕ) → 1 ≤ k → k ≤ N → due' k o ≤ due k o) → togo N due' f run o ≤ togo N due f run o
unfolding togo
same_due N due due' f run o h = sum_le N (λ q. due' q o + waits f (run q)) (λ q. due q o + waits f (run q)) (λ k a b. (let y = h k a b in omega arith))

-- the step of another party, which does not pick o: o waits on, with the same turns to go
pub other_waits : {D : Type 0} (N M S : ℕ) (s : Store D) (I : Inv N M s) (p : ℕ) (a : 1 ≤ p) (b : p ≤ N) (x : ℕ) (c : Place) (j : Job D) (e : s.run p ≡ Works j c)
    (due due' : ℕ → ℕ → ℕ) (nd : ℕ → ℕ) (o L r : ℕ)
    → ((q : ℕ) → 1 ≤ q → q ≤ N → q ≢ p → due' q o ≡ due q o) → due' p o ≤ due p o → ((n : ℕ) → c ≡ Offer n → due' p o + 1 ≤ due p o)
    → ((q : ℕ) → q ≢ p → (place_step c j s p x).run q ≡ s.run q)
    → ((n : ℕ) → 1 ≤ n → n ≤ M → nd n < S) → ((n : ℕ) × Free M (place_step c j s p x) n)
    → Waiting N M S s due nd o L r → Waiting N M S (place_step c j s p x) due' nd o L r
unfolding NoMore
other_waits N M S s I p a b x c j e due due' nd o L r ga gb gc gd ge fr w =
    let t = place_step c j s p x in
    let n = w.0 in
    let F = w.1 in
    let own : due' p o + waits t.count (t.run p) ≤ due p o + waits s.count (s.run p) =
    subst (λ q. due' p o + waits t.count (t.run p) ≤ due p o + waits s.count q) (sym e) (own_no_more s p x (due p o) (due' p o) c j gb gc) in
    let le = togo_le N M s I p a b x c j e due due' o ga t refl gd own in
    elim (locks_it_or_not c n) [
      | inr d ↦ (
        n,
        (F.0, F.1, zero_stays N M s I p a b x n F.2 (λ k. (let u = F.3 in omega arith)) c j e, unlocked_stays s p x n F.3 c j d),
        fewer S (togo N due s.count s.run o) (togo N due' t.count t.run o) (nd n) L r le w.2,
      )
      | inl q ↦ (let lt : togo N due t.count t.run o < togo N due s.count s.run o =
          subst (λ k. togo N due (place_step k j s p x).count (place_step k j s p x).run o < togo N due s.count s.run o) (sym q)
          (taking N M s I p a b x n j (e ∙ ap (Works j) q) F.2 F.3 due o) in
          let le' : togo N due' t.count t.run o ≤ togo N due t.count t.run o = same_due N due due' t.count t.run o (λ k ka kb. elim (cases_eq k p) [ inl u ↦ subst (λ i. due' i o ≤ due i o) (sym u) gb | inr d ↦ (let y = ga k ka kb d in omega arith) ]) in
          (fr.0, fr.1, taken S (togo N due s.count s.run o) (togo N due' t.count t.run o) (nd n) (nd fr.0) L r (omega arith) (ge fr.0 fr.1.0 fr.1.1) w.2))
    ]

abbrev pub left : Place → ℕ
left ReadTray = 18
left LookForNode = 17
left (LockNode n) = 34
left (Recheck n) = 33
left (UnlockAndGoBack n) = 19
left (ReadKid n k) = 35 - 3 * position k
left (ClearKid n k w) = 34 - 3 * position k
left (UncountKid n k w) = 33 - 3 * position k
left (Claim n) = 23
left (Unlock n) = 22
left (Offer n) = 21
left (KeepForOneself n) = 20
left (GiveBack n) = 19
left _ = 0

-- p stands at LockNode with a free node: that taking is as good as done
abbrev pub Hoping : {D : Type 0} → (N M S : ℕ) → Store D → (ℕ → ℕ → ℕ) → (o n r : ℕ) → Type 0
Hoping N M S s due o n r = Free M s n × ((T' : ℕ) × (togo N due s.count s.run o ≡ suc T') × (18 * (suc S * T' + S) + 34 + 9 ≤ r))

module _ {D : Type 0} (N M S : ℕ) (s : Store D) (I : Inv N M s) (p : ℕ) (a : 1 ≤ p) (b : p ≤ N) (x : ℕ) (j : Job D) (due : ℕ → ℕ → ℕ) (nd nd' : ℕ → ℕ) (r : ℕ) where
  -- the sum of p's own step, with no pick of a party
  pub own_togo : (c : Place) → s.run p ≡ Works j c → ((n : ℕ) → c ≡ Offer n → ⊥) → ((q : ℕ) → q ≢ p → (place_step c j s p x).run q ≡ s.run q)
      → togo N due (place_step c j s p x).count (place_step c j s p x).run p ≤ togo N due s.count s.run p
  unfolding NoMore
  own_togo c e h k =
      let t = place_step c j s p x in
      togo_le N M s I p a b x c j e due due p (λ q _ _ d. refl) t refl k
      (subst (λ q. due p p + waits t.count (t.run p) ≤ due p p + waits s.count q) (sym e) (own_no_more s p x (due p p) (due p p) c j (omega arith) (λ n q. absurd (h n q))))

  hope_pos : 1 ≤ togo N due s.count (upd s.run p (Works j (LockNode x))) p
  unfolding togo
  hope_pos = omega (arith, sum_to_at N (λ q. due q p + waits s.count (upd s.run p (Works j (LockNode x)) q)) p a b, ap (waits s.count) (upd_same s.run p (Works j (LockNode x))))

  -- LookForNode: the pick misses the free node in view, which comes nearer; or it hits it
  pub rank_LookForNode : s.run p ≡ Works j LookForNode → ((n : ℕ) → 1 ≤ n → n ≤ M → n ≢ x → nd' n + 1 ≤ nd n) → ((q : ℕ) → q ≢ p → (place_step LookForNode j s p x).run q ≡ s.run q)
      → Waiting N M (suc S) s due nd p 17 (suc r)
      → Waiting N M (suc S) (place_step LookForNode j s p x) due nd' p 34 r ⊎ (((place_step LookForNode j s p x) ≡ set_run s p (Works j (LockNode x))) × Hoping N M S (place_step LookForNode j s p x) due p x r)
  rank_LookForNode e near k w =
      let n = w.0 in
      let F = w.1 in
      let t = place_step LookForNode j s p x in
      let le = own_togo LookForNode e (λ m q. (let u : ◌≡◌ {A = ℕ} 0 1 = cc in omega arith)) k in
      elim (cases_eq n x) [
        | inr d ↦ inl (
          n,
          (F.0, F.1, zero_stays N M s I p a b x n F.2 (λ h. (let u = F.3 in omega arith)) LookForNode j e, unlocked_stays s p x n F.3 LookForNode j (λ m q. absurd (let u : ◌≡◌ {A = ℕ} 0 1 = cc in omega arith))),
          miss (suc S) (togo N due t.count t.run p) (nd n) (nd' n) 17 34 r (near n F.0 F.1 d) (omega arith)
              (fewer (suc S) (togo N due s.count s.run p) (togo N due t.count t.run p) (nd n) 17 (suc r) le w.2),
        )
        | inl q ↦ (let z : s.count x ≡ 0 = ap s.count (sym q) ∙ F.2 in
            let lz : s.lock x ≡ 0 = ap s.lock (sym q) ∙ F.3 in
            let u = set_run s p (Works j (LockNode x)) in
            let eq : t ≡ u = cond-true (eqb (s.count x) 0) u (set_run s p (back j)) (eq-eqb (s.count x) 0 z) in
            let same : togo N due u.count u.run p ≤ togo N due s.count s.run p = subst (λ y. togo N due y.count y.run p ≤ togo N due s.count s.run p) eq le in
            let T = togo N due u.count u.run p in
            let one : 1 ≤ T = hope_pos in
            inr (
              eq,
              subst (λ y. Hoping N M S y due p x r) (sym eq) (
                (subst (λ y. 1 ≤ y) q F.0, subst (λ y. y ≤ M) q F.1, z, lz),
                (
                  T - 1,
                  omega arith,
                  promise S (T - 1) (nd n) 17 34 r (omega arith)
                      (subst (λ y. 18 * (suc S * y + nd n) + 17 + 9 ≤ suc r) (let v : T ≡ suc (T - 1) = omega arith in v)
                      (fewer (suc S) (togo N due s.count s.run p) T (nd n) 17 (suc r) same w.2)),
                ),
              ),
            ))
      ]
