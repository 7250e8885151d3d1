-- Make's bound, one step at a time: what p's own steps and the steps of others do to the rank.
use Rattle.std.proofs.Common.{◌≡◌, ℕ, suc, ◌+◌, ◌-◌, ◌*◌, ◌<◌, ◌≤◌, Bool, true, false, cond, eqb, ◌≢◌, ◌⊎◌, sym, refl, ap, ◌∙◌, subst, inl, inr, true≢false, mul-le-mul_left, arith}
use Rattle.std.proofs.lemmas.Bool.{cases_eq, cond_both, eqb-false, cond-false, ne_eqb}
use Rattle.model.specs.Types.{Kid, First, Second, Third, Tray, Closed, Open, Holding, Place, OpenTray, ReadTray, LookForNode, LockNode, Recheck, UnlockAndGoBack, ReadKid, ClearKid, UncountKid, Claim, Unlock, Offer, KeepForOneself, GiveBack, CloseTray, WriteData, CountKid, LinkKid, Plan, Job, Makes, Running, Idle, Works}
use Rattle.model.specs.State.{position, kid_at, Store, set_count, set_lock, set_kid, set_tray, set_slot, set_run}
use Rattle.model.specs.Steps.{after_kid}
use Rattle.model.specs.Reach.{Free}
use Rattle.model.specs.Inv.{Inv}
use Rattle.model.proofs.Gives.{first_by, after_by}
use Rattle.model.proofs.Explicit.{is_open, give_after, at_ReadTray, own_tray, place_step, give_first}
use Rattle.model.proofs.Sums.{upd_same, upd_other, sum_to_at, sum_at_most}
use Rattle.model.proofs.Make.{position_low}
use Rattle.model.proofs.Rank.{asks_at, zero_stays, unlocked_stays, waits, waits_one, togo, taking, togo_le, Waiting, locks_it_or_not, same_due, other_waits, left, Hoping, rank_LookForNode, NoMore, own_no_more}

-- steps to ReadTray once the tray holds a node
abbrev pub served : Place → ℕ
served LookForNode = 17
served (LockNode n) = 16
served (Recheck n) = 15
served (UnlockAndGoBack n) = 1
served (ReadKid n k) = 17 - 3 * position k
served (ClearKid n k w) = 16 - 3 * position k
served (UncountKid n k w) = 15 - 3 * position k
served (Claim n) = 5
served (Unlock n) = 4
served (Offer n) = 3
served (KeepForOneself n) = 2
served (GiveBack n) = 1
served _ = 0

-- p seeks a node: ReadTray to GiveBack
abbrev pub seeks : Place → Bool
seeks OpenTray = false
seeks (CloseTray n) = false
seeks (WriteData n) = false
seeks (CountKid v k) = false
seeks (LinkKid v k w) = false
seeks _ = true

-- after LookForNode p may stand at LockNode
abbrev left_before : Place → ℕ
left_before c = cond (eqb (asks_at c) 1) 35 (left c)

served_left : (c : Place) → served c ≤ left c
served_left (ReadKid n k) = omega (arith, position_low k)
served_left (ClearKid n k w) = omega (arith, position_low k)
served_left (UncountKid n k w) = omega (arith, position_low k)
served_left _ = omega arith

module _ {D : Type 0} (N M S P : ℕ) (s : Store D) (due : ℕ → ℕ → ℕ) (nd : ℕ → ℕ) (p r : ℕ) where
  pub data Mid (c : Place) : Type 0 where
    has : (v : ℕ) → s.tray p ≡ Holding v → served c + 9 ≤ r → Mid c
    wants : s.tray p ≡ Open → Waiting N M (suc S) s due nd p (left c) r → Mid c
    hopes : (n : ℕ) → c ≡ LockNode n → s.tray p ≡ Open → Hoping N M S s due p n r → Mid c

  abbrev pub PlaceRank : Place → Type 0
  PlaceRank OpenTray = 18 * (suc S * (N * P + 1)) + 10 ≤ r
  PlaceRank (CloseTray v) = 8 ≤ r
  PlaceRank (WriteData v) = 7 ≤ r
  PlaceRank (CountKid v k) = 8 - 2 * position k ≤ r
  PlaceRank (LinkKid v k w) = 7 - 2 * position k ≤ r
  PlaceRank c = Mid c

  -- at most r turns of p are left
  abbrev pub RunRank : Running D → Type 0
  RunRank Idle = Unit {0}
  RunRank (Works (Makes y) c) = PlaceRank c
  RunRank _ = ⊥

  pub seeking : (c : Place) → seeks c ≡ true → Mid c → PlaceRank c
  seeking OpenTray h m = absurd (true≢false (sym h))
  seeking (CloseTray v) h m = absurd (true≢false (sym h))
  seeking (WriteData v) h m = absurd (true≢false (sym h))
  seeking (CountKid v k) h m = absurd (true≢false (sym h))
  seeking (LinkKid v k w) h m = absurd (true≢false (sym h))
  seeking _ h m = m

  mid_pos : (c : Place) → Mid c → 9 ≤ r
  mid_pos c (has v e h) = omega arith
  mid_pos c (wants e w) = let h = w.2 in omega arith
  mid_pos c (hopes n q e h) = let u = h.1.2 in omega arith

  pub rank_pos : (y : Plan D) (c : Place) → PlaceRank c → 1 ≤ r
  rank_pos y OpenTray h = omega arith
  rank_pos y (CloseTray v) h = omega arith
  rank_pos y (WriteData v) h = omega arith
  rank_pos y (CountKid v k) h = omega (arith, position_low k)
  rank_pos y (LinkKid v k w) h = omega (arith, position_low k)
  rank_pos y c h = omega (arith, mid_pos c h)

  pub mid_served : (c : Place) → Mid c → served c + 9 ≤ r
  mid_served c (has v e h) = h
  mid_served c (wants e w) = let h = w.2 in omega (arith, served_left c)
  mid_served c (hopes n q e h) = let u = h.1.2 in subst (λ k. served k + 9 ≤ r) (sym q) (omega arith)

pub hope_less : (S T T' r : ℕ) → T' ≤ T → 18 * (suc S * T + S) + 34 + 9 ≤ r → 18 * (suc S * T' + S) + 34 + 9 ≤ r
hope_less S T T' r h b = omega (arith, mul-le-mul_left (suc S) h)

hope_done : (S T T' d r : ℕ) → T' ≤ T → d < suc S → 18 * (suc S * T + S) + 34 + 9 ≤ r → 18 * (suc S * T' + d) + 34 + 9 ≤ r
hope_done S T T' d r h k b = omega (arith, mul-le-mul_left (suc S) h)

-- what the orders do at a turn of q at c, seen by p
pub record Turned (N : ℕ) (due due' : ℕ → ℕ → ℕ) (q x p : ℕ) (c : Place) : Type 0 where
  pub others : (k : ℕ) → 1 ≤ k → k ≤ N → k ≢ q → due' k p ≡ due k p
  pub picked : asks_at c ≡ 2 → x ≢ p → due' q p + 1 ≤ due q p
  pub unasked : asks_at c ≢ 2 → due' q p ≡ due q p

-- a step of any party q, while p waits
module _ {D : Type 0} (N M S : ℕ) (s : Store D) (I : Inv N M s) (q : ℕ) (a : 1 ≤ q) (b : q ≤ N) (x : ℕ) (c : Place) (j : Job D) (e : s.run q ≡ Works j c)
    (due due' : ℕ → ℕ → ℕ) (nd : ℕ → ℕ) (p r : ℕ) (T : Turned N due due' q x p c) (pick : asks_at c ≡ 2 → x ≢ p)
    (runs : (k : ℕ) → k ≢ q → (place_step c j s q x).run k ≡ s.run k) (low : (n : ℕ) → 1 ≤ n → n ≤ M → nd n < suc S) (fr : (n : ℕ) × Free M (place_step c j s q x) n) where
  nearer : due' q p ≤ due q p
  nearer = elim (cases_eq (asks_at c) 2) [ inl h ↦ (let u = T.picked h (pick h) in omega arith) | inr d ↦ (let u = T.unasked d in omega arith) ]

  pub turn_waits : (L : ℕ) → Waiting N M (suc S) s due nd p L r → Waiting N M (suc S) (place_step c j s q x) due' nd p L r
  turn_waits L w = other_waits N M (suc S) s I q a b x c j e due due' nd p L r T.others nearer (λ n h. T.picked (ap asks_at h) (pick (ap asks_at h))) runs low fr w

  own_bound : due' q p + waits (place_step c j s q x).count ((place_step c j s q x).run q) ≤ due q p + waits s.count (Works j c)
  unfolding NoMore
  own_bound = own_no_more s q x (due q p) (due' q p) c j nearer (λ n h. T.picked (ap asks_at h) (pick (ap asks_at h)))

  own_hopes : (n : ℕ) → c ≡ LockNode n → Hoping N M S s due p n r → Waiting N M (suc S) (place_step c j s q x) due' nd p 34 r
  own_hopes n k h =
      let t = place_step c j s q x in
      let F = h.0 in
      let te = h.1.1 in
      let lt : togo N due t.count t.run p < togo N due s.count s.run p =
      subst (λ i. togo N due (place_step i j s q x).count (place_step i j s q x).run p < togo N due s.count s.run p) (sym k)
      (taking N M s I q a b x n j (e ∙ ap (Works j) k) F.2 F.3 due p) in
      let le' : togo N due' t.count t.run p ≤ togo N due t.count t.run p = same_due N due due' t.count t.run p (λ i ia ib. elim (cases_eq i q) [ inl u ↦ subst (λ m. due' m p ≤ due m p) (sym u) nearer | inr d ↦ (let y = T.others i ia ib d in omega arith) ]) in
      (fr.0, fr.1, hope_done S h.1.0 (togo N due' t.count t.run p) (nd fr.0) r (omega arith) (low fr.0 fr.1.0 fr.1.1) h.1.2)

  -- the node at which p stands at LockNode is taken, or stays
  pub turn_hopes : (n : ℕ) → 1 ≤ togo N due' (place_step c j s q x).count (place_step c j s q x).run p → Hoping N M S s due p n r
      → Waiting N M (suc S) (place_step c j s q x) due' nd p 34 r ⊎ (((m : ℕ) → c ≡ LockNode m → n ≢ m) × Hoping N M S (place_step c j s q x) due' p n r)
  turn_hopes n pos h =
      let t = place_step c j s q x in
      let F = h.0 in
      let T' = h.1.0 in
      let te = h.1.1 in
      let bound = h.1.2 in
      elim (locks_it_or_not c n) [
        | inr d ↦ (let own : due' q p + waits t.count (t.run q) ≤ due q p + waits s.count (s.run q) =
            subst (λ k. due' q p + waits t.count (t.run q) ≤ due q p + waits s.count k) (sym e) own_bound in
            let le = togo_le N M s I q a b x c j e due due' p T.others t refl runs own in
            let togo-now = togo N due' t.count t.run p in
            inr (
              d,
              (
                (F.0, F.1, zero_stays N M s I q a b x n F.2 (λ k. (let u = F.3 in omega arith)) c j e, unlocked_stays s q x n F.3 c j d),
                (togo-now - 1, omega arith, hope_less S T' (togo-now - 1) r (omega arith) bound),
              ),
            ))
        | inl k ↦ inl (own_hopes n k h)
      ]

-- p's own step
after_served : (n : ℕ) (k : Kid) → served (after_kid n k) < 15 - 3 * position k
after_served n First = omega arith
after_served n Second = omega arith
after_served n Third = omega arith

after_left : (n : ℕ) (k : Kid) → left (after_kid n k) < 33 - 3 * position k
after_left n First = omega arith
after_left n Second = omega arith
after_left n Third = omega arith

after_seeks : (n : ℕ) (k : Kid) → seeks (after_kid n k) ≡ true
after_seeks n First = refl
after_seeks n Second = refl
after_seeks n Third = refl

pub not_open : {t : Tray} → t ≡ Open → is_open t ≡ false → ⊥
not_open e h = true≢false (ap is_open (sym e) ∙ h)

module _ {D : Type 0} (s : Store D) (p x : ℕ) (y : Plan D) where
  data Next (c : Place) (t : Store D) : Type 0 where
    stays : (d : Place) → t.run p ≡ Works (Makes y) d → t.tray p ≡ s.tray p → seeks d ≡ true → ((v : ℕ) → s.tray p ≡ Holding v → served d < served c) → (s.tray p ≡ Open → left d < left_before c)
        → (s.tray p ≡ Open → asks_at c ≡ 2 → x ≢ p) → Next c t
    takes : (v : ℕ) → t.run p ≡ Works (Makes y) (CloseTray v) → Next c t

  goes_to : (c d : Place) (u : Store D) → u.tray ≡ s.tray → seeks d ≡ true → served d < served c → left d < left_before c → asks_at c ≢ 2 → Next c (set_run u p (Works (Makes y) d))
  goes_to c d u e k ga gb z = stays d (upd_same u.run p (Works (Makes y) d)) (ap (λ f. f p) e) k (λ v _. ga) (λ _. gb) (λ _ i. absurd (z i))

  next_ReadTray : (t : Tray) → s.tray p ≡ t → Next ReadTray (set_run s p (at_ReadTray t (Makes y)))
  next_ReadTray Closed e = stays LookForNode (upd_same s.run p (Works (Makes y) LookForNode)) refl refl (λ v h. absurd (let u : Closed ≡ Holding v = sym e ∙ h in let w : ◌≡◌ {A = ℕ} 0 1 = cc in omega arith)) (λ h. omega arith) (λ h i. absurd (omega arith))
  next_ReadTray Open e = stays LookForNode (upd_same s.run p (Works (Makes y) LookForNode)) refl refl (λ v h. absurd (let u : Open ≡ Holding v = sym e ∙ h in let w : ◌≡◌ {A = ℕ} 0 1 = cc in omega arith)) (λ h. omega arith) (λ h i. absurd (omega arith))
  next_ReadTray (Holding v) e = takes v (upd_same s.run p (Works (Makes y) (CloseTray v)))

  next_place : (c : Place) → seeks c ≡ true → Next c (place_step c (Makes y) s p x)
  next_place ReadTray h = next_ReadTray (s.tray p) refl
  next_place LookForNode h = cond_both (eqb (s.count x) 0) (set_run s p (Works (Makes y) (LockNode x))) (set_run s p (Works (Makes y) ReadTray)) (Next LookForNode) (λ _. goes_to LookForNode (LockNode x) s refl refl (omega arith) (omega arith) (λ z. omega arith)) (λ _. goes_to LookForNode ReadTray s refl refl (omega arith) (omega arith) (λ z. omega arith))
  next_place (LockNode n) h = cond_both (eqb (s.lock n) 0) (set_run (set_lock s n p) p (Works (Makes y) (Recheck n))) (set_run s p (Works (Makes y) ReadTray)) (Next (LockNode n)) (λ _. goes_to (LockNode n) (Recheck n) (set_lock s n p) refl refl (omega arith) (omega arith) (λ z. omega arith)) (λ _. goes_to (LockNode n) ReadTray s refl refl (omega arith) (omega arith) (λ z. omega arith))
  next_place (Recheck n) h = cond_both (eqb (s.count n) 0) (set_run s p (Works (Makes y) (ReadKid n First))) (set_run s p (Works (Makes y) (UnlockAndGoBack n))) (Next (Recheck n)) (λ _. goes_to (Recheck n) (ReadKid n First) s refl refl (omega arith) (omega arith) (λ z. omega arith)) (λ _. goes_to (Recheck n) (UnlockAndGoBack n) s refl refl (omega arith) (omega arith) (λ z. omega arith))
  next_place (UnlockAndGoBack n) h = goes_to (UnlockAndGoBack n) ReadTray (set_lock s n 0) refl refl (omega arith) (omega arith) (λ z. omega arith)
  next_place (ReadKid n k) h = cond_both (eqb (kid_at (s.kids n) k) 0) (set_run s p (Works (Makes y) (after_kid n k))) (set_run s p (Works (Makes y) (ClearKid n k (kid_at (s.kids n) k)))) (Next (ReadKid n k))
      (λ _. goes_to (ReadKid n k) (after_kid n k) s refl (after_seeks n k) (omega (arith, after_served n k)) (omega (arith, after_left n k)) (λ z. omega arith))
      (λ _. goes_to (ReadKid n k) (ClearKid n k (kid_at (s.kids n) k)) s refl refl (omega (arith, position_low k)) (omega (arith, position_low k)) (λ z. omega arith))
  next_place (ClearKid n k w) h = goes_to (ClearKid n k w) (UncountKid n k w) (set_kid s n k 0) refl refl (omega (arith, position_low k)) (omega (arith, position_low k)) (λ z. omega arith)
  next_place (UncountKid n k w) h = goes_to (UncountKid n k w) (after_kid n k) (set_count s w (s.count w - 1)) refl (after_seeks n k) (after_served n k) (after_left n k) (λ z. omega arith)
  next_place (Claim n) h = goes_to (Claim n) (Unlock n) (set_count s n 1) refl refl (omega arith) (omega arith) (λ z. omega arith)
  next_place (Unlock n) h = goes_to (Unlock n) (Offer n) (set_lock s n 0) refl refl (omega arith) (omega arith) (λ z. omega arith)
  next_place (Offer n) h = cond_both (eqb x p) (own_tray (Makes y) s p n) (cond (is_open (s.tray x)) (set_run (set_tray s x (Holding n)) p (Works (Makes y) ReadTray)) (set_run s p (Works (Makes y) (KeepForOneself n)))) (Next (Offer n))
      (λ xp. cond_both (is_open (s.tray p)) (set_run (set_tray s p (Holding n)) p (Works (Makes y) (CloseTray n))) (set_run s p (Works (Makes y) (GiveBack n))) (Next (Offer n))
      (λ _. takes n (upd_same s.run p (Works (Makes y) (CloseTray n))))
      (λ o. stays (GiveBack n) (upd_same s.run p (Works (Makes y) (GiveBack n))) refl refl (λ v _. omega arith) (λ _. omega arith) (λ z _. absurd (not_open z o))))
      (λ xp. cond_both (is_open (s.tray x)) (set_run (set_tray s x (Holding n)) p (Works (Makes y) ReadTray)) (set_run s p (Works (Makes y) (KeepForOneself n))) (Next (Offer n))
      (λ _. stays ReadTray (upd_same s.run p (Works (Makes y) ReadTray)) (upd_other s.tray x p (Holding n) (λ z. eqb-false x p xp (sym z))) refl (λ v _. omega arith) (λ _. omega arith) (λ _ _. eqb-false x p xp))
      (λ _. stays (KeepForOneself n) (upd_same s.run p (Works (Makes y) (KeepForOneself n))) refl refl (λ v _. omega arith) (λ _. omega arith) (λ _ _. eqb-false x p xp)))
  next_place (KeepForOneself n) h = cond_both (is_open (s.tray p)) (set_run (set_tray s p (Holding n)) p (Works (Makes y) (CloseTray n))) (set_run s p (Works (Makes y) (GiveBack n))) (Next (KeepForOneself n)) (λ _. takes n (upd_same s.run p (Works (Makes y) (CloseTray n)))) (λ _. goes_to (KeepForOneself n) (GiveBack n) s refl refl (omega arith) (omega arith) (λ z. omega arith))
  next_place (GiveBack n) h = goes_to (GiveBack n) ReadTray (set_count s n 0) refl refl (omega arith) (omega arith) (λ z. omega arith)
  next_place _ h = absurd (true≢false (sym h))

pub LockNode_waits : {D : Type 0} (N : ℕ) (due : ℕ → ℕ → ℕ) (t : Store D) (p n : ℕ) (j : Job D) → 1 ≤ p → p ≤ N → t.run p ≡ Works j (LockNode n) → 1 ≤ togo N due t.count t.run p
unfolding togo
LockNode_waits N due t p n j a b e = let w : waits t.count (t.run p) ≡ 1 = ap (waits t.count) e in omega (arith, sum_to_at N (λ q. due q p + waits t.count (t.run q)) p a b)

pub weaken : {D : Type 0} (N M S : ℕ) (t : Store D) (due : ℕ → ℕ → ℕ) (nd nd' : ℕ → ℕ) (p L L' r r' : ℕ) → ((n : ℕ) → 1 ≤ n → n ≤ M → nd' n ≡ nd n) → L' + r ≤ L + r' → Waiting N M (suc S) t due nd p L r → Waiting N M (suc S) t due nd' p L' r'
weaken N M S t due nd nd' p L L' r r' h k w = (w.0, w.1, (let u = h w.0 w.1.0 w.1.1 in let v = w.2 in omega arith))

module _ {D : Type 0} (N M S P : ℕ) (s : Store D) (I : Inv N M s) (p : ℕ) (a : 1 ≤ p) (b : p ≤ N) (x : ℕ) (y : Plan D) (nd nd' : ℕ → ℕ) (r : ℕ) where
  -- any place of ReadTray to GiveBack but LookForNode
  own_mid : (c : Place) → s.run p ≡ Works (Makes y) c → (due due' : ℕ → ℕ → ℕ) → Turned N due due' p x p c → asks_at c ≢ 1 → ((n : ℕ) → 1 ≤ n → n ≤ M → nd' n ≡ nd n) → ((k : ℕ) → k ≢ p → (place_step c (Makes y) s p x).run k ≡ s.run k)
      → ((n : ℕ) → 1 ≤ n → n ≤ M → nd n < suc S) → ((n : ℕ) × Free M (place_step c (Makes y) s p x) n) → Next s p x y c (place_step c (Makes y) s p x) → Mid N M S P s due nd p (suc r) c
      → RunRank N M S P (place_step c (Makes y) s p x) due' nd' p r ((place_step c (Makes y) s p x).run p)
  own_mid c e due due' T na un runs low fr (takes v er) m = subst (RunRank N M S P (place_step c (Makes y) s p x) due' nd' p r) (sym er) (let u = mid_pos N M S P s due nd p (suc r) c m in omega arith)
  own_mid c e due due' T na un runs low fr (stays d er et sk hs hl hp) (has v ev h) =
      subst (RunRank N M S P (place_step c (Makes y) s p x) due' nd' p r) (sym er) (seeking N M S P (place_step c (Makes y) s p x) due' nd' p r d sk (has v (et ∙ ev) (let u = hs v ev in omega arith)))
  own_mid c e due due' T na un runs low fr (stays d er et sk hs hl hp) (wants eo w) =
      let l : left d < left c = subst (λ k. left d < k) (cond-false (eqb (asks_at c) 1) 35 (left c) (ne_eqb (asks_at c) 1 na)) (hl eo) in
      subst (RunRank N M S P (place_step c (Makes y) s p x) due' nd' p r) (sym er) (seeking N M S P (place_step c (Makes y) s p x) due' nd' p r d sk (wants (et ∙ eo)
      (weaken N M S (place_step c (Makes y) s p x) due' nd nd' p (left c) (left d) (suc r) r un (omega arith) (turn_waits N M S s I p a b x c (Makes y) e due due' nd p (suc r) T (hp eo) runs low fr (left c) w))))
  own_mid c e due due' T na un runs low fr (stays d er et sk hs hl hp) (hopes n q eo h) =
      let l : left d < left c = subst (λ k. left d < k) (cond-false (eqb (asks_at c) 1) 35 (left c) (ne_eqb (asks_at c) 1 na)) (hl eo) in
      let lc : left c ≡ 34 = ap left q in
      let t = place_step c (Makes y) s p x in
      let done : Waiting N M (suc S) t due' nd p 34 (suc r) → RunRank N M S P t due' nd' p r (t.run p) =
      λ w. subst (RunRank N M S P t due' nd' p r) (sym er) (seeking N M S P t due' nd' p r d sk (wants (et ∙ eo) (weaken N M S t due' nd nd' p 34 (left d) (suc r) r un (omega arith) w))) in
      done (own_hopes N M S s I p a b x c (Makes y) e due due' nd p (suc r) T (hp eo) runs low fr n q h)

  own_LookForNode : s.run p ≡ Works (Makes y) LookForNode → (due : ℕ → ℕ → ℕ) → ((n : ℕ) → 1 ≤ n → n ≤ M → n ≢ x → nd' n + 1 ≤ nd n) → ((k : ℕ) → k ≢ p → (place_step LookForNode (Makes y) s p x).run k ≡ s.run k)
      → Next s p x y LookForNode (place_step LookForNode (Makes y) s p x) → Mid N M S P s due nd p (suc r) LookForNode → RunRank N M S P (place_step LookForNode (Makes y) s p x) due nd' p r ((place_step LookForNode (Makes y) s p x).run p)
  own_LookForNode e due near runs (takes v er) m = subst (RunRank N M S P (place_step LookForNode (Makes y) s p x) due nd' p r) (sym er) (let u = mid_pos N M S P s due nd p (suc r) LookForNode m in omega arith)
  own_LookForNode e due near runs (stays d er et sk hs hl hp) (has v ev h) =
      subst (RunRank N M S P (place_step LookForNode (Makes y) s p x) due nd' p r) (sym er) (seeking N M S P (place_step LookForNode (Makes y) s p x) due nd' p r d sk (has v (et ∙ ev) (let u = hs v ev in omega arith)))
  own_LookForNode e due near runs (stays d er et sk hs hl hp) (wants eo w) =
      let t = place_step LookForNode (Makes y) s p x in
      let l : left d < 35 = hl eo in
      elim (rank_LookForNode N M S s I p a b x (Makes y) due nd nd' r e near runs w) [
        | inl w' ↦ subst (RunRank N M S P t due nd' p r) (sym er) (seeking N M S P t due nd' p r d sk (wants (et ∙ eo) (weaken N M S t due nd' nd' p 34 (left d) r r (λ n _ _. refl) (omega arith) w')))
        | inr h ↦ (let er' : t.run p ≡ Works (Makes y) (LockNode x) = ap (λ u. u.run p) h.0 ∙ upd_same s.run p (Works (Makes y) (LockNode x)) in
            subst (RunRank N M S P t due nd' p r) (sym er') (hopes x refl (et ∙ eo) h.1))
      ]
  own_LookForNode e due near runs (stays d er et sk hs hl hp) (hopes n q eo h) = absurd (let u : ◌≡◌ {A = ℕ} 0 1 = cc in omega arith)

start_bound : (S T Q d r : ℕ) → T ≤ Q → d < suc S → 18 * (suc S * (Q + 1)) + 10 ≤ suc r → 18 * (suc S * T + d) + 18 + 9 ≤ r
start_bound S T Q d r h k b = omega (arith, mul-le-mul_left (suc S) h)

pub togo_low : {D : Type 0} (N P : ℕ) (due : ℕ → ℕ → ℕ) (t : Store D) (p : ℕ) → ((k : ℕ) → 1 ≤ k → k ≤ N → due k p < P) → togo N due t.count t.run p ≤ N * P
unfolding togo
togo_low N P due t p h = sum_at_most P N (λ q. due q p + waits t.count (t.run q)) (λ k a b. (let v = h k a b in let w = waits_one t.count (t.run k) in omega arith))

-- the first step, and the last ones
module _ {D : Type 0} (N M S P : ℕ) (p : ℕ) (y : Plan D) (due : ℕ → ℕ → ℕ) (nd : ℕ → ℕ) (r : ℕ) where
  RankedNow : Store D → Type 0
  RankedNow u = RunRank N M S P u due nd p r (u.run p)

  ranked_now : (u : Store D) (ρ : Running D) → RunRank N M S P (set_run u p ρ) due nd p r ρ → RankedNow (set_run u p ρ)
  unfolding RankedNow
  ranked_now u ρ h = subst (RunRank N M S P (set_run u p ρ) due nd p r) (sym (upd_same u.run p ρ)) h

  more_kids : (u : Store D) (v : ℕ) (k : Kid) → 8 - 2 * position k ≤ r → kid_at y.kids k ≢ 0 → RankedNow (set_run u p (Works (Makes y) (CountKid v k)))
  more_kids u v k h z = ranked_now u (Works (Makes y) (CountKid v k)) (omega (arith, h, position_low k))

  rank_give_first : (u : Store D) (v : ℕ) → 6 ≤ r → RankedNow (give_first y u p v)
  rank_give_first u v h = first_by RankedNow y u p v (λ n. 8 - 2 * n ≤ r) (λ _. ranked_now (set_slot u p y.slot v) Idle tt) (more_kids u v) (λ k h _. omega arith) (omega arith)

  rank_after : (u : Store D) (v : ℕ) (k : Kid) → 7 - 2 * position k ≤ suc r → RankedNow (give_after y u p v k)
  rank_after u v k h = after_by RankedNow y u p v (λ n. 8 - 2 * n ≤ r) (λ _. ranked_now (set_slot u p y.slot v) Idle tt) (more_kids u v) (λ k h _. omega arith) k (omega arith)

  rank_OpenTray : (s : Store D) → ((k : ℕ) → 1 ≤ k → k ≤ N → due k p < P) → ((n : ℕ) → 1 ≤ n → n ≤ M → nd n < suc S) → ((n : ℕ) × Free M (set_run (set_tray s p Open) p (Works (Makes y) ReadTray)) n) → 18 * (suc S * (N * P + 1)) + 10 ≤ suc r
      → RankedNow (set_run (set_tray s p Open) p (Works (Makes y) ReadTray))
  rank_OpenTray s hd low fr h =
      let t = set_run (set_tray s p Open) p (Works (Makes y) ReadTray) in
      ranked_now (set_tray s p Open) (Works (Makes y) ReadTray) (wants (upd_same s.tray p Open)
      (fr.0, fr.1, start_bound S (togo N due t.count t.run p) (N * P) (nd fr.0) r (togo_low N P due t p hd) (low fr.0 fr.1.0 fr.1.1) h))

-- p's own turn, whatever its place
module _ {D : Type 0} (N M S P : ℕ) (s : Store D) (I : Inv N M s) (p : ℕ) (a : 1 ≤ p) (b : p ≤ N) (x : ℕ) (y : Plan D) (nd nd' : ℕ → ℕ) (r : ℕ) where
  pub record OwnTurn (c : Place) (due due' : ℕ → ℕ → ℕ) : Type 0 where
    pub turned : Turned N due due' p x p c
    pub same : asks_at c ≢ 2 → due' ≡ due
    pub asked : asks_at c ≡ 1 → (n : ℕ) → 1 ≤ n → n ≤ M → n ≢ x → nd' n + 1 ≤ nd n
    pub unasked : asks_at c ≢ 1 → (n : ℕ) → 1 ≤ n → n ≤ M → nd' n ≡ nd n
    pub runs : (k : ℕ) → k ≢ p → (place_step c (Makes y) s p x).run k ≡ s.run k
    pub low : (n : ℕ) → 1 ≤ n → n ≤ M → nd n < suc S
    pub low' : (n : ℕ) → 1 ≤ n → n ≤ M → nd' n < suc S
    pub near : (k : ℕ) → 1 ≤ k → k ≤ N → due' k p < P
    pub free : (n : ℕ) × Free M (place_step c (Makes y) s p x) n

  abbrev Goal : Place → (ℕ → ℕ → ℕ) → Type 0
  Goal c due' = RunRank N M S P (place_step c (Makes y) s p x) due' nd' p r ((place_step c (Makes y) s p x).run p)

  mid_turn : (c : Place) (due due' : ℕ → ℕ → ℕ) → s.run p ≡ Works (Makes y) c → OwnTurn c due due' → asks_at c ≢ 1 → seeks c ≡ true → Mid N M S P s due nd p (suc r) c → Goal c due'
  mid_turn c due due' e T na sk m = own_mid N M S P s I p a b x y nd nd' r c e due due' T.turned na (T.unasked na) T.runs T.low T.free (next_place s p x y c sk) m

  pub own_turn : (c : Place) (due due' : ℕ → ℕ → ℕ) → s.run p ≡ Works (Makes y) c → OwnTurn c due due' → PlaceRank N M S P s due nd p (suc r) c → Goal c due'
  unfolding RankedNow
  own_turn OpenTray due due' e T h = rank_OpenTray N M S P p y due' nd' r s T.near T.low' T.free h
  own_turn LookForNode due due' e T h = subst (Goal LookForNode) (sym (T.same (λ z. omega arith))) (own_LookForNode N M S P s I p a b x y nd nd' r e due (T.asked refl) T.runs (next_place s p x y LookForNode refl) h)
  own_turn (CloseTray v) due due' e T h = ranked_now N M S P p y due' nd' r (set_tray s p Closed) (Works (Makes y) (WriteData v)) (omega arith)
  own_turn (WriteData v) due due' e T h = rank_give_first N M S P p y due' nd' r s v (omega arith)
  own_turn (CountKid v k) due due' e T h = let w = s.slot p (kid_at y.kids k) in ranked_now N M S P p y due' nd' r (set_count s w (s.count w + 1)) (Works (Makes y) (LinkKid v k w)) (omega (arith, position_low k))
  own_turn (LinkKid v k w) due due' e T h = rank_after N M S P p y due' nd' r (set_kid s v k w) v k h
  own_turn c due due' e T h = mid_turn c due due' e T (λ z. omega arith) refl h
