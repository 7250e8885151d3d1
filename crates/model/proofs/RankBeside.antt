-- Make's bound: the steps of others leave the rank as it is.
use Rattle.std.proofs.Common.{◌≡◌, ℕ, suc, ◌+◌, ◌-◌, ◌<◌, ◌≤◌, true, false, cond, eqb, ◌≢◌, sym, refl, ap, ◌∙◌, inl, inr, arith}
use Rattle.std.proofs.lemmas.Bool.{cases_eq, cond_both, eqb-true}
use Rattle.model.specs.Fun.{upd}
use Rattle.model.specs.Types.{First, Closed, Open, Holding, Place, OpenTray, LookForNode, LockNode, Recheck, UnlockAndGoBack, ReadKid, ClearKid, Offer, KeepForOneself, GiveBack, CloseTray, WriteData, CountKid, LinkKid, Plan, Job, Makes, Sweeps, Running, Idle, Works}
use Rattle.model.specs.State.{kid_at, Store, set_count, set_lock, set_kid, set_tray, set_run}
use Rattle.model.specs.Steps.{after_kid}
use Rattle.model.specs.Reach.{Free}
use Rattle.model.specs.Inv.{Inv}
use Rattle.model.proofs.Gives.{first_any, after_any}
use Rattle.model.proofs.Explicit.{is_open, back, own_tray, place_step}
use Rattle.model.proofs.Sums.{upd_same, upd_other, sum_le}
use Rattle.model.proofs.Make.{open_is}
use Rattle.model.proofs.Rank.{asks_at, waits, waits_le, waits_one, togo, left, fewer}
use Rattle.model.proofs.RankSteps.{Mid, has, wants, hopes, PlaceRank, mid_served, Turned, turn_waits, turn_hopes, LockNode_waits, weaken, hope_less, not_open}

-- the rank goes along where what is sought goes along
module _ {D : Type 0} (N M S P : ℕ) (s t : Store D) (due due' : ℕ → ℕ → ℕ) (nd nd' : ℕ → ℕ) (p r : ℕ) where
  rank_along : (c : Place) → (Mid N M S P s due nd p r c → Mid N M S P t due' nd' p r c) → PlaceRank N M S P s due nd p r c → PlaceRank N M S P t due' nd' p r c
  rank_along OpenTray f h = h
  rank_along (CloseTray v) f h = h
  rank_along (WriteData v) f h = h
  rank_along (CountKid v k) f h = h
  rank_along (LinkKid v k w) f h = h
  rank_along _ f h = f h

-- another's step and p's tray
module _ {D : Type 0} (s : Store D) (q x p : ℕ) (ne : p ≢ q) where
  pub data TrayAfter (c : Place) (t : Store D) : Type 0 where
    as_it_was : t.tray p ≡ s.tray p → (s.tray p ≡ Open → asks_at c ≡ 2 → x ≢ p) → TrayAfter c t
    filled : (v : ℕ) → s.tray p ≡ Open → t.tray p ≡ Holding v → TrayAfter c t

  tray_unchanged : (c : Place) (t : Store D) → t.tray p ≡ s.tray p → asks_at c ≢ 2 → TrayAfter c t
  tray_unchanged c t e h = as_it_was e (λ _ z. absurd (h z))

  pick_tray : (n : ℕ) (ρ : Running D) → eqb x q ≡ false → is_open (s.tray x) ≡ true → TrayAfter (Offer n) (set_run (set_tray s x (Holding n)) q ρ)
  pick_tray n ρ d o = elim (cases_eq p x) [
    | inl e ↦ filled n (ap s.tray e ∙ open_is (s.tray x) o) (ap (upd s.tray x (Holding n)) e ∙ upd_same s.tray x (Holding n))
    | inr z ↦ as_it_was (upd_other s.tray x p (Holding n) z) (λ _ _ k. z (sym k))
  ]

  pick_none : (n : ℕ) (ρ : Running D) → is_open (s.tray x) ≡ false → TrayAfter (Offer n) (set_run s q ρ)
  pick_none n ρ o = as_it_was refl (λ h _ k. not_open h (ap (λ i. is_open (s.tray i)) (sym k) ∙ o))

  pub tray_after : (c : Place) (j : Job D) → TrayAfter c (place_step c j s q x)
  tray_after OpenTray j = tray_unchanged OpenTray (place_step OpenTray j s q x) (upd_other s.tray q p Open ne) (λ z. omega arith)
  tray_after LookForNode j = cond_both (eqb (s.count x) 0) (set_run s q (Works j (LockNode x))) (set_run s q (back j)) (TrayAfter LookForNode) (λ _. tray_unchanged LookForNode (set_run s q (Works j (LockNode x))) refl (λ z. omega arith)) (λ _. tray_unchanged LookForNode (set_run s q (back j)) refl (λ z. omega arith))
  tray_after (LockNode m) j = cond_both (eqb (s.lock m) 0) (set_run (set_lock s m q) q (Works j (Recheck m))) (set_run s q (back j)) (TrayAfter (LockNode m)) (λ _. tray_unchanged (LockNode m) (set_run (set_lock s m q) q (Works j (Recheck m))) refl (λ z. omega arith)) (λ _. tray_unchanged (LockNode m) (set_run s q (back j)) refl (λ z. omega arith))
  tray_after (Recheck m) j = cond_both (eqb (s.count m) 0) (set_run s q (Works j (ReadKid m First))) (set_run s q (Works j (UnlockAndGoBack m))) (TrayAfter (Recheck m)) (λ _. tray_unchanged (Recheck m) (set_run s q (Works j (ReadKid m First))) refl (λ z. omega arith)) (λ _. tray_unchanged (Recheck m) (set_run s q (Works j (UnlockAndGoBack m))) refl (λ z. omega arith))
  tray_after (ReadKid m k) j = cond_both (eqb (kid_at (s.kids m) k) 0) (set_run s q (Works j (after_kid m k))) (set_run s q (Works j (ClearKid m k (kid_at (s.kids m) k)))) (TrayAfter (ReadKid m k))
      (λ _. tray_unchanged (ReadKid m k) (set_run s q (Works j (after_kid m k))) refl (λ z. omega arith)) (λ _. tray_unchanged (ReadKid m k) (set_run s q (Works j (ClearKid m k (kid_at (s.kids m) k)))) refl (λ z. omega arith))
  tray_after (Offer m) (Makes y) = cond_both (eqb x q) (own_tray (Makes y) s q m) (cond (is_open (s.tray x)) (set_run (set_tray s x (Holding m)) q (back (Makes y))) (set_run s q (Works (Makes y) (KeepForOneself m)))) (TrayAfter (Offer m))
      (λ e. cond_both (is_open (s.tray q)) (set_run (set_tray s q (Holding m)) q (Works (Makes y) (CloseTray m))) (set_run s q (Works (Makes y) (GiveBack m))) (TrayAfter (Offer m))
      (λ _. as_it_was (upd_other s.tray q p (Holding m) ne) (λ _ _ k. ne (sym k ∙ eqb-true x q e))) (λ _. as_it_was refl (λ _ _ k. ne (sym k ∙ eqb-true x q e))))
      (λ d. cond_both (is_open (s.tray x)) (set_run (set_tray s x (Holding m)) q (back (Makes y))) (set_run s q (Works (Makes y) (KeepForOneself m))) (TrayAfter (Offer m)) (λ o. pick_tray m (back (Makes y)) d o) (λ o. pick_none m (Works (Makes y) (KeepForOneself m)) o))
  tray_after (Offer m) Sweeps = cond_both (eqb x q) (set_run (set_count s m 0) q Idle) (cond (is_open (s.tray x)) (set_run (set_tray s x (Holding m)) q Idle) (set_run s q (Works Sweeps (GiveBack m)))) (TrayAfter (Offer m))
      (λ e. as_it_was refl (λ _ _ k. ne (sym k ∙ eqb-true x q e)))
      (λ d. cond_both (is_open (s.tray x)) (set_run (set_tray s x (Holding m)) q Idle) (set_run s q (Works Sweeps (GiveBack m))) (TrayAfter (Offer m)) (λ o. pick_tray m Idle d o) (λ o. pick_none m (Works Sweeps (GiveBack m)) o))
  tray_after (KeepForOneself m) j = cond_both (is_open (s.tray q)) (set_run (set_tray s q (Holding m)) q (Works j (CloseTray m))) (set_run s q (Works j (GiveBack m))) (TrayAfter (KeepForOneself m))
      (λ _. tray_unchanged (KeepForOneself m) (set_run (set_tray s q (Holding m)) q (Works j (CloseTray m))) (upd_other s.tray q p (Holding m) ne) (λ z. omega arith)) (λ _. tray_unchanged (KeepForOneself m) (set_run s q (Works j (GiveBack m))) refl (λ z. omega arith))
  tray_after (CloseTray v) j = tray_unchanged (CloseTray v) (place_step (CloseTray v) j s q x) (upd_other s.tray q p Closed ne) (λ z. omega arith)
  tray_after (WriteData v) (Makes y) = first_any (TrayAfter (WriteData v)) y s q v (as_it_was refl (λ _ z. absurd (omega arith))) (λ k. as_it_was refl (λ _ z. absurd (omega arith)))
  tray_after (CountKid v k) (Makes y) = tray_unchanged (CountKid v k) (place_step (CountKid v k) (Makes y) s q x) refl (λ z. omega arith)
  tray_after (LinkKid v k w) (Makes y) = after_any (TrayAfter (LinkKid v k w)) y (set_kid s v k w) q v (as_it_was refl (λ _ z. absurd (omega arith))) (λ k. as_it_was refl (λ _ z. absurd (omega arith))) k
  tray_after c j = tray_unchanged c (place_step c j s q x) refl (λ z. omega arith)

-- a step of another's Make or Sweep
module _ {D : Type 0} (N M S P : ℕ) (s : Store D) (I : Inv N M s) (q : ℕ) (a : 1 ≤ q) (b : q ≤ N) (x : ℕ) (c : Place) (j : Job D) (e : s.run q ≡ Works j c)
    (due due' : ℕ → ℕ → ℕ) (nd nd' : ℕ → ℕ) (p : ℕ) (pa : 1 ≤ p) (pb : p ≤ N) (ne : p ≢ q) (r : ℕ) (T : Turned N due due' q x p c) (un : (n : ℕ) → 1 ≤ n → n ≤ M → nd' n ≡ nd n)
    (runs : (k : ℕ) → k ≢ q → (place_step c j s q x).run k ≡ s.run k) (low : (n : ℕ) → 1 ≤ n → n ≤ M → nd n < suc S) (fr : (n : ℕ) × Free M (place_step c j s q x) n) where
  beside_mid : (y : Plan D) (d : Place) → s.run p ≡ Works (Makes y) d → TrayAfter s q x p ne c (place_step c j s q x) → Mid N M S P s due nd p r d → Mid N M S P (place_step c j s q x) due' nd' p r d
  beside_mid y d er (filled v eo et) m = has v et (mid_served N M S P s due nd p r d m)
  beside_mid y d er (as_it_was et hp) (has v ev h) = has v (et ∙ ev) h
  beside_mid y d er (as_it_was et hp) (wants eo w) = wants (et ∙ eo) (weaken N M S (place_step c j s q x) due' nd nd' p (left d) (left d) r r un (omega arith) (turn_waits N M S s I q a b x c j e due due' nd p r T (hp eo) runs low fr (left d) w))
  beside_mid y d er (as_it_was et hp) (hopes n k eo h) =
      let t = place_step c j s q x in
      let pos = LockNode_waits N due' t p n (Makes y) pa pb (runs p ne ∙ er ∙ ap (Works (Makes y)) k) in
      elim (turn_hopes N M S s I q a b x c j e due due' nd p r T (hp eo) runs low fr n pos h) [
        | inl w ↦ wants (et ∙ eo) (weaken N M S t due' nd nd' p 34 (left d) r r un (let u : left d ≡ 34 = ap left k in omega arith) w)
        | inr g ↦ hopes n k (et ∙ eo) g.1
      ]

  pub beside_turn : (y : Plan D) (d : Place) → s.run p ≡ Works (Makes y) d → PlaceRank N M S P s due nd p r d → PlaceRank N M S P (place_step c j s q x) due' nd' p r d
  beside_turn y d er h = rank_along N M S P s (place_step c j s q x) due due' nd nd' p r d (beside_mid y d er (tray_after s q x p ne c j)) h

-- a step of q that takes nothing and offers nothing
pub record Calm {D : Type 0} (s t : Store D) (q : ℕ) : Type 0 where
  pub zeros : (n : ℕ) → s.count n ≡ 0 → t.count n ≡ 0
  pub locks : t.lock ≡ s.lock
  pub trays : t.tray ≡ s.tray
  pub runs : (k : ℕ) → k ≢ q → t.run k ≡ s.run k
  pub waiting : waits s.count (s.run q) ≡ 1

module _ {D : Type 0} (N M S P : ℕ) (s t : Store D) (q : ℕ) (C : Calm s t q) (due : ℕ → ℕ → ℕ) (nd : ℕ → ℕ) (p : ℕ) (pa : 1 ≤ p) (pb : p ≤ N) (ne : p ≢ q) (r : ℕ) where
  calm_togo : togo N due t.count t.run p ≤ togo N due s.count s.run p
  unfolding togo
  calm_togo = sum_le N (λ k. due k p + waits t.count (t.run k)) (λ k. due k p + waits s.count (s.run k)) (λ k ga gb. elim (cases_eq k q) [
    | inl u ↦ (let w : waits s.count (s.run k) ≡ 1 = ap (λ i. waits s.count (s.run i)) u ∙ C.waiting in let v = waits_one t.count (t.run k) in omega arith)
    | inr d ↦ (let w : waits t.count (t.run k) ≡ waits t.count (s.run k) = ap (waits t.count) (C.runs k d) in let v = waits_le s.count t.count (s.run k) (λ n _ z. C.zeros n z) in omega arith)
  ])

  calm_free : (n : ℕ) → Free M s n → Free M t n
  calm_free n F = (F.0, F.1, C.zeros n F.2, ap (λ f. f n) C.locks ∙ F.3)

  calm_mid : (y : Plan D) (d : Place) → s.run p ≡ Works (Makes y) d → Mid N M S P s due nd p r d → Mid N M S P t due nd p r d
  calm_mid y d er (has v ev h) = has v (ap (λ f. f p) C.trays ∙ ev) h
  calm_mid y d er (wants eo w) = wants (ap (λ f. f p) C.trays ∙ eo) (w.0, calm_free w.0 w.1, fewer (suc S) (togo N due s.count s.run p) (togo N due t.count t.run p) (nd w.0) (left d) r calm_togo w.2)
  calm_mid y d er (hopes n k eo h) =
      let pos = LockNode_waits N due t p n (Makes y) pa pb (C.runs p ne ∙ er ∙ ap (Works (Makes y)) k) in
      let togo-now = togo N due t.count t.run p in
      let le = calm_togo in
      let te = h.1.1 in
      hopes n k (ap (λ f. f p) C.trays ∙ eo) (calm_free n h.0, (togo-now - 1, omega arith, hope_less S h.1.0 (togo-now - 1) r (omega arith) h.1.2))

  pub calm_turn : (y : Plan D) (d : Place) → s.run p ≡ Works (Makes y) d → PlaceRank N M S P s due nd p r d → PlaceRank N M S P t due nd p r d
  calm_turn y d er h = rank_along N M S P s t due due nd nd p r d (calm_mid y d er) h
