-- The rest of the steps, and every step together.
use Rattle.std.proofs.Common.{◌≡◌, ℕ, ◌+◌, ◌≤◌, ◌≢◌, sym, refl, ap, ◌∙◌, subst, inl, inr, arith}
use Rattle.std.proofs.lemmas.Bool.{cond_both, eqb-true, eqb-false}
use Rattle.model.specs.Fun.{upd, is}
use Rattle.model.specs.Types.{Holding, Place, OpenTray, ReadTray, LookForNode, LockNode, Recheck, UnlockAndGoBack, ReadKid, ClearKid, UncountKid, Claim, Unlock, Offer, KeepForOneself, GiveBack, CloseTray, WriteData, CountKid, LinkKid, Plan, Job, Makes, Sweeps, Running, Idle, Keeps, Drops, Hands, Fetches, TakesOut, Works}
use Rattle.model.specs.State.{Store, set_count, set_inbox, set_tray, set_slot, set_run, last}
use Rattle.model.specs.Reach.{Reached}
use Rattle.model.specs.Inv.{relies, none, reliance_at, reliance, needs_job, tray_node, carry, in_slots, in_boxes, in_trays, carried, in_kids, FitJob, LocalOf, Good, Inv}
use Rattle.model.proofs.Explicit.{back, own_tray, place_step, turn_at}
use Rattle.model.proofs.Sums.{upd_same, upd_other, is_same, is_other}
use Rattle.model.proofs.Refs.{carried_upd, slots_upd, boxes_upd}
use Rattle.model.proofs.Frames.{upd_all, alone_refs, others_count, others_slot, others_box, bare_count, assemble, quiet_step}
use Rattle.model.proofs.Make.{open_is, good, idle_claim, back_good, quiet, offered, at_OpenTray, at_ReadTray', at_LookForNode, at_LockNode, at_Recheck, at_UnlockAndGoBack, at_ReadKid, at_ClearKid, at_UncountKid, at_Claim, at_Unlock, at_GiveBack, at_CloseTray}
use Rattle.model.proofs.Fill.{no_needs, at_WriteData, at_CountKid, at_LinkKid, at_drop}
use Rattle.model.proofs.Reached.{reached_held}

module _ {D : Type 0} (N M : ℕ) (s : Store D) (I : Inv N M s) (p : ℕ) (a : 1 ≤ p) (b : p ≤ N) where
  to_GiveBack : (j : Job D) (n : ℕ) (c : Place) → s.run p ≡ Works j c → reliance_at c ≡ relies n 0 0 n 0 1 4 → 1 ≤ n → FitJob j (GiveBack n) → Inv N M (set_run s p (Works j (GiveBack n)))
  to_GiveBack j n c e ec n1 f =
      quiet N M s I p a b j c e (GiveBack n) (sym (ap (λ t. t.locked) ec)) (λ m. ap (λ t. is t.one m + is t.other m) ec)
      (subst (λ t. LocalOf M s p t (needs_job j).wants) ec (good N M s I p a b j c e).0) n1 f

  at_own : (x : Plan D) (n : ℕ) (c : Place) → s.run p ≡ Works (Makes x) c → reliance_at c ≡ relies n 0 0 n 0 1 4 → 1 ≤ n → Inv N M (own_tray (Makes x) s p n)
  at_own x n c e ec n1 =
      cond_both _ _ _ (Inv N M)
      (λ z. offered N M s I p a b (Makes x) n p c e ec n1 a b (open_is (s.tray p) z) (Works (Makes x) (CloseTray n)) refl refl refl (
        record { within = omega arith; lock_is = λ z. absurd (z refl); empty_is = λ z. absurd (z refl); one_is = λ z. absurd (z refl); bare = λ k x y. absurd (omega arith); pend_is = λ z. absurd (z refl); put_is = λ z. absurd (z refl); held_is = λ _. upd_same s.tray p (Holding n); none_given = λ k x. absurd (omega arith); given = λ k x. absurd (omega arith) },
        (good N M s I p a b (Makes x) c e).1,
        (n1, tt),
      ))
      (λ z. to_GiveBack (Makes x) n c e ec n1 tt)

  at_Offer : (j : Job D) (n x : ℕ) → s.run p ≡ Works j (Offer n) → 1 ≤ x → x ≤ N → Inv N M (place_step (Offer n) j s p x)
  at_Offer (Makes y) n x e h1 h2 =
      let n1 = (good N M s I p a b (Makes y) (Offer n) e).2.0 in
      cond_both _ _ _ (Inv N M)
      (λ _. at_own y n (Offer n) e refl n1)
      (λ _. cond_both _ _ _ (Inv N M)
      (λ z. offered N M s I p a b (Makes y) n x (Offer n) e refl n1 h1 h2 (open_is (s.tray x) z) (back (Makes y)) refl refl refl (back_good N M s I p a b (Makes y) (Offer n) e (set_tray s x (Holding n)) refl refl))
      (λ z. quiet N M s I p a b (Makes y) (Offer n) e (KeepForOneself n) refl (λ m. refl) (good N M s I p a b (Makes y) (Offer n) e).0 n1 tt))
  at_Offer Sweeps n x e h1 h2 =
      let n1 = (good N M s I p a b Sweeps (Offer n) e).2.0 in
      cond_both _ _ _ (Inv N M)
      (λ _. at_GiveBack N M s I p a b Sweeps n (Offer n) e refl n1)
      (λ _. cond_both _ _ _ (Inv N M)
      (λ z. offered N M s I p a b Sweeps n x (Offer n) e refl n1 h1 h2 (open_is (s.tray x) z) Idle refl refl refl (back_good N M s I p a b Sweeps (Offer n) e (set_tray s x (Holding n)) refl refl))
      (λ z. to_GiveBack Sweeps n (Offer n) e refl n1 tt))

  -- a step to idle, or on, that changes nothing shared
  pub at_rest : (r : Running D) → reliance (s.run p) ≡ none → reliance r ≡ none → Good N M s p r → Inv N M (set_run s p r)
  at_rest r ce cr G = quiet_step N M s I p r a b (ap (λ c. c.locked) cr ∙ sym (ap (λ c. c.locked) ce)) (λ m h. ap (λ c. carry c m) (ce ∙ sym cr)) G

  at_keep : (info : ℕ → D) (i y : ℕ) → s.run p ≡ Keeps i → Reached N s (last s p) → Inv N M (turn_at (Keeps i) s info p y)
  at_keep info i y e rw' =
      let g : Good N M s p (Keeps i) = subst (Good N M s p) e (I.parties p a b) in
      let i1 : 1 ≤ i = g.2 in
      let h = g.1.into_is (omega arith) in
      let w = last s p in
      let H = reached_held N M s I rw' in
      let w1 : 1 ≤ w = H.pos in
      let hs = H.has in
      let c1 = I.counts w w1 in
      let A = alone_refs N M s I p w a b w1 (omega arith) in
      let ce : reliance (s.run p) ≡ none = ap reliance e in
      let t = set_slot (set_count s w (s.count w + 1)) p i w in
      assemble N M s I t p Idle refl refl
      (λ n x. upd_all (λ m v. 1 ≤ m → v ≡ in_slots N (upd s.slot p (upd (s.slot p) i w)) m + in_boxes N s.inbox m + in_trays N s.tray m + carried N (upd s.run p Idle) m + in_kids M s.kids m) s.count w (s.count w + 1)
      (λ _. omega (arith, slots_upd N M w s.slot p i w a b i1 h.0, ap (λ k. is k w) h.1, is_same w w refl, is_other 0 w (omega arith), carried_upd N M w s.run p Idle a b, ap (λ c. carry c w) ce))
      n (λ d _. omega (arith, I.counts n x, slots_upd N M n s.slot p i w a b i1 h.0, ap (λ k. is k n) h.1, is_other w n (λ q. d (sym q)), is_other 0 n (omega arith), carried_upd N M n s.run p Idle a b, ap (λ c. carry c n) ce)) x)
      (λ n x. upd_other s.count w n (s.count w + 1) (λ q. (let z = H.low in omega arith)) ∙ I.beyond n x)
      (sym (ap (λ c. c.locked) ce)) (no_needs N M s I p a b t)
      (others_slot N M s I p i w (set_count s w (s.count w + 1)) refl (others_count N M s I p w (s.count w + 1) A))
      (λ q x y z. bare_count N M s I p w (s.count w + 1) A q x y (I.trays q x y z)) I.filled

  at_hand : (info : ℕ → D) (i q y : ℕ) → s.run p ≡ Hands i q → Inv N M (turn_at (Hands i q) s info p y)
  at_hand info i q y e =
      let g : Good N M s p (Hands i q) = subst (Good N M s p) e (I.parties p a b) in
      let i1 : 1 ≤ i = g.2.0 in
      let h = g.1.source_is (omega arith) in
      let ce : reliance (s.run p) ≡ none = ap reliance e in
      let w = s.slot p i in
      let t = set_slot (set_inbox s q w) p i 0 in
      cond_both _ _ _ (Inv N M)
      (λ z. let z0 = eqb-true (s.inbox q) 0 z in
      assemble N M s I t p Idle refl refl
      (λ n x. omega (arith, I.counts n x, slots_upd N M n s.slot p i 0 a b i1 h.0, boxes_upd N M n s.inbox q w g.2.1 g.2.2, ap (λ k. is k n) z0, is_other 0 n (omega arith), carried_upd N M n s.run p Idle a b, ap (λ c. carry c n) ce))
      I.beyond (sym (ap (λ c. c.locked) ce)) (no_needs N M s I p a b t)
      (others_slot N M s I p i 0 (set_inbox s q w) refl (others_box N M s I p q w (inr z0))) I.trays I.filled)
      (λ z. at_rest Idle ce refl (no_needs N M s I p a b s))

  at_fetch : (info : ℕ → D) (i y : ℕ) → s.run p ≡ Fetches i → Inv N M (turn_at (Fetches i) s info p y)
  at_fetch info i y e =
      let g : Good N M s p (Fetches i) = subst (Good N M s p) e (I.parties p a b) in
      let ce : reliance (s.run p) ≡ none = ap reliance e in
      cond_both _ _ _ (Inv N M)
      (λ z. at_rest Idle ce refl (no_needs N M s I p a b s))
      (λ z. at_rest (TakesOut i (s.inbox p)) ce refl (idle_claim N M s I p a b s (λ k. 0), record { into_is = g.1.into_is; source_is = λ z. absurd (z refl); wants_is = λ k z. absurd (z refl); boxed_is = λ _. refl }, (g.2, (let h : s.inbox p ≢ 0 = eqb-false (s.inbox p) 0 z in omega arith))))

  at_fill : (info : ℕ → D) (i v y : ℕ) → s.run p ≡ TakesOut i v → Inv N M (turn_at (TakesOut i v) s info p y)
  at_fill info i v y e =
      let g : Good N M s p (TakesOut i v) = subst (Good N M s p) e (I.parties p a b) in
      let i1 : 1 ≤ i = g.2.0 in
      let h = g.1.into_is (omega arith) in
      let bx : s.inbox p ≡ v = g.1.boxed_is (let k = g.2.1 in omega arith) in
      let ce : reliance (s.run p) ≡ none = ap reliance e in
      let t = set_slot (set_inbox s p 0) p i v in
      assemble N M s I t p Idle refl refl
      (λ n x. omega (arith, I.counts n x, slots_upd N M n s.slot p i v a b i1 h.0, ap (λ k. is k n) h.1, boxes_upd N M n s.inbox p 0 a b, ap (λ k. is k n) bx, is_other 0 n (omega arith), carried_upd N M n s.run p Idle a b, ap (λ c. carry c n) ce))
      I.beyond (sym (ap (λ c. c.locked) ce)) (no_needs N M s I p a b t)
      (others_slot N M s I p i v (set_inbox s p 0) refl (others_box N M s I p p 0 (inl refl))) I.trays I.filled

  -- what a Turn is given: the numbers that the orders pick, a closed tray at OpenTray, a trail that is reached
  pub record Given (x : ℕ) : Type 0 where
    pub node : (j : Job D) → s.run p ≡ Works j LookForNode → (1 ≤ x) × (x ≤ M)
    pub party : (j : Job D) (n : ℕ) → s.run p ≡ Works j (Offer n) → (1 ≤ x) × (x ≤ N)
    pub shut : (j : Job D) → s.run p ≡ Works j OpenTray → tray_node (s.tray p) ≡ 0
    pub trail : (i : ℕ) → s.run p ≡ Keeps i → Reached N s (last s p)
    pub slots : (y : Plan D) (c : Place) → s.run p ≡ Works (Makes y) c → 1 ≤ y.slot

  place_keeps : (x : ℕ) → Given x → (c : Place) (j : Job D) → s.run p ≡ Works j c → Inv N M (place_step c j s p x)
  place_keeps x g OpenTray (Makes y) e = at_OpenTray N M s I p a b (Makes y) x e tt (g.shut (Makes y) e)
  place_keeps x g ReadTray (Makes y) e = at_ReadTray' N M s I p a b (Makes y) e tt (λ v. tt) (s.tray p) refl
  place_keeps x g LookForNode (Makes y) e = at_LookForNode N M s I p a b (Makes y) x e (g.node (Makes y) e).0 (g.node (Makes y) e).1 tt
  place_keeps x g LookForNode Sweeps e = at_LookForNode N M s I p a b Sweeps x e (g.node Sweeps e).0 (g.node Sweeps e).1 tt
  place_keeps x g (LockNode n) (Makes y) e = at_LockNode N M s I p a b (Makes y) n x e tt
  place_keeps x g (LockNode n) Sweeps e = at_LockNode N M s I p a b Sweeps n x e tt
  place_keeps x g (Recheck n) (Makes y) e = at_Recheck N M s I p a b (Makes y) n x e tt tt
  place_keeps x g (Recheck n) Sweeps e = at_Recheck N M s I p a b Sweeps n x e tt tt
  place_keeps x g (UnlockAndGoBack n) (Makes y) e = at_UnlockAndGoBack N M s I p a b (Makes y) n x e
  place_keeps x g (UnlockAndGoBack n) Sweeps e = at_UnlockAndGoBack N M s I p a b Sweeps n x e
  place_keeps x g (ReadKid n k) (Makes y) e = at_ReadKid N M s I p a b (Makes y) n k x e tt
  place_keeps x g (ReadKid n k) Sweeps e = at_ReadKid N M s I p a b Sweeps n k x e tt
  place_keeps x g (ClearKid n k w) (Makes y) e = at_ClearKid N M s I p a b (Makes y) n k w x e tt
  place_keeps x g (ClearKid n k w) Sweeps e = at_ClearKid N M s I p a b Sweeps n k w x e tt
  place_keeps x g (UncountKid n k w) (Makes y) e = at_UncountKid N M s I p a b (Makes y) n k w x e
  place_keeps x g (UncountKid n k w) Sweeps e = at_UncountKid N M s I p a b Sweeps n k w x e
  place_keeps x g (Claim n) (Makes y) e = at_Claim N M s I p a b (Makes y) n x e tt
  place_keeps x g (Claim n) Sweeps e = at_Claim N M s I p a b Sweeps n x e tt
  place_keeps x g (Unlock n) (Makes y) e = at_Unlock N M s I p a b (Makes y) n x e tt
  place_keeps x g (Unlock n) Sweeps e = at_Unlock N M s I p a b Sweeps n x e tt
  place_keeps x g (Offer n) (Makes y) e = at_Offer (Makes y) n x e (g.party (Makes y) n e).0 (g.party (Makes y) n e).1
  place_keeps x g (Offer n) Sweeps e = at_Offer Sweeps n x e (g.party Sweeps n e).0 (g.party Sweeps n e).1
  place_keeps x g (KeepForOneself n) (Makes y) e = at_own y n (KeepForOneself n) e refl (good N M s I p a b (Makes y) (KeepForOneself n) e).2.0
  place_keeps x g (GiveBack n) (Makes y) e = at_GiveBack N M s I p a b (Makes y) n (GiveBack n) e refl (good N M s I p a b (Makes y) (GiveBack n) e).2.0
  place_keeps x g (GiveBack n) Sweeps e = at_GiveBack N M s I p a b Sweeps n (GiveBack n) e refl (good N M s I p a b Sweeps (GiveBack n) e).2.0
  place_keeps x g (CloseTray n) (Makes y) e = at_CloseTray N M s I p a b (Makes y) n x e tt
  place_keeps x g (WriteData n) (Makes y) e = at_WriteData N M s I p a b y n x e (g.slots y (WriteData n) e)
  place_keeps x g (CountKid v k) (Makes y) e = at_CountKid N M s I p a b y v k x e
  place_keeps x g (LinkKid v k w) (Makes y) e = at_LinkKid N M s I p a b y v k w x e (g.slots y (LinkKid v k w) e)
  place_keeps x g c Sweeps e = absurd (good N M s I p a b Sweeps c e).2.1

  -- a Turn of a call that writes: Reads, Downs and walks change no word that the invariant speaks of
  pub data Writes : Running D → Type 0 where
    w_job : {j : Job D} {c : Place} → Writes (Works j c)
    w_keep : {i : ℕ} → Writes (Keeps i)
    w_drop : {i : ℕ} → Writes (Drops i)
    w_fetch : {i : ℕ} → Writes (Fetches i)
    w_hand : {i q : ℕ} → Writes (Hands i q)
    w_fill : {i v : ℕ} → Writes (TakesOut i v)

  pub keeps_at : (info : ℕ → D) (x : ℕ) → Given x → (r : Running D) → Writes r → s.run p ≡ r → Inv N M (turn_at r s info p x)
  keeps_at info x g (Works j c) w e = place_keeps x g c j e
  keeps_at info x g (Keeps i) w e = at_keep info i x e (g.trail i e)
  keeps_at info x g (Drops i) w e = at_drop N M s I p a b info i x e
  keeps_at info x g (Fetches i) w e = at_fetch info i x e
  keeps_at info x g (Hands i q) w e = at_hand info i q x e
  keeps_at info x g (TakesOut i v) w e = at_fill info i v x e
  keeps_at info x g Idle w e = absurd (no_idle w)
    where
      no_idle : Writes Idle → ⊥
      no_idle z = elim z [ ]
  keeps_at info x g _ w e = elim w [ ]
