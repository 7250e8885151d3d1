-- A tray is closed unless its party is in a Make between ReadTray and CloseTray.
use Rattle.std.proofs.Common.{◌≡◌, ℕ, ◌+◌, ◌-◌, ◌≤◌, true, false, cond, eqb, ◌≢◌, sym, refl, ap, ◌∙◌, true≢false}
use Rattle.std.proofs.lemmas.Bool.{cond_both, eqb-false}
use Rattle.model.specs.Fun.{upd}
use Rattle.model.specs.Types.{Kid, First, Second, Third, Tray, Closed, Open, Holding, Place, OpenTray, ReadTray, LookForNode, LockNode, Recheck, UnlockAndGoBack, ReadKid, ClearKid, UncountKid, Claim, Unlock, Offer, KeepForOneself, GiveBack, CloseTray, WriteData, CountKid, LinkKid, Plan, Job, Makes, Sweeps, ReadNothing, ReadData, ReadFirst, ReadSecond, Running, Idle, Reads, Keeps, Drops, Hands, Fetches, TakesOut, Works}
use Rattle.model.specs.State.{kid_at, Store, set_count, set_lock, set_kid, set_inbox, set_tray, set_slot, set_run, last}
use Rattle.model.specs.Steps.{after_kid}
use Rattle.model.specs.Inv.{Inv}
use Rattle.model.specs.Sound.{opens, opens_at}
use Rattle.model.proofs.Gives.{first_any, after_any}
use Rattle.model.proofs.Explicit.{is_open, back, made, give_first, give_after, at_ReadTray, own_tray, place_step, turn_at}
use Rattle.model.proofs.Sums.{upd_same, upd_other}
use Rattle.model.proofs.Make.{good}
use Rattle.model.proofs.Stays.{Stands}

pub record Shuts {D : Type 0} (s t : Store D) (p : ℕ) : Type 0 where
  pub others : (q : ℕ) → q ≢ p → s.tray q ≡ Closed → t.tray q ≡ Closed
  pub own : opens (t.run p) ≡ false → (opens (s.run p) ≡ false → s.tray p ≡ Closed) → t.tray p ≡ Closed

module _ {D : Type 0} (N M : ℕ) (s : Store D) (I : Inv N M s) (p : ℕ) (a : 1 ≤ p) (b : p ≤ N) where
  -- trays as they are
  same : (t : Store D) (r : Running D) → t.tray ≡ s.tray → (opens r ≡ false → opens (s.run p) ≡ false) → Shuts s (set_run t p r) p
  same t r e h = record { others = λ q d z. ap (λ f. f q) e ∙ z; own = λ o g. ap (λ f. f p) e ∙ g (h (ap opens (sym (upd_same t.run p r)) ∙ o)) }

  -- an open tray is filled
  fills : (x : ℕ) (v : Tray) (r : Running D) → is_open (s.tray x) ≡ true → (opens r ≡ false → (x ≢ p) × (opens (s.run p) ≡ false)) → Shuts s (set_run (set_tray s x v) p r) p
  fills x v r o h =
      let go : (q : ℕ) → s.tray q ≡ Closed → upd s.tray x v q ≡ Closed = λ q z. upd_other s.tray x q v (λ e.
      let u : is_open Closed ≡ true = ap is_open (sym z ∙ ap s.tray e) ∙ o in true≢false (sym u)) ∙ z in
      record { others = λ q d z. go q z; own = λ e g. (let k = h (ap opens (sym (upd_same s.run p r)) ∙ e) in go p (g k.1)) }

  on : (j : Job D) (c d : Place) → s.run p ≡ Works j c → opens_at d ≡ true → opens (Works j d) ≡ false → opens (s.run p) ≡ false
  on (Makes y) c d e t h = absurd (true≢false (sym t ∙ h))
  on Sweeps c d e t h = ap opens e

  on_back : (j : Job D) (c : Place) → s.run p ≡ Works j c → opens (back j) ≡ false → opens (s.run p) ≡ false
  on_back (Makes y) c e h = absurd (true≢false h)
  on_back Sweeps c e h = ap opens e

  module _ (x : Plan D) (t : Store D) (v : ℕ) (e : t.tray ≡ s.tray) (o : opens (s.run p) ≡ false) where
    end : Shuts s (made x t p v) p
    end = same (set_slot t p x.slot v) Idle e (λ _. o)

    more : (k : Kid) → Shuts s (set_run t p (Works (Makes x) (CountKid v k))) p
    more k = same t (Works (Makes x) (CountKid v k)) e (λ _. o)

    shut_first : Shuts s (give_first x t p v) p
    shut_first = first_any (λ u. Shuts s u p) x t p v end more

    shut_after : (k : Kid) → Shuts s (give_after x t p v k) p
    shut_after = after_any (λ u. Shuts s u p) x t p v end more

  after_kid_opens : (n : ℕ) (k : Kid) → opens_at (after_kid n k) ≡ true
  after_kid_opens n First = refl
  after_kid_opens n Second = refl
  after_kid_opens n Third = refl

  shut_place_lem : (x : ℕ) (c : Place) (j : Job D) → s.run p ≡ Works j c → Shuts s (place_step c j s p x) p
  shut_place_lem x OpenTray (Makes y) e = record { others = λ q d z. upd_other s.tray p q Open d ∙ z; own = λ h g. absurd (true≢false (ap opens (sym (upd_same s.run p (Works (Makes y) ReadTray))) ∙ h)) }
  shut_place_lem x ReadTray j e = same s (at_ReadTray (s.tray p) j) refl (go (s.tray p))
    where
      go : (t : Tray) → opens (at_ReadTray t j) ≡ false → opens (s.run p) ≡ false
      go Closed = on j ReadTray LookForNode e refl
      go Open = on j ReadTray LookForNode e refl
      go (Holding v) = on j ReadTray (CloseTray v) e refl
  shut_place_lem x LookForNode j e = cond_both (eqb (s.count x) 0) (set_run s p (Works j (LockNode x))) (set_run s p (back j)) (λ u. Shuts s u p) (λ _. same s (Works j (LockNode x)) refl (on j LookForNode (LockNode x) e refl)) (λ _. same s (back j) refl (on_back j LookForNode e))
  shut_place_lem x (LockNode n) j e = cond_both (eqb (s.lock n) 0) (set_run (set_lock s n p) p (Works j (Recheck n))) (set_run s p (back j)) (λ u. Shuts s u p) (λ _. same (set_lock s n p) (Works j (Recheck n)) refl (on j (LockNode n) (Recheck n) e refl)) (λ _. same s (back j) refl (on_back j (LockNode n) e))
  shut_place_lem x (Recheck n) j e = cond_both (eqb (s.count n) 0) (set_run s p (Works j (ReadKid n First))) (set_run s p (Works j (UnlockAndGoBack n))) (λ u. Shuts s u p) (λ _. same s (Works j (ReadKid n First)) refl (on j (Recheck n) (ReadKid n First) e refl)) (λ _. same s (Works j (UnlockAndGoBack n)) refl (on j (Recheck n) (UnlockAndGoBack n) e refl))
  shut_place_lem x (UnlockAndGoBack n) j e = same (set_lock s n 0) (back j) refl (on_back j (UnlockAndGoBack n) e)
  shut_place_lem x (ReadKid n k) j e = cond_both (eqb (kid_at (s.kids n) k) 0) (set_run s p (Works j (after_kid n k))) (set_run s p (Works j (ClearKid n k (kid_at (s.kids n) k)))) (λ u. Shuts s u p)
      (λ _. same s (Works j (after_kid n k)) refl (on j (ReadKid n k) (after_kid n k) e (after_kid_opens n k))) (λ _. same s (Works j (ClearKid n k (kid_at (s.kids n) k))) refl (on j (ReadKid n k) (ClearKid n k (kid_at (s.kids n) k)) e refl))
  shut_place_lem x (ClearKid n k w) j e = same (set_kid s n k 0) (Works j (UncountKid n k w)) refl (on j (ClearKid n k w) (UncountKid n k w) e refl)
  shut_place_lem x (UncountKid n k w) j e = same (set_count s w (s.count w - 1)) (Works j (after_kid n k)) refl (on j (UncountKid n k w) (after_kid n k) e (after_kid_opens n k))
  shut_place_lem x (Claim n) j e = same (set_count s n 1) (Works j (Unlock n)) refl (on j (Claim n) (Unlock n) e refl)
  shut_place_lem x (Unlock n) j e = same (set_lock s n 0) (Works j (Offer n)) refl (on j (Unlock n) (Offer n) e refl)
  shut_place_lem x (Offer n) (Makes y) e = cond_both (eqb x p) (own_tray (Makes y) s p n) (cond (is_open (s.tray x)) (set_run (set_tray s x (Holding n)) p (back (Makes y))) (set_run s p (Works (Makes y) (KeepForOneself n)))) (λ u. Shuts s u p)
      (λ _. cond_both (is_open (s.tray p)) (set_run (set_tray s p (Holding n)) p (Works (Makes y) (CloseTray n))) (set_run s p (Works (Makes y) (GiveBack n))) (λ u. Shuts s u p)
      (λ o. fills p (Holding n) (Works (Makes y) (CloseTray n)) o (λ h. absurd (true≢false h))) (λ _. same s (Works (Makes y) (GiveBack n)) refl (on (Makes y) (Offer n) (GiveBack n) e refl)))
      (λ _. cond_both (is_open (s.tray x)) (set_run (set_tray s x (Holding n)) p (back (Makes y))) (set_run s p (Works (Makes y) (KeepForOneself n))) (λ u. Shuts s u p)
      (λ o. fills x (Holding n) (back (Makes y)) o (λ h. absurd (true≢false h))) (λ _. same s (Works (Makes y) (KeepForOneself n)) refl (on (Makes y) (Offer n) (KeepForOneself n) e refl)))
  shut_place_lem x (Offer n) Sweeps e = cond_both (eqb x p) (set_run (set_count s n 0) p Idle) (cond (is_open (s.tray x)) (set_run (set_tray s x (Holding n)) p Idle) (set_run s p (Works Sweeps (GiveBack n)))) (λ u. Shuts s u p)
      (λ _. same (set_count s n 0) Idle refl (λ _. ap opens e))
      (λ d. cond_both (is_open (s.tray x)) (set_run (set_tray s x (Holding n)) p Idle) (set_run s p (Works Sweeps (GiveBack n))) (λ u. Shuts s u p)
      (λ o. fills x (Holding n) Idle o (λ h. (eqb-false x p d, ap opens e))) (λ _. same s (Works Sweeps (GiveBack n)) refl (λ _. ap opens e)))
  shut_place_lem x (KeepForOneself n) (Makes y) e = cond_both (is_open (s.tray p)) (set_run (set_tray s p (Holding n)) p (Works (Makes y) (CloseTray n))) (set_run s p (Works (Makes y) (GiveBack n))) (λ u. Shuts s u p)
      (λ o. fills p (Holding n) (Works (Makes y) (CloseTray n)) o (λ h. absurd (true≢false h))) (λ _. same s (Works (Makes y) (GiveBack n)) refl (on (Makes y) (KeepForOneself n) (GiveBack n) e refl))
  shut_place_lem x (GiveBack n) j e = same (set_count s n 0) (back j) refl (on_back j (GiveBack n) e)
  shut_place_lem x (CloseTray v) j e = record { others = λ q d z. upd_other s.tray p q Closed d ∙ z; own = λ h g. upd_same s.tray p Closed }
  shut_place_lem x (WriteData v) (Makes y) e = shut_first y s v refl (ap opens e)
  shut_place_lem x (CountKid v k) (Makes y) e = let w = s.slot p (kid_at y.kids k) in same (set_count s w (s.count w + 1)) (Works (Makes y) (LinkKid v k w)) refl (λ _. ap opens e)
  shut_place_lem x (LinkKid v k w) (Makes y) e = shut_after y (set_kid s v k w) v refl (ap opens e) k
  shut_place_lem x c Sweeps e = absurd (good N M s I p a b Sweeps c e).2.1

  shut_at : (info : ℕ → D) (x : ℕ) (r : Running D) → Stands r → s.run p ≡ r → Shuts s (turn_at r s info p x) p
  shut_at info x Idle h e = record { others = λ q d z. z; own = λ o g. g o }
  shut_at info x (Reads ReadNothing) h e = same s (Reads (ReadData (info (last s p)))) refl (λ _. ap opens e)
  shut_at info x (Reads (ReadData d)) h e = same s (Reads (ReadFirst d (s.kids (last s p)).first)) refl (λ _. ap opens e)
  shut_at info x (Reads (ReadFirst d i)) h e = same s (Reads (ReadSecond d i (s.kids (last s p)).second)) refl (λ _. ap opens e)
  shut_at info x (Reads (ReadSecond d i j)) h e = same s Idle refl (λ _. ap opens e)
  shut_at info x (Works j c) h e = shut_place_lem x c j e
  shut_at info x (Keeps i) h e = let w = last s p in same (set_slot (set_count s w (s.count w + 1)) p i w) Idle refl (λ _. ap opens e)
  shut_at info x (Drops i) h e = let w = s.slot p i in same (set_slot (set_count s w (s.count w - 1)) p i 0) Idle refl (λ _. ap opens e)
  shut_at info x (Fetches i) h e = cond_both (eqb (s.inbox p) 0) (set_run s p Idle) (set_run s p (TakesOut i (s.inbox p))) (λ u. Shuts s u p) (λ _. same s Idle refl (λ _. ap opens e)) (λ _. same s (TakesOut i (s.inbox p)) refl (λ _. ap opens e))
  shut_at info x (Hands i q) h e = cond_both (eqb (s.inbox q) 0) (set_run (set_slot (set_inbox s q (s.slot p i)) p i 0) p Idle) (set_run s p Idle) (λ u. Shuts s u p)
      (λ _. same (set_slot (set_inbox s q (s.slot p i)) p i 0) Idle refl (λ _. ap opens e)) (λ _. same s Idle refl (λ _. ap opens e))
  shut_at info x (TakesOut i v) h e = same (set_slot (set_inbox s p 0) p i v) Idle refl (λ _. ap opens e)
  shut_at info x _ h e = absurd h

  pub turn_shuts : (info : ℕ → D) (x : ℕ) → Stands (s.run p) → Shuts s (turn_at (s.run p) s info p x) p
  turn_shuts info x h = shut_at info x (s.run p) h refl
