-- A step of a Make tells that it runs on, and then it does, or that it has ended.
use Rattle.std.proofs.Common.{◌≡◌, ℕ, Bool, true, false, cond, eqb, sym, refl, subst}
use Rattle.std.proofs.lemmas.Bool.{cond_both}
use Rattle.model.specs.Types.{Ok, Kid, First, Second, Third, Tray, Closed, Open, Holding, Place, ReadTray, LookForNode, LockNode, Recheck, UnlockAndGoBack, ReadKid, ClearKid, Offer, KeepForOneself, GiveBack, CloseTray, WriteData, CountKid, LinkKid, Plan, Makes, Works, Answer, AtNode, StillRunning, Ended, Address, Nowhere, CountOf, TrayOf, Word, NoWord, LockWord, KidWord, DataWord, TrayWord, Tells, Decision}
use Rattle.model.specs.State.{kid_at, Store, last}
use Rattle.model.specs.Checks.{is_idle}
use Rattle.model.specs.Steps.{between, own_address, place_address, address, loaded, going, on_tray, into_own_tray, not_taken, offered, offered_to_oneself, made, from_third, from_second, from_first, onward, after_kid, decide_place, decide, decision}

pub data GoesOrEnds {D W : Type 0} (d : Decision D W) : Type 0 where
  goes : d.told ≡ Tells (Ok StillRunning) → is_idle d.next ≡ false → GoesOrEnds d
  ends : (a : Answer D W) → d.told ≡ Tells (Ok (Ended a)) → is_idle d.next ≡ true → GoesOrEnds d

module _ {D : Type 0} (W : Type 0) (N M : ℕ) (s : Store D) (info : ℕ → D) (plan : Plan D) (p x : ℕ) where
  abbrev Tell : Decision D W → Type 0
  Tell d = GoesOrEnds d

  go_on : (w : Word D) (c : Place) → Tell (going w (Works (Makes plan) c))
  go_on w c = goes refl refl

  one_or_other : (b : Bool) (w v : Word D) (c d : Place) → Tell (cond b (going w (Works (Makes plan) c)) (going v (Works (Makes plan) d)))
  one_or_other b w v c d = cond_both b (going w (Works (Makes plan) c)) (going v (Works (Makes plan) d)) Tell (λ _. go_on w c) (λ _. go_on v d)

  read_tells : (t : Tray) → Tell (decide_place ReadTray (Makes plan) (TrayWord t) p x (s.slot p))
  read_tells Closed = go_on NoWord LookForNode
  read_tells Open = go_on NoWord LookForNode
  read_tells (Holding v) = go_on NoWord (CloseTray v)

  own_tells : (n : ℕ) (t : Tray) → Tell (into_own_tray (Makes plan) n t)
  own_tells n Closed = go_on NoWord (GiveBack n)
  own_tells n Open = go_on (TrayWord (Holding n)) (CloseTray n)
  own_tells n (Holding v) = go_on NoWord (GiveBack n)

  offered_tells : (n : ℕ) (t : Tray) → Tell (offered (Makes plan) n x t)
  offered_tells n Closed = go_on NoWord (KeepForOneself n)
  offered_tells n Open = go_on (TrayWord (Holding n)) ReadTray
  offered_tells n (Holding v) = go_on NoWord (KeepForOneself n)

  third_tells : (v : ℕ) (w : Word D) → Tell (from_third plan v w)
  third_tells v w = cond_both (eqb plan.kids.third 0) (made plan v w) (going w (Works (Makes plan) (CountKid v Third))) Tell (λ _. ends (AtNode v) refl refl) (λ _. go_on w (CountKid v Third))

  second_tells : (v : ℕ) (w : Word D) → Tell (from_second plan v w)
  second_tells v w = cond_both (eqb plan.kids.second 0) (from_third plan v w) (going w (Works (Makes plan) (CountKid v Second))) Tell (λ _. third_tells v w) (λ _. go_on w (CountKid v Second))

  first_tells : (v : ℕ) (w : Word D) → Tell (from_first plan v w)
  first_tells v w = cond_both (eqb plan.kids.first 0) (from_second plan v w) (going w (Works (Makes plan) (CountKid v First))) Tell (λ _. second_tells v w) (λ _. go_on w (CountKid v First))

  onward_tells : (v : ℕ) (k : Kid) (w : Word D) → Tell (onward plan v k w)
  onward_tells v First w = second_tells v w
  onward_tells v Second w = third_tells v w
  onward_tells v Third w = ends (AtNode v) refl refl

  place_tells : (c : Place) → Tell (decide_place c (Makes plan) (loaded s info (place_address N M c (Makes plan) p x (s.slot p))) p x (s.slot p))
  place_tells ReadTray = read_tells (s.tray p)
  place_tells LookForNode = cond_both (between 1 M x) (CountOf x) Nowhere (λ a. Tell (decide_place LookForNode (Makes plan) (loaded s info a) p x (s.slot p)))
      (λ _. one_or_other (eqb (s.count x) 0) NoWord NoWord (LockNode x) ReadTray) (λ _. go_on NoWord ReadTray)
  place_tells (LockNode n) = one_or_other (eqb (s.lock n) 0) (LockWord p) NoWord (Recheck n) ReadTray
  place_tells (Recheck n) = one_or_other (eqb (s.count n) 0) NoWord NoWord (ReadKid n First) (UnlockAndGoBack n)
  place_tells (ReadKid n k) = one_or_other (eqb (kid_at (s.kids n) k) 0) NoWord NoWord (after_kid n k) (ClearKid n k (kid_at (s.kids n) k))
  place_tells (Offer n) = picks (eqb x p)
    where
      looks : Bool → Address
      looks b = cond b (own_address (Makes plan) p n) (cond (between 1 N x) (TrayOf x) Nowhere)

      picks : (b : Bool) → Tell (cond b (offered_to_oneself (Makes plan) n (loaded s info (looks b))) (on_tray (loaded s info (looks b)) (not_taken (Makes plan) n) (offered (Makes plan) n x)))
      picks true = own_tells n (s.tray p)
      picks false = cond_both (between 1 N x) (TrayOf x) Nowhere (λ a. Tell (on_tray (loaded s info a) (not_taken (Makes plan) n) (offered (Makes plan) n x))) (λ _. offered_tells n (s.tray x)) (λ _. go_on NoWord (KeepForOneself n))
  place_tells (KeepForOneself n) = own_tells n (s.tray p)
  place_tells (WriteData v) = first_tells v (DataWord plan.given)
  place_tells (LinkKid v k w) = onward_tells v k (KidWord w)
  place_tells _ = goes refl refl

  pub make_tells : (c : Place) → s.run p ≡ Works (Makes plan) c → GoesOrEnds (decision {W = W} N M s info p x)
  make_tells c e = subst (λ r. Tell (decide r (loaded s info (address N M r p x (s.slot p) (last s p))) p x (s.slot p) (last s p))) (sym e) (place_tells c)
