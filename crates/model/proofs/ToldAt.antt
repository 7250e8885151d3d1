-- What a step of a call that is no walk tells, place by place.
use Rattle.std.proofs.Common.{◌≡◌, ℕ, ◌≤◌, Bool, true, false, cond, eqb, sym, refl, ap, ◌∙◌, subst, true≢false}
use Rattle.std.proofs.lemmas.Bool.{cond_both}
use Rattle.refusals.specs.declared.Refusal.TheVariants.{NoKid, InboxFull, InboxEmpty}
use Rattle.model.specs.Types.{Ok, Err, Kid, First, Second, Third, Tray, Closed, Open, Holding, Place, ReadTray, LookForNode, LockNode, Recheck, UnlockAndGoBack, ReadKid, ClearKid, Offer, KeepForOneself, GiveBack, CloseTray, WriteData, CountKid, LinkKid, Plan, Job, Makes, Sweeps, ReadNothing, ReadSecond, Running, Idle, Reads, GoesDown, Keeps, Drops, Hands, Fetches, TakesOut, Works, WalkReads, WalkGoesDown, AtNode, Contents, Swept, Outcome, StillRunning, Ended, Address, Nowhere, CountOf, TrayOf, Word, NoWord, LockWord, InboxWord, TrayWord, Fills, Lengthens, Tells, Decision}
use Rattle.model.specs.State.{kid_at, Store, last}
use Rattle.model.specs.Checks.{is_idle, is_walking}
use Rattle.model.specs.Steps.{own_address, address, loaded, after_kid, going, ending, ended_by, backward, into_tray, made, not_taken, offered, offered_to_oneself, on_tray, from_third, from_second, from_first, onward, decide_place, decide, decision}
use Rattle.model.specs.Inv.{FitJob, Fit}
use Rattle.model.proofs.Explicit.{is_open}
use Rattle.model.proofs.Between.{is_within}
use Rattle.model.proofs.Stepped.{PickedAt, Picked}

module _ {D W : Type 0} where
  -- where a Make goes back to its tray, a Sweep has found nothing
  abbrev pub told_back : Job D → Outcome D W
  told_back (Makes plan) = Ok StillRunning
  told_back Sweeps = Ok (Ended (Swept 0 0))

  abbrev pub told_third : Plan D → ℕ → Outcome D W
  told_third plan v = cond (eqb plan.kids.third 0) (Ok (Ended (AtNode v))) (Ok StillRunning)

  abbrev pub told_second : Plan D → ℕ → Outcome D W
  told_second plan v = cond (eqb plan.kids.second 0) (told_third plan v) (Ok StillRunning)

  abbrev pub told_first : Plan D → ℕ → Outcome D W
  told_first plan v = cond (eqb plan.kids.first 0) (told_second plan v) (Ok StillRunning)

  abbrev pub told_after : Plan D → ℕ → Kid → Outcome D W
  told_after plan v First = told_second plan v
  told_after plan v Second = told_third plan v
  told_after plan v Third = Ok (Ended (AtNode v))

  abbrev pub told_offer : Job D → ℕ → Store D → ℕ → ℕ → Outcome D W
  told_offer (Makes plan) n s p x = Ok StillRunning
  told_offer Sweeps n s p x = cond (eqb x p) (Ok (Ended (Swept n 0))) (cond (is_open (s.tray x)) (Ok (Ended (Swept n x))) (Ok StillRunning))

  abbrev pub told_given : Job D → ℕ → Outcome D W
  told_given (Makes plan) n = Ok StillRunning
  told_given Sweeps n = Ok (Ended (Swept n 0))

  abbrev pub told_written : Job D → ℕ → Outcome D W
  told_written (Makes plan) v = told_first plan v
  told_written Sweeps v = Ok StillRunning

  abbrev pub told_linked : Job D → ℕ → Kid → Outcome D W
  told_linked (Makes plan) v k = told_after plan v k
  told_linked Sweeps v k = Ok StillRunning

  abbrev pub told_place : Place → Job D → Store D → ℕ → ℕ → Outcome D W
  told_place LookForNode j s p x = cond (eqb (s.count x) 0) (Ok StillRunning) (told_back j)
  told_place (LockNode n) j s p x = cond (eqb (s.lock n) 0) (Ok StillRunning) (told_back j)
  told_place (UnlockAndGoBack n) j s p x = told_back j
  told_place (Offer n) j s p x = told_offer j n s p x
  told_place (GiveBack n) j s p x = told_given j n
  told_place (WriteData v) j s p x = told_written j v
  told_place (LinkKid v k w) j s p x = told_linked j v k
  told_place _ j s p x = Ok StillRunning

  -- the outcome of the step of a call that stands at the given place
  abbrev pub told_at : Running D → Store D → ℕ → ℕ → Outcome D W
  told_at (Reads (ReadSecond d i j)) s p x = Ok (Ended (Contents (last s p) d (record { first = i; second = j; third = (s.kids (last s p)).third })))
  told_at (GoesDown k) s p x = cond (eqb (kid_at (s.kids (last s p)) k) 0) (Err NoKid) (Ok (Ended (AtNode (kid_at (s.kids (last s p)) k))))
  told_at (Keeps i) s p x = Ok (Ended (AtNode (last s p)))
  told_at (Drops i) s p x = Ok (Ended (AtNode (s.slot p i)))
  told_at (Hands i q) s p x = cond (eqb (s.inbox q) 0) (Ok (Ended (AtNode (s.slot p i)))) (Err InboxFull)
  told_at (Fetches i) s p x = cond (eqb (s.inbox p) 0) (Err InboxEmpty) (Ok StillRunning)
  told_at (TakesOut i v) s p x = Ok (Ended (AtNode v))
  told_at (Works j c) s p x = told_place c j s p x
  told_at _ s p x = Ok StillRunning

module _ {D : Type 0} (W : Type 0) (N M : ℕ) (s : Store D) (info : ℕ → D) (p x : ℕ) where
  abbrev Says : Decision D W → Outcome D W → Type 0
  Says d o = d.told ≡ Tells o

  both_say : (b : Bool) (d e : Decision D W) (o q : Outcome D W) → Says d o → Says e q → Says (cond b d e) (cond b o q)
  both_say true d e o q h k = h
  both_say false d e o q h k = k

  either_says : (b : Bool) (d e : Decision D W) (o : Outcome D W) → Says d o → Says e o → Says (cond b d e) o
  either_says b d e o h k = cond_both b d e (λ v. Says v o) (λ _. h) (λ _. k)

  tray_says : (t : Tray) (d e : Decision D W) (o q : Outcome D W) → Says d o → Says e q → Says (into_tray t d e) (cond (is_open t) o q)
  tray_says Closed d e o q h k = k
  tray_says Open d e o q h k = h
  tray_says (Holding v) d e o q h k = k

  any_tray_says : (t : Tray) (d e : Decision D W) (o : Outcome D W) → Says d o → Says e o → Says (into_tray t d e) o
  any_tray_says Closed d e o h k = k
  any_tray_says Open d e o h k = h
  any_tray_says (Holding v) d e o h k = k

  back_says : (j : Job D) (w : Word D) → Says (backward j w) (told_back j)
  back_says (Makes plan) w = refl
  back_says Sweeps w = refl

  read_tray_says : (j : Job D) (t : Tray) → Says (decide_place ReadTray j (TrayWord t) p x (s.slot p)) (Ok StillRunning)
  read_tray_says j Closed = refl
  read_tray_says j Open = refl
  read_tray_says j (Holding v) = refl

  third_says : (y : Plan D) (v : ℕ) (w : Word D) → Says (from_third y v w) (told_third y v)
  third_says y v w = both_say (eqb y.kids.third 0) (made y v w) (going w (Works (Makes y) (CountKid v Third))) (Ok (Ended (AtNode v))) (Ok StillRunning) refl refl

  second_says : (y : Plan D) (v : ℕ) (w : Word D) → Says (from_second y v w) (told_second y v)
  second_says y v w = both_say (eqb y.kids.second 0) (from_third y v w) (going w (Works (Makes y) (CountKid v Second))) (told_third y v) (Ok StillRunning) (third_says y v w) refl

  first_says : (y : Plan D) (v : ℕ) (w : Word D) → Says (from_first y v w) (told_first y v)
  first_says y v w = both_say (eqb y.kids.first 0) (from_second y v w) (going w (Works (Makes y) (CountKid v First))) (told_second y v) (Ok StillRunning) (second_says y v w) refl

  onward_says : (y : Plan D) (v : ℕ) (k : Kid) (w : Word D) → Says (onward y v k w) (told_after y v k)
  onward_says y v First w = second_says y v w
  onward_says y v Second w = third_says y v w
  onward_says y v Third w = refl

  -- the specified decision at the given place
  abbrev decides : Running D → Decision D W
  decides r = decide r (loaded s info (address N M r p x (s.slot p) (last s p))) p x (s.slot p) (last s p)

  offer_says : (j : Job D) (n : ℕ) → (1 ≤ x) × (x ≤ N) → Says (decides (Works j (Offer n))) (told_offer j n s p x)
  offer_says j n h = subst (λ b. Says (deciding (cond (eqb x p) (own_address j p n) (cond b (TrayOf x) Nowhere))) (told_offer j n s p x)) (sym (is_within 1 N x h.0 h.1)) (says j)
    where
      deciding : Address → Decision D W
      deciding a = cond (eqb x p) (offered_to_oneself j n (loaded s info a)) (on_tray (loaded s info a) (not_taken j n) (offered j n x))

      at_last : (j : Job D) → Address → Bool → Decision D W
      at_last j a b = cond b (offered_to_oneself j n (loaded s info a)) (on_tray (loaded s info a) (not_taken j n) (offered j n x))

      makes_says : (y : Plan D) (b : Bool) → Says (at_last (Makes y) (cond b (TrayOf p) (TrayOf x)) b) (Ok StillRunning)
      makes_says y true = any_tray_says (s.tray p) _ _ (Ok StillRunning) refl refl
      makes_says y false = any_tray_says (s.tray x) _ _ (Ok StillRunning) refl refl

      sweeps_says : (b : Bool) → Says (at_last Sweeps (cond b (CountOf n) (TrayOf x)) b) (cond b (Ok (Ended (Swept n 0))) (cond (is_open (s.tray x)) (Ok (Ended (Swept n x))) (Ok StillRunning)))
      sweeps_says true = refl
      sweeps_says false = tray_says (s.tray x) _ _ (Ok (Ended (Swept n x))) (Ok StillRunning) refl refl

      says : (j : Job D) → Says (at_last j (cond (eqb x p) (own_address j p n) (TrayOf x)) (eqb x p)) (told_offer j n s p x)
      says (Makes y) = makes_says y (eqb x p)
      says Sweeps = sweeps_says (eqb x p)

  place_says : (c : Place) (j : Job D) → FitJob j c → PickedAt N M x c → Says (decides (Works j c)) (told_place c j s p x)
  place_says ReadTray j f h = read_tray_says j (s.tray p)
  place_says LookForNode j f h =
      subst (λ b. Says (decide_place LookForNode j (loaded s info (cond b (CountOf x) Nowhere)) p x (s.slot p)) (told_place LookForNode j s p x)) (sym (is_within 1 M x h.0 h.1))
      (both_say (eqb (s.count x) 0) (going NoWord (Works j (LockNode x))) (backward j NoWord) (Ok StillRunning) (told_back j) refl (back_says j NoWord))
  place_says (LockNode n) j f h = both_say (eqb (s.lock n) 0) (going (LockWord p) (Works j (Recheck n))) (backward j NoWord) (Ok StillRunning) (told_back j) refl (back_says j NoWord)
  place_says (Recheck n) j f h = either_says (eqb (s.count n) 0) (going NoWord (Works j (ReadKid n First))) (going NoWord (Works j (UnlockAndGoBack n))) (Ok StillRunning) refl refl
  place_says (UnlockAndGoBack n) j f h = back_says j (LockWord 0)
  place_says (ReadKid n k) j f h =
      let w = kid_at (s.kids n) k in
      either_says (eqb w 0) (going NoWord (Works j (after_kid n k))) (going NoWord (Works j (ClearKid n k w))) (Ok StillRunning) refl refl
  place_says (Offer n) j f h = offer_says j n h
  place_says (KeepForOneself n) j f h = any_tray_says (s.tray p) (going (TrayWord (Holding n)) (Works j (CloseTray n))) (going NoWord (Works j (GiveBack n))) (Ok StillRunning) refl refl
  place_says (GiveBack n) (Makes y) f h = refl
  place_says (GiveBack n) Sweeps f h = refl
  place_says (WriteData v) (Makes y) f h = first_says y v _
  place_says (WriteData v) Sweeps f h = absurd f
  place_says (LinkKid v k w) (Makes y) f h = onward_says y v k _
  place_says (LinkKid v k w) Sweeps f h = absurd f
  place_says _ j f h = refl

  says_at : (r : Running D) → is_idle r ≡ false → is_walking r ≡ false → Fit N r → Picked N M x r → Says (decides r) (told_at r s p x)
  says_at Idle i w f h = absurd (true≢false i)
  says_at (GoesDown k) i w f h = let c = kid_at (s.kids (last s p)) k in both_say (eqb c 0) (ended_by (Err NoKid)) (ending NoWord (Lengthens c) (AtNode c)) (Err NoKid) (Ok (Ended (AtNode c))) refl refl
  says_at (Hands j q) i w f h = let v = s.slot p j in both_say (eqb (s.inbox q) 0) (ending (InboxWord v) (Fills j 0) (AtNode v)) (ended_by (Err InboxFull)) (Ok (Ended (AtNode v))) (Err InboxFull) refl refl
  says_at (Fetches j) i w f h = both_say (eqb (s.inbox p) 0) (ended_by (Err InboxEmpty)) (going NoWord (TakesOut j (s.inbox p))) (Err InboxEmpty) (Ok StillRunning) refl refl
  says_at (Works j c) i w f h = place_says c j f.1 h
  says_at (WalkReads t g) i w f h = absurd (true≢false w)
  says_at (WalkGoesDown t k) i w f h = absurd (true≢false w)
  says_at (Reads ReadNothing) i w f h = refl
  says_at _ i w f h = refl

  -- the specified step tells what is said place by place
  pub told_is : (r : Running D) → s.run p ≡ r → is_idle r ≡ false → is_walking r ≡ false → Fit N r → Picked N M x r → (decision {W = W} N M s info p x).told ≡ Tells (told_at r s p x)
  told_is r e i w f h = ap (λ v. (decides v).told) e ∙ says_at r i w f h
