-- Every step but a walk's fourth reading tells an outcome at once.
use Rattle.std.proofs.Common.{ℕ, cond, eqb}
use Rattle.std.proofs.lemmas.Bool.{cond_both}
use Rattle.model.specs.Types.{Ok, Err, Kid, First, Second, Third, Tray, Closed, Open, Holding, Place, OpenTray, ReadTray, LookForNode, LockNode, Recheck, UnlockAndGoBack, ReadKid, ClearKid, UncountKid, Claim, Unlock, Offer, KeepForOneself, GiveBack, CloseTray, WriteData, CountKid, LinkKid, Plan, Job, Makes, Sweeps, ReadNothing, ReadSecond, Running, Idle, Reads, GoesDown, Keeps, Drops, Hands, Fetches, TakesOut, Works, WalkReads, WalkGoesDown, AtNode, StillRunning, Word, NoWord, CountWord, LockWord, KidWord, DataWord, InboxWord, TrayWord, Fills, Lengthens, Told, Tells, Settles, Decision}
use Rattle.refusals.specs.declared.Refusal.TheVariants.{NoKid, InboxFull, InboxEmpty}
use Rattle.model.specs.Steps.{on_count, on_lock, on_kid, on_data, on_inbox, on_tray, going, ending, ended_by, stuck, backward, after_kid, into_own_tray, not_taken, offered, let_go, offered_to_oneself, made, from_third, from_second, from_first, onward, data_given, kid_linked, decide_place, decide}

abbrev pub TellsAtOnce : {D W : Type 0} → Told D W → Type 0
TellsAtOnce (Tells o) = Unit {0}
TellsAtOnce (Settles n) = ⊥

-- a walk's fourth reading
abbrev pub IsFourth : {D : Type 0} → Running D → Type 0
IsFourth r = elim r [ WalkReads t g ↦ elim g [ ReadSecond d i j ↦ Unit {0} | _ ↦ ⊥ ] | _ ↦ ⊥ ]

module _ {D : Type 0} (W : Type 0) where
  abbrev At : Decision D W → Type 0
  At d = TellsAtOnce d.told

  on_count_lem : (w : Word D) (e : Decision D W) (f : ℕ → Decision D W) → At e → ((v : ℕ) → At (f v)) → At (on_count w e f)
  on_count_lem (CountWord v) e f h g = g v
  on_count_lem _ e f h g = h

  on_tray_lem : (w : Word D) (e : Decision D W) (f : Tray → Decision D W) → At e → ((v : Tray) → At (f v)) → At (on_tray w e f)
  on_tray_lem (TrayWord v) e f h g = g v
  on_tray_lem _ e f h g = h

  on_lock_lem : (w : Word D) (f : ℕ → Decision D W) → ((v : ℕ) → At (f v)) → At (on_lock w f)
  on_lock_lem (LockWord v) f g = g v
  on_lock_lem _ f g = tt

  on_kid_lem : (w : Word D) (f : ℕ → Decision D W) → ((v : ℕ) → At (f v)) → At (on_kid w f)
  on_kid_lem (KidWord v) f g = g v
  on_kid_lem _ f g = tt

  on_data_lem : (w : Word D) (f : D → Decision D W) → ((v : D) → At (f v)) → At (on_data w f)
  on_data_lem (DataWord v) f g = g v
  on_data_lem _ f g = tt

  on_inbox_lem : (w : Word D) (f : ℕ → Decision D W) → ((v : ℕ) → At (f v)) → At (on_inbox w f)
  on_inbox_lem (InboxWord v) f g = g v
  on_inbox_lem _ f g = tt

  backs : (j : Job D) (w : Word D) → At (backward j w)
  backs (Makes plan) w = tt
  backs Sweeps w = tt

  not_taken_lem : (j : Job D) (n : ℕ) → At (not_taken j n)
  not_taken_lem (Makes plan) n = tt
  not_taken_lem Sweeps n = tt

  own_tray : (j : Job D) (n : ℕ) (t : Tray) → At (into_own_tray j n t)
  own_tray j n Closed = tt
  own_tray j n Open = tt
  own_tray j n (Holding v) = tt

  offers : (j : Job D) (n x : ℕ) (t : Tray) → At (offered j n x t)
  offers (Makes plan) n x Closed = tt
  offers (Makes plan) n x Open = tt
  offers (Makes plan) n x (Holding v) = tt
  offers Sweeps n x Closed = tt
  offers Sweeps n x Open = tt
  offers Sweeps n x (Holding v) = tt

  lets_go : (j : Job D) (n : ℕ) → At (let_go j n)
  lets_go (Makes plan) n = tt
  lets_go Sweeps n = tt

  to_oneself : (j : Job D) (n : ℕ) (w : Word D) → At (offered_to_oneself j n w)
  to_oneself (Makes plan) n w = on_tray_lem w stuck (into_own_tray (Makes plan) n) tt (own_tray (Makes plan) n)
  to_oneself Sweeps n w = on_count_lem w stuck (λ c. let_go Sweeps n) tt (λ c. tt)

  third : (plan : Plan D) (v : ℕ) (w : Word D) → At (from_third plan v w)
  third plan v w = cond_both (eqb plan.kids.third 0) (made plan v w) (going w (Works (Makes plan) (CountKid v Third))) At (λ _. tt) (λ _. tt)

  second : (plan : Plan D) (v : ℕ) (w : Word D) → At (from_second plan v w)
  second plan v w = cond_both (eqb plan.kids.second 0) (from_third plan v w) (going w (Works (Makes plan) (CountKid v Second))) At (λ _. third plan v w) (λ _. tt)

  first : (plan : Plan D) (v : ℕ) (w : Word D) → At (from_first plan v w)
  first plan v w = cond_both (eqb plan.kids.first 0) (from_second plan v w) (going w (Works (Makes plan) (CountKid v First))) At (λ _. second plan v w) (λ _. tt)

  goes_on : (plan : Plan D) (v : ℕ) (k : Kid) (w : Word D) → At (onward plan v k w)
  goes_on plan v First w = second plan v w
  goes_on plan v Second w = third plan v w
  goes_on plan v Third w = tt

  gives_data : (j : Job D) (v : ℕ) → At (data_given j v)
  gives_data (Makes plan) v = first plan v (DataWord plan.given)
  gives_data Sweeps v = tt

  links : (j : Job D) (v : ℕ) (k : Kid) (w : ℕ) → At (kid_linked j v k w)
  links (Makes plan) v k w = goes_on plan v k (KidWord w)
  links Sweeps v k w = tt

  choose : (n : ℕ) (d e : Decision D W) → At d → At e → At (cond (eqb n 0) d e)
  choose n d e h g = cond_both (eqb n 0) d e At (λ _. h) (λ _. g)

  place_tells : (c : Place) (j : Job D) (w : Word D) (p x : ℕ) (slots : ℕ → ℕ) → At (decide_place c j w p x slots)
  place_tells OpenTray j w p x slots = on_tray_lem w stuck (λ t. going (TrayWord Open) (Works j ReadTray)) tt (λ t. tt)
  place_tells ReadTray j w p x slots = on_tray_lem w stuck (λ t. elim t [ Holding v ↦ going NoWord (Works j (CloseTray v)) | Closed ↦ going NoWord (Works j LookForNode) | Open ↦ going NoWord (Works j LookForNode) ]) tt read
    where
      read : (t : Tray) → TellsAtOnce (elim t as (λ _. Decision D W) [ Holding v ↦ going NoWord (Works j (CloseTray v)) | Closed ↦ going NoWord (Works j LookForNode) | Open ↦ going NoWord (Works j LookForNode) ]).told
      read Closed = tt
      read Open = tt
      read (Holding v) = tt
  place_tells LookForNode j w p x slots = on_count_lem w (backward j NoWord) (λ c. cond (eqb c 0) (going NoWord (Works j (LockNode x))) (backward j NoWord)) (backs j NoWord) (λ c. choose c (going NoWord (Works j (LockNode x))) (backward j NoWord) tt (backs j NoWord))
  place_tells (LockNode n) j w p x slots = on_lock_lem w (λ l. cond (eqb l 0) (going (LockWord p) (Works j (Recheck n))) (backward j NoWord)) (λ l. choose l (going (LockWord p) (Works j (Recheck n))) (backward j NoWord) tt (backs j NoWord))
  place_tells (Recheck n) j w p x slots = on_count_lem w stuck (λ c. cond (eqb c 0) (going NoWord (Works j (ReadKid n First))) (going NoWord (Works j (UnlockAndGoBack n)))) tt (λ c. choose c (going NoWord (Works j (ReadKid n First))) (going NoWord (Works j (UnlockAndGoBack n))) tt tt)
  place_tells (UnlockAndGoBack n) j w p x slots = on_lock_lem w (λ l. backward j (LockWord 0)) (λ l. backs j (LockWord 0))
  place_tells (ReadKid n k) j w p x slots = on_kid_lem w (λ c. cond (eqb c 0) (going NoWord (Works j (after_kid n k))) (going NoWord (Works j (ClearKid n k c)))) (λ c. choose c (going NoWord (Works j (after_kid n k))) (going NoWord (Works j (ClearKid n k c))) tt tt)
  place_tells (ClearKid n k c) j w p x slots = on_kid_lem w (λ _. going (KidWord 0) (Works j (UncountKid n k c))) (λ _. tt)
  place_tells (UncountKid n k c) j w p x slots = on_count_lem w stuck _ tt (λ _. tt)
  place_tells (Claim n) j w p x slots = on_count_lem w stuck (λ _. going (CountWord 1) (Works j (Unlock n))) tt (λ _. tt)
  place_tells (Unlock n) j w p x slots = on_lock_lem w (λ _. going (LockWord 0) (Works j (Offer n))) (λ _. tt)
  place_tells (Offer n) j w p x slots = cond_both (eqb x p) (offered_to_oneself j n w) (on_tray w (not_taken j n) (offered j n x)) At (λ _. to_oneself j n w) (λ _. on_tray_lem w (not_taken j n) (offered j n x) (not_taken_lem j n) (offers j n x))
  place_tells (KeepForOneself n) j w p x slots = on_tray_lem w stuck (into_own_tray j n) tt (own_tray j n)
  place_tells (GiveBack n) j w p x slots = on_count_lem w stuck (λ _. let_go j n) tt (λ _. lets_go j n)
  place_tells (CloseTray v) j w p x slots = on_tray_lem w stuck (λ _. going (TrayWord Closed) (Works j (WriteData v))) tt (λ _. tt)
  place_tells (WriteData v) j w p x slots = on_data_lem w (λ _. data_given j v) (λ _. gives_data j v)
  place_tells (CountKid v k) j w p x slots = on_count_lem w stuck _ tt (λ _. tt)
  place_tells (LinkKid v k c) j w p x slots = on_kid_lem w (λ _. kid_linked j v k c) (λ _. links j v k c)

  pub tells_at_once : (r : Running D) (w : Word D) (p x : ℕ) (slots : ℕ → ℕ) (n : ℕ) → (IsFourth r → ⊥) → At (decide r w p x slots n)
  tells_at_once Idle w p x slots n h = tt
  tells_at_once (Reads ReadNothing) w p x slots n h = on_data_lem w _ (λ _. tt)
  tells_at_once (GoesDown k) w p x slots n h = on_kid_lem w (λ c. cond (eqb c 0) (ended_by (Err NoKid)) (ending NoWord (Lengthens c) (AtNode c))) (λ c. choose c (ended_by (Err NoKid)) (ending NoWord (Lengthens c) (AtNode c)) tt tt)
  tells_at_once (Keeps i) w p x slots n h = on_count_lem w stuck _ tt (λ _. tt)
  tells_at_once (Drops i) w p x slots n h = on_count_lem w stuck _ tt (λ _. tt)
  tells_at_once (Hands i q) w p x slots n h = on_inbox_lem w (λ b. cond (eqb b 0) (ending (InboxWord (slots i)) (Fills i 0) (AtNode (slots i))) (ended_by (Err InboxFull))) (λ b. choose b (ending (InboxWord (slots i)) (Fills i 0) (AtNode (slots i))) (ended_by (Err InboxFull)) tt tt)
  tells_at_once (Fetches i) w p x slots n h = on_inbox_lem w (λ b. cond (eqb b 0) (ended_by (Err InboxEmpty)) (going NoWord (TakesOut i b))) (λ b. choose b (ended_by (Err InboxEmpty)) (going NoWord (TakesOut i b)) tt tt)
  tells_at_once (TakesOut i v) w p x slots n h = on_inbox_lem w _ (λ _. tt)
  tells_at_once (Works j c) w p x slots n h = place_tells c j w p x slots
  tells_at_once (WalkReads t ReadNothing) w p x slots n h = on_data_lem w _ (λ _. tt)
  tells_at_once (WalkReads t (ReadSecond d i j)) w p x slots n h = absurd (h tt)
  tells_at_once (WalkGoesDown t k) w p x slots n h = on_kid_lem w (λ c. cond (eqb c 0) (going NoWord (WalkReads t ReadNothing)) (record { word = NoWord; change = Lengthens c; next = WalkReads t ReadNothing; told = Tells (Ok StillRunning) }))
      (λ c. choose c (going NoWord (WalkReads t ReadNothing)) (record { word = NoWord; change = Lengthens c; next = WalkReads t ReadNothing; told = Tells (Ok StillRunning) }) tt tt)
  tells_at_once _ w p x slots n h = on_kid_lem w _ (λ _. tt)
