-- Every call that is neither Make nor walk ends within sixteen turns of its own.
use Rattle.std.proofs.Common.{◌≡◌, ℕ, ◌<◌, ◌≤◌, Bool, true, false, cond, eqb, ◌⊎◌, sym, refl, inl, inr, arith}
use Rattle.std.proofs.lemmas.Bool.{cond_both, true≢false}
use Rattle.refusals.specs.declared.Refusal.TheVariants.{NoKid, InboxFull, InboxEmpty}
use Rattle.model.specs.Types.{Err, First, Second, Third, Tray, Closed, Open, Holding, Place, OpenTray, ReadTray, LookForNode, LockNode, Recheck, UnlockAndGoBack, ReadKid, ClearKid, UncountKid, Claim, Unlock, Offer, KeepForOneself, GiveBack, CloseTray, WriteData, CountKid, LinkKid, Makes, Sweeps, ReadNothing, ReadData, ReadFirst, ReadSecond, Running, Idle, Reads, GoesDown, Keeps, Drops, Hands, Fetches, TakesOut, Works, WalkReads, WalkGoesDown, AtNode, Swept, Address, Nowhere, CountOf, TrayOf, NoWord, LockWord, InboxWord, Stays, Fills, Lengthens, Told, Tells, Settles, Decision}
use Rattle.model.specs.State.{kid_at, Store, last}
use Rattle.model.specs.Steps.{between, loaded, address, decide, going, ending, ended_by, backward, offered, offered_to_oneself, not_taken, on_count, on_tray}
use Rattle.model.specs.Inv.{Fit, FitJob}
use Rattle.model.specs.Runs.{is_end}
use Rattle.model.specs.Law.{is_brief}

-- how many turns are left to a Sweep at the most
abbrev left_at : Place → ℕ
left_at c = elim c [
  | LookForNode ↦ 16
  | LockNode n ↦ 15
  | Recheck n ↦ 14
  | UnlockAndGoBack n ↦ 1
  | ReadKid n k ↦ elim k [ First ↦ 13 | Second ↦ 10 | Third ↦ 7 ]
  | ClearKid n k w ↦ elim k [ First ↦ 12 | Second ↦ 9 | Third ↦ 6 ]
  | UncountKid n k w ↦ elim k [ First ↦ 11 | Second ↦ 8 | Third ↦ 5 ]
  | Claim n ↦ 4
  | Unlock n ↦ 3
  | Offer n ↦ 2
  | GiveBack n ↦ 1
  | OpenTray ↦ 0
  | ReadTray ↦ 0
  | KeepForOneself n ↦ 0
  | CloseTray n ↦ 0
  | WriteData n ↦ 0
  | CountKid n k ↦ 0
  | LinkKid n k w ↦ 0
]

-- and to every call that is neither Make nor walk
abbrev pub left : {D : Type 0} → Running D → ℕ
left r = elim r [
  | Reads g ↦ elim g [ ReadNothing ↦ 4 | ReadData d ↦ 3 | ReadFirst d i ↦ 2 | ReadSecond d i j ↦ 1 ]
  | GoesDown k ↦ 1
  | Keeps i ↦ 1
  | Drops i ↦ 1
  | Hands i q ↦ 1
  | Fetches i ↦ 2
  | TakesOut i v ↦ 1
  | Works j c ↦ elim j [ Sweeps ↦ left_at c | Makes plan ↦ 0 ]
  | Idle ↦ 0
  | WalkReads t g ↦ 0
  | WalkGoesDown t k ↦ 0
]

-- a step ends its call, or leaves fewer turns to it
abbrev pub EndsBy : {D W : Type 0} → Told D W → Type 0
EndsBy (Tells o) = is_end o ≡ true
EndsBy (Settles n) = ⊥

module _ {D : Type 0} (W : Type 0) where
  abbrev pub Nearer : ℕ → Decision D W → Type 0
  Nearer b d = EndsBy d.told ⊎ ((is_brief d.next ≡ true) × (left d.next < b))

  choose : (n b : ℕ) (d e : Decision D W) → Nearer b d → Nearer b e → Nearer b (cond (eqb n 0) d e)
  choose n b d e h g = cond_both (eqb n 0) d e (Nearer b) (λ _. h) (λ _. g)

  module _ (N M : ℕ) (s : Store D) (info : ℕ → D) (p x : ℕ) where
    abbrev decided : Running D → Decision D W
    decided r = decide r (loaded s info (address N M r p x (s.slot p) (last s p))) p x (s.slot p) (last s p)

    tray_nearer : (n : ℕ) (t : Tray) → Nearer 2 (offered Sweeps n x t)
    tray_nearer n Closed = inr (refl, omega arith)
    tray_nearer n Open = inl refl
    tray_nearer n (Holding v) = inr (refl, omega arith)

    abbrev elsewhere : Address
    elsewhere = cond (between 1 N x) (TrayOf x) Nowhere

    offer_nearer : (n : ℕ) (own : Bool) → Nearer 2 (cond own (offered_to_oneself Sweeps n (loaded s info (cond own (CountOf n) elsewhere))) (on_tray (loaded s info (cond own (CountOf n) elsewhere)) (not_taken Sweeps n) (offered Sweeps n x)))
    offer_nearer n true = inl refl
    offer_nearer n false = cond_both (between 1 N x) (TrayOf x) Nowhere (λ a. Nearer 2 (on_tray (loaded s info a) (not_taken Sweeps n) (offered Sweeps n x))) (λ _. tray_nearer n (s.tray x)) (λ _. inr (refl, omega arith))

    place_nearer : (c : Place) → FitJob {D = D} Sweeps c → Nearer (left_at c) (decided (Works Sweeps c))
    place_nearer OpenTray f = absurd f
    place_nearer ReadTray f = absurd f
    place_nearer LookForNode f = cond_both (between 1 M x) (CountOf x) Nowhere
        (λ a. Nearer 16 (on_count (loaded s info a) (backward Sweeps NoWord) (λ c. cond (eqb c 0) (going NoWord (Works Sweeps (LockNode x))) (backward Sweeps NoWord))))
        (λ _. choose (s.count x) 16 (going NoWord (Works Sweeps (LockNode x))) (backward Sweeps NoWord) (inr (refl, omega arith)) (inl refl)) (λ _. inl refl)
    place_nearer (LockNode n) f = choose (s.lock n) 15 (going (LockWord p) (Works Sweeps (Recheck n))) (ending NoWord Stays (Swept 0 0)) (inr (refl, omega arith)) (inl refl)
    place_nearer (Recheck n) f = choose (s.count n) 14 (going NoWord (Works Sweeps (ReadKid n First))) (going NoWord (Works Sweeps (UnlockAndGoBack n))) (inr (refl, omega arith)) (inr (refl, omega arith))
    place_nearer (UnlockAndGoBack n) f = inl refl
    place_nearer (ReadKid n First) f = choose (s.kids n).first 13 (going NoWord (Works Sweeps (ReadKid n Second))) (going NoWord (Works Sweeps (ClearKid n First (s.kids n).first))) (inr (refl, omega arith)) (inr (refl, omega arith))
    place_nearer (ReadKid n Second) f = choose (s.kids n).second 10 (going NoWord (Works Sweeps (ReadKid n Third))) (going NoWord (Works Sweeps (ClearKid n Second (s.kids n).second))) (inr (refl, omega arith)) (inr (refl, omega arith))
    place_nearer (ReadKid n Third) f = choose (s.kids n).third 7 (going NoWord (Works Sweeps (Claim n))) (going NoWord (Works Sweeps (ClearKid n Third (s.kids n).third))) (inr (refl, omega arith)) (inr (refl, omega arith))
    place_nearer (Offer n) f = offer_nearer n (eqb x p)
    place_nearer (KeepForOneself n) f = absurd f
    place_nearer (GiveBack n) f = inl refl
    place_nearer (CloseTray v) f = absurd f
    place_nearer (WriteData v) f = absurd f
    place_nearer (CountKid v k) f = absurd f
    place_nearer (LinkKid v k w) f = absurd f
    place_nearer (ClearKid n First w) f = inr (refl, omega arith)
    place_nearer (UncountKid n First w) f = inr (refl, omega arith)
    place_nearer _ f = inr (refl, omega arith)

    pub nearer : (r : Running D) → is_brief r ≡ true → Fit N r → Nearer (left r) (decided r)
    nearer (Reads ReadNothing) h f = inr (refl, omega arith)
    nearer (Reads (ReadData d)) h f = inr (refl, omega arith)
    nearer (Reads (ReadFirst d i)) h f = inr (refl, omega arith)
    nearer (Reads (ReadSecond d i j)) h f = inl refl
    nearer (GoesDown k) h f = let c = kid_at (s.kids (last s p)) k in choose c 1 (ended_by (Err NoKid)) (ending NoWord (Lengthens c) (AtNode c)) (inl refl) (inl refl)
    nearer (Keeps i) h f = inl refl
    nearer (Drops i) h f = inl refl
    nearer (Hands i q) h f = choose (s.inbox q) 1 (ending (InboxWord (s.slot p i)) (Fills i 0) (AtNode (s.slot p i))) (ended_by (Err InboxFull)) (inl refl) (inl refl)
    nearer (Fetches i) h f = choose (s.inbox p) 2 (ended_by (Err InboxEmpty)) (going NoWord (TakesOut i (s.inbox p))) (inl refl) (inr (refl, omega arith))
    nearer (TakesOut i v) h f = inl refl
    nearer (Works Sweeps c) h f = place_nearer c f.1
    nearer _ h f = absurd (true≢false (sym h))

-- a brief call has some turn left, and at most sixteen
sweep_left : (D : Type 0) (c : Place) → FitJob {D = D} Sweeps c → (1 ≤ left_at c) × (left_at c ≤ 16)
sweep_left D OpenTray f = absurd f
sweep_left D ReadTray f = absurd f
sweep_left D (KeepForOneself n) f = absurd f
sweep_left D (CloseTray v) f = absurd f
sweep_left D (WriteData v) f = absurd f
sweep_left D (CountKid v k) f = absurd f
sweep_left D (LinkKid v k w) f = absurd f
sweep_left D (ReadKid n First) f = (omega arith, omega arith)
sweep_left D (ClearKid n First w) f = (omega arith, omega arith)
sweep_left D (UncountKid n First w) f = (omega arith, omega arith)
sweep_left D _ f = (omega arith, omega arith)

pub some_left : {D : Type 0} (N : ℕ) (r : Running D) → is_brief r ≡ true → Fit N r → (1 ≤ left r) × (left r ≤ 16)
some_left N Idle h f = absurd (true≢false (sym h))
some_left N (Reads ReadNothing) h f = (omega arith, omega arith)
some_left {D} N (Works Sweeps c) h f = sweep_left D c f.1
some_left N (Works (Makes plan) c) h f = absurd (true≢false (sym h))
some_left N (WalkReads t g) h f = absurd (true≢false (sym h))
some_left N (WalkGoesDown t k) h f = absurd (true≢false (sym h))
some_left N _ h f = (omega arith, omega arith)
