-- What every store that can exist keeps of its counts, locks, trays and running calls.
use Rattle.std.specs.Prelude.{◌≡◌, ℕ, suc, ◌+◌, ◌<◌, ◌≤◌, ◌≢◌}
use Rattle.model.specs.Fun.{sum_to, is}
use Rattle.model.specs.Types.{Kid, First, Kids, Tray, Holding, Place, OpenTray, ReadTray, LookForNode, LockNode, Recheck, UnlockAndGoBack, ReadKid, ClearKid, UncountKid, Claim, Unlock, Offer, KeepForOneself, GiveBack, CloseTray, WriteData, CountKid, LinkKid, Job, Makes, Sweeps, Running, Idle, Reads, GoesDown, Keeps, Drops, Hands, Fetches, TakesOut, Works, WalkReads, WalkGoesDown}
use Rattle.model.specs.State.{position, kid_at, Store}
use Rattle.model.specs.Checks.{last_slot}
unfoldable pub use Rattle.model.specs.References.{occ, in_slots, in_boxes, in_trays, in_kids}
pub use Rattle.model.specs.References.{tray_node}

-- what a party's place in its call relies on, of the shared words and of its slots; 0 where it relies on nothing
pub record Reliance : Type 0 where
  -- the node it works at
  pub node : ℕ
  -- the node that it has locked
  pub locked : ℕ
  -- the node whose count is 0
  pub empty : ℕ
  -- the node that it carries, whose count is 1
  pub one : ℕ
  -- the node that it carries besides
  pub other : ℕ
  -- the kids from position lo on and before hi are 0
  pub lo : ℕ
  pub hi : ℕ
  -- what the kid at this position is
  pub pend : ℕ
  pub at : Kid
  -- what is to be written there, from the slot that gives it
  pub put : ℕ
  -- what its tray holds
  pub held : ℕ
  -- the kids before this position are as given
  pub up : ℕ

abbrev pub relies : ℕ → ℕ → ℕ → ℕ → ℕ → ℕ → ℕ → Reliance
relies n l e o w a b = record { node = n; locked = l; empty = e; one = o; other = w; lo = a; hi = b; pend = 0; at = First; put = 0; held = 0; up = 0 }

abbrev pub none : Reliance
none = relies 0 0 0 0 0 0 0

abbrev pub reliance_at : Place → Reliance
reliance_at OpenTray = none
reliance_at ReadTray = none
reliance_at LookForNode = none
reliance_at (LockNode n) = relies n 0 0 0 0 0 0
reliance_at (Recheck n) = relies n n 0 0 0 0 0
reliance_at (UnlockAndGoBack n) = relies n n 0 0 0 0 0
reliance_at (ReadKid n k) = relies n n n 0 0 1 (position k)
reliance_at (ClearKid n k w) = record { node = n; locked = n; empty = n; one = 0; other = 0; lo = 1; hi = position k; pend = w; at = k; put = 0; held = 0; up = 0 }
reliance_at (UncountKid n k w) = relies n n n 0 w 1 (suc (position k))
reliance_at (Claim n) = relies n n n 0 0 1 4
reliance_at (Unlock n) = relies n n 0 n 0 1 4
reliance_at (Offer n) = relies n 0 0 n 0 1 4
reliance_at (KeepForOneself n) = relies n 0 0 n 0 1 4
reliance_at (GiveBack n) = relies n 0 0 n 0 1 4
reliance_at (CloseTray v) = record { node = 0; locked = 0; empty = 0; one = 0; other = 0; lo = 0; hi = 0; pend = 0; at = First; put = 0; held = v; up = 0 }
reliance_at (WriteData v) = relies v 0 0 v 0 1 4
reliance_at (CountKid v k) = record { node = v; locked = 0; empty = 0; one = v; other = 0; lo = position k; hi = 4; pend = 0; at = First; put = 0; held = 0; up = position k }
reliance_at (LinkKid v k w) = record { node = v; locked = 0; empty = 0; one = v; other = w; lo = position k; hi = 4; pend = 0; at = k; put = w; held = 0; up = position k }

abbrev pub reliance : {D : Type 0} → Running D → Reliance
reliance Idle = none
reliance (Reads g) = none
reliance (GoesDown k) = none
reliance (WalkReads t g) = none
reliance (WalkGoesDown t k) = none
reliance (Works j c) = reliance_at c
reliance (Keeps i) = none
reliance (Drops i) = none
reliance (Fetches i) = none
reliance (Hands i q) = none
reliance (TakesOut i v) = none

-- the party's own slots and inbox, as the call needs them: a slot to fill, one to take from, kid slots, what the inbox holds
pub record Needs : Type 0 where
  pub into : ℕ
  pub source : ℕ
  pub wants : Kid → ℕ
  pub boxed : ℕ

abbrev pub needs_job : {D : Type 0} → Job D → Needs
needs_job (Makes a) = record { into = a.slot; source = 0; wants = kid_at a.kids; boxed = 0 }
needs_job Sweeps = record { into = 0; source = 0; wants = λ k. 0; boxed = 0 }

abbrev pub needs_of : {D : Type 0} → Running D → Needs
needs_of Idle = record { into = 0; source = 0; wants = λ k. 0; boxed = 0 }
needs_of (Reads g) = record { into = 0; source = 0; wants = λ k. 0; boxed = 0 }
needs_of (GoesDown k) = record { into = 0; source = 0; wants = λ k. 0; boxed = 0 }
needs_of (WalkReads t g) = record { into = 0; source = 0; wants = λ k. 0; boxed = 0 }
needs_of (WalkGoesDown t k) = record { into = 0; source = 0; wants = λ k. 0; boxed = 0 }
needs_of (Works j c) = needs_job j
needs_of (Keeps i) = record { into = i; source = 0; wants = λ k. 0; boxed = 0 }
needs_of (Drops i) = record { into = 0; source = i; wants = λ k. 0; boxed = 0 }
needs_of (Fetches i) = record { into = i; source = 0; wants = λ k. 0; boxed = 0 }
needs_of (Hands i q) = record { into = 0; source = i; wants = λ k. 0; boxed = 0 }
needs_of (TakesOut i v) = record { into = i; source = 0; wants = λ k. 0; boxed = v }

unfoldable pub carry : Reliance → ℕ → ℕ
carry c n = is c.one n + is c.other n

unfoldable pub carried : {D : Type 0} → ℕ → (ℕ → Running D) → ℕ → ℕ
carried N f n = sum_to N (λ q. carry (reliance (f q)) n)

abbrev pub refs : {D : Type 0} → ℕ → ℕ → Store D → ℕ → ℕ
refs N M s n = in_slots N s.slot n + in_boxes N s.inbox n + in_trays N s.tray n + carried N s.run n + in_kids M s.kids n

-- over just the words that it speaks of: t is the party's tray, f its slots
pub record Local (M : ℕ) (count lock : ℕ → ℕ) (kids : ℕ → Kids) (t : Tray) (f : ℕ → ℕ) (q : ℕ) (c : Reliance) (w : Kid → ℕ) : Type 0 where
  pub within : c.node ≤ M
  pub lock_is : c.locked ≢ 0 → lock c.locked ≡ q
  pub empty_is : c.empty ≢ 0 → count c.empty ≡ 0
  pub one_is : c.one ≢ 0 → count c.one ≡ 1
  pub bare : (k : Kid) → c.lo ≤ position k → position k < c.hi → kid_at (kids c.node) k ≡ 0
  pub pend_is : c.pend ≢ 0 → kid_at (kids c.node) c.at ≡ c.pend
  pub put_is : c.put ≢ 0 → f (w c.at) ≡ c.put
  pub held_is : c.held ≢ 0 → t ≡ Holding c.held
  pub none_given : (k : Kid) → position k < c.up → w k ≡ 0 → kid_at (kids c.node) k ≡ 0
  pub given : (k : Kid) → position k < c.up → w k ≢ 0 → kid_at (kids c.node) k ≡ f (w k)

pub record Own (f : ℕ → ℕ) (box : ℕ) (w : Needs) : Type 0 where
  pub into_is : w.into ≢ 0 → (w.into ≤ last_slot) × (f w.into ≡ 0)
  pub source_is : w.source ≢ 0 → (w.source ≤ last_slot) × (f w.source ≢ 0)
  pub wants_is : (k : Kid) → w.wants k ≢ 0 → (w.wants k ≤ last_slot) × (f (w.wants k) ≢ 0)
  pub boxed_is : w.boxed ≢ 0 → box ≡ w.boxed

-- what a place in a call says by itself
abbrev pub FitPlace : Place → Type 0
FitPlace OpenTray = Unit {0}
FitPlace ReadTray = Unit {0}
FitPlace LookForNode = Unit {0}
FitPlace (LockNode n) = 1 ≤ n
FitPlace (Recheck n) = 1 ≤ n
FitPlace (UnlockAndGoBack n) = 1 ≤ n
FitPlace (ReadKid n k) = 1 ≤ n
FitPlace (ClearKid n k w) = (1 ≤ n) × (1 ≤ w)
FitPlace (UncountKid n k w) = (1 ≤ n) × (1 ≤ w)
FitPlace (Claim n) = 1 ≤ n
FitPlace (Unlock n) = 1 ≤ n
FitPlace (Offer n) = 1 ≤ n
FitPlace (KeepForOneself n) = 1 ≤ n
FitPlace (GiveBack n) = 1 ≤ n
FitPlace (CloseTray n) = 1 ≤ n
FitPlace (WriteData n) = 1 ≤ n
FitPlace (CountKid v k) = 1 ≤ v
FitPlace (LinkKid v k w) = (1 ≤ v) × (1 ≤ w)

-- Sweep's places, and the kid that a Make is at is wanted
abbrev pub FitJob : {D : Type 0} → Job D → Place → Type 0
FitJob (Makes a) OpenTray = Unit {0}
FitJob (Makes a) ReadTray = Unit {0}
FitJob (Makes a) LookForNode = Unit {0}
FitJob (Makes a) (LockNode n) = Unit {0}
FitJob (Makes a) (Recheck n) = Unit {0}
FitJob (Makes a) (UnlockAndGoBack n) = Unit {0}
FitJob (Makes a) (ReadKid n k) = Unit {0}
FitJob (Makes a) (ClearKid n k w) = Unit {0}
FitJob (Makes a) (UncountKid n k w) = Unit {0}
FitJob (Makes a) (Claim n) = Unit {0}
FitJob (Makes a) (Unlock n) = Unit {0}
FitJob (Makes a) (Offer n) = Unit {0}
FitJob (Makes a) (KeepForOneself n) = Unit {0}
FitJob (Makes a) (GiveBack n) = Unit {0}
FitJob (Makes a) (CloseTray v) = Unit {0}
FitJob (Makes a) (WriteData v) = Unit {0}
FitJob (Makes a) (CountKid v k) = kid_at a.kids k ≢ 0
FitJob (Makes a) (LinkKid v k w) = kid_at a.kids k ≢ 0
FitJob Sweeps OpenTray = ⊥
FitJob Sweeps ReadTray = ⊥
FitJob Sweeps LookForNode = Unit {0}
FitJob Sweeps (LockNode n) = Unit {0}
FitJob Sweeps (Recheck n) = Unit {0}
FitJob Sweeps (UnlockAndGoBack n) = Unit {0}
FitJob Sweeps (ReadKid n k) = Unit {0}
FitJob Sweeps (ClearKid n k w) = Unit {0}
FitJob Sweeps (UncountKid n k w) = Unit {0}
FitJob Sweeps (Claim n) = Unit {0}
FitJob Sweeps (Unlock n) = Unit {0}
FitJob Sweeps (Offer n) = Unit {0}
FitJob Sweeps (KeepForOneself n) = ⊥
FitJob Sweeps (GiveBack n) = Unit {0}
FitJob Sweeps (CloseTray v) = ⊥
FitJob Sweeps (WriteData v) = ⊥
FitJob Sweeps (CountKid v k) = ⊥
FitJob Sweeps (LinkKid v k w) = ⊥

abbrev pub Fit : {D : Type 0} → ℕ → Running D → Type 0
Fit N Idle = Unit {0}
Fit N (Reads g) = Unit {0}
Fit N (GoesDown k) = Unit {0}
Fit N (WalkReads t g) = Unit {0}
Fit N (WalkGoesDown t k) = Unit {0}
Fit N (Works j c) = FitPlace c × FitJob j c
Fit N (Keeps i) = 1 ≤ i
Fit N (Drops i) = 1 ≤ i
Fit N (Fetches i) = 1 ≤ i
Fit N (Hands i q) = (1 ≤ i) × (1 ≤ q) × (q ≤ N)
Fit N (TakesOut i v) = (1 ≤ i) × (1 ≤ v)

abbrev pub LocalOf : {D : Type 0} → ℕ → Store D → ℕ → Reliance → (Kid → ℕ) → Type 0
LocalOf M s q c w = Local M s.count s.lock s.kids (s.tray q) (s.slot q) q c w

abbrev pub Good : {D : Type 0} → ℕ → ℕ → Store D → ℕ → Running D → Type 0
Good N M s q r = LocalOf M s q (reliance r) (needs_of r).wants × Own (s.slot q) (s.inbox q) (needs_of r) × Fit N r

pub record Bare (count : ℕ → ℕ) (kids : ℕ → Kids) (n : ℕ) : Type 0 where
  pub is_one : count n ≡ 1
  pub no_kids : (k : Kid) → kid_at (kids n) k ≡ 0

pub record Inv {D : Type 0} (N M : ℕ) (s : Store D) : Type 0 where
  pub counts : (n : ℕ) → 1 ≤ n → s.count n ≡ refs N M s n
  pub beyond : (n : ℕ) → M < n → s.count n ≡ 0
  pub filled : (q v : ℕ) → s.tray q ≡ Holding v → 1 ≤ v
  pub nowhere : s.lock 0 ≡ 0
  pub locks : (n : ℕ) → s.lock n ≢ 0 → (1 ≤ s.lock n) × (s.lock n ≤ N) × ((reliance (s.run (s.lock n))).locked ≡ n)
  pub parties : (q : ℕ) → 1 ≤ q → q ≤ N → Good N M s q (s.run q)
  pub trays : (q : ℕ) → 1 ≤ q → q ≤ N → tray_node (s.tray q) ≢ 0 → Bare s.count s.kids (tray_node (s.tray q))
