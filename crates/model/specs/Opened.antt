-- A shared store and a plain store that agree, with calls and walks under way: what the law starts from.
use Rattle.std.specs.Prelude.{◌≡◌, ℕ, ◌≤◌, true, false, cond, ◌≢◌, List, None}
use Rattle.std.specs.List.{AllByRecursion}
use Rattle.kinds.specs.Situations.{Describes}
use Rattle.model.specs.Types.{Kid, Kids, Place, OpenTray, ReadTray, LookForNode, LockNode, Recheck, UnlockAndGoBack, ReadKid, ClearKid, UncountKid, Claim, Unlock, Offer, KeepForOneself, GiveBack, CloseTray, WriteData, CountKid, LinkKid, Plan, Makes, Sweeps, Reading, ReadNothing, ReadData, ReadFirst, ReadSecond, Running, Idle, Reads, GoesDown, Keeps, Drops, Hands, Fetches, TakesOut, Works, WalkReads, WalkGoesDown, Read, Down, Keep, Drop, Hand, Fetch, Make, Sweep, Walk, Asked, AsksCall, AsksWalk, Situation}
use Rattle.model.specs.State.{kid_at, Trail, no_trail, along, new_store, last}
use Rattle.model.specs.Checks.{begin_fault, is_walking, given_by}
use Rattle.model.specs.Begins.{kid_of}
use Rattle.model.specs.Reach.{Reached, InTerm}
use Rattle.model.specs.Sound.{Sound, SeekersOpen}
use Rattle.model.specs.Setting.{Setting, InLimits}
use Rattle.model.specs.Plain.{Plain, Ask, WorksOut}
use Rattle.model.specs.Runs.{System}

-- what holds of every node of a trail
abbrev pub OnTrail : (ℕ → Type 0) → Trail → Type 0
OnTrail P no_trail = Unit {0}
OnTrail P (along i n ns) = P n × AllByRecursion P ns

-- what a reading has read so far is what stands there
abbrev pub ReadSoFar : {D : Type 0} → D → Kids → Reading D → Type 0
ReadSoFar d ks ReadNothing = Unit {0}
ReadSoFar d ks (ReadData e) = e ≡ d
ReadSoFar d ks (ReadFirst e i) = (e ≡ d) × (i ≡ ks.first)
ReadSoFar d ks (ReadSecond e i j) = (e ≡ d) × (i ≡ ks.first) × (j ≡ ks.second)

-- a Make that links kids has written its data
abbrev pub WrittenSoFar : {D : Type 0} → (ℕ → D) → Plan D → Place → Type 0
WrittenSoFar info plan c = elim c [ CountKid v k ↦ info v ≡ plan.given | LinkKid v k w ↦ info v ≡ plan.given | OpenTray ↦ Unit {0} | ReadTray ↦ Unit {0} | LookForNode ↦ Unit {0} | LockNode n ↦ Unit {0} | Recheck n ↦ Unit {0} | UnlockAndGoBack n ↦ Unit {0} | ReadKid n k ↦ Unit {0} | ClearKid n k w ↦ Unit {0} | UncountKid n k w ↦ Unit {0} | Claim n ↦ Unit {0} | Unlock n ↦ Unit {0} | Offer n ↦ Unit {0} | KeepForOneself n ↦ Unit {0} | GiveBack n ↦ Unit {0} | CloseTray n ↦ Unit {0} | WriteData n ↦ Unit {0} ]

module _ {D W A B : Type 0} (X : Setting D W A B) where
  -- slots, inboxes, the trails of parties that do not walk, and the data and kids of all that is reached
  pub record Agrees (F : System D W A B) (s : Plain D) : Type 0 where
    pub slots : s.slot ≡ F.store.slot
    pub inboxes : s.inbox ≡ F.store.inbox
    pub trails : (q : ℕ) → s.trail q ≡ cond (is_walking (F.store.run q)) no_trail (F.store.trail q)
    pub terms : (n : ℕ) → Reached X.parties F.store n → (s.kids n ≡ F.store.kids n) × (s.info n ≡ F.info n)

  -- the data of every reached node fits its kids
  abbrev pub ReachedFits : System D W A B → Type 0
  ReachedFits F = (n : ℕ) → Reached X.parties F.store n → X.suits (F.info n) (given_by (F.store.kids n)) ≡ true

  -- the party asked for a, and the plain store would accept it now
  abbrev pub AskedFor : Plain D → ℕ → Ask D → Asked D → Type 0
  AskedFor s q k a = (k.party ≡ q) × (k.asked ≡ a) × (begin_fault X.suits X.parties X.nodes false q a k.lengths (s.slot q) (s.trail q) ≡ None)

  -- what a walk from the slot i has set down is right: marked nodes are of the term, with their kids, and their worths are
  -- the term's; the nodes of the trail are yet to come
  pub record WalkSoFar (F : System D W A B) (q i : ℕ) (t : Situation) : Type 0 where
    pub at : ℕ
    pub before : List ℕ
    pub entered : F.store.trail q ≡ along i at before
    pub of_term : (n : ℕ) → (F.notes q).marks n ≡ true → InTerm F.store.kids (F.store.slot q i) n
    pub with_kids : (n : ℕ) (k : Kid) → (F.notes q).marks n ≡ true → kid_at (F.store.kids n) k ≢ 0 → (F.notes q).marks (kid_at (F.store.kids n) k) ≡ true
    pub worths : (n : ℕ) → (F.notes q).marks n ≡ true → WorksOut X.worth X.blank F.store.kids F.info t n ((F.notes q).worths n)
    pub to_come : OnTrail (λ n. (F.notes q).marks n ≡ false) (F.store.trail q)

  -- a walk as it was asked for
  abbrev pub WalkAsked : System D W A B → Plain D → ℕ → Ask D → Situation → Type 0
  WalkAsked F s q k t = (w : Walk) × AskedFor s q k (AsksWalk w) × Describes t w.range w.gear w.temperature × WalkSoFar F q w.slot t

  -- what each party runs is what it asked for, and what it has read and written so far is right
  abbrev pub Underway : System D W A B → Plain D → ℕ → Ask D → Running D → Type 0
  Underway F s q k Idle = Unit {0}
  Underway F s q k (Reads g) = AskedFor s q k (AsksCall Read) × ReadSoFar (F.info (last F.store q)) (F.store.kids (last F.store q)) g
  Underway F s q k (GoesDown j) = (i : ℕ) × AskedFor s q k (AsksCall (Down i)) × (kid_of i ≡ j)
  Underway F s q k (Keeps i) = AskedFor s q k (AsksCall (Keep i))
  Underway F s q k (Drops i) = AskedFor s q k (AsksCall (Drop i))
  Underway F s q k (Hands i r) = AskedFor s q k (AsksCall (Hand i r))
  Underway F s q k (Fetches i) = AskedFor s q k (AsksCall (Fetch i))
  Underway F s q k (TakesOut i v) = AskedFor s q k (AsksCall (Fetch i))
  Underway F s q k (Works (Makes plan) c) = AskedFor s q k (AsksCall (Make plan)) × WrittenSoFar F.info plan c
  Underway F s q k (Works Sweeps c) = AskedFor s q k (AsksCall Sweep)
  Underway F s q k (WalkReads t g) = WalkAsked F s q k t × ReadSoFar (F.info (last F.store q)) (F.store.kids (last F.store q)) g
  Underway F s q k (WalkGoesDown t j) = WalkAsked F s q k t × (kid_at (F.store.kids (last F.store q)) j ≢ 0) × ((F.notes q).marks (kid_at (F.store.kids (last F.store q)) j) ≡ false)

  -- the orders are made for the store's nodes and parties
  pub record Sized (F : System D W A B) : Type 0 where
    pub nodes : X.node_order.numbers F.node_order ≡ X.nodes
    pub parties : X.party_order.numbers F.party_order ≡ X.parties

  pub record Opened (F : System D W A B) (s : Plain D) (asked : ℕ → Ask D) : Type 0 where
    pub limits : InLimits X.nodes X.parties
    pub sound : Sound X.parties X.nodes F.store
    pub seeking : SeekersOpen X.parties F.store
    pub sized : Sized F
    pub agrees : Agrees F s
    pub fits : ReachedFits F
    pub underway : (q : ℕ) → 1 ≤ q → q ≤ X.parties → Underway F s q (asked q) (F.store.run q)

  -- a new store, with orders made for it; the caller's lists hold anything
  pub record New (F : System D W A B) : Type 0 where
    pub limits : InLimits X.nodes X.parties
    pub store_is : F.store ≡ new_store
    pub sized : Sized F
