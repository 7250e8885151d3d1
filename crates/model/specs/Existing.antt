-- Every store that can exist: a new one, and what any Begins and Turns make of it. What is promised of each.
use Rattle.std.specs.Prelude.{◌≡◌, ◌≢◌, ℕ, ◌≤◌, ◌∷◌, length}
use Rattle.model.specs.Types.{Kids, Event, Situation, Outcome}
use Rattle.model.specs.State.{Trail, no_trail, along}
use Rattle.model.specs.Checks.{last_slot}
use Rattle.model.specs.Reach.{Acyclic, Chain}
use Rattle.model.specs.References.{references}
use Rattle.model.specs.Setting.{Setting}
use Rattle.model.specs.Plain.{WorksOut, TermHas}
use Rattle.model.specs.Runs.{System, Moves}
use Rattle.model.specs.Opened.{New, ReachedFits}
use Rattle.model.specs.Law.{FreeWhenLost, MakesEnd, OtherCallsEnd}

-- how many nodes a trail has
abbrev pub trail_length : Trail → ℕ
trail_length no_trail = 0
trail_length (along i n ns) = length (n ∷ ns)

-- a trail is empty, or a path that starts at the node of one of its party's slots and goes from node to kid
abbrev pub IsPath : (ℕ → Kids) → (ℕ → ℕ) → Trail → Type 0
IsPath kids slots no_trail = Unit {0}
IsPath kids slots (along i n ns) = (1 ≤ i) × (i ≤ last_slot) × (slots i ≢ 0) × Chain kids (slots i) n ns

module _ {D W A B : Type 0} (X : Setting D W A B) where
  pub data CanExist : System D W A B → Type 0 where
    new : {F : System D W A B} → New X F → CanExist F
    moved : {F G : System D W A B} {e : Event D} {o : Outcome D W} → CanExist F → Moves X F e o G → CanExist G

  -- each count is the number of slots, inboxes, trays and kids naming the node, plus one for each party that carries it
  abbrev pub CountsAreReferences : Type 0
  CountsAreReferences = (F : System D W A B) → CanExist F → (n : ℕ) → 1 ≤ n → n ≤ X.nodes → F.store.count n
      ≡ references X.parties X.nodes F.store n

  abbrev pub NoNodeReachesItself : Type 0
  NoNodeReachesItself = (F : System D W A B) → CanExist F → Acyclic F.store.kids

  -- no count exceeds this number
  abbrev pub CountsAreAtMost : ℕ → Type 0
  CountsAreAtMost most = (F : System D W A B) → CanExist F → (n : ℕ) → 1 ≤ n → n ≤ X.nodes → F.store.count n ≤ most

  abbrev pub NoTrailOutgrowsTheNodes : Type 0
  NoTrailOutgrowsTheNodes = (F : System D W A B) → CanExist F → (q : ℕ) → 1 ≤ q → q ≤ X.parties → trail_length (F.store.trail q) ≤ X.nodes

  abbrev pub TrailsArePaths : Type 0
  TrailsArePaths = (F : System D W A B) → CanExist F → (q : ℕ) → 1 ≤ q → q ≤ X.parties → IsPath F.store.kids (F.store.slot q) (F.store.trail q)

  abbrev pub ReachedDataFits : Type 0
  ReachedDataFits = (F : System D W A B) → CanExist F → ReachedFits X F

  -- w is what the node n works out to in the situation t
  abbrev pub HasWorth : System D W A B → Situation → ℕ → W → Type 0
  HasWorth F t n w = WorksOut X.worth X.blank F.store.kids F.info t n w

  -- each node works out to a worth in each situation, and to one only
  abbrev pub EachNodeHasOneWorth : Type 0
  EachNodeHasOneWorth = (F : System D W A B) → CanExist F → (t : Situation) (n : ℕ) → (w : W) × HasWorth F t n w × ((v : W) → HasWorth F t n v → v ≡ w)

  -- m is the number of different nodes of n's term
  abbrev pub HasSize : System D W A B → ℕ → ℕ → Type 0
  HasSize F n m = TermHas X.nodes F.store.kids n m

  -- each term has a number of different nodes, and one only
  abbrev pub EachTermHasOneSize : Type 0
  EachTermHasOneSize = (F : System D W A B) → CanExist F → (n : ℕ) → (m : ℕ) × HasSize F n m × ((l : ℕ) → HasSize F n l → l ≡ m)

  -- with nothing running, some node is free exactly when some node is out of reach
  abbrev pub FreeExactlyWhenLost : Type 0
  FreeExactlyWhenLost = (F : System D W A B) → CanExist F → FreeWhenLost X F

  -- a call that is neither Make nor walk ends within sixteen turns of its own
  abbrev pub CallsEndWithinSixteen : Type 0
  CallsEndWithinSixteen = (F : System D W A B) → CanExist F → OtherCallsEnd X F

  -- a Make ends within its bound unless at some moment no node is free
  abbrev pub MakesEndWhileANodeIsFree : Type 0
  MakesEndWhileANodeIsFree = (F : System D W A B) → CanExist F → MakesEnd X F
