-- The state of the store: shared words, and each party's own things. Nodes, parties and slots go by their numbers;
-- 0 is no node, no party, no slot.
use Rattle.std.specs.Prelude.{ℕ, zero, suc, List, [], ◌∷◌, slice_index}
use Rattle.model.specs.Fun.{upd}
pub use Rattle.kinds.specs.Kids.{position, kid_at, put_kid}
use Rattle.model.specs.Types.{Kid, Kids, Tray, Closed, Running, Idle, TrailRecord}

abbrev pub empty_kids : Kids
empty_kids = record { first = 0; second = 0; third = 0 }

-- a trail is none, or the slot where it was entered, its last node, and the nodes before it, the nearest first
pub data Trail : Type 0 where
  no_trail : Trail
  along : (slot last : ℕ) (before : List ℕ) → Trail

-- the nodes of a trail from the last back to the first, where so many stand on the list
abbrev pub backwards : List ℕ → ℕ → List ℕ
backwards nodes zero = []
backwards nodes (suc k) = slice_index nodes k ∷ backwards nodes k

-- the trail that the declared record stands for
abbrev pub trail_of : TrailRecord → Trail
trail_of r = elim r.length [ zero ↦ no_trail | suc k ↦ along r.entered (slice_index r.nodes k) (backwards r.nodes k) ]

abbrev pub last_of : Trail → ℕ
last_of no_trail = 0
last_of (along i n ns) = n

abbrev pub longer : Trail → ℕ → Trail
longer no_trail m = no_trail
longer (along i n ns) m = along i m (n ∷ ns)

abbrev pub shorter : Trail → Trail
shorter no_trail = no_trail
shorter (along i n []) = no_trail
shorter (along i n (m ∷ ms)) = along i m ms

pub record Store (D : Type 0) : Type 0 where
  pub count : ℕ → ℕ
  pub lock : ℕ → ℕ
  pub kids : ℕ → Kids
  pub inbox : ℕ → ℕ
  pub tray : ℕ → Tray
  pub slot : ℕ → ℕ → ℕ
  pub trail : ℕ → Trail
  pub run : ℕ → Running D

module _ {D : Type 0} where
  -- all zeros, closed trays, empty trails, nothing running
  abbrev pub new_store : Store D
  new_store = record { count = λ n. 0; lock = λ n. 0; kids = λ n. empty_kids; inbox = λ q. 0; tray = λ q. Closed; slot = λ q i. 0; trail = λ q. no_trail; run = λ q. Idle }

  abbrev pub set_count : Store D → ℕ → ℕ → Store D
  set_count s n v = record { count = upd s.count n v; lock = s.lock; kids = s.kids; inbox = s.inbox; tray = s.tray; slot = s.slot; trail = s.trail; run = s.run }

  abbrev pub set_lock : Store D → ℕ → ℕ → Store D
  set_lock s n v = record { count = s.count; lock = upd s.lock n v; kids = s.kids; inbox = s.inbox; tray = s.tray; slot = s.slot; trail = s.trail; run = s.run }

  abbrev pub set_kid : Store D → ℕ → Kid → ℕ → Store D
  set_kid s n k v = record { count = s.count; lock = s.lock; kids = upd s.kids n (put_kid (s.kids n) k v); inbox = s.inbox; tray = s.tray; slot = s.slot; trail = s.trail; run = s.run }

  abbrev pub set_inbox : Store D → ℕ → ℕ → Store D
  set_inbox s q v = record { count = s.count; lock = s.lock; kids = s.kids; inbox = upd s.inbox q v; tray = s.tray; slot = s.slot; trail = s.trail; run = s.run }

  abbrev pub set_tray : Store D → ℕ → Tray → Store D
  set_tray s q v = record { count = s.count; lock = s.lock; kids = s.kids; inbox = s.inbox; tray = upd s.tray q v; slot = s.slot; trail = s.trail; run = s.run }

  abbrev pub set_slot : Store D → ℕ → ℕ → ℕ → Store D
  set_slot s q i v = record { count = s.count; lock = s.lock; kids = s.kids; inbox = s.inbox; tray = s.tray; slot = upd s.slot q (upd (s.slot q) i v); trail = s.trail; run = s.run }

  abbrev pub set_trail : Store D → ℕ → Trail → Store D
  set_trail s q v = record { count = s.count; lock = s.lock; kids = s.kids; inbox = s.inbox; tray = s.tray; slot = s.slot; trail = upd s.trail q v; run = s.run }

  abbrev pub set_run : Store D → ℕ → Running D → Store D
  set_run s q r = record { count = s.count; lock = s.lock; kids = s.kids; inbox = s.inbox; tray = s.tray; slot = s.slot; trail = s.trail; run = upd s.run q r }

  abbrev pub last : Store D → ℕ → ℕ
  last s p = last_of (s.trail p)
