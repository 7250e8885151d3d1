-- The law of the shared store.
use Rattle.std.specs.Prelude.{◌≡◌, ℕ, ◌+◌, ◌*◌, ◌<◌, ◌≤◌, Bool, true, false, ◌↔◌}
use Rattle.model.specs.Types.{Lengths, Event, Begins, Ok, Makes, Sweeps, Running, Idle, Reads, GoesDown, Keeps, Drops, Hands, Fetches, TakesOut, Works, WalkReads, WalkGoesDown, Walk, AsksWalk, Outcome, Begun}
use Rattle.model.specs.Reach.{Lost, Free, AtRest}
use Rattle.model.specs.Setting.{Setting}
use Rattle.model.specs.Plain.{Plain, NewPlain, Ask, PlainRun, TermHas}
use Rattle.model.specs.Runs.{System, Moves, Log, Run, AtEachMoment, history, is_turn_of, is_end, turns_of, ends_of}
use Rattle.model.specs.Opened.{Agrees, Opened, New}

-- a call that is neither Make nor walk is under way
abbrev pub is_brief : {D : Type 0} → Running D → Bool
is_brief r = elim r [ Idle ↦ false | Reads g ↦ true | GoesDown k ↦ true | Keeps i ↦ true | Drops i ↦ true | Hands i q ↦ true | Fetches i ↦ true | TakesOut i v ↦ true | Works j c ↦ elim j [ Makes plan ↦ false | Sweeps ↦ true ] | WalkReads t g ↦ false | WalkGoesDown t k ↦ false ]

-- a Make is under way
abbrev pub is_making : {D : Type 0} → Running D → Bool
is_making r = elim r [ Works j c ↦ elim j [ Makes plan ↦ true | Sweeps ↦ false ] | Idle ↦ false | Reads g ↦ false | GoesDown k ↦ false | Keeps i ↦ false | Drops i ↦ false | Hands i q ↦ false | Fetches i ↦ false | TakesOut i v ↦ false | WalkReads t g ↦ false | WalkGoesDown t k ↦ false ]

module _ {D W A B : Type 0} (X : Setting D W A B) where
  abbrev pub SomeFree : System D W A B → Type 0
  SomeFree F = (n : ℕ) × Free X.nodes F.store n

  abbrev pub SomeLost : System D W A B → Type 0
  SomeLost F = (n : ℕ) × Lost X.parties X.nodes F.store n

  -- the calls and walks in the order in which they stand are a run of the plain store, with these answers and refusals, that
  -- agrees with the store at the end
  abbrev pub RunsAsPlain : Plain D → (ℕ → Ask D) → Log X → System D W A B → Type 0
  RunsAsPlain s asked es G = (t : Plain D) × PlainRun X s (history asked es) t × Agrees X G t

  -- with nothing running, some node is free exactly when some node is out of reach
  abbrev pub FreeWhenLost : System D W A B → Type 0
  FreeWhenLost G = AtRest X.parties G.store → SomeFree G ↔ SomeLost G

  -- so many accepted turns of its own end a Make, from any moment of it on, unless at some moment no node is free
  abbrev pub make_bound : System D W A B → ℕ
  make_bound G = 18 * X.node_order.horizon G.node_order * (X.parties * X.party_order.horizon G.party_order + 1) + 28

  abbrev pub MakesEnd : System D W A B → Type 0
  MakesEnd G = (p : ℕ) → 1 ≤ p → p ≤ X.parties → is_making (G.store.run p) ≡ true
      → (later : Log X) (H : System D W A B) (r : Run X G later H) → AtEachMoment X SomeFree r → ends_of p later ≡ 0 → turns_of p later < make_bound G

  -- every other call ends within 16 turns of its own
  abbrev pub OtherCallsEnd : System D W A B → Type 0
  OtherCallsEnd G = (p : ℕ) → 1 ≤ p → p ≤ X.parties → is_brief (G.store.run p) ≡ true
      → (later : Log X) (H : System D W A B) → Run X G later H → ends_of p later ≡ 0 → turns_of p later < 16

  -- a walk over m nodes ends at its turn 9 * m - 5, and not before
  pub record WalkEnds (G : System D W A B) (p : ℕ) (w : Walk) (l : Lengths) (m : ℕ) : Type 0 where
    pub not_later : (H K : System D W A B) (later : Log X) → Moves X G (Begins p (AsksWalk w) l) (Ok Begun) H → Run X H later K → ends_of p later ≡ 0 → turns_of p later + 5 < 9 * m
    pub just_then : (H K L : System D W A B) (later : Log X) (e : Event D) (o : Outcome D W) → Moves X G (Begins p (AsksWalk w) l) (Ok Begun) H → Run X H later K → ends_of p later ≡ 0
        → Moves X K e o L → is_turn_of p e ≡ true → is_end o ≡ true → turns_of p later + 1 + 5 ≡ 9 * m

  -- the term that a walk is to go over has some number of different nodes, and the walk ends by that
  abbrev pub WalksEnd : System D W A B → Type 0
  WalksEnd G = (p : ℕ) (w : Walk) (l : Lengths) → (m : ℕ) × TermHas X.nodes G.store.kids (G.store.slot p w.slot) m × WalkEnds G p w l m

  -- what holds after every list of Begins and Turns
  pub record HoldsAfter (s : Plain D) (asked : ℕ → Ask D) (es : Log X) (G : System D W A B) : Type 0 where
    pub runs_as_plain : RunsAsPlain s asked es G
    pub free_when_lost : FreeWhenLost G
    pub makes_end : MakesEnd G
    pub other_calls_end : OtherCallsEnd G
    pub walks_end : WalksEnd G

  -- the law, from any opened pair
  abbrev pub FromOpened : Type 0
  FromOpened = (F : System D W A B) (s : Plain D) (asked : ℕ → Ask D) → Opened X F s asked
      → (es : Log X) (G : System D W A B) → Run X F es G → HoldsAfter s asked es G

  -- a new store is opened, with a new plain store
  abbrev pub NewIsOpened : Type 0
  NewIsOpened = (F : System D W A B) (s : Plain D) (asked : ℕ → Ask D) → New X F → NewPlain s → Opened X F s asked

  abbrev pub StoreLaw : Type 0
  StoreLaw = FromOpened × NewIsOpened
