-- Runs of the shared store: Begins and Turns, each with what it told.
use Rattle.std.specs.Prelude.{◌≡◌, ℕ, ◌+◌, Bool, true, false, cond, not, ◌&&◌, List, [], ◌∷◌, ◌++◌, Some, None, Option, ◌==◌, nat_eq, nat_le}
use Rattle.refusals.specs.Numbers.{number_of}
use Rattle.refusals.specs.declared.Refusal.{Refusal}
use Rattle.kinds.specs.Situations.{Describes}
use Rattle.orders.specs.Meaning.{Picked}
use Rattle.model.specs.Fun.{upd}
use Rattle.model.specs.Types.{Lengths, Event, Begins, Turns, WalkTurns, Ok, Err, OpenTray, ReadTray, LookForNode, LockNode, Recheck, UnlockAndGoBack, ReadKid, ClearKid, UncountKid, Claim, Unlock, Offer, KeepForOneself, GiveBack, CloseTray, WriteData, CountKid, LinkKid, Running, Idle, Reads, GoesDown, Keeps, Drops, Hands, Fetches, TakesOut, Works, WalkReads, WalkGoesDown, Call, Enter, Up, Leave, Read, Down, Keep, Drop, Hand, Fetch, Make, Sweep, Walk, Asked, AsksCall, AsksWalk, Done, WorthIs, Outcome, Begun, StillRunning, Ended, Told, Tells, Settles, Decision, Situation}
use Rattle.model.specs.State.{Store, last}
use Rattle.model.specs.Steps.{decision, stepped, data_after}
use Rattle.model.specs.Checks.{begin_fault, turn_fault, walk_turn_fault, is_idle}
use Rattle.model.specs.Begins.{started, started_walk}
use Rattle.model.specs.Walks.{Notes, marked, settled_store, settled_notes}
use Rattle.model.specs.Setting.{Meaning, Setting}
use Rattle.model.specs.Plain.{Ask}

-- the whole: the store, the caller's data list, each party's walk's notes, the two orders
pub record System (D W A B : Type 0) : Type 0 where
  pub store : Store D
  pub info : ℕ → D
  pub notes : ℕ → Notes W
  pub node_order : A
  pub party_order : B

-- a place that asks the node order, or the party order
abbrev pub asks_nodes : {D : Type 0} → Running D → Bool
asks_nodes r = elim r [ Works j c ↦ elim c [ LookForNode ↦ true | OpenTray ↦ false | ReadTray ↦ false | LockNode n ↦ false | Recheck n ↦ false | UnlockAndGoBack n ↦ false | ReadKid n k ↦ false | ClearKid n k w ↦ false | UncountKid n k w ↦ false | Claim n ↦ false | Unlock n ↦ false | Offer n ↦ false | KeepForOneself n ↦ false | GiveBack n ↦ false | CloseTray n ↦ false | WriteData n ↦ false | CountKid n k ↦ false | LinkKid n k w ↦ false ] | Idle ↦ false | Reads g ↦ false | GoesDown k ↦ false | Keeps i ↦ false | Drops i ↦ false | Hands i q ↦ false | Fetches i ↦ false | TakesOut i v ↦ false | WalkReads t g ↦ false | WalkGoesDown t k ↦ false ]

abbrev pub asks_parties : {D : Type 0} → Running D → Bool
asks_parties r = elim r [ Works j c ↦ elim c [ Offer n ↦ true | OpenTray ↦ false | ReadTray ↦ false | LookForNode ↦ false | LockNode n ↦ false | Recheck n ↦ false | UnlockAndGoBack n ↦ false | ReadKid n k ↦ false | ClearKid n k w ↦ false | UncountKid n k w ↦ false | Claim n ↦ false | Unlock n ↦ false | KeepForOneself n ↦ false | GiveBack n ↦ false | CloseTray n ↦ false | WriteData n ↦ false | CountKid n k ↦ false | LinkKid n k w ↦ false ] | Idle ↦ false | Reads g ↦ false | GoesDown k ↦ false | Keeps i ↦ false | Drops i ↦ false | Hands i q ↦ false | Fetches i ↦ false | TakesOut i v ↦ false | WalkReads t g ↦ false | WalkGoesDown t k ↦ false ]

-- an order is asked for the party p and answers x, or is left alone
pub record Asks {O : Type 0} (m : Meaning O) (asked : Bool) (old new : O) (p x : ℕ) : Type 0 where
  pub picks : asked ≡ true → Picked m.numbers m.horizon m.due old new p x
  pub rests : asked ≡ false → new ≡ old

-- Enter, Up and Leave end in their Begin
abbrev pub tells_begun : {D W : Type 0} → Call D → Outcome D W
tells_begun c = elim c [ Enter i ↦ Ok (Ended Done) | Up ↦ Ok (Ended Done) | Leave ↦ Ok (Ended Done) | Read ↦ Ok Begun | Down k ↦ Ok Begun | Keep i ↦ Ok Begun | Drop i ↦ Ok Begun | Hand i q ↦ Ok Begun | Fetch i ↦ Ok Begun | Make plan ↦ Ok Begun | Sweep ↦ Ok Begun ]

module _ {D W A B : Type 0} (X : Setting D W A B) where
  -- what an accepted Turn of p does, with the pick x
  pub record Moved : Type 0 where
    pub store : Store D
    pub info : ℕ → D
    pub notes : Notes W
    pub outcome : Outcome D W

  -- a walk that has gone up to the end tells the worth of its first node, and how many are marked
  abbrev pub tells_settled : Store D → Store D → Notes W → ℕ → Outcome D W
  tells_settled old new notes p = cond (is_idle (new.run p)) (Ok (Ended (WorthIs (notes.worths (last old p)) (marked X.nodes notes.marks)))) (Ok StillRunning)

  abbrev pub moved_as : System D W A B → ℕ → ℕ → Decision D W → Told D W → Moved
  moved_as F p x d (Tells o) =
      record { store = stepped X.parties X.nodes F.store F.info p x d; info = data_after X.parties X.nodes F.store F.info p x d; notes = F.notes p; outcome = o }
  moved_as F p x d (Settles r) =
      let after = settled_store X.worth X.blank F.store (F.notes p) p r.situation r.kids in
      let notes = settled_notes X.worth X.blank F.store (F.notes p) p r.situation r.given r.kids in
      record { store = after; info = F.info; notes = notes; outcome = tells_settled F.store after notes p }

  abbrev pub moved : System D W A B → ℕ → ℕ → Moved
  moved F p x =
      let d = decision X.parties X.nodes F.store F.info p x in
      moved_as F p x d d.told

  -- an accepted Turn
  pub record Steps (F : System D W A B) (p : ℕ) (o : Outcome D W) (G : System D W A B) : Type 0 where
    pub pick : ℕ
    pub store_is : G.store ≡ (moved F p pick).store
    pub info_is : G.info ≡ (moved F p pick).info
    pub notes_are : G.notes ≡ upd F.notes p (moved F p pick).notes
    pub node_picks : Asks X.node_order (asks_nodes (F.store.run p)) F.node_order G.node_order p pick
    pub party_picks : Asks X.party_order (asks_parties (F.store.run p)) F.party_order G.party_order p pick
    pub tells : o ≡ (moved F p pick).outcome

  abbrev pub with_store : System D W A B → Store D → System D W A B
  with_store F s = record { store = s; info = F.info; notes = F.notes; node_order = F.node_order; party_order = F.party_order }

  -- a walk begins with its marks cleared and with worths that hold anything
  abbrev pub with_walk : System D W A B → Store D → ℕ → (ℕ → W) → System D W A B
  with_walk F s p worths = record { store = s; info = F.info; notes = upd F.notes p (record { marks = λ n. false; worths = worths }); node_order = F.node_order; party_order = F.party_order }

  abbrev pub begin_fault_of : System D W A B → ℕ → Asked D → Lengths → Option Refusal
  begin_fault_of F p a l = begin_fault X.suits X.parties X.nodes (not (is_idle (F.store.run p))) p a l (F.store.slot p) (F.store.trail p)

  -- one Begin or Turn with what it tells; refused, it changes nothing and may be given any lists
  pub data Moves (F : System D W A B) : Event D → Outcome D W → System D W A B → Type 0 where
    begin_refused : {p : ℕ} {a : Asked D} {l : Lengths} {o : Outcome D W} {G : System D W A B} (e : Refusal) → begin_fault_of F p a l ≡ Some e → o ≡ Err e → G ≡ F → Moves F (Begins p a l) o G
    call_begun : {p : ℕ} {c : Call D} {l : Lengths} {o : Outcome D W} {G : System D W A B} → begin_fault_of F p (AsksCall c) l ≡ None
        → o ≡ tells_begun c → G ≡ with_store F (started c F.store p) → Moves F (Begins p (AsksCall c) l) o G
    walk_begun : {p : ℕ} {w : Walk} {l : Lengths} {o : Outcome D W} {G : System D W A B} (t : Situation) (worths : ℕ → W) → begin_fault_of F p (AsksWalk w) l ≡ None
        → Describes t w.range w.gear w.temperature → o ≡ Ok Begun → G ≡ with_walk F (started_walk w.slot t F.store p) p worths → Moves F (Begins p (AsksWalk w) l) o G
    turn_refused : {p : ℕ} {l : Lengths} {o : Outcome D W} {G : System D W A B} (e : Refusal) → turn_fault X.parties X.nodes p l (F.store.run p) ≡ Some e → o ≡ Err e → G ≡ F → Moves F (Turns p l) o G
    turn : {p : ℕ} {l : Lengths} {o : Outcome D W} {G : System D W A B} → turn_fault X.parties X.nodes p l (F.store.run p) ≡ None → Steps F p o G → Moves F (Turns p l) o G
    walk_turn_refused : {p : ℕ} {l : Lengths} {o : Outcome D W} {G : System D W A B} (e : Refusal) → walk_turn_fault X.parties X.nodes p l (F.store.run p) ≡ Some e → o ≡ Err e → G ≡ F → Moves F (WalkTurns p l) o G
    walk_turn : {p : ℕ} {l : Lengths} {o : Outcome D W} {G : System D W A B} → walk_turn_fault X.parties X.nodes p l (F.store.run p) ≡ None → Steps F p o G → Moves F (WalkTurns p l) o G

  abbrev pub Log : Type 0
  Log = List (Event D × Outcome D W)

  -- Begins and Turns one after another; a moment lies before the first and after each
  pub data Run : System D W A B → Log → System D W A B → Type 0 where
    still : {F : System D W A B} → Run F [] F
    more : {F G H : System D W A B} {e : Event D} {o : Outcome D W} {es : Log} → Moves F e o G → Run G es H → Run F ((e, o) ∷ es) H

  -- what holds at every moment of a run
  abbrev pub AtEachMoment : {F G : System D W A B} {es : Log} → (System D W A B → Type 0) → Run F es G → Type 0
  AtEachMoment P (still {F}) = P F
  AtEachMoment P (more {F} m r) = P F × AtEachMoment P r

-- Where calls and walks stand.

-- a call that is refused with 17, 18 or 19 has ended by it
abbrev pub ends_call : Refusal → Bool
ends_call e = nat_le 17 (number_of e)

abbrev pub is_turn_of : {D : Type 0} → ℕ → Event D → Bool
is_turn_of p e = elim e [ Begins q a l ↦ false | Turns q l ↦ nat_eq p q | WalkTurns q l ↦ nat_eq p q ]

module _ {D W : Type 0} where
  -- the outcome of a Turn that was accepted; one that is told 17, 18 or 19 was
  abbrev pub is_accepted : Outcome D W → Bool
  is_accepted o = elim o [ Err e ↦ ends_call e | Ok progress ↦ true ]

  abbrev pub is_end : Outcome D W → Bool
  is_end o = elim o [ Err e ↦ ends_call e | Ok progress ↦ elim progress [ Begun ↦ false | StillRunning ↦ false | Ended x ↦ true ] ]

  -- what a Begin or a Turn puts into the order of calls and walks: one that ends or is refused at its Begin, but not
  -- for being busy, stands there; one that ends at a Turn stands at that Turn
  abbrev pub placed : (ℕ → Ask D) → Event D → Outcome D W → List (Ask D × Outcome D W)
  placed asked (Begins p a l) o = elim o [ Err e ↦ cond (number_of e == 11) [] ((record { party = p; asked = a; lengths = l }, Err e) ∷ []) | Ok progress ↦ elim progress [ Begun ↦ [] | StillRunning ↦ [] | Ended x ↦ (record { party = p; asked = a; lengths = l }, Ok (Ended x)) ∷ [] ] ]
  placed asked (Turns p l) o = cond (is_end o) ((asked p, o) ∷ []) []
  placed asked (WalkTurns p l) o = cond (is_end o) ((asked p, o) ∷ []) []

  -- what each party has begun
  abbrev pub asked_after : (ℕ → Ask D) → Event D → Outcome D W → ℕ → Ask D
  asked_after asked (Begins p a l) o = elim o [ Err e ↦ asked | Ok progress ↦ elim progress [ Begun ↦ upd asked p (record { party = p; asked = a; lengths = l }) | StillRunning ↦ asked | Ended x ↦ asked ] ]
  asked_after asked (Turns p l) o = asked
  asked_after asked (WalkTurns p l) o = asked

  -- the ended calls and walks of a log, in the order in which they stand
  abbrev pub history : (ℕ → Ask D) → List (Event D × Outcome D W) → List (Ask D × Outcome D W)
  history asked [] = []
  history asked ((e, o) ∷ es) = placed asked e o ++ history (asked_after asked e o) es

  -- how many accepted turns the party has in a log
  abbrev pub turns_of : ℕ → List (Event D × Outcome D W) → ℕ
  turns_of p [] = 0
  turns_of p ((e, o) ∷ es) = cond (is_turn_of p e && is_accepted o) 1 0 + turns_of p es

  -- how many of them end a call or walk
  abbrev pub ends_of : ℕ → List (Event D × Outcome D W) → ℕ
  ends_of p [] = 0
  ends_of p ((e, o) ∷ es) = cond (is_turn_of p e && is_end o) 1 0 + ends_of p es
