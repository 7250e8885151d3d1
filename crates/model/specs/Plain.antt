-- The plain store, in which each call or walk happens whole. It is what the shared store is held to.
use Rattle.std.specs.Prelude.{◌≡◌, ℕ, ◌≤◌, false, cond, ◌≢◌, ◌⊎◌, List, [], ◌∷◌, Some, None, ◌==◌}
use Rattle.refusals.specs.declared.Refusal.{Refusal}
use Rattle.refusals.specs.declared.Refusal.TheVariants.{NoKid, InboxFull, InboxEmpty}
use Rattle.kinds.specs.Situations.{Describes}
use Rattle.model.specs.Fun.{upd, sum_to}
use Rattle.model.specs.Types.{Lengths, Ok, Err, Kids, Plan, Enter, Up, Leave, Read, Down, Keep, Drop, Hand, Fetch, Make, Sweep, Walk, Asked, AsksCall, AsksWalk, Done, AtNode, Contents, Swept, WorthIs, Outcome, Ended, Situation}
use Rattle.model.specs.State.{kid_at, empty_kids, Trail, no_trail, along, last_of, longer, shorter}
use Rattle.model.specs.Checks.{begin_fault}
use Rattle.model.specs.Begins.{kid_of}
use Rattle.model.specs.Reach.{Unreached, InTerm}
use Rattle.model.specs.Setting.{Setting}

pub record Plain (D : Type 0) : Type 0 where
  pub slot : ℕ → ℕ → ℕ
  pub inbox : ℕ → ℕ
  pub trail : ℕ → Trail
  pub kids : ℕ → Kids
  pub info : ℕ → D

-- it begins like a new store; the data of nodes that nothing reaches may be anything
pub record NewPlain {D : Type 0} (s : Plain D) : Type 0 where
  pub slots : (q i : ℕ) → s.slot q i ≡ 0
  pub inboxes : (q : ℕ) → s.inbox q ≡ 0
  pub trails : (q : ℕ) → s.trail q ≡ no_trail
  pub no_kids : (n : ℕ) → s.kids n ≡ empty_kids

-- a call or walk as it was begun
pub record Ask (D : Type 0) : Type 0 where
  pub party : ℕ
  pub asked : Asked D
  pub lengths : Lengths

-- a node is worth w, worked out kids first; a missing kid is worth the blank
module _ {D W : Type 0} (worth : D → Situation → W → W → W → W) (blank : W) (kids : ℕ → Kids) (info : ℕ → D) (t : Situation) where
  pub data WorksOut : ℕ → W → Type 0 where
    missing : {n : ℕ} {w : W} → n ≡ 0 → w ≡ blank → WorksOut n w
    worked : {n : ℕ} {w x y z : W} → n ≢ 0 → WorksOut (kids n).first x → WorksOut (kids n).second y → WorksOut (kids n).third z
        → w ≡ worth (info n) t x y z → WorksOut n w

-- the term of n has m different nodes among 1 to M: each node of the term counts 1, every other 0
pub record TermHas (M : ℕ) (kids : ℕ → Kids) (n m : ℕ) : Type 0 where
  pub counts : ℕ → ℕ
  pub each : (x : ℕ) → 1 ≤ x → x ≤ M → ((counts x ≡ 1) × InTerm kids n x) ⊎ ((counts x ≡ 0) × (InTerm kids n x → ⊥))
  pub total : m ≡ sum_to M counts

module _ {D : Type 0} where
  abbrev pub put_slot : Plain D → ℕ → ℕ → ℕ → Plain D
  put_slot s p i v = record { slot = upd s.slot p (upd (s.slot p) i v); inbox = s.inbox; trail = s.trail; kids = s.kids; info = s.info }

  abbrev pub put_inbox : Plain D → ℕ → ℕ → Plain D
  put_inbox s p v = record { slot = s.slot; inbox = upd s.inbox p v; trail = s.trail; kids = s.kids; info = s.info }

  abbrev pub put_trail : Plain D → ℕ → Trail → Plain D
  put_trail s p v = record { slot = s.slot; inbox = s.inbox; trail = upd s.trail p v; kids = s.kids; info = s.info }

  abbrev pub put_node : Plain D → ℕ → Kids → D → Plain D
  put_node s n ks d = record { slot = s.slot; inbox = s.inbox; trail = s.trail; kids = upd s.kids n ks; info = upd s.info n d }

  abbrev pub last_at : Plain D → ℕ → ℕ
  last_at s p = last_of (s.trail p)

  -- the nodes that a Make's kid slots hold; slot 0 stands for none
  abbrev pub kid_from : Plain D → ℕ → ℕ → ℕ
  kid_from s p i = cond (i == 0) 0 (s.slot p i)

  abbrev pub kids_from : Plain D → ℕ → Kids → Kids
  kids_from s p ks = record { first = kid_from s p ks.first; second = kid_from s p ks.second; third = kid_from s p ks.third }

module _ {D W A B : Type 0} (X : Setting D W A B) where
  -- one of the nodes that no slot or inbox reaches
  abbrev pub OutOfReach : Plain D → ℕ → Type 0
  OutOfReach s n = Unreached X.parties X.nodes s.slot s.inbox s.kids n

  -- an accepted call or walk of the party p: what it tells, and the store after it
  pub data Happens (s : Plain D) (p : ℕ) : Asked D → Outcome D W → Plain D → Type 0 where
    enters : {i : ℕ} → Happens s p (AsksCall (Enter i)) (Ok (Ended Done)) (put_trail s p (along i (s.slot p i) []))
    goes_up : Happens s p (AsksCall Up) (Ok (Ended Done)) (put_trail s p (shorter (s.trail p)))
    leaves : Happens s p (AsksCall Leave) (Ok (Ended Done)) (put_trail s p no_trail)
    reads : Happens s p (AsksCall Read) (Ok (Ended (Contents (last_at s p) (s.info (last_at s p)) (s.kids (last_at s p))))) s
    goes_down : {i n : ℕ} → n ≡ kid_at (s.kids (last_at s p)) (kid_of i) → n ≢ 0 → Happens s p (AsksCall (Down i)) (Ok (Ended (AtNode n))) (put_trail s p (longer (s.trail p) n))
    no_kid_there : {i : ℕ} → kid_at (s.kids (last_at s p)) (kid_of i) ≡ 0 → Happens s p (AsksCall (Down i)) (Err NoKid) s
    keeps : {i : ℕ} → Happens s p (AsksCall (Keep i)) (Ok (Ended (AtNode (last_at s p)))) (put_slot s p i (last_at s p))
    drops : {i : ℕ} → Happens s p (AsksCall (Drop i)) (Ok (Ended (AtNode (s.slot p i)))) (put_slot s p i 0)
    hands : {i q : ℕ} → s.inbox q ≡ 0 → Happens s p (AsksCall (Hand i q)) (Ok (Ended (AtNode (s.slot p i)))) (put_slot (put_inbox s q (s.slot p i)) p i 0)
    inbox_full : {i q : ℕ} → s.inbox q ≢ 0 → Happens s p (AsksCall (Hand i q)) (Err InboxFull) s
    fetches : {i : ℕ} → s.inbox p ≢ 0 → Happens s p (AsksCall (Fetch i)) (Ok (Ended (AtNode (s.inbox p)))) (put_slot (put_inbox s p 0) p i (s.inbox p))
    inbox_empty : {i : ℕ} → s.inbox p ≡ 0 → Happens s p (AsksCall (Fetch i)) (Err InboxEmpty) s
    makes : {plan : Plan D} (v : ℕ) → OutOfReach s v
        → Happens s p (AsksCall (Make plan)) (Ok (Ended (AtNode v))) (put_slot (put_node s v (kids_from s p plan.kids) plan.given) p plan.slot v)
    sweeps_nothing : Happens s p (AsksCall Sweep) (Ok (Ended (Swept 0 0))) s
    sweeps : (v q : ℕ) → OutOfReach s v → q ≤ X.parties → Happens s p (AsksCall Sweep) (Ok (Ended (Swept v q))) s
    walks : {w : Walk} {t : Situation} {v : W} {m : ℕ} → Describes t w.range w.gear w.temperature
        → WorksOut X.worth X.blank s.kids s.info t (s.slot p w.slot) v → TermHas X.nodes s.kids (s.slot p w.slot) m
        → Happens s p (AsksWalk w) (Ok (Ended (WorthIs v m))) s

  -- a call or walk as the plain store takes it: refused by a Begin's checks, of which it is never busy, or it happens
  pub data Takes (s : Plain D) (k : Ask D) : Outcome D W → Plain D → Type 0 where
    turned_down : {e : Refusal} → begin_fault X.suits X.parties X.nodes false k.party k.asked k.lengths (s.slot k.party) (s.trail k.party) ≡ Some e
        → Takes s k (Err e) s
    accepted : {o : Outcome D W} {t : Plain D} → begin_fault X.suits X.parties X.nodes false k.party k.asked k.lengths (s.slot k.party) (s.trail k.party) ≡ None
        → Happens s k.party k.asked o t → Takes s k o t

  -- one after another
  pub data PlainRun : Plain D → List (Ask D × Outcome D W) → Plain D → Type 0 where
    ends : {s : Plain D} → PlainRun s [] s
    next : {s t u : Plain D} {k : Ask D} {o : Outcome D W} {rest : List (Ask D × Outcome D W)} → Takes s k o t → PlainRun t rest u → PlainRun s ((k, o) ∷ rest) u
