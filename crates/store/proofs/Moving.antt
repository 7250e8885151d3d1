-- From what the program's parts promise to a move of the model.
use Rattle.std.proofs.Common.{Err, Ok, ◌≡◌, ℕ, Bool, false, cond, not, ◌||◌, ltb, [], ◌∷◌, Some, None, Option, sym, refl, ap, ◌∙◌}
use mathlib.Core.Path.{fun_ext}
use Rattle.refusals.specs.declared.Refusal.{Refusal}
use Rattle.refusals.specs.declared.Refusal.TheVariants.{NoSuchParty, ShortList, Busy, NothingToTurn}
use Rattle.std.proofs.lemmas.Bool.{cond-true}
use Rattle.kinds.specs.declared.kind.Kind.{Ghosts as KindMeaning}
use Rattle.orders.specs.declared.order.Order.{Ghosts as OrderMeaning}
use Rattle.kinds.specs.declared.gearbox.Situation.{Situation}
use Rattle.kinds.specs.declared.kids.PerKid.{PerKid}
use Rattle.model.specs.declared.calls.Event.TheVariants.{Begins}
use Rattle.model.specs.declared.calls.Lengths.{Lengths}
use Rattle.model.specs.declared.calls.Asked.{Asked}
use Rattle.model.specs.declared.calls.Asked.TheVariants.{AsksCall, AsksWalk}
use Rattle.model.specs.declared.calls.Call.{Call}
use Rattle.model.specs.declared.calls.Walk.{Walk}
use Rattle.model.specs.Types.{Outcome}
use Rattle.model.specs.declared.outcomes.Progress.TheVariants.{Begun}
use Rattle.model.specs.declared.running.Running.{Running}
use Rattle.model.specs.Fun.{upd}
use Rattle.model.specs.Begins.{started_walk}
use Rattle.model.specs.Checks.{first_fault, no_receiver, too_short, faults, begin_fault, turn_fault, is_idle, is_walking}
use Rattle.model.specs.State.{Store}
use Rattle.model.specs.Walks.{Notes}
use Rattle.kinds.specs.Situations.{Describes}
use Rattle.model.specs.Runs.{System, begin_fault_of, begin_refused, walk_begun, Moves}
use Rattle.model.specs.Setting.{Setting}
use Rattle.model.specs.Steps.{between}
use Rattle.model.proofs.Begins.{accepted}
use Rattle.model.proofs.Between.{is_within}
use Rattle.cells.proofs.Views.{upd_twice}
use Rattle.cells.specs.declared.records.Cells.{Cells}
use Rattle.cells.specs.View.{view_of, record_of, parties_of, nodes_of}
use Rattle.checks.specs.Faults.{begin_fault_of as begin_fault_by}
use Rattle.model.specs.declared.party.PartyRecord.{PartyRecord}
use Rattle.model.specs.declared.sizes.Sizes.{Sizes}
use Rattle.walks.specs.declared.notes.Notes.{Notes as Lists}
use Rattle.store.specs.Moved.{Shown, BeginsWalk, walk_lengths}

-- notes, where any will do
abbrev pub no_notes : {W : Type 0} → W → ℕ → Notes W
no_notes blank p = record { marks = λ n. false; worths = λ n. blank }

-- a Turn's checks look at the data list alone
pub fault_of_entries : {D : Type 0} {N M : ℕ} (p : ℕ) {z : Sizes} (l l' : Lengths) {r r' : Running D} → z ≡ record { parties = N; nodes = M } → l.entries ≡ l'.entries → r ≡ r' → turn_fault N M p l' r' ≡ turn_fault z.parties z.nodes p l r
fault_of_entries {D} {N} {M} p {z} l l' {r} {r'} ez el er =
    let f : ℕ → Running D → Option Refusal = λ k q. first_fault ((not (between 1 N p), NoSuchParty) ∷ (ltb k M, ShortList) ∷ (is_walking q, Busy) ∷ (is_idle q, NothingToTurn) ∷ []) in
    sym (ap (λ u. turn_fault u.parties u.nodes p l r) ez ∙ ap (λ k. f k r) el ∙ ap (f l'.entries) er)

-- party p of the cells c
module _ {D : Type 0} (suits : D → PerKid Bool → Bool) (c : Cells D) (p : ℕ) where
  abbrev N : ℕ
  N = parties_of c

  abbrev M : ℕ
  M = nodes_of c

  abbrev s : Store D
  s = view_of c

  abbrev busy : Bool
  busy = not (is_idle (s.run p))

  abbrev pub fault_of : Asked D → Lengths → Option Refusal
  fault_of a l = begin_fault suits N M busy p a l (s.slot p) (s.trail p)

  -- a Begin of what is no party is refused so, whatever else is wrong
  pub no_party_fault : (a : Asked D) (l : Lengths) → between 1 N p ≡ false → fault_of a l ≡ Some NoSuchParty
  no_party_fault a l e = ap (λ b. first_fault ((not b || no_receiver N a, NoSuchParty) ∷ (too_short M a l, ShortList) ∷ (busy, Busy) ∷ faults suits a (s.slot p) (s.trail p))) e

  -- the checks tell it of the party's record
  pub fault_is : (a : Asked D) {l l' : Lengths} {z : Sizes} {r : PartyRecord D} → l ≡ l' → z ≡ record { parties = N; nodes = M } → r ≡ record_of c p → fault_of a l' ≡ begin_fault_by suits z p a l r
  fault_is a {l} {l'} {z} {r} el ez er =
      sym (ap (λ k. begin_fault_by suits z p a k r) el ∙ ap (λ u. begin_fault_by suits u p a l' r) ez ∙ ap (begin_fault_by suits (record { parties = N; nodes = M }) p a l') er)

  -- a call's Begin looks at the data list alone
  pub call_fault_of_entries : (k : Call D) (l l' : Lengths) → l.entries ≡ l'.entries → fault_of (AsksCall k) l ≡ fault_of (AsksCall k) l'
  call_fault_of_entries k l l' e =
      ap (λ n. first_fault ((not (between 1 N p) || no_receiver N (AsksCall k), NoSuchParty) ∷ (ltb n M, ShortList) ∷ (busy, Busy) ∷ faults suits (AsksCall k) (s.slot p) (s.trail p))) e

  -- a Begin that is accepted is of a party, and so it is made
  pub starts : (a : Asked D) (l : Lengths) → fault_of a l ≡ None → {t u : Store D} → t ≡ cond (between 1 N p) u s → t ≡ u
  starts a l h {t} {u} e = let A = accepted suits N M busy p a l (s.slot p) (s.trail p) h in e ∙ cond-true (between 1 N p) u s (is_within 1 N p A.party_low A.party_high)

-- a walk's Begin that is refused leaves everything
pub refused_walk : {K D W A B : Type 0} (kind : KindMeaning K D W) (node_order : OrderMeaning A) (party_order : OrderMeaning B) (p : ℕ) (w : Walk) (before : Shown D A B) (lists : Lists W) (e : Refusal) {o : Outcome D W}
    → fault_of kind.suits before.cells p (AsksWalk w) (walk_lengths kind node_order party_order before lists) ≡ Some e → o ≡ Err e → BeginsWalk kind node_order party_order p w o before before lists lists
refused_walk kind node_order party_order p w before lists e f told = record {
  worths = refl;
  moves = λ notes. begin_refused e f told refl;
  further = λ n h. (refl, refl);
  sizes = record { parties = refl; nodes = refl };
}

-- systems with equal parts
pub same_system : {D W A B : Type 0} {s s' : Store D} {i i' : ℕ → D} {n n' : ℕ → Notes W} {u u' : A} {v v' : B} → s ≡ s' → i ≡ i' → n ≡ n' → u ≡ u' → v ≡ v'
    → ◌≡◌ {A = System D W A B} (record { store = s; info = i; notes = n; node_order = u; party_order = v }) (record { store = s'; info = i'; notes = n'; node_order = u'; party_order = v' })
same_system es ei en eu ev = cc

-- a walk that begins has its marks cleared, and its worths hold what they held
pub walk_begins : {D W A B : Type 0} {X : Setting D W A B} {F G : System D W A B} (notes : ℕ → Notes W) {p : ℕ} {w : Walk} {l : Lengths} (i : Situation) (old later : Notes W)
    → begin_fault_of X F p (AsksWalk w) l ≡ None → Describes i w.range w.gear w.temperature → F.notes ≡ upd notes p old → G.notes ≡ upd notes p later → ((n : ℕ) → later.marks n ≡ false)
    → G.store ≡ started_walk w.slot i F.store p → G.info ≡ F.info → G.node_order ≡ F.node_order → G.party_order ≡ F.party_order
    → Moves X F (Begins p (AsksWalk w) l) (Ok Begun) G
walk_begins {D} {W} {A} {B} {X} {F} {G} notes {p} {w} {l} i old later h d en en' off es ei eu ev =
    let cleared : Notes W = record { marks = λ n. false; worths = later.worths } in
    let all : G.notes ≡ upd F.notes p cleared =
    en' ∙ ap (λ f. upd notes p (record { marks = f; worths = later.worths })) (fun_ext off) ∙ sym (upd_twice notes p old cleared) ∙ ap (λ f. upd f p cleared) (sym en) in
    walk_begun i later.worths h d refl (same_system es ei all eu ev)
