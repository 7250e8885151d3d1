-- The model's step in the program's two parts: one that is taken, and the settling of the node that a walk has read.
use Rattle.std.proofs.Common.{◌≡◌, ℕ, Bool, false, Some, None, Option, sym, refl, ap, ◌∙◌, subst, true≢false, arith}
use Rattle.kinds.specs.declared.gearbox.Situation.{Situation}
use Rattle.kinds.specs.declared.kids.Kid.{Kid}
use Rattle.model.specs.Types.{Outcome}
use Rattle.model.specs.declared.running.Reading.TheVariants.{ReadSecond}
use Rattle.model.specs.declared.running.Running.{Running}
use Rattle.model.specs.declared.running.Running.TheVariants.{Idle, WalkReads, WalkGoesDown}
use Rattle.model.specs.declared.words.Decision.{Decision}
use Rattle.model.specs.declared.words.NodeRead.{NodeRead}
use Rattle.model.specs.declared.words.Told.{Told}
use Rattle.model.specs.declared.words.Told.TheVariants.{Tells, Settles}
use Rattle.model.specs.Fun.{upd}
use Rattle.model.specs.Checks.{is_walking}
use Rattle.model.specs.Runs.{System, Asks, asks_nodes, asks_parties, Steps, moved, moved_as, tells_settled}
use Rattle.model.specs.Setting.{Meaning, Setting}
use Rattle.model.specs.State.{Store, Trail, shorter, set_run, last}
use Rattle.model.specs.Steps.{address, loaded, written, data_written, changed, decide, decision, stepped, data_after}
use Rattle.model.specs.Walks.{Notes, resumes, first_unmarked, gone_up, settled_store, settled_notes}
use Rattle.model.proofs.Tells.{TellsAtOnce, IsFourth, tells_at_once}
use Rattle.cells.specs.Walked.{goes_on}
use Rattle.cells.proofs.Begun.{trail_own}
use Rattle.cells.proofs.Views.{upd_own, upd_twice}
use Rattle.store.specs.Settled.{Settled}
use Rattle.store.specs.Taken.{HasRead, Taken}
use Rattle.store.proofs.Moving.{same_system}
use Rattle.store.proofs.Readiness.{told_at_once}

not_settled : {D W : Type 0} (T : Told D W) (read : NodeRead D) → TellsAtOnce T → T ≡ Settles read → ⊥
not_settled (Tells o) read h e = let z : ◌≡◌ {A = ℕ} 0 1 = cc in omega arith
not_settled (Settles other) read h e = absurd h

-- the reading that settles a node writes nothing, asks no order, and leaves the party idle until the node is settled
module _ {D : Type 0} (W : Type 0) (N M : ℕ) (s : Store D) (info : ℕ → D) (p x : ℕ) (read : NodeRead D) where
  abbrev from : Running D → Decision D W
  from r = decide r (loaded s info (address N M r p x (s.slot p) (last s p))) p x (s.slot p) (last s p)

  pub record OnlyReads (r : Running D) : Type 0 where
    pub waits : set_run (changed (written s (address N M r p x (s.slot p) (last s p)) (from r).word) p (from r).change) p (from r).next ≡ set_run s p Idle
    pub writes_nothing : data_written info (address N M r p x (s.slot p) (last s p)) (from r).word ≡ info
    pub no_node : asks_nodes r ≡ false
    pub no_party : asks_parties r ≡ false

  other : (r : Running D) → (IsFourth r → ⊥) → (from r).told ≡ Settles read → OnlyReads r
  other r f e = absurd (not_settled (from r).told read (tells_at_once W r (loaded s info (address N M r p x (s.slot p) (last s p))) p x (s.slot p) (last s p) f) e)

  pub only_reads : (r : Running D) → (from r).told ≡ Settles read → OnlyReads r
  only_reads (WalkReads u (ReadSecond c i j)) e = record { waits = refl; writes_nothing = refl; no_node = refl; no_party = refl }
  only_reads r e = other r (λ z. z) e

-- a step that is taken is the model's, or the reading of a node that is still to be settled
module _ {D W A B : Type 0} (X : Setting D W A B) (F G : System D W A B) (p x : ℕ) where
  abbrev d : Decision D W
  d = decision {W = W} X.parties X.nodes F.store F.info p x

  pub taken_as : G.store ≡ stepped X.parties X.nodes F.store F.info p x d → G.info ≡ data_after X.parties X.nodes F.store F.info p x d → G.notes ≡ F.notes
      → Asks X.node_order (asks_nodes (F.store.run p)) F.node_order G.node_order p x → Asks X.party_order (asks_parties (F.store.run p)) F.party_order G.party_order p x
      → (told : Told D W) → d.told ≡ told → Taken X F G p told
  taken_as es ei en u v (Tells o) e = record {
    pick = x;
    store_is = es ∙ sym (ap (λ t. (moved_as X F p x d t).store) e);
    info_is = ei ∙ sym (ap (λ t. (moved_as X F p x d t).info) e);
    notes_are = en ∙ sym (upd_own F.notes p (moved X F p x).notes (ap (λ t. (moved_as X F p x d t).notes) e));
    node_picks = u;
    party_picks = v;
    tells = sym (ap (λ t. (moved_as X F p x d t).outcome) e);
  }
  taken_as es ei en u v (Settles read) e =
      let o = only_reads W X.parties X.nodes F.store F.info p x read (F.store.run p) e in
      record { pick = x; reads = e; waits = same_system (es ∙ o.waits) (ei ∙ o.writes_nothing) en (u.rests o.no_node) (v.rests o.no_party) }

module _ {D W A B : Type 0} (X : Setting D W A B) (F G : System D W A B) (p : ℕ) {told : Told D W} (T : Taken X F G p told) where
  pub tells_at_turn : {o : Outcome D W} → told ≡ Tells o → Steps X F p o G
  tells_at_turn e = subst (Taken X F G p) e T

  pub has_read : {read : NodeRead D} → told ≡ Settles read → HasRead X F G p read
  has_read e = subst (Taken X F G p) e T

  -- what is not walking settles nothing
  pub settles_nothing : {read : NodeRead D} → told ≡ Settles read → is_walking (F.store.run p) ≡ false → ⊥
  settles_nothing {read} e w =
      let h = has_read e in
      let at_once = (told_at_once W X.parties X.nodes F.store F.info p h.pick w).1 in
      let reads = h.reads in
      let z : ◌≡◌ {A = ℕ} 0 1 = cc in
      omega arith

-- a node is settled alike before its reading has left the party idle and after it
module _ {D W : Type 0} (worth : D → Situation → W → W → W → W) (blank : W) (s : Store D) (p : ℕ) (t : Situation) where
  abbrev pub goes : Store D → Option Kid → Store D
  goes z b = elim b [ Some k ↦ set_run z p (WalkGoesDown t k) | None ↦ gone_up worth blank z p t ]

  -- the program goes on as the model does
  pub goes_on_lem : (b : Option Kid) → goes_on s p t b ≡ goes s b
  goes_on_lem (Some k) = ap (λ u. set_run u p (WalkGoesDown t k)) (trail_own s p)
  goes_on_lem None = refl

  runs_twice : (f : ℕ → Trail) (r : Running D) → ◌≡◌ {A = Store D} (record { count = s.count; lock = s.lock; kids = s.kids; inbox = s.inbox; tray = s.tray; slot = s.slot; trail = f; run = upd (upd s.run p Idle) p r })
      (record { count = s.count; lock = s.lock; kids = s.kids; inbox = s.inbox; tray = s.tray; slot = s.slot; trail = f; run = upd s.run p r })
  runs_twice f r =
      let g : (ℕ → Running D) → Store D = λ h. record { count = s.count; lock = s.lock; kids = s.kids; inbox = s.inbox; tray = s.tray; slot = s.slot; trail = f; run = h } in
      ap g (upd_twice s.run p Idle r)

  pub goes_alike : (b : Option Kid) → goes (set_run s p Idle) b ≡ goes s b
  goes_alike (Some k) = runs_twice s.trail (WalkGoesDown t k)
  goes_alike None = runs_twice (upd s.trail p (shorter (s.trail p))) (resumes t (shorter (s.trail p)))

-- an order that is not asked is left alone
rests_so : {O : Type 0} {m : Meaning O} {asked : Bool} {old new : O} {p x : ℕ} → asked ≡ false → new ≡ old → Asks m asked old new p x
rests_so a e = record { picks = λ h. absurd (true≢false (sym h ∙ a)); rests = λ h. e }

-- the reading and the settling are one step of the model
module _ {D W A B : Type 0} {X : Setting D W A B} {F G : System D W A B} {p : ℕ} {read : NodeRead D} where
  pub settles_at_turn : {t : Store D} {later : Notes W} {o : Outcome D W} → HasRead X F G p read → Settled X G.store t p read (F.notes p) later o
      → Steps X F p o (record { store = t; info = G.info; notes = upd F.notes p later; node_order = G.node_order; party_order = G.party_order })
  settles_at_turn {t} {later} {o} h settled =
      let s = F.store in
      let x = h.pick in
      let d = decision {W = W} X.parties X.nodes s F.info p x in
      let asks = only_reads W X.parties X.nodes s F.info p x read (s.run p) h.reads in
      let S = subst (λ z. Settled X z t p read (F.notes p) later o) (ap (λ H. H.store) h.waits) settled in
      let store : t ≡ settled_store X.worth X.blank s (F.notes p) p read.situation read.kids = S.goes ∙ goes_alike X.worth X.blank s p read.situation (first_unmarked (F.notes p) read.kids) in
      record {
        pick = x;
        store_is = store ∙ sym (ap (λ z. (moved_as X F p x d z).store) h.reads);
        info_is = ap (λ H. H.info) h.waits ∙ sym (ap (λ z. (moved_as X F p x d z).info) h.reads);
        notes_are = ap (upd F.notes p) (S.notes ∙ sym (ap (λ z. (moved_as X F p x d z).notes) h.reads));
        node_picks = rests_so asks.no_node (ap (λ H. H.node_order) h.waits);
        party_picks = rests_so asks.no_party (ap (λ H. H.party_order) h.waits);
        tells = S.tells ∙ ap (λ n. tells_settled X s t n p) S.notes
            ∙ ap (λ z. tells_settled X s z (settled_notes X.worth X.blank s (F.notes p) p read.situation read.given read.kids) p) store ∙ sym (ap (λ z. (moved_as X F p x d z).outcome) h.reads);
      }
