-- What a Begin or a Turn of one party leaves alone: the other parties' running calls.
use Rattle.std.proofs.Common.{◌≡◌, ℕ, ◌≢◌, Some, None, Option, refl, ap, ◌∙◌}
use Rattle.model.specs.Types.{Event, Begins, Turns, WalkTurns, Kid, ReadNothing, Running, WalkReads, WalkGoesDown, Call, Enter, Up, Leave, Situation, Outcome, Address, Nowhere, DataOf, Word, NoWord, CountWord, LockWord, KidWord, DataWord, InboxWord, TrayWord, Change, Stays, Fills, Lengthens, Told, Tells, Settles, Decision}
use Rattle.model.specs.State.{Trail, shorter, Store, set_run}
use Rattle.model.specs.Steps.{written, changed, stepped, looks_at, decision}
use Rattle.model.specs.Begins.{started}
use Rattle.model.specs.Walks.{resumes, gone_up, first_unmarked}
use Rattle.model.specs.Setting.{Setting}
use Rattle.model.specs.Runs.{System, Moves, begin_refused, call_begun, walk_begun, turn_refused, turn, walk_turn_refused, walk_turn, Steps, moved_as}
use Rattle.model.proofs.Sums.{upd_same, upd_other}

-- whose Begin or Turn it is
abbrev pub party_of : {D : Type 0} → Event D → ℕ
party_of (Begins p a l) = p
party_of (Turns p l) = p
party_of (WalkTurns p l) = p

module _ {D : Type 0} where
  -- what parties have for themselves
  abbrev pub own_of : Store D → (ℕ → ℕ → ℕ) × (ℕ → Trail) × (ℕ → Running D)
  own_of s = (s.slot, s.trail, s.run)

  -- writing a word leaves that
  pub written_own : (s : Store D) (a : Address) (w : Word D) → own_of (written s a w) ≡ own_of s
  written_own s Nowhere w = refl
  written_own s (DataOf n) w = refl
  written_own s _ NoWord = refl
  written_own s _ (CountWord v) = refl
  written_own s _ (LockWord v) = refl
  written_own s _ (KidWord v) = refl
  written_own s _ (DataWord v) = refl
  written_own s _ (InboxWord v) = refl
  written_own s _ (TrayWord v) = refl

  -- filling a slot or lengthening a trail runs nothing
  changed_runs : (s : Store D) (p : ℕ) (c : Change) → (changed s p c).run ≡ s.run
  changed_runs s p Stays = refl
  changed_runs s p (Fills i v) = refl
  changed_runs s p (Lengthens n) = refl

  pub started_others : (c : Call D) (s : Store D) (p q : ℕ) → q ≢ p → (started c s p).run q ≡ s.run q
  started_others (Enter i) s p q d = refl
  started_others Up s p q d = refl
  started_others Leave s p q d = refl
  started_others _ s p q d = upd_other s.run p q _ d

module _ {D W : Type 0} (N M : ℕ) (s : Store D) (info : ℕ → D) (p x : ℕ) (d : Decision D W) where
  -- what the party runs after its step, and that the others run what they ran
  pub stepped_own : (stepped N M s info p x d).run p ≡ d.next
  stepped_own = upd_same (changed (written s (looks_at N M s p x) d.word) p d.change).run p d.next

  pub stepped_others : (q : ℕ) → q ≢ p → (stepped N M s info p x d).run q ≡ s.run q
  stepped_others q ne = upd_other (changed (written s (looks_at N M s p x) d.word) p d.change).run p q d.next ne
      ∙ ap (λ f. f q) (changed_runs (written s (looks_at N M s p x) d.word) p d.change) ∙ ap (λ u. u.2 q) (written_own s (looks_at N M s p x) d.word)

module _ {D W A B : Type 0} (X : Setting D W A B) where
  -- where a walk goes when it has settled its node
  abbrev pub settled_by : Option Kid → Store D → ℕ → Situation → Store D
  settled_by o s p t = elim o [ Some k ↦ set_run s p (WalkGoesDown t k) | None ↦ gone_up X.worth X.blank s p t ]

  settled_by_lem : (o : Option Kid) (s : Store D) (p : ℕ) (t : Situation) (q : ℕ) → q ≢ p → (settled_by o s p t).run q ≡ s.run q
  settled_by_lem (Some k) s p t q ne = upd_other s.run p q (WalkGoesDown t k) ne
  settled_by_lem None s p t q ne = upd_other s.run p q (resumes t (shorter (s.trail p))) ne

  -- a Turn of p leaves what another runs
  moved_others : (F : System D W A B) (p x q : ℕ) (d : Decision D W) (T : Told D W) → q ≢ p → (moved_as X F p x d T).store.run q ≡ F.store.run q
  moved_others F p x q d (Tells o) ne = stepped_others X.parties X.nodes F.store F.info p x d q ne
  moved_others F p x q d (Settles n) ne = settled_by_lem (first_unmarked (F.notes p) n.kids) F.store p n.situation q ne

  steps_others : (F G : System D W A B) (p q : ℕ) (o : Outcome D W) → Steps X F p o G → q ≢ p → G.store.run q ≡ F.store.run q
  steps_others F G p q o m ne =
      let d = decision {W = W} X.parties X.nodes F.store F.info p m.pick in
      ap (λ s. s.run q) m.store_is ∙ moved_others F p m.pick q d d.told ne

  pub others_run_on : {F G : System D W A B} {e : Event D} {o : Outcome D W} (q : ℕ) → Moves X F e o G → q ≢ party_of e → G.store.run q ≡ F.store.run q
  others_run_on q (begin_refused r h t g) ne = ap (λ H. H.store.run q) g
  others_run_on {F} q (call_begun {p} {c} h t g) ne = ap (λ H. H.store.run q) g ∙ started_others c F.store p q ne
  others_run_on {F} q (walk_begun {p} {w} t worths h d b g) ne = ap (λ H. H.store.run q) g ∙ upd_other F.store.run p q (WalkReads t ReadNothing) ne
  others_run_on q (turn_refused r h t g) ne = ap (λ H. H.store.run q) g
  others_run_on {F} {G} {e} {o} q (turn {p} h m) ne = steps_others F G p q o m ne
  others_run_on q (walk_turn_refused r h t g) ne = ap (λ H. H.store.run q) g
  others_run_on {F} {G} {e} {o} q (walk_turn {p} h m) ne = steps_others F G p q o m ne
