-- A walk's own turn in the store: what is so far stays right, and at its end it answers the worth of its term and how many
-- nodes that has.
use Rattle.std.proofs.Common.{◌≡◌, ℕ, ◌≤◌, true, false, cond, eqb, ◌≢◌, ◌⊎◌, List, Some, None, Option, sym, refl, ap, ◌∙◌, subst, inl, inr, true≢false}
use Rattle.std.proofs.lemmas.Bool.{cond_both, cond-false, ne_eqb}
use Rattle.model.specs.Types.{Ok, Kid, Kids, Running, Idle, WalkReads, WalkGoesDown, ReadNothing, ReadData, ReadFirst, ReadSecond, Address, Outcome, StillRunning, Ended, WorthIs, Tells, Settles, NoWord, Lengthens, Decision, Situation}
use Rattle.model.specs.State.{kid_at, Trail, no_trail, along, last_of, longer, shorter, Store, set_trail, set_run, last}
use Rattle.model.specs.Steps.{address, loaded, written, data_written, changed, going, decide, decision}
use Rattle.model.specs.Checks.{is_idle, is_walking}
use Rattle.model.specs.Reach.{InTerm, by_slot}
use Rattle.model.specs.Inv.{needs_of}
use Rattle.model.specs.Sound.{TrailAt, Sound}
use Rattle.model.specs.Walks.{Notes, marked, resumes, first_unmarked, kid_worth, noted, gone_up, settled_store}
use Rattle.model.specs.Setting.{Setting}
use Rattle.model.specs.Plain.{Plain, Ask, WorksOut, TermHas}
use Rattle.model.specs.Runs.{System, tells_settled, moved_as, moved, Steps}
use Rattle.model.specs.Opened.{OnTrail, WalkSoFar, WalkAsked, Underway}
use Rattle.model.proofs.Sums.{upd_same}
use Rattle.model.proofs.Trails.{term_low}
use Rattle.model.proofs.Walk.{View, with_run, PlaceRight, Standing, settled_as, after_turn, tells_of, Turned, goes_on, ends, turned}

module _ {D W A B : Type 0} (X : Setting D W A B) where
  -- what p's walk from the slot i looks at
  abbrev pub view_of : System D W A B → ℕ → ℕ → View D W
  view_of F p i = record { kids = F.store.kids; info = F.info; root = F.store.slot p i; trail = F.store.trail p; run = F.store.run p; notes = F.notes p }

  abbrev pub StandingIn : System D W A B → ℕ → ℕ → Situation → Type 0
  StandingIn F p i t = Standing X.worth X.blank X.nodes t i (view_of F p i)

  -- a walk's reading so far is right, or an unmarked kid is there before a Down
  abbrev pub PlaceIn : System D W A B → ℕ → Situation → Running D → Type 0
  PlaceIn F p t r = PlaceRight X.worth X.blank X.nodes t F.store.kids F.info (F.notes p).marks (last F.store p) r

  -- the same in the words of the law
  pub underway_walk : (F : System D W A B) (s : Plain D) (p : ℕ) (k : Ask D) (t : Situation) (r : Running D) → WalkAsked X F s p k t → PlaceIn F p t r → Underway X F s p k r
  underway_walk F s p k t (WalkReads u g) w h = (subst (WalkAsked X F s p k) (sym h.0) w, h.1)
  underway_walk F s p k t (WalkGoesDown u j) w h = (subst (WalkAsked X F s p k) (sym h.0) w, h.1, h.2)
  underway_walk F s p k t _ w h = absurd h

  pub walk_underway : (F : System D W A B) (s : Plain D) (p : ℕ) (k : Ask D) (r : Running D) → is_walking r ≡ true → Underway X F s p k r → (t : Situation) × WalkAsked X F s p k t × PlaceIn F p t r
  walk_underway F s p k (WalkReads u g) e h = (u, h.0, (refl, h.1))
  walk_underway F s p k (WalkGoesDown u j) e h = (u, h.0, (refl, h.1, h.2))
  walk_underway F s p k _ e h = absurd (true≢false (sym e))

  pub place_walks : (F : System D W A B) (p : ℕ) (t : Situation) (n : ℕ) (r : Running D) → PlaceRight X.worth X.blank X.nodes t F.store.kids F.info (F.notes p).marks n r → is_walking r ≡ true
  place_walks F p t n (WalkReads u g) h = refl
  place_walks F p t n (WalkGoesDown u k) h = refl
  place_walks F p t n _ h = absurd h

  -- the trail of a walk, in a sound store
  module _ (F : System D W A B) (S : Sound X.parties X.nodes F.store) (p : ℕ) (a : 1 ≤ p) (b : p ≤ X.parties) (i : ℕ) where
    trail_of_lem : (n : ℕ) (ns : List ℕ) → F.store.trail p ≡ along i n ns → TrailAt F.store.kids (F.store.slot p) (needs_of (F.store.run p)).source (along i n ns)
    trail_of_lem n ns e = subst (TrailAt F.store.kids (F.store.slot p) (needs_of (F.store.run p)).source) e (S.trails p a b)

    -- the walk's slot holds a node
    pub walk_slot : (n : ℕ) (ns : List ℕ) → F.store.trail p ≡ along i n ns → (1 ≤ i) × (i ≤ 8) × (F.store.slot p i ≢ 0)
    walk_slot n ns e = let u = trail_of_lem n ns e in (u.1, u.2, u.3)

    pub walk_low : (n : ℕ) (ns : List ℕ) → F.store.trail p ≡ along i n ns → (x : ℕ) → InTerm F.store.kids (F.store.slot p i) x → (1 ≤ x) × (x ≤ X.nodes)
    walk_low n ns e = let u = trail_of_lem n ns e in term_low X.parties X.nodes F.store S (F.store.slot p i) (by_slot p i a b u.1 u.2 refl u.3)

    pub standing_of : (t : Situation) → WalkSoFar X F p i t → PlaceIn F p t (F.store.run p) → StandingIn F p i t
    standing_of t w h = record {
      at = w.at;
      before = w.before;
      entered = w.entered;
      chain = (trail_of_lem w.at w.before w.entered).0;
      to_come = subst (OnTrail (λ n. (F.notes p).marks n ≡ false)) w.entered w.to_come;
      rightly = record { of_term = w.of_term; with_kids = w.with_kids; right = w.worths };
      place = subst (λ n. PlaceRight X.worth X.blank X.nodes t F.store.kids F.info (F.notes p).marks n (F.store.run p)) (ap last_of w.entered) h;
    }

  pub so_far_of : (F : System D W A B) (p i : ℕ) (t : Situation) → StandingIn F p i t → WalkSoFar X F p i t
  so_far_of F p i t S = record {
    at = S.at;
    before = S.before;
    entered = S.entered;
    of_term = S.rightly.of_term;
    with_kids = S.rightly.with_kids;
    worths = S.rightly.right;
    to_come = subst (OnTrail (λ n. (F.notes p).marks n ≡ false)) (sym S.entered) S.to_come;
  }

  pub place_of : (F : System D W A B) (p i : ℕ) (t : Situation) → StandingIn F p i t → PlaceIn F p t (F.store.run p)
  place_of F p i t S = subst (λ n. PlaceRight X.worth X.blank X.nodes t F.store.kids F.info (F.notes p).marks n (F.store.run p)) (sym (ap last_of S.entered)) S.place

  -- What the step of p's walk is.
  module _ (F : System D W A B) (p x : ℕ) where
    abbrev looks : Running D → Address
    looks r = address X.parties X.nodes r p x (F.store.slot p) (last F.store p)

    abbrev decides : Running D → Decision D W
    decides r = decide r (loaded F.store F.info (looks r)) p x (F.store.slot p) (last F.store p)

    abbrev writes : Running D → Decision D W → Store D
    writes r d = set_run (changed (written F.store (looks r) d.word) p d.change) p d.next

    abbrev here : Decision D W
    here = decision X.parties X.nodes F.store F.info p x

    -- a step that tells an outcome
    pub record TellsAs (r : Running D) (d : Decision D W) (o : Outcome D W) : Type 0 where
      pub store_is : (moved X F p x).store ≡ writes r d
      pub info_is : (moved X F p x).info ≡ data_written F.info (looks r) d.word
      pub notes_are : (moved X F p x).notes ≡ F.notes p
      pub tells : (moved X F p x).outcome ≡ o

    pub tells_as : (r : Running D) (d : Decision D W) (o : Outcome D W) → F.store.run p ≡ r → decides r ≡ d → d.told ≡ Tells o → TellsAs r d o
    tells_as r d o e f g =
        let h : here.told ≡ Tells o = ap (λ r. (decides r).told) e ∙ ap (λ d. d.told) f ∙ g in
        record {
          store_is = ap (λ T. (moved_as X F p x here T).store) h ∙ ap (λ r. writes r (decides r)) e ∙ ap (writes r) f;
          info_is = ap (λ T. (moved_as X F p x here T).info) h ∙ ap (λ r. data_written F.info (looks r) (decides r).word) e ∙ ap (λ d. data_written F.info (looks r) d.word) f;
          notes_are = ap (λ T. (moved_as X F p x here T).notes) h;
          tells = ap (λ T. (moved_as X F p x here T).outcome) h;
        }

    -- a walk's fourth reading
    pub settles_as : (u : Situation) (d : D) (j k : ℕ) → F.store.run p ≡ WalkReads u (ReadSecond d j k)
        → moved X F p x ≡ moved_as X F p x here (Settles (record { situation = u; given = d; kids = record { first = j; second = k; third = (F.store.kids (last F.store p)).third } }))
    settles_as u d j k e = ap (λ T. moved_as X F p x here T) (ap (λ r. (decides r).told) e)

  -- the decision to go down, where there is a kid
  abbrev down_to_decision : ℕ → Running D → Decision D W
  down_to_decision n r = record { word = NoWord; change = Lengthens n; next = r; told = Tells (Ok StillRunning) }

  -- What a step of p's walk does to what it looks at.
  module _ (t : Situation) (F G : System D W A B) (p i : ℕ) (o : Outcome D W) (T : Steps X F p o G) where
    abbrev after : Running D → View D W
    after r = after_turn X.worth X.blank X.nodes t (view_of F p i) r

    abbrev tells_after : View D W → Outcome D W
    tells_after v = tells_of X.worth X.blank X.nodes t (view_of F p i) v

    abbrev Seen : View D W → Type 0
    Seen v = (view_of G p i ≡ v) × (o ≡ tells_after v)

    -- the parts of a view
    view_is : (s : Store D) (notes : Notes W) → (moved X F p T.pick).store ≡ s → (moved X F p T.pick).info ≡ F.info → (moved X F p T.pick).notes ≡ notes
        → (r : Running D) (L : Trail) → s.kids ≡ F.store.kids → s.slot ≡ F.store.slot → s.trail p ≡ L → s.run p ≡ r
        → view_of G p i ≡ record { kids = F.store.kids; info = F.info; root = F.store.slot p i; trail = L; run = r; notes = notes }
    view_is s notes es ei en r L k c l q =
        let e : G.store ≡ s = T.store_is ∙ es in
        let kids-are : G.store.kids ≡ F.store.kids = ap (λ s. s.kids) e ∙ k in
        let info_is : G.info ≡ F.info = T.info_is ∙ ei in
        let root_is : G.store.slot p i ≡ F.store.slot p i = ap (λ s. s.slot p i) e ∙ ap (λ f. f p i) c in
        let trail_is : G.store.trail p ≡ L = ap (λ s. s.trail p) e ∙ l in
        let run_is : G.store.run p ≡ r = ap (λ s. s.run p) e ∙ q in
        let notes_are : G.notes p ≡ notes = ap (λ f. f p) T.notes_are ∙ upd_same F.notes p (moved X F p T.pick).notes ∙ en in
        λ z. record { kids = kids-are z; info = info_is z; root = root_is z; trail = trail_is z; run = run_is z; notes = notes_are z }

    -- a reading goes on
    seen_reading : (r r' : Running D) → F.store.run p ≡ r → decides F p T.pick r ≡ going NoWord r' → writes F p T.pick r (going NoWord r') ≡ set_run F.store p r'
        → data_written F.info (looks F p T.pick r) NoWord ≡ F.info → is_idle r' ≡ false → Seen (with_run (view_of F p i) r')
    seen_reading r r' e f w i' z =
        let h = tells_as F p T.pick r (going NoWord r') (Ok StillRunning) e f refl in (
          view_is (set_run F.store p r') (F.notes p) (h.store_is ∙ w) (h.info_is ∙ i') h.notes_are r' (F.store.trail p) refl refl refl (upd_same F.store.run p r'),
          T.tells ∙ h.tells ∙ sym (cond-false (is_idle r') _ (Ok StillRunning) z),
        )

    seen_down : (u : Situation) (k : Kid) → F.store.run p ≡ WalkGoesDown u k → kid_at (F.store.kids (last F.store p)) k ≢ 0 → Seen (after (WalkGoesDown u k))
    seen_down u k e nz =
        let n = kid_at (F.store.kids (last F.store p)) k in
        let L : Trail = longer (F.store.trail p) n in
        let r : Running D = WalkReads u ReadNothing in
        let h = tells_as F p T.pick (WalkGoesDown u k) (down_to_decision n r) (Ok StillRunning) e (cond-false (eqb n 0) (going NoWord r) (down_to_decision n r) (ne_eqb n 0 nz)) refl in (
          view_is (set_run (set_trail F.store p L) p r) (F.notes p) h.store_is h.info_is h.notes_are r L refl refl (upd_same F.store.trail p L) (upd_same F.store.run p r),
          T.tells ∙ h.tells,
        )

    -- a walk has read its last node
    abbrev store_as : Situation → Option Kid → Store D
    store_as u c = elim c [ Some k ↦ set_run F.store p (WalkGoesDown u k) | None ↦ gone_up X.worth X.blank F.store p u ]

    abbrev worth_here : Situation → D → Kids → W
    worth_here u d ks = X.worth d u (kid_worth (F.notes p) X.blank ks.first) (kid_worth (F.notes p) X.blank ks.second) (kid_worth (F.notes p) X.blank ks.third)

    abbrev notes_as : Situation → D → Kids → Option Kid → Notes W
    notes_as u d ks c = elim c [ Some k ↦ F.notes p | None ↦ noted (F.notes p) (last F.store p) (worth_here u d ks) ]

    seen_choice : (u : Situation) (d : D) (ks : Kids) (c : Option Kid) → (moved X F p T.pick).store ≡ store_as u c → (moved X F p T.pick).info ≡ F.info → (moved X F p T.pick).notes ≡ notes_as u d ks c
        → (moved X F p T.pick).outcome ≡ tells_settled X F.store (store_as u c) (notes_as u d ks c) p → Seen (settled_as X.worth X.blank X.nodes t (view_of F p i) u d ks c)
    seen_choice u d ks (Some k) es ei en eo = (
      view_is (set_run F.store p (WalkGoesDown u k)) (F.notes p) es ei en (WalkGoesDown u k) (F.store.trail p) refl refl refl (upd_same F.store.run p (WalkGoesDown u k)),
      T.tells ∙ eo ∙ ap (λ r. cond (is_idle r) (Ok (Ended (WorthIs ((F.notes p).worths (last F.store p)) (marked X.nodes (F.notes p).marks)))) (Ok StillRunning)) (upd_same F.store.run p (WalkGoesDown u k)),
    )
    seen_choice u d ks None es ei en eo =
        let L : Trail = shorter (F.store.trail p) in
        let notes : Notes W = noted (F.notes p) (last F.store p) (worth_here u d ks) in (
          view_is (set_run (set_trail F.store p L) p (resumes u L)) notes es ei en (resumes u L) L refl refl (upd_same F.store.trail p L) (upd_same F.store.run p (resumes u L)),
          T.tells ∙ eo ∙ ap (λ r. cond (is_idle r) (Ok (Ended (WorthIs (notes.worths (last F.store p)) (marked X.nodes notes.marks)))) (Ok StillRunning)) (upd_same F.store.run p (resumes u L)),
        )

    seen_settled : (u : Situation) (d : D) (j k : ℕ) → F.store.run p ≡ WalkReads u (ReadSecond d j k) → Seen (after (WalkReads u (ReadSecond d j k)))
    seen_settled u d j k e =
        let ks : Kids = record { first = j; second = k; third = (F.store.kids (last F.store p)).third } in
        let m = settles_as F p T.pick u d j k e in
        seen_choice u d ks (first_unmarked (F.notes p) ks) (ap (λ m. m.store) m) (ap (λ m. m.info) m) (ap (λ m. m.notes) m) (ap (λ m. m.outcome) m)

    pub seen : (r : Running D) → F.store.run p ≡ r → PlaceIn F p t r → Seen (after r)
    seen (WalkReads u ReadNothing) e h = seen_reading (WalkReads u ReadNothing) (WalkReads u (ReadData (F.info (last F.store p)))) e refl refl refl refl
    seen (WalkReads u (ReadData d)) e h = seen_reading (WalkReads u (ReadData d)) (WalkReads u (ReadFirst d (F.store.kids (last F.store p)).first)) e refl refl refl refl
    seen (WalkReads u (ReadFirst d j)) e h = seen_reading (WalkReads u (ReadFirst d j)) (WalkReads u (ReadSecond d j (F.store.kids (last F.store p)).second)) e refl refl refl refl
    seen (WalkReads u (ReadSecond d j k)) e h = seen_settled u d j k e
    seen (WalkGoesDown u k) e h = seen_down u k e h.1
    seen _ e h = absurd h

  -- an accepted turn of a walk goes on, or is its last
  pub walk_turned : (t : Situation) (F G : System D W A B) → Sound X.parties X.nodes F.store → (p : ℕ) → 1 ≤ p → p ≤ X.parties → (i : ℕ) (o : Outcome D W) → Steps X F p o G → StandingIn F p i t
      → Turned X.worth X.blank X.nodes t (view_of F p i) i (view_of G p i) o
  walk_turned t F G S p a b i o T st =
      let e = seen t F G p i o T (F.store.run p) refl (place_of F p i t st) in
      let v = after_turn X.worth X.blank X.nodes t (view_of F p i) (F.store.run p) in
      subst (λ w. Turned X.worth X.blank X.nodes t (view_of F p i) i w o) (sym e.0)
      (subst (Turned X.worth X.blank X.nodes t (view_of F p i) i v) (sym e.1)
      (turned X.worth X.blank X.nodes t i (view_of F p i) S.ranked (walk_low F S p a b i st.at st.before st.entered) st))

  -- a walk that goes on: what is so far is right after its turn too
  abbrev pub StillWalks : System D W A B → ℕ → ℕ → Situation → Outcome D W → Type 0
  StillWalks G p i t o = (o ≡ Ok StillRunning) × WalkSoFar X G p i t × PlaceIn G p t (G.store.run p)

  -- a walk that ends: it answers the worth of its slot's node and how many nodes its term has
  pub record WalkAnswers (F G : System D W A B) (p i : ℕ) (t : Situation) (o : Outcome D W) : Type 0 where
    pub worth_is : W
    pub number : ℕ
    pub answers : o ≡ Ok (Ended (WorthIs worth_is number))
    pub works_out : WorksOut X.worth X.blank F.store.kids F.info t (F.store.slot p i) worth_is
    pub term_has : TermHas X.nodes F.store.kids (F.store.slot p i) number
    pub idle : G.store.run p ≡ Idle
    pub left : G.store.trail p ≡ no_trail

  pub walk_turn_right : (t : Situation) (F G : System D W A B) → Sound X.parties X.nodes F.store → (p : ℕ) → 1 ≤ p → p ≤ X.parties → (i : ℕ) (o : Outcome D W) → WalkSoFar X F p i t → PlaceIn F p t (F.store.run p)
      → Steps X F p o G → StillWalks G p i t o ⊎ WalkAnswers F G p i t o
  walk_turn_right t F G S p a b i o w h T = told (walk_turned t F G S p a b i o T (standing_of F S p a b i t w h))
    where
      told : Turned X.worth X.blank X.nodes t (view_of F p i) i (view_of G p i) o → StillWalks G p i t o ⊎ WalkAnswers F G p i t o
      told (goes_on e st n) = inl (e, so_far_of G p i t st, place_of G p i t st)
      told (ends v m e wo th r l n) = inr (record { worth_is = v; number = m; answers = e; works_out = wo; term_has = th; idle = r; left = l })

  -- a walk's turn writes no kids, no data, no slots and no inboxes
  pub record WritesNothing (F G : System D W A B) : Type 0 where
    pub kids : G.store.kids ≡ F.store.kids
    pub info : G.info ≡ F.info
    pub slots : G.store.slot ≡ F.store.slot
    pub inboxes : G.store.inbox ≡ F.store.inbox

  module _ (F G : System D W A B) (p : ℕ) (o : Outcome D W) (T : Steps X F p o G) where
    abbrev Unwritten : Store D → Type 0
    Unwritten s = (s.kids ≡ F.store.kids) × (s.slot ≡ F.store.slot) × (s.inbox ≡ F.store.inbox)

    unwritten : (s : Store D) → (moved X F p T.pick).store ≡ s → (moved X F p T.pick).info ≡ F.info → Unwritten s → WritesNothing F G
    unwritten s es ei h =
        let e : G.store ≡ s = T.store_is ∙ es in
        record { kids = ap (λ s. s.kids) e ∙ h.0; slots = ap (λ s. s.slot) e ∙ h.1; inboxes = ap (λ s. s.inbox) e ∙ h.2; info = T.info_is ∙ ei }

    reading_writes : (r r' : Running D) → F.store.run p ≡ r → decides F p T.pick r ≡ going NoWord r' → writes F p T.pick r (going NoWord r') ≡ set_run F.store p r'
        → data_written F.info (looks F p T.pick r) NoWord ≡ F.info → WritesNothing F G
    reading_writes r r' e f w i =
        let h = tells_as F p T.pick r (going NoWord r') (Ok StillRunning) e f refl in
        unwritten (set_run F.store p r') (h.store_is ∙ w) (h.info_is ∙ i) (refl, refl, refl)

    down_writes : (u : Situation) (k : Kid) → F.store.run p ≡ WalkGoesDown u k → WritesNothing F G
    down_writes u k e =
        let n = kid_at (F.store.kids (last F.store p)) k in
        let r : Running D = WalkReads u ReadNothing in
        let h = tells_as F p T.pick (WalkGoesDown u k) (decides F p T.pick (WalkGoesDown u k)) (Ok StillRunning) e refl (cond_both (eqb n 0) (going NoWord r) (down_to_decision n r) (λ d. d.told ≡ Tells (Ok StillRunning)) (λ _. refl) (λ _. refl)) in
        unwritten (writes F p T.pick (WalkGoesDown u k) (decides F p T.pick (WalkGoesDown u k))) h.store_is h.info_is
        (cond_both (eqb n 0) (going NoWord r) (down_to_decision n r) (λ d. Unwritten (writes F p T.pick (WalkGoesDown u k) d)) (λ _. (refl, refl, refl)) (λ _. (refl, refl, refl)))

    settled_writes : (u : Situation) (d : D) (j k : ℕ) → F.store.run p ≡ WalkReads u (ReadSecond d j k) → WritesNothing F G
    settled_writes u d j k e =
        let ks : Kids = record { first = j; second = k; third = (F.store.kids (last F.store p)).third } in
        let m = settles_as F p T.pick u d j k e in
        unwritten (settled_store X.worth X.blank F.store (F.notes p) p u ks) (ap (λ m. m.store) m) (ap (λ m. m.info) m) (goes (first_unmarked (F.notes p) ks))
      where
        goes : (c : Option Kid) → Unwritten (elim c [ Some k ↦ set_run F.store p (WalkGoesDown u k) | None ↦ gone_up X.worth X.blank F.store p u ])
        goes (Some k) = (refl, refl, refl)
        goes None = (refl, refl, refl)

    walking_writes : (r : Running D) → F.store.run p ≡ r → is_walking r ≡ true → WritesNothing F G
    walking_writes (WalkReads u ReadNothing) e h = reading_writes (WalkReads u ReadNothing) (WalkReads u (ReadData (F.info (last F.store p)))) e refl refl refl
    walking_writes (WalkReads u (ReadData d)) e h = reading_writes (WalkReads u (ReadData d)) (WalkReads u (ReadFirst d (F.store.kids (last F.store p)).first)) e refl refl refl
    walking_writes (WalkReads u (ReadFirst d j)) e h = reading_writes (WalkReads u (ReadFirst d j)) (WalkReads u (ReadSecond d j (F.store.kids (last F.store p)).second)) e refl refl refl
    walking_writes (WalkReads u (ReadSecond d j k)) e h = settled_writes u d j k e
    walking_writes (WalkGoesDown u k) e h = down_writes u k e
    walking_writes _ e h = absurd (true≢false (sym h))

    pub walk_turn_writes_nothing : is_walking (F.store.run p) ≡ true → WritesNothing F G
    walk_turn_writes_nothing h = walking_writes (F.store.run p) refl h
