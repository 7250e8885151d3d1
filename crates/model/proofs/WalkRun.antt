-- A walk through a run: what others do leaves it alone, and over m nodes it ends at its turn 9 * m - 5.
use Rattle.std.proofs.Common.{◌≡◌, ℕ, suc, ◌+◌, ◌*◌, ◌<◌, ◌≤◌, Bool, true, false, not, ◌&&◌, eqb, ◌≢◌, [], ◌∷◌, None, sym, refl, ap, ◌∙◌, subst, inl, inr, true≢false, arith}
use Rattle.std.proofs.lemmas.Bool.{cases_eq, eq-eqb, ne_eqb, cond-true, cond-false, and_left, and_right, and_from, and_parts}
use Rattle.kinds.specs.Situations.{Describes}
use Rattle.model.specs.Types.{Lengths, Event, Begins, WalkTurns, Ok, Err, WalkReads, ReadNothing, Walk, AsksCall, AsksWalk, Outcome, Begun, Ended, WorthIs, Situation}
use Rattle.model.specs.State.{along}
use Rattle.model.specs.Checks.{is_idle, is_walking}
use Rattle.model.specs.Begins.{started_walk}
use Rattle.model.specs.Reach.{Reached, by_slot, InTerm}
use Rattle.model.specs.Sound.{Sound}
use Rattle.model.specs.Setting.{Setting}
use Rattle.model.specs.Plain.{Plain, WorksOut, TermHas, Happens, walks}
use Rattle.model.specs.Runs.{System, Moves, begin_refused, call_begun, walk_begun, turn_refused, turn, walk_turn_refused, walk_turn, Steps, with_walk, begin_fault_of, Log, Run, still, more, is_turn_of, is_accepted, is_end, turns_of, ends_of}
use Rattle.model.specs.Opened.{Agrees, WalkSoFar}
use Rattle.model.specs.Law.{WalksEnd}
use Rattle.model.proofs.Sums.{upd_same}
use Rattle.model.proofs.Trails.{term_reached}
use Rattle.model.proofs.Begins.{accepted, accepted_idle}
use Rattle.model.proofs.Accepted.{turn_walks_not}
use Rattle.model.proofs.RefusedTurns.{turn_refusal, walk_turn_refusal}
use Rattle.model.proofs.Logs.{ends_not_now, ends_not_later}
use Rattle.model.proofs.Kept.{Kept, moves_keep}
use Rattle.model.proofs.TermSizes.{each_term_has_a_size}
use Rattle.model.proofs.Worths.{SameTerm, worth_there, term_has_there, term_has_unique}
use Rattle.model.proofs.Walk.{View, spent, none_marked, Standing, standing_there, standing_begun, spent_bound, Turned, goes_on, ends}
use Rattle.model.proofs.WalkTurn.{view_of, PlaceIn, StandingIn, standing_of, so_far_of, place_of, place_walks, walk_slot, walk_low, walk_turned, WalkAnswers, walk_turn_writes_nothing}
use Rattle.model.proofs.Apart.{Apart}
use Rattle.model.proofs.Others.{party_of}
use Rattle.model.proofs.MovesApart.{apart_moves}

module _ {D W A B : Type 0} (X : Setting D W A B) where
  in_term_reached : (F : System D W A B) (r : ℕ) → Reached X.parties F.store r → (x : ℕ) → InTerm F.store.kids r x → Reached X.parties F.store x
  in_term_reached F r R x (inl e) = subst (Reached X.parties F.store) (sym e) R
  in_term_reached F r R x (inr below) = term_reached X.parties F.store r R below

  -- the term of a walk is the same after what another does
  module _ (F G : System D W A B) (S : Sound X.parties X.nodes F.store) (p : ℕ) (a : 1 ≤ p) (b : p ≤ X.parties) (i : ℕ) (t : Situation) (st : StandingIn X F p i t) (Q : Apart X F G p) where
    root_reached : Reached X.parties F.store (F.store.slot p i)
    root_reached = let u = walk_slot X F S p a b i st.at st.before st.entered in by_slot p i a b u.0 u.1 refl u.2

    pub same_term : SameTerm F.store.kids F.info G.store.kids G.info (F.store.slot p i)
    same_term x h = Q.kept x (in_term_reached F (F.store.slot p i) root_reached x h)

    root_is : G.store.slot p i ≡ F.store.slot p i
    root_is = ap (λ f. f i) Q.slot

    -- what another does leaves a walk standing
    pub standing_apart : StandingIn X G p i t
    standing_apart =
        let old : View D W = record { kids = G.store.kids; info = G.info; root = F.store.slot p i; trail = F.store.trail p; run = F.store.run p; notes = F.notes p } in
        let e : old ≡ view_of X G p i = λ z. record { kids = G.store.kids; info = G.info; root = sym root_is z; trail = sym Q.trail z; run = sym Q.run z; notes = sym Q.notes z } in
        subst (Standing X.worth X.blank X.nodes t i) e (standing_there X.worth X.blank X.nodes t i (view_of X F p i) G.store.kids G.info same_term st)

    pub spent_apart : spent X.nodes (view_of X G p i) ≡ spent X.nodes (view_of X F p i)
    spent_apart =
        let old : View D W = record { kids = G.store.kids; info = G.info; root = G.store.slot p i; trail = F.store.trail p; run = F.store.run p; notes = F.notes p } in
        let e : view_of X G p i ≡ old = λ z. record { kids = G.store.kids; info = G.info; root = G.store.slot p i; trail = Q.trail z; run = Q.run z; notes = Q.notes z } in
        ap (spent X.nodes) e

    pub term_has_apart : (m : ℕ) → TermHas X.nodes F.store.kids (F.store.slot p i) m → TermHas X.nodes G.store.kids (G.store.slot p i) m
    term_has_apart m h = subst (λ r. TermHas X.nodes G.store.kids r m) (sym root_is) (term_has_there F.store.kids F.info G.store.kids G.info (F.store.slot p i) same_term X.nodes m h)

  -- what another party does leaves what a walk has set down right, and its reading so far
  pub walk_stands : (F G : System D W A B) → Sound X.parties X.nodes F.store → (p : ℕ) → 1 ≤ p → p ≤ X.parties → (i : ℕ) (t : Situation) → WalkSoFar X F p i t → PlaceIn X F p t (F.store.run p) → Apart X F G p
      → WalkSoFar X G p i t × PlaceIn X G p t (G.store.run p)
  walk_stands F G S p a b i t w h Q =
      let st = standing_apart F G S p a b i t (standing_of X F S p a b i t w h) Q in
      (so_far_of X G p i t st, place_of X G p i t st)

  -- p's walk from the slot i over m nodes
  module _ (p : ℕ) (a : 1 ≤ p) (b : p ≤ X.parties) (i : ℕ) (t : Situation) (m : ℕ) where
    -- it is under way and has had c turns
    pub record Walker (F : System D W A B) (c : ℕ) : Type 0 where
      pub kept : Kept X F
      pub standing : StandingIn X F p i t
      pub has : TermHas X.nodes F.store.kids (F.store.slot p i) m
      pub time : c + 5 ≡ spent X.nodes (view_of X F p i)

    abbrev counts : Event D → Outcome D W → Bool
    counts e o = is_turn_of p e && is_accepted o

    -- a Begin or Turn is not of it, is a turn of it, or its last turn
    pub data Came (G : System D W A B) (c : ℕ) (e : Event D) (o : Outcome D W) : Type 0 where
      beside : Walker G c → counts e o ≡ false → Came G c e o
      onward : Walker G (suc c) → counts e o ≡ true → is_end o ≡ false → Came G c e o
      over : c + 1 + 5 ≡ 9 * m → counts e o ≡ true → is_end o ≡ true → Came G c e o

    still_walking : (F : System D W A B) (c : ℕ) → Walker F c → is_walking (F.store.run p) ≡ true
    still_walking F c w = place_walks X F p t w.standing.at (F.store.run p) w.standing.place

    apart_came : {F G : System D W A B} {e : Event D} {o : Outcome D W} (c : ℕ) → Walker F c → p ≢ party_of e → Moves X F e o G → counts e o ≡ false → Came G c e o
    apart_came {F} {G} c w ne mv k =
        let Q = apart_moves X w.kept p ne mv in
        let S = w.kept.sound in
        beside (record {
          kept = moves_keep X w.kept mv;
          standing = standing_apart F G S p a b i t w.standing Q;
          has = term_has_apart F G S p a b i t w.standing Q m w.has;
          time = w.time ∙ sym (spent_apart F G S p a b i t w.standing Q);
        }) k

    -- the walk's own turn
    own_turn : (F G : System D W A B) (c : ℕ) (l : Lengths) (o : Outcome D W) → Walker F c → Kept X G → Steps X F p o G → Came G c (WalkTurns p l) o
    own_turn F G c l o w K T = turns_out (walk_turned X t F G w.kept.sound p a b i o T w.standing)
      where
        mine : is_turn_of {D = D} p (WalkTurns p l) ≡ true
        mine = eq-eqb p p refl

        turns_out : Turned X.worth X.blank X.nodes t (view_of X F p i) i (view_of X G p i) o → Came G c (WalkTurns p l) o
        turns_out (goes_on e st n) =
            let N = walk_turn_writes_nothing X F G p o T (still_walking F c w) in
            onward (record {
              kept = K;
              standing = st;
              has = subst (λ f. TermHas X.nodes G.store.kids (f p i) m) (sym N.slots) (subst (λ f. TermHas X.nodes f (F.store.slot p i) m) (sym N.kids) w.has);
              time = (let h = w.time in omega (arith, h, n));
            }) (ap (λ u. u && is_accepted o) mine ∙ ap is_accepted e) (ap is_end e)
        turns_out (ends v k e wo th r left n) =
            let same = term_has_unique X.nodes F.store.kids (F.store.slot p i) k m th w.has in
            let h = w.time in
            over (omega (arith, h, n, same)) (ap (λ u. u && is_accepted o) mine ∙ ap is_accepted e) (ap is_end e)

    -- the party that begins is idle, so it is another
    idle_is_other : (F : System D W A B) (c q : ℕ) → Walker F c → is_walking (F.store.run q) ≡ false → p ≢ q
    idle_is_other F c q w h e = true≢false (sym (still_walking F c w) ∙ ap (λ k. is_walking (F.store.run k)) e ∙ h)

    pub walker_move : {F G : System D W A B} (c : ℕ) {e : Event D} {o : Outcome D W} → Walker F c → Moves X F e o G → Came G c e o
    walker_move c w (begin_refused r h eo g) = beside (subst (λ H. Walker H c) (sym g) w) refl
    walker_move {F} {G} c w (call_begun {p = q} {c = k} {l = l} h eo g) =
        apart_came c w (idle_is_other F c q w (ap is_walking (accepted_idle X.suits X.parties X.nodes F.store q (AsksCall k) l h))) (call_begun {l = l} h eo g) refl
    walker_move {F} {G} c w (walk_begun {p = q} {w = k} {l = l} u worths h d eo g) =
        apart_came c w (idle_is_other F c q w (ap is_walking (accepted_idle X.suits X.parties X.nodes F.store q (AsksWalk k) l h))) (walk_begun {l = l} u worths h d eo g) refl
    walker_move {F} {G} c {o = o} w (turn_refused {p = q} {l = l} r h eo g) = beside (subst (λ H. Walker H c) (sym g) w) (and_right (eqb p q) (is_accepted o) (ap is_accepted eo ∙ turn_refusal X.parties X.nodes q l (F.store.run q) r h))
    walker_move {F} {G} c {o = o} w (turn {p = q} {l = l} h T) =
        let ne = idle_is_other F c q w (turn_walks_not X.parties X.nodes q l (F.store.run q) h) in
        apart_came c w ne (turn {l = l} h T) (and_left (eqb p q) (is_accepted o) (ne_eqb p q ne))
    walker_move {F} {G} c {o = o} w (walk_turn_refused {p = q} {l = l} r h eo g) = beside (subst (λ H. Walker H c) (sym g) w) (and_right (eqb p q) (is_accepted o) (ap is_accepted eo ∙ walk_turn_refusal X.parties X.nodes q l (F.store.run q) r h))
    walker_move {F} {G} c {o = o} w (walk_turn {p = q} {l = l} h T) =
        let K = moves_keep X w.kept (walk_turn {l = l} h T) in
        elim (cases_eq p q) [
          | inr ne ↦ apart_came c w ne (walk_turn {l = l} h T) (and_left (eqb p q) (is_accepted o) (ne_eqb p q ne))
          | inl e ↦ subst (λ q. Steps X F q o G → Came G c (WalkTurns q l) o) e (own_turn F G c l o w K) T
        ]

    -- along a run in which the walk does not end
    pub walker_run : {F G : System D W A B} (c : ℕ) {es : Log X} → Walker F c → Run X F es G → ends_of p es ≡ 0 → Walker G (turns_of p es + c)
    walker_run {F} c w still z = subst (Walker F) (let u : c ≡ 0 + c = omega arith in u) w
    walker_run {G = H} c w (more {G = G} {e = e} {o = o} {es = es} mv r) z =
        came (walker_move c w mv) (λ c' w'. walker_run c' w' r (ends_not_later e o es p z))
      where
        came : Came G c e o → ((c' : ℕ) → Walker G c' → Walker H (turns_of p es + c')) → Walker H (turns_of p ((e, o) ∷ es) + c)
        came (beside w' k) go = subst (Walker H) (let u = cond-false {A = ℕ} (counts e o) 1 0 k in omega (arith, u)) (go c w')
        came (onward w' k f) go = subst (Walker H) (let u = cond-true {A = ℕ} (counts e o) 1 0 k in omega (arith, u)) (go (suc c) w')
        came (over n k f) go = absurd (true≢false (sym (and_from (is_turn_of p e) (is_end o) (and_parts (is_turn_of p e) (is_accepted o) k).0 f) ∙ ends_not_now e o es p z))

  -- a walk's Begin that is not refused
  begun_walk : {G H : System D W A B} (p : ℕ) (w : Walk) (l : Lengths) → Moves X G (Begins p (AsksWalk w) l) (Ok Begun) H
      → (t : Situation) × (worths : ℕ → W) × (begin_fault_of X G p (AsksWalk w) l ≡ None) × (H ≡ with_walk X G (started_walk w.slot t G.store p) p worths)
  begun_walk p w l (begin_refused r h eo g) = absurd (true≢false (ap (λ o. elim o [ Ok progress ↦ true | Err e ↦ false ]) eo))
  begun_walk p w l (walk_begun t worths h d eo g) = (t, worths, h, g)

  end_is_accepted : (o : Outcome D W) → is_end o ≡ true → is_accepted o ≡ true
  end_is_accepted (Err e) h = h
  end_is_accepted _ h = refl

  -- a walk that has begun: nothing is marked, and it is at the node of its slot
  module _ (F : System D W A B) (p i : ℕ) (t : Situation) (worths : ℕ → W) where
    abbrev first_view : View D W
    first_view = record { kids = F.store.kids; info = F.info; root = F.store.slot p i; trail = along i (F.store.slot p i) []; run = WalkReads t ReadNothing; notes = record { marks = λ n. false; worths = worths } }

    abbrev walk_begun_system : System D W A B
    walk_begun_system = with_walk X F (started_walk i t F.store p) p worths

    first_view_lem : view_of X walk_begun_system p i ≡ first_view
    first_view_lem =
        let trail_is : walk_begun_system.store.trail p ≡ along i (F.store.slot p i) [] = upd_same F.store.trail p (along i (F.store.slot p i) []) in
        let run_is : walk_begun_system.store.run p ≡ WalkReads t ReadNothing = upd_same F.store.run p (WalkReads t ReadNothing) in
        let notes_are : walk_begun_system.notes p ≡ record { marks = λ n. false; worths = worths } = upd_same F.notes p (record { marks = λ n. false; worths = worths }) in
        λ z. record { kids = F.store.kids; info = F.info; root = F.store.slot p i; trail = trail_is z; run = run_is z; notes = notes_are z }

    standing_at_first : StandingIn X walk_begun_system p i t
    standing_at_first = subst (Standing X.worth X.blank X.nodes t i) (sym first_view_lem) (standing_begun X.worth X.blank X.nodes t i F.store.kids F.info (F.store.slot p i) worths)

    spent_at_first : spent X.nodes (view_of X walk_begun_system p i) ≡ 5
    spent_at_first = let none = none_marked X.nodes in let u : spent X.nodes first_view ≡ 5 = omega (arith, none) in ap (spent X.nodes) first_view_lem ∙ u

    -- what a walk has set down at its Begin is right
    pub walk_begins_right : WalkSoFar X walk_begun_system p i t × PlaceIn X walk_begun_system p t (walk_begun_system.store.run p)
    walk_begins_right = (so_far_of X walk_begun_system p i t standing_at_first, place_of X walk_begun_system p i t standing_at_first)

  -- a walk's answer is the plain store's, where that agrees
  pub walk_happens : (F G : System D W A B) → Sound X.parties X.nodes F.store → (p : ℕ) → 1 ≤ p → p ≤ X.parties → (t : Situation) (w : Walk) (s : Plain D) (o : Outcome D W)
      → Agrees X F s → WalkSoFar X F p w.slot t → Describes t w.range w.gear w.temperature → WalkAnswers X F G p w.slot t o → Happens X s p (AsksWalk w) o s
  walk_happens F G S p a b t w s o A so d H =
      let i = w.slot in
      let u = walk_slot X F S p a b i so.at so.before so.entered in
      let same : SameTerm F.store.kids F.info s.kids s.info (F.store.slot p i) = λ x h. A.terms x (in_term_reached F (F.store.slot p i) (by_slot p i a b u.0 u.1 refl u.2) x h) in
      let worth-there-is = worth_there F.store.kids F.info s.kids s.info (F.store.slot p i) same X.worth X.blank t (λ _. inl refl) H.works_out in
      let number-there = term_has_there F.store.kids F.info s.kids s.info (F.store.slot p i) same X.nodes H.number H.term_has in
      subst (λ o. Happens X s p (AsksWalk w) o s) (sym H.answers)
      (subst (λ f. WorksOut X.worth X.blank s.kids s.info t (f p i) H.worth_is → TermHas X.nodes s.kids (f p i) H.number → Happens X s p (AsksWalk w) (Ok (Ended (WorthIs H.worth_is H.number))) s) A.slots
      (λ wo th. walks d wo th) worth-there-is number-there)

  -- a walk from its Begin on
  module _ (G H : System D W A B) (K : Kept X G) (p : ℕ) (w : Walk) (l : Lengths) (m : ℕ) (T : TermHas X.nodes G.store.kids (G.store.slot p w.slot) m)
      (mv : Moves X G (Begins p (AsksWalk w) l) (Ok Begun) H) (t : Situation) (worths : ℕ → W) (h : begin_fault_of X G p (AsksWalk w) l ≡ None) (g : H ≡ with_walk X G (started_walk w.slot t G.store p) p worths) where
    party : (1 ≤ p) × (p ≤ X.parties)
    party = let u = accepted X.suits X.parties X.nodes (not (is_idle (G.store.run p))) p (AsksWalk w) l (G.store.slot p) (G.store.trail p) h in (u.party_low, u.party_high)

    begun : Walker p party.0 party.1 w.slot t m H 0
    begun = record {
      kept = moves_keep X K mv;
      standing = subst (λ H. StandingIn X H p w.slot t) (sym g) (standing_at_first G p w.slot t worths);
      has = subst (λ H. TermHas X.nodes H.store.kids (H.store.slot p w.slot) m) (sym g) T;
      time = sym (ap (λ H. spent X.nodes (view_of X H p w.slot)) g ∙ spent_at_first G p w.slot t worths);
    }

    module _ (L : System D W A B) (later : Log X) (r : Run X H later L) (z : ends_of p later ≡ 0) where
      now : Walker p party.0 party.1 w.slot t m L (turns_of p later + 0)
      now = walker_run p party.0 party.1 w.slot t m 0 begun r z

      not_yet : turns_of p later + 5 < 9 * m
      not_yet =
          let v = view_of X L p w.slot in
          let S = now.standing in
          let u = spent_bound X.worth X.blank X.nodes t w.slot v now.kept.sound.ranked (walk_low X L now.kept.sound p party.0 party.1 w.slot S.at S.before S.entered) S m now.has in
          let e = now.time in
          omega (arith, u, e)

      at_last : (M : System D W A B) (e : Event D) (o : Outcome D W) → Moves X L e o M → is_turn_of p e ≡ true → is_end o ≡ true → turns_of p later + 1 + 5 ≡ 9 * m
      at_last M e o move turn_is end_is = came (walker_move p party.0 party.1 w.slot t m (turns_of p later + 0) now move)
        where
          came : Came p party.0 party.1 w.slot t m M (turns_of p later + 0) e o → turns_of p later + 1 + 5 ≡ 9 * m
          came (beside k c) = absurd (true≢false (sym (ap (λ u. u && is_accepted o) turn_is ∙ end_is_accepted o end_is) ∙ c))
          came (onward k c f) = absurd (true≢false (sym end_is ∙ f))
          came (over n c f) = omega (arith, n)

  -- the law's part: a walk goes over some number m of nodes, and ends at its turn 9 * m - 5, and not before
  pub walks_end : (G : System D W A B) → Kept X G → WalksEnd X G
  walks_end G K p w l =
      let size = each_term_has_a_size G.store.kids K.sound.ranked X.nodes (G.store.slot p w.slot) in
      let m : ℕ = size.0 in
      let T : TermHas X.nodes G.store.kids (G.store.slot p w.slot) m = size.1 in (
        m,
        T,
        record {
          not_later = λ H L later mv r z. (let u = begun_walk p w l mv in not_yet G H K p w l m T mv u.0 u.1 u.2 u.3 L later r z);
          just_then = λ H L M later e o mv r z move ti ei. (let u = begun_walk p w l mv in at_last G H K p w l m T mv u.0 u.1 u.2 u.3 L later r z M e o move ti ei);
        },
      )
