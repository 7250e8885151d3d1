-- The plain store follows every Begin: Enter, Up and Leave happen at once, every other call and walk is under way, and what is
-- refused, but not for being busy, is turned down.
use Rattle.std.proofs.Common.{◌≡◌, ℕ, ◌≤◌, Bool, false, cond, not, ◌≢◌, [], ◌∷◌, Some, None, sym, refl, ap, ◌∙◌, subst, inl, inr, true≢false}
use Rattle.std.proofs.lemmas.Bool.{cases_eq, cases_Bool, eq-eqb, ne_eqb}
use Rattle.refusals.specs.Numbers.{number_of}
use Rattle.refusals.specs.declared.Refusal.{Refusal}
use Rattle.kinds.specs.Situations.{Describes}
use Rattle.model.specs.Fun.{upd}
use Rattle.model.specs.Types.{Lengths, Event, Begins, Ok, Err, OpenTray, LookForNode, Makes, Sweeps, ReadNothing, Running, Idle, Reads, GoesDown, Keeps, Drops, Hands, Fetches, Works, WalkReads, Call, Enter, Up, Leave, Read, Down, Keep, Drop, Hand, Fetch, Make, Sweep, Walk, Asked, AsksCall, AsksWalk, Done, Outcome, Begun, Ended, Situation}
use Rattle.model.specs.State.{Trail, no_trail, along, shorter, set_trail, set_run}
use Rattle.model.specs.Checks.{begin_fault, is_idle, is_walking}
use Rattle.model.specs.Begins.{kid_of, started, started_walk}
use Rattle.model.specs.Walks.{Notes}
use Rattle.model.specs.Setting.{Setting}
use Rattle.model.specs.Plain.{Plain, Ask, Happens, enters, goes_up, leaves, turned_down, PlainRun, ends, next, put_trail}
use Rattle.model.specs.Runs.{System, with_store, with_walk, begin_fault_of, tells_begun, Moves, call_begun, walk_begun, placed, asked_after}
use Rattle.model.specs.Opened.{Agrees, OnTrail, AskedFor, WalkSoFar, Underway, Opened}
use Rattle.model.proofs.Sums.{upd_same, upd_other}
use Rattle.model.proofs.Frames.{upd_all}
use Rattle.model.proofs.Begins.{idle_is, accepted_idle, walk_passed, accepted as passed}
use Rattle.model.proofs.Faults.{fault_same, fault_early}
use Rattle.model.proofs.Follow.{shown, having, agrees_by, agrees_on, within_same, trails_put}
use Rattle.model.proofs.OwnTurns.{agrees_run}
use Rattle.model.proofs.Apart.{Apart, apart_begun, apart_walk_begun, underway_stays}
use Rattle.model.proofs.OpenedNext.{opened_next, takes}

module _ {D W A B : Type 0} (X : Setting D W A B) where
  -- after one Begin or Turn
  abbrev pub After : Plain D → (ℕ → Ask D) → Event D → Outcome D W → System D W A B → Type 0
  After t asked e o G = (u : Plain D) × PlainRun X t (placed asked e o) u × Opened X G u (asked_after asked e o)

  module _ (F : System D W A B) (t : Plain D) (asked : ℕ → Ask D) (O : Opened X F t asked) (p : ℕ) (l : Lengths) where
    -- an accepted Begin
    module _ (c : Asked D) (ok : begin_fault_of X F p c l ≡ None) where
      abbrev ask : Ask D
      ask = record { party = p; asked = c; lengths = l }

      low : 1 ≤ p
      low = (passed X.suits X.parties X.nodes (not (is_idle (F.store.run p))) p c l (F.store.slot p) (F.store.trail p) ok).party_low

      high : p ≤ X.parties
      high = (passed X.suits X.parties X.nodes (not (is_idle (F.store.run p))) p c l (F.store.slot p) (F.store.trail p) ok).party_high

      idle : F.store.run p ≡ Idle
      idle = accepted_idle X.suits X.parties X.nodes F.store p c l ok

      trail_now : t.trail p ≡ F.store.trail p
      trail_now = O.agrees.trails p ∙ ap (λ r. shown r (F.store.trail p)) idle

      asked_now : AskedFor X t p ask c
      asked_now = (
        refl,
        refl,
        fault_same X.suits X.parties X.nodes false p c l (t.slot p) (F.store.slot p) (t.trail p) (F.store.trail p) (ap (λ v. v p) O.agrees.slots) trail_now
            ∙ ap (λ v. begin_fault X.suits X.parties X.nodes v p c l (F.store.slot p) (F.store.trail p)) (sym (ap (λ r. not (is_idle r)) idle)) ∙ ok,
      )

      -- it is under way
      runs : (o : Outcome D W) (G : System D W A B) → Moves X F (Begins p c l) o G → ((q : ℕ) → q ≢ p → Apart X F G q) → Agrees X G t → Underway X G t p ask (G.store.run p)
          → (u : Plain D) × PlainRun X t [] u × Opened X G u (upd asked p ask)
      runs o G m Q S h = (
        t,
        ends,
        opened_next X F t asked O (Begins p c l) o G m t (upd asked p ask) S
            (λ q x y. upd_all (λ q v. 1 ≤ q → q ≤ X.parties → Underway X G t q v (G.store.run q)) asked p ask (λ _ _. h) q
            (λ d x y. underway_stays X F G O.sound q x y (Q q d) t t O.agrees S (asked q) (O.underway q x y)) x y),
      )

      runs_as : (r : Running D) (o : Outcome D W) → Moves X F (Begins p c l) o (having X F (set_run F.store p r) F.info) → ((q : ℕ) → q ≢ p → Apart X F (having X F (set_run F.store p r) F.info) q)
          → is_walking r ≡ false → Underway X (having X F (set_run F.store p r) F.info) t p ask r → (u : Plain D) × PlainRun X t [] u × Opened X (having X F (set_run F.store p r) F.info) u (upd asked p ask)
      runs_as r o m Q w h = runs o (having X F (set_run F.store p r) F.info) m Q (agrees_run X F t O.agrees O.sound p low high ask r (ap is_walking idle) w)
          (subst (Underway X (having X F (set_run F.store p r) F.info) t p ask) (sym (upd_same F.store.run p r)) h)

      -- it ends at once, and changes the trail
      turns_trail : (T V : Trail) → V ≡ T → Moves X F (Begins p c l) (Ok (Ended Done)) (having X F (set_trail F.store p T) F.info) → ((q : ℕ) → q ≢ p → Apart X F (having X F (set_trail F.store p T) F.info) q)
          → Happens X t p c (Ok (Ended Done)) (put_trail t p V) → (u : Plain D) × PlainRun X t ((ask, Ok (Ended Done)) ∷ []) u × Opened X (having X F (set_trail F.store p T) F.info) u asked
      turns_trail T V e m Q hp =
          let G = having X F (set_trail F.store p T) F.info in
          let u = put_trail t p V in
          let w : is_walking (F.store.run p) ≡ false = ap is_walking idle in
          let S : Agrees X G u = agrees_by X F t O.agrees G u refl refl O.agrees.slots O.agrees.inboxes
          (trails_put X F t O.agrees O.sound p low high w V T F.store.run e w (λ q d. refl)) (within_same X F t O.agrees G refl refl (λ n r. (refl, refl))) in (
            u,
            next (takes X t u p ask c (Ok (Ended Done)) asked_now hp) ends,
            opened_next X F t asked O (Begins p c l) (Ok (Ended Done)) G m u asked S
                (λ q x y. elim (cases_eq q p) [
                  | inl d ↦ subst (λ v. Underway X G u q (asked q) v) (sym (ap F.store.run d ∙ idle)) tt
                  | inr d ↦ underway_stays X F G O.sound q x y (Q q d) t u O.agrees S (asked q) (O.underway q x y)
                ]),
          )

    -- an accepted call
    call_plainly : (c : Call D) → begin_fault_of X F p (AsksCall c) l ≡ None → After t asked (Begins p (AsksCall c) l) (tells_begun c) (with_store X F (started c F.store p))
    call_plainly (Enter i) ok = turns_trail (AsksCall (Enter i)) ok (along i (F.store.slot p i) []) (along i (t.slot p i) []) (ap (λ v. along i (v p i) []) O.agrees.slots) (call_begun ok refl refl) (λ q d. apart_begun X F p q d (Enter i)) enters
    call_plainly Up ok = turns_trail (AsksCall Up) ok (shorter (F.store.trail p)) (shorter (t.trail p)) (ap shorter (trail_now (AsksCall Up) ok)) (call_begun ok refl refl) (λ q d. apart_begun X F p q d Up) goes_up
    call_plainly Leave ok = turns_trail (AsksCall Leave) ok no_trail no_trail refl (call_begun ok refl refl) (λ q d. apart_begun X F p q d Leave) leaves
    call_plainly Read ok = runs_as (AsksCall Read) ok (Reads ReadNothing) (Ok Begun) (call_begun ok refl refl) (λ q d. apart_begun X F p q d Read) refl (asked_now (AsksCall Read) ok, tt)
    call_plainly (Down k) ok = runs_as (AsksCall (Down k)) ok (GoesDown (kid_of k)) (Ok Begun) (call_begun ok refl refl) (λ q d. apart_begun X F p q d (Down k)) refl (k, asked_now (AsksCall (Down k)) ok, refl)
    call_plainly (Keep i) ok = runs_as (AsksCall (Keep i)) ok (Keeps i) (Ok Begun) (call_begun ok refl refl) (λ q d. apart_begun X F p q d (Keep i)) refl (asked_now (AsksCall (Keep i)) ok)
    call_plainly (Drop i) ok = runs_as (AsksCall (Drop i)) ok (Drops i) (Ok Begun) (call_begun ok refl refl) (λ q d. apart_begun X F p q d (Drop i)) refl (asked_now (AsksCall (Drop i)) ok)
    call_plainly (Hand i r) ok = runs_as (AsksCall (Hand i r)) ok (Hands i r) (Ok Begun) (call_begun ok refl refl) (λ q d. apart_begun X F p q d (Hand i r)) refl (asked_now (AsksCall (Hand i r)) ok)
    call_plainly (Fetch i) ok = runs_as (AsksCall (Fetch i)) ok (Fetches i) (Ok Begun) (call_begun ok refl refl) (λ q d. apart_begun X F p q d (Fetch i)) refl (asked_now (AsksCall (Fetch i)) ok)
    call_plainly (Make plan) ok = runs_as (AsksCall (Make plan)) ok (Works (Makes plan) OpenTray) (Ok Begun) (call_begun ok refl refl) (λ q d. apart_begun X F p q d (Make plan)) refl (asked_now (AsksCall (Make plan)) ok, tt)
    call_plainly Sweep ok = runs_as (AsksCall Sweep) ok (Works Sweeps LookForNode) (Ok Begun) (call_begun ok refl refl) (λ q d. apart_begun X F p q d Sweep) refl (asked_now (AsksCall Sweep) ok)

    -- a walk that has just begun has marked nothing
    walk_so_far : (i : ℕ) (y : Situation) (worths : ℕ → W) → WalkSoFar X (with_walk X F (started_walk i y F.store p) p worths) p i y
    walk_so_far i y worths =
        let none : Notes W = record { marks = λ n. false; worths = worths } in
        let G = with_walk X F (started_walk i y F.store p) p worths in
        let T : Trail = along i (F.store.slot p i) [] in
        let clear : (n : ℕ) → (G.notes p).marks n ≡ false = λ n. ap (λ o. o.marks n) (upd_same F.notes p none) in
        record {
          at = F.store.slot p i;
          before = [];
          entered = upd_same F.store.trail p T;
          of_term = λ n h. absurd (true≢false (sym h ∙ clear n));
          with_kids = λ n k h z. absurd (true≢false (sym h ∙ clear n));
          worths = λ n h. absurd (true≢false (sym h ∙ clear n));
          to_come = subst (OnTrail (λ n. (G.notes p).marks n ≡ false)) (sym (upd_same F.store.trail p T)) (clear (F.store.slot p i), tt);
        }

    -- an accepted walk
    walk_plainly : (w : Walk) (y : Situation) (worths : ℕ → W) → begin_fault_of X F p (AsksWalk w) l ≡ None → Describes y w.range w.gear w.temperature
        → After t asked (Begins p (AsksWalk w) l) (Ok Begun) (with_walk X F (started_walk w.slot y F.store p) p worths)
    walk_plainly w y worths ok dy =
        let s = F.store in
        let T : Trail = along w.slot (s.slot p w.slot) [] in
        let r : Running D = WalkReads y ReadNothing in
        let G = with_walk X F (started_walk w.slot y s p) p worths in
        let facts = walk_passed X.suits (s.slot p) (s.trail p) w (passed X.suits X.parties X.nodes (not (is_idle (s.run p))) p (AsksWalk w) l (s.slot p) (s.trail p) ok).faultless in
        let S : Agrees X G t = agrees_on X F t O.agrees G refl refl
        (λ q. upd_all (λ j ρ. shown ρ (upd s.trail p T j) ≡ shown (s.run j) (s.trail j)) s.run p r (sym facts.3 ∙ ap (λ ρ. shown ρ (s.trail p)) (sym (idle (AsksWalk w) ok))) q (λ d. ap (shown (s.run q)) (upd_other s.trail p q T d)))
        (λ n _. (refl, refl)) in
        runs (AsksWalk w) ok (Ok Begun) G (walk_begun y worths ok dy refl refl) (λ q d. apart_walk_begun X F p q d w.slot y worths) S
        (subst (Underway X G t p (ask (AsksWalk w) ok)) (sym (upd_same s.run p r)) ((w, asked_now (AsksWalk w) ok, dy, walk_so_far w.slot y worths), tt))

    -- a refused Begin
    refused_plainly : (c : Asked D) (e : Refusal) → begin_fault_of X F p c l ≡ Some e → After t asked (Begins p c l) (Err e) F
    refused_plainly c e h =
        let fault : Bool → (ℕ → ℕ) → Trail → Type 0 = λ b f T. begin_fault X.suits X.parties X.nodes b p c l f T ≡ Some e in
        let k : Ask D = record { party = p; asked = c; lengths = l } in
        let s = F.store in
        let same : number_of e ≢ 11 → fault false (t.slot p) (t.trail p) = λ z. elim (cases_Bool (is_idle (s.run p))) [
          | inl i ↦ fault_same X.suits X.parties X.nodes false p c l (t.slot p) (s.slot p) (t.trail p) (s.trail p) (ap (λ v. v p) O.agrees.slots)
              (O.agrees.trails p ∙ ap (λ r. shown r (s.trail p)) (idle_is (s.run p) (ap not i))) ∙ subst (λ v. fault (not v) (s.slot p) (s.trail p)) i h
          | inr i ↦ fault_early X.suits X.parties X.nodes p c l (s.slot p) (t.slot p) (s.trail p) (t.trail p) e z (subst (λ v. fault (not v) (s.slot p) (s.trail p)) i h)
        ] in (
          t,
          elim (cases_eq (number_of e) 11) [
            | inl z ↦ subst (λ v. PlainRun X t (cond v [] ((k, Err e) ∷ [])) t) (sym (eq-eqb (number_of e) 11 z)) ends
            | inr z ↦ subst (λ v. PlainRun X t (cond v [] ((k, Err e) ∷ [])) t) (sym (ne_eqb (number_of e) 11 z)) (next (turned_down (same z)) ends)
          ],
          O,
        )

    -- every Begin
    pub begin_refused_plainly : (c : Asked D) (e : Refusal) (o : Outcome D W) (G : System D W A B) → begin_fault_of X F p c l ≡ Some e → o ≡ Err e → G ≡ F → After t asked (Begins p c l) o G
    begin_refused_plainly c e o G h eo eG = subst (After t asked (Begins p c l) o) (sym eG) (subst (λ v. After t asked (Begins p c l) v F) (sym eo) (refused_plainly c e h))

    pub call_begun_plainly : (c : Call D) (o : Outcome D W) (G : System D W A B) → begin_fault_of X F p (AsksCall c) l ≡ None → o ≡ tells_begun c → G ≡ with_store X F (started c F.store p) → After t asked (Begins p (AsksCall c) l) o G
    call_begun_plainly c o G h eo eG =
        subst (After t asked (Begins p (AsksCall c) l) o) (sym eG) (subst (λ v. After t asked (Begins p (AsksCall c) l) v (with_store X F (started c F.store p))) (sym eo) (call_plainly c h))

    pub walk_begun_plainly : (w : Walk) (y : Situation) (worths : ℕ → W) (o : Outcome D W) (G : System D W A B) → begin_fault_of X F p (AsksWalk w) l ≡ None → Describes y w.range w.gear w.temperature
        → o ≡ Ok Begun → G ≡ with_walk X F (started_walk w.slot y F.store p) p worths → After t asked (Begins p (AsksWalk w) l) o G
    walk_begun_plainly w y worths o G h dy eo eG =
        subst (After t asked (Begins p (AsksWalk w) l) o) (sym eG) (subst (λ v. After t asked (Begins p (AsksWalk w) l) v (with_walk X F (started_walk w.slot y F.store p) p worths)) (sym eo) (walk_plainly w y worths h dy))
