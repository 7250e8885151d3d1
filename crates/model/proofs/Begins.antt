-- A Begin that passes its checks keeps the store sound.
use Rattle.std.proofs.Common.{◌≡◌, ℕ, ◌≤◌, Bool, true, false, not, ◌||◌, eqb, leb, ◌≢◌, List, [], ◌∷◌, is_some, None, sym, refl, ap, ◌∙◌, subst, inl, inr, true≢false, arith}
use Rattle.std.proofs.lemmas.Bool.{eqb-true, eqb-false, leb-true, not-false, and_cases, or_parts}
use Rattle.refusals.specs.declared.Refusal.{Refusal}
use Rattle.refusals.specs.declared.Refusal.TheVariants.{NoSuchParty, NoSuchSlot, ShortList, DataDoesNotFit, BadSituation, Busy, SlotEmpty, SlotFilled, NoTrail, TrailStands}
use Rattle.kinds.specs.Situations.{in_limits}
use Rattle.kinds.specs.declared.kids.PerKid.{PerKid}
use Rattle.model.specs.Types.{Lengths, Kid, First, Second, Third, Kids, OpenTray, LookForNode, Plan, Makes, Sweeps, ReadNothing, Running, Idle, Reads, GoesDown, Keeps, Drops, Hands, Fetches, Works, WalkReads, Call, Enter, Up, Leave, Read, Down, Keep, Drop, Hand, Fetch, Make, Sweep, Walk, Asked, AsksCall, AsksWalk, Situation}
use Rattle.model.specs.State.{kid_at, Trail, no_trail, along, shorter, Store, set_trail, set_run}
use Rattle.model.specs.Steps.{between}
use Rattle.model.specs.Checks.{last_slot, last_kid, first_fault, is_none, entered_at, no_slot, no_kid_slot, kid_slot_empty, given_by, no_receiver, too_short, call_faults, walk_faults, faults, begin_fault, is_idle}
use Rattle.model.specs.Inv.{none, reliance, needs_of, Own, Fit, LocalOf}
use Rattle.model.specs.Sound.{Into, on_trail, opens, TrailAt, Sound}
use Rattle.model.specs.Begins.{kid_of, started, started_walk}
use Rattle.model.proofs.Between.{within}
use Rattle.model.proofs.Sums.{upd_same}
use Rattle.model.proofs.Make.{idle_claim}
use Rattle.model.proofs.Fill.{no_needs}
use Rattle.model.proofs.Trails.{sound_run, sound_trail, up_trail}

-- the first of several checks is passed, and so are the rest
pub passes : (b : Bool) (e : Refusal) (rest : List (Bool × Refusal)) → first_fault ((b, e) ∷ rest) ≡ None → (b ≡ false) × (first_fault rest ≡ None)
passes true e rest h = absurd (true≢false (ap is_some h))
passes false e rest h = (refl, h)

pub is_between : (low high n : ℕ) → not (between low high n) ≡ false → (low ≤ n) × (n ≤ high)
is_between low high n h = within low high n (not-false (between low high n) h)

pub is_slot : (i : ℕ) → no_slot i ≡ false → (1 ≤ i) × (i ≤ last_slot)
is_slot i h = is_between 1 last_slot i h

pub is_empty : (n : ℕ) → not (eqb n 0) ≡ false → n ≡ 0
is_empty n h = eqb-true n 0 (not-false (eqb n 0) h)

pub kid_slot : (i : ℕ) → no_kid_slot i ≡ false → i ≤ last_slot
kid_slot i h = leb-true i last_slot (not-false (leb i last_slot) h)

-- a kid slot that is given is filled
pub kid_filled : (slots : ℕ → ℕ) (i : ℕ) → kid_slot_empty slots i ≡ false → i ≢ 0 → slots i ≢ 0
kid_filled slots i h z e = elim (and_cases (not (eqb i 0)) (eqb (slots i) 0) h) [
  | inl u ↦ z (is_empty i u)
  | inr u ↦ eqb-false (slots i) 0 u e
]

-- what none of three kids has, each has not
each : (fault : ℕ → Bool) (ks : Kids) (k : Kid) → (fault ks.first || (fault ks.second || fault ks.third)) ≡ false → fault (kid_at ks k) ≡ false
each fault ks First h = (or_parts (fault ks.first) (fault ks.second || fault ks.third) h).0
each fault ks Second h = (or_parts (fault ks.second) (fault ks.third) (or_parts (fault ks.first) (fault ks.second || fault ks.third) h).1).0
each fault ks Third h = (or_parts (fault ks.second) (fault ks.third) (or_parts (fault ks.first) (fault ks.second || fault ks.third) h).1).1

pub idle_is : {D : Type 0} (r : Running D) → not (is_idle r) ≡ false → r ≡ Idle
idle_is Idle h = refl
idle_is _ h = absurd (true≢false h)

pub none_stands : (t : Trail) → is_none t ≡ true → t ≡ no_trail
none_stands no_trail h = refl
none_stands (along i n ns) h = absurd (true≢false (sym h))

module _ {D : Type 0} (suits : D → PerKid Bool → Bool) where
  -- what every accepted Begin shows, whatever is asked
  pub record Accepted (N M : ℕ) (busy : Bool) (p : ℕ) (asked : Asked D) (l : Lengths) (slots : ℕ → ℕ) (t : Trail) : Type 0 where
    pub party_low : 1 ≤ p
    pub party_high : p ≤ N
    pub receiver : no_receiver N asked ≡ false
    pub lengths : too_short M asked l ≡ false
    pub not_busy : busy ≡ false
    pub faultless : first_fault (faults suits asked slots t) ≡ None

  pub accepted : (N M : ℕ) (busy : Bool) (p : ℕ) (asked : Asked D) (l : Lengths) (slots : ℕ → ℕ) (t : Trail) → begin_fault suits N M busy p asked l slots t ≡ None → Accepted N M busy p asked l slots t
  accepted N M busy p asked l slots t h =
      let own = faults suits asked slots t in
      let u = passes (not (between 1 N p) || no_receiver N asked) NoSuchParty ((too_short M asked l, ShortList) ∷ (busy, Busy) ∷ own) h in
      let v = passes (too_short M asked l) ShortList ((busy, Busy) ∷ own) u.1 in
      let w = passes busy Busy own v.1 in
      let o = or_parts (not (between 1 N p)) (no_receiver N asked) u.0 in
      let r = is_between 1 N p o.0 in
      record { party_low = r.0; party_high = r.1; receiver = o.1; lengths = v.0; not_busy = w.0; faultless = w.1 }

  -- the party that begins has nothing running
  pub accepted_idle : (N M : ℕ) (s : Store D) (p : ℕ) (asked : Asked D) (l : Lengths) → begin_fault suits N M (not (is_idle (s.run p))) p asked l (s.slot p) (s.trail p) ≡ None → s.run p ≡ Idle
  accepted_idle N M s p asked l h = idle_is (s.run p) (accepted N M (not (is_idle (s.run p))) p asked l (s.slot p) (s.trail p) h).not_busy

  module _ (slots : ℕ → ℕ) (t : Trail) where
    pub enter_passed : (i : ℕ) → first_fault (call_faults suits (Enter i) slots t) ≡ None → (1 ≤ i) × (i ≤ last_slot) × (t ≡ no_trail) × (slots i ≢ 0)
    enter_passed i h =
        let u = passes (no_slot i) NoSuchSlot ((not (is_none t), TrailStands) ∷ (eqb (slots i) 0, SlotEmpty) ∷ []) h in
        let v = passes (not (is_none t)) TrailStands ((eqb (slots i) 0, SlotEmpty) ∷ []) u.1 in
        let w = passes (eqb (slots i) 0) SlotEmpty [] v.1 in
        let r = is_slot i u.0 in
        (r.0, r.1, none_stands t (not-false (is_none t) v.0), eqb-false (slots i) 0 w.0)

    -- Up, Leave and Read have one check
    pub up_passed : first_fault (call_faults suits Up slots t) ≡ None → is_none t ≡ false
    up_passed h = (passes (is_none t) NoTrail [] h).0

    pub down_passed : (k : ℕ) → first_fault (call_faults suits (Down k) slots t) ≡ None → (1 ≤ k) × (k ≤ 3) × (is_none t ≡ false)
    down_passed k h =
        let u = passes (not (between 1 last_kid k)) NoSuchSlot ((is_none t, NoTrail) ∷ []) h in
        let r = is_between 1 last_kid k u.0 in
        (r.0, r.1, (passes (is_none t) NoTrail [] u.1).0)

    pub keep_passed : (i : ℕ) → first_fault (call_faults suits (Keep i) slots t) ≡ None → (1 ≤ i) × (i ≤ last_slot) × (is_none t ≡ false) × (slots i ≡ 0)
    keep_passed i h =
        let u = passes (no_slot i) NoSuchSlot ((is_none t, NoTrail) ∷ (not (eqb (slots i) 0), SlotFilled) ∷ []) h in
        let v = passes (is_none t) NoTrail ((not (eqb (slots i) 0), SlotFilled) ∷ []) u.1 in
        let w = passes (not (eqb (slots i) 0)) SlotFilled [] v.1 in
        let r = is_slot i u.0 in
        (r.0, r.1, v.0, is_empty (slots i) w.0)

    -- Drop and Hand have the same checks, but for a Hand's receiver
    pub drop_passed : (i : ℕ) → first_fault (call_faults suits (Drop i) slots t) ≡ None → (1 ≤ i) × (i ≤ last_slot) × (entered_at t i ≡ false) × (slots i ≢ 0)
    drop_passed i h =
        let u = passes (no_slot i) NoSuchSlot ((entered_at t i, TrailStands) ∷ (eqb (slots i) 0, SlotEmpty) ∷ []) h in
        let v = passes (entered_at t i) TrailStands ((eqb (slots i) 0, SlotEmpty) ∷ []) u.1 in
        let w = passes (eqb (slots i) 0) SlotEmpty [] v.1 in
        let r = is_slot i u.0 in
        (r.0, r.1, v.0, eqb-false (slots i) 0 w.0)

    pub fetch_passed : (i : ℕ) → first_fault (call_faults suits (Fetch i) slots t) ≡ None → (1 ≤ i) × (i ≤ last_slot) × (slots i ≡ 0)
    fetch_passed i h =
        let u = passes (no_slot i) NoSuchSlot ((not (eqb (slots i) 0), SlotFilled) ∷ []) h in
        let w = passes (not (eqb (slots i) 0)) SlotFilled [] u.1 in
        let r = is_slot i u.0 in
        (r.0, r.1, is_empty (slots i) w.0)

    -- what an accepted Make shows
    pub record MakePassed (plan : Plan D) : Type 0 where
      pub slot_low : 1 ≤ plan.slot
      pub slot_high : plan.slot ≤ last_slot
      pub kid_high : (k : Kid) → kid_at plan.kids k ≤ last_slot
      pub kid_there : (k : Kid) → kid_at plan.kids k ≢ 0 → slots (kid_at plan.kids k) ≢ 0
      pub slot_empty : slots plan.slot ≡ 0
      pub data_suits : suits plan.given (given_by plan.kids) ≡ true

    pub make_passed : (plan : Plan D) → first_fault (call_faults suits (Make plan) slots t) ≡ None → MakePassed plan
    make_passed plan h =
        let ks = plan.kids in
        let low = no_kid_slot ks.first || (no_kid_slot ks.second || no_kid_slot ks.third) in
        let gap = kid_slot_empty slots ks.first || (kid_slot_empty slots ks.second || kid_slot_empty slots ks.third) in
        let full = not (eqb (slots plan.slot) 0) in
        let odd = not (suits plan.given (given_by ks)) in
        let u = passes (no_slot plan.slot || low) NoSuchSlot ((gap, SlotEmpty) ∷ (full, SlotFilled) ∷ (odd, DataDoesNotFit) ∷ []) h in
        let v = passes gap SlotEmpty ((full, SlotFilled) ∷ (odd, DataDoesNotFit) ∷ []) u.1 in
        let w = passes full SlotFilled ((odd, DataDoesNotFit) ∷ []) v.1 in
        let x = passes odd DataDoesNotFit [] w.1 in
        let y = or_parts (no_slot plan.slot) low u.0 in
        let r = is_slot plan.slot y.0 in
        record {
          slot_low = r.0;
          slot_high = r.1;
          slot_empty = is_empty (slots plan.slot) w.0;
          data_suits = not-false (suits plan.given (given_by ks)) x.0;
          kid_high = λ k. kid_slot (kid_at ks k) (each no_kid_slot ks k y.1);
          kid_there = λ k. kid_filled slots (kid_at ks k) (each (kid_slot_empty slots) ks k v.0);
        }

    pub walk_passed : (w : Walk) → first_fault (walk_faults suits w slots t) ≡ None → (1 ≤ w.slot) × (w.slot ≤ last_slot) × (in_limits w.range w.gear w.temperature ≡ true) × (t ≡ no_trail) × (slots w.slot ≢ 0)
    walk_passed w h =
        let fine = in_limits w.range w.gear w.temperature in
        let gap = eqb (slots w.slot) 0 in
        let u = passes (no_slot w.slot) NoSuchSlot ((not fine, BadSituation) ∷ (not (is_none t), TrailStands) ∷ (gap, SlotEmpty) ∷ []) h in
        let v = passes (not fine) BadSituation ((not (is_none t), TrailStands) ∷ (gap, SlotEmpty) ∷ []) u.1 in
        let x = passes (not (is_none t)) TrailStands ((gap, SlotEmpty) ∷ []) v.1 in
        let y = passes gap SlotEmpty [] x.1 in
        let r = is_slot w.slot u.0 in
        (r.0, r.1, not-false fine v.0, none_stands t (not-false (is_none t) x.0), eqb-false (slots w.slot) 0 y.0)

-- a trail stands beside a call that takes from another slot
trail_beside : (kids : ℕ → Kids) (slots : ℕ → ℕ) (source i : ℕ) (T : Trail) → entered_at T i ≡ false → TrailAt kids slots source T → TrailAt kids slots i T
trail_beside kids slots source i no_trail h t = tt
trail_beside kids slots source i (along j n ns) h t = (t.0, t.1, t.2, t.3, λ z. eqb-false j i h (sym z))

module _ {D : Type 0} (suits : D → PerKid Bool → Bool) (N M : ℕ) (s : Store D) (S : Sound N M s) (p : ℕ) (a : 1 ≤ p) (b : p ≤ N) (e : s.run p ≡ Idle) where
  abbrev Passed : Call D → Type 0
  Passed c = first_fault (call_faults suits c (s.slot p) (s.trail p)) ≡ None

  abbrev entered : ℕ → Trail
  entered i = along i (s.slot p i) []

  no_source : (needs_of (s.run p)).source ≡ 0
  no_source = ap (λ r. (needs_of r).source) e

  trail_as : TrailAt s.kids (s.slot p) 0 (s.trail p)
  trail_as = subst (λ j. TrailAt s.kids (s.slot p) j (s.trail p)) no_source (S.trails p a b)

  -- an idle party's trail becomes another
  moves : (T : Trail) → TrailAt s.kids (s.slot p) (needs_of (s.run p)).source T → Sound N M (set_trail s p T)
  moves T h = sound_trail N M s S p a b T h (λ z. absurd (true≢false (sym z ∙ ap on_trail e)))

  enters : (i : ℕ) → 1 ≤ i → i ≤ last_slot → s.slot p i ≢ 0 → Sound N M (set_trail s p (entered i))
  enters i h k z = moves (entered i) (refl, h, k, z, λ y. (let u = no_source in omega arith))

  -- an idle party begins a call that runs
  runs : (r : Running D) → reliance r ≡ none → Own (s.slot p) (s.inbox p) (needs_of r) → Fit N r → Into r
      → TrailAt s.kids (s.slot p) (needs_of r).source (s.trail p) → (on_trail r ≡ true → is_none (s.trail p) ≡ false) → Sound N M (set_run s p r)
  runs r c o f i T U = sound_run N M s S p a b r (ap reliance e) c (ap opens e)
      (subst (λ k. LocalOf M s p k (needs_of r).wants) (sym c) (idle_claim N M s S.inv p a b s (needs_of r).wants), o, f) i T U

  wants_nothing : Own (s.slot p) (s.inbox p) (needs_of {D = D} Idle)
  wants_nothing = (no_needs N M s S.inv p a b s).1

  -- a call that fills a slot, one that takes from a slot
  fills : (i : ℕ) → i ≤ last_slot → s.slot p i ≡ 0 → Own (s.slot p) (s.inbox p) (needs_of {D = D} (Keeps i))
  fills i h z = record { into_is = λ _. (h, z); source_is = λ z. absurd (z refl); wants_is = λ k z. absurd (z refl); boxed_is = λ z. absurd (z refl) }

  takes : (i : ℕ) → i ≤ last_slot → s.slot p i ≢ 0 → Own (s.slot p) (s.inbox p) (needs_of {D = D} (Drops i))
  takes i h z = record { into_is = λ z. absurd (z refl); source_is = λ _. (h, z); wants_is = λ k z. absurd (z refl); boxed_is = λ z. absurd (z refl) }

  starts_keep : (i : ℕ) → Passed (Keep i) → Sound N M (started (Keep i) s p)
  starts_keep i h = let w = keep_passed suits (s.slot p) (s.trail p) i h in runs (Keeps i) refl (fills i w.1 w.3) w.0 tt trail_as (λ _. w.2)

  starts_fetch : (i : ℕ) → Passed (Fetch i) → Sound N M (started (Fetch i) s p)
  starts_fetch i h = let w = fetch_passed suits (s.slot p) (s.trail p) i h in runs (Fetches i) refl (fills i w.1 w.2) w.0 tt trail_as (λ z. absurd (true≢false (sym z)))

  starts_drop : (i : ℕ) → Passed (Drop i) → Sound N M (started (Drop i) s p)
  starts_drop i h = let w = drop_passed suits (s.slot p) (s.trail p) i h in
      runs (Drops i) refl (takes i w.1 w.3) w.0 tt (trail_beside s.kids (s.slot p) 0 i (s.trail p) w.2 trail_as) (λ z. absurd (true≢false (sym z)))

  starts_hand : (i q : ℕ) → (1 ≤ q) × (q ≤ N) → Passed (Hand i q) → Sound N M (started (Hand i q) s p)
  starts_hand i q g h = let w = drop_passed suits (s.slot p) (s.trail p) i h in
      runs (Hands i q) refl (takes i w.1 w.3) (w.0, g.0, g.1) tt (trail_beside s.kids (s.slot p) 0 i (s.trail p) w.2 trail_as) (λ z. absurd (true≢false (sym z)))

  starts_make : (plan : Plan D) → Passed (Make plan) → Sound N M (started (Make plan) s p)
  starts_make plan h = let w = make_passed suits (s.slot p) (s.trail p) plan h in
      runs (Works (Makes plan) OpenTray) refl
      (record { into_is = λ _. (w.slot_high, w.slot_empty); source_is = λ z. absurd (z refl); wants_is = λ k z. (w.kid_high k, w.kid_there k z); boxed_is = λ z. absurd (z refl) })
      (tt, tt) w.slot_low trail_as (λ z. absurd (true≢false (sym z)))

  starts : (c : Call D) → no_receiver N (AsksCall c) ≡ false → Passed c → Sound N M (started c s p)
  starts (Enter i) g h = let w = enter_passed suits (s.slot p) (s.trail p) i h in enters i w.0 w.1 w.3
  starts Up g h = moves (shorter (s.trail p)) (up_trail N M s S p a b)
  starts Leave g h = moves no_trail tt
  starts Read g h = runs (Reads ReadNothing) refl wants_nothing tt tt trail_as (λ _. up_passed suits (s.slot p) (s.trail p) h)
  starts (Down k) g h = runs (GoesDown (kid_of k)) refl wants_nothing tt tt trail_as (λ _. (down_passed suits (s.slot p) (s.trail p) k h).2)
  starts (Keep i) g h = starts_keep i h
  starts (Drop i) g h = starts_drop i h
  starts (Hand i q) g h = starts_hand i q (is_between 1 N q g) h
  starts (Fetch i) g h = starts_fetch i h
  starts (Make plan) g h = starts_make plan h
  starts Sweep g h = runs (Works Sweeps LookForNode) refl wants_nothing (tt, tt) tt trail_as (λ z. absurd (true≢false (sym z)))

  starts_walk : (w : Walk) (t : Situation) → first_fault (walk_faults suits w (s.slot p) (s.trail p)) ≡ None → Sound N M (started_walk w.slot t s p)
  starts_walk w t h =
      let i = w.slot in
      let v = walk_passed suits (s.slot p) (s.trail p) w h in
      let E = enters i v.0 v.1 v.4 in
      let u = set_trail s p (entered i) in
      sound_run N M u E p a b (WalkReads t ReadNothing) (ap reliance e) refl (ap opens e) (no_needs N M u E.inv p a b u) tt
      (subst (λ j. TrailAt u.kids (u.slot p) j (u.trail p)) no_source (E.trails p a b)) (λ _. ap is_none (upd_same s.trail p (entered i)))

-- an accepted call keeps the store sound
pub sound_started : {D : Type 0} (suits : D → PerKid Bool → Bool) (N M : ℕ) (s : Store D) → Sound N M s → (p : ℕ) (c : Call D) (l : Lengths)
    → begin_fault suits N M (not (is_idle (s.run p))) p (AsksCall c) l (s.slot p) (s.trail p) ≡ None → Sound N M (started c s p)
sound_started suits N M s S p c l h =
    let A = accepted suits N M (not (is_idle (s.run p))) p (AsksCall c) l (s.slot p) (s.trail p) h in
    starts suits N M s S p A.party_low A.party_high (idle_is (s.run p) A.not_busy) c A.receiver A.faultless

-- an accepted walk keeps the store sound
pub sound_started_walk : {D : Type 0} (suits : D → PerKid Bool → Bool) (N M : ℕ) (s : Store D) → Sound N M s → (p : ℕ) (w : Walk) (l : Lengths) (t : Situation)
    → begin_fault suits N M (not (is_idle (s.run p))) p (AsksWalk w) l (s.slot p) (s.trail p) ≡ None → Sound N M (started_walk w.slot t s p)
sound_started_walk suits N M s S p w l t h =
    let A = accepted suits N M (not (is_idle (s.run p))) p (AsksWalk w) l (s.slot p) (s.trail p) h in
    starts_walk suits N M s S p A.party_low A.party_high (idle_is (s.run p) A.not_busy) w t A.faultless
