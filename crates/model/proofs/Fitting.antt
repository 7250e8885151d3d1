-- The data of every reached node fits its kids, and what a Make is to write fits the kids it is given: every Begin and every
-- step keeps that.
use Rattle.std.proofs.Common.{◌≡◌, ℕ, suc, ◌+◌, ◌-◌, ◌≤◌, Bool, true, false, cond, not, eqb, ◌≢◌, ◌⊎◌, [], Some, None, sym, refl, ap, ◌∙◌, subst, inl, inr, arith}
use Rattle.std.proofs.lemmas.Bool.{cases_eq, cond_both, eq-eqb, ne_eqb}
use Rattle.kinds.specs.declared.kids.PerKid.{PerKid}
use Rattle.model.specs.Fun.{upd}
use Rattle.model.specs.Types.{Lengths, Event, Kid, First, Second, Third, Kids, Tray, Closed, Open, Holding, Place, OpenTray, ReadTray, LookForNode, LockNode, Recheck, UnlockAndGoBack, ReadKid, ClearKid, UncountKid, Claim, Unlock, Offer, KeepForOneself, GiveBack, CloseTray, WriteData, CountKid, LinkKid, Plan, Job, Makes, Sweeps, Reading, ReadNothing, Running, Idle, Reads, GoesDown, Keeps, Drops, Hands, Fetches, TakesOut, Works, WalkReads, WalkGoesDown, Call, Enter, Up, Leave, Read, Down, Keep, Drop, Hand, Fetch, Make, Sweep, AsksCall, Situation, Word, DataWord, CountOf, TrayOf, Nowhere, Outcome, Change, Told, Tells, Settles, Decision}
use Rattle.model.specs.State.{position, kid_at, put_kid, Trail, no_trail, along, shorter, longer, new_store, Store, set_count, set_lock, set_kid, set_inbox, set_tray, set_slot, set_trail, set_run, last}
use Rattle.model.specs.Steps.{between, own_address, data_written, after_kid, address, loaded, decide, decision, stepped, data_after, going, from_third, from_second, from_first}
use Rattle.model.specs.Checks.{last_slot, first_fault, call_faults, begin_fault, given_by, is_idle}
use Rattle.model.specs.Begins.{kid_of, started, started_walk}
use Rattle.model.specs.Walks.{Notes, first_unmarked, gone_up, resumes, settled_store}
use Rattle.model.specs.Reach.{Reach, by_slot, by_box, by_kid, Reached}
use Rattle.model.specs.Inv.{reliance_at, reliance, carry, FitPlace, Fit, Good}
use Rattle.model.specs.Sound.{on_trail, Sound}
use Rattle.model.specs.Setting.{Setting}
use Rattle.model.specs.Runs.{System, moved_as, Steps, Moves, begin_refused, call_begun, walk_begun, turn_refused, turn, walk_turn_refused, walk_turn}
use Rattle.model.specs.Opened.{WrittenSoFar, New}
use Rattle.model.specs.Existing.{CanExist, new, moved, ReachedDataFits}
use Rattle.model.proofs.Gives.{first_by, after_by}
use Rattle.model.proofs.Explicit.{is_open, back, made, give_first, give_after, at_ReadTray, own_tray, place_step, read_on_at, down_to, turn_at}
use Rattle.model.proofs.Sums.{upd_same, upd_other}
use Rattle.model.proofs.Refs.{carry_one}
use Rattle.model.proofs.Frames.{upd_all, alone_refs}
use Rattle.model.proofs.Wants.{wants, wants_none, wants_some, Shape, shape_past}
use Rattle.model.proofs.Make.{good, position_same, put_same, put_other, position_pos, position_low}
use Rattle.model.proofs.Stays.{out_empty, out_one}
use Rattle.model.proofs.Trails.{last_reached}
use Rattle.model.proofs.Accepted.{turn_passed, walk_turn_passed}
use Rattle.model.proofs.Begins.{accepted, make_passed}

-- every reached node's data fits its kids; a Make's plan fits, and what it has written is the plan's
pub record Fitting {D : Type 0} (suits : D → PerKid Bool → Bool) (N : ℕ) (s : Store D) (info : ℕ → D) : Type 0 where
  pub reached : (n : ℕ) → Reached N s n → suits (info n) (given_by (s.kids n)) ≡ true
  pub plans : (q : ℕ) → 1 ≤ q → q ≤ N → (plan : Plan D) (c : Place) → s.run q ≡ Works (Makes plan) c → (suits plan.given (given_by plan.kids) ≡ true) × WrittenSoFar info plan c

-- the data after a step: only a Make writes any
abbrev pub data_at : {D : Type 0} → Running D → (ℕ → D) → ℕ → D
data_at r info = elim r [
  | Works j c ↦ elim c [
    | WriteData v ↦ elim j [ Makes plan ↦ upd info v plan.given | Sweeps ↦ info ]
    | OpenTray ↦ info
    | ReadTray ↦ info
    | LookForNode ↦ info
    | LockNode n ↦ info
    | Recheck n ↦ info
    | UnlockAndGoBack n ↦ info
    | ReadKid n k ↦ info
    | ClearKid n k w ↦ info
    | UncountKid n k w ↦ info
    | Claim n ↦ info
    | Unlock n ↦ info
    | Offer n ↦ info
    | KeepForOneself n ↦ info
    | GiveBack n ↦ info
    | CloseTray n ↦ info
    | CountKid v k ↦ info
    | LinkKid v k w ↦ info
  ]
  | Idle ↦ info
  | Reads g ↦ info
  | GoesDown k ↦ info
  | Keeps i ↦ info
  | Drops i ↦ info
  | Hands i q ↦ info
  | Fetches i ↦ info
  | TakesOut i v ↦ info
  | WalkReads t g ↦ info
  | WalkGoesDown t k ↦ info
]

-- The data after a step is as said.
module _ {D : Type 0} (W : Type 0) where
  third_word : (plan : Plan D) (v : ℕ) (w : Word D) → (from_third {W = W} plan v w).word ≡ w
  third_word plan v w = cond_both (eqb plan.kids.third 0) (Rattle.model.specs.Steps.made {W = W} plan v w) (going w (Works (Makes plan) (CountKid v Third))) (λ d. d.word ≡ w) (λ _. refl) (λ _. refl)

  second_word : (plan : Plan D) (v : ℕ) (w : Word D) → (from_second {W = W} plan v w).word ≡ w
  second_word plan v w = cond_both (eqb plan.kids.second 0) (from_third {W = W} plan v w) (going w (Works (Makes plan) (CountKid v Second))) (λ d. d.word ≡ w) (λ _. third_word plan v w) (λ _. refl)

  first_word : (plan : Plan D) (v : ℕ) (w : Word D) → (from_first {W = W} plan v w).word ≡ w
  first_word plan v w = cond_both (eqb plan.kids.first 0) (from_second {W = W} plan v w) (going w (Works (Makes plan) (CountKid v First))) (λ d. d.word ≡ w) (λ _. second_word plan v w) (λ _. refl)

-- no data lies at a count or a tray
module _ {D : Type 0} where
  no_data_own : (info : ℕ → D) (w : Word D) (j : Job D) (p n : ℕ) → data_written info (own_address j p n) w ≡ info
  no_data_own info w (Makes plan) p n = refl
  no_data_own info w Sweeps p n = refl

  no_data_looked : (info : ℕ → D) (w : Word D) (M x : ℕ) → data_written info (cond (between 1 M x) (CountOf x) Nowhere) w ≡ info
  no_data_looked info w M x = cond_both (between 1 M x) (CountOf x) Nowhere (λ t. data_written info t w ≡ info) (λ _. refl) (λ _. refl)

  no_data_offered : (info : ℕ → D) (w : Word D) (N : ℕ) (j : Job D) (p x n : ℕ) → data_written info (cond (eqb x p) (own_address j p n) (cond (between 1 N x) (TrayOf x) Nowhere)) w ≡ info
  no_data_offered info w N j p x n = cond_both (eqb x p) (own_address j p n) (cond (between 1 N x) (TrayOf x) Nowhere) (λ t. data_written info t w ≡ info) (λ _. no_data_own info w j p n)
      (λ _. cond_both (between 1 N x) (TrayOf x) Nowhere (λ t. data_written info t w ≡ info) (λ _. refl) (λ _. refl))

module _ {D : Type 0} (W : Type 0) where
  module _ (N M : ℕ) (s : Store D) (info : ℕ → D) (p x : ℕ) (slots : ℕ → ℕ) (n : ℕ) where
    abbrev word_of : Running D → Word D
    word_of r = (decide {W = W} r (loaded s info (address N M r p x slots n)) p x slots n).word

    abbrev DataIs : Running D → Type 0
    DataIs r = data_written info (address N M r p x slots n) (word_of r) ≡ data_at r info

    data_place : (c : Place) (j : Job D) → DataIs (Works j c)
    data_place LookForNode j = no_data_looked info (word_of (Works j LookForNode)) M x
    data_place (Offer m) j = no_data_offered info (word_of (Works j (Offer m))) N j p x m
    data_place (WriteData v) (Makes plan) = ap (λ w. data_written info (address N M (Works (Makes plan) (WriteData v)) p x slots n) w) (first_word W plan v (DataWord plan.given))
    data_place (WriteData v) Sweeps = refl
    data_place _ j = refl

    data_running : (r : Running D) → DataIs r
    data_running (Works j c) = data_place c j
    data_running (Reads ReadNothing) = refl
    data_running (WalkReads t ReadNothing) = refl
    data_running _ = refl

-- what the specification's step makes of the data
pub data_after_lem : {D : Type 0} (W : Type 0) (N M : ℕ) (s : Store D) (info : ℕ → D) (p x : ℕ) → data_after N M s info p x (decision {W = W} N M s info p x) ≡ data_at (s.run p) info
data_after_lem W N M s info p x = data_running W N M s info p x (s.slot p) (last s p) (s.run p)

-- what roots and kids of the new store are reached in the old one, all is
pub reach_into : {D : Type 0} (N : ℕ) (s t : Store D) → ((q i : ℕ) → 1 ≤ q → q ≤ N → 1 ≤ i → i ≤ last_slot → t.slot q i ≢ 0 → Reached N s (t.slot q i)) → ((q : ℕ) → 1 ≤ q → q ≤ N → t.inbox q ≢ 0 → Reached N s (t.inbox q))
    → ((n : ℕ) → Reached N s n → t.kids n ≡ s.kids n) → {n : ℕ} → Reached N t n → Reached N s n
reach_into N s t f g k (by_slot q i a b c d e z) = subst (Reached N s) e (f q i a b c d (λ y. z (sym e ∙ y)))
reach_into N s t f g k (by_box q a b e z) = subst (Reached N s) e (g q a b (λ y. z (sym e ∙ y)))
reach_into N s t f g k (by_kid m j r e z) = let o = reach_into N s t f g k r in by_kid m j o (ap (λ u. kid_at u j) (sym (k m o)) ∙ e) z

-- a slot filled with v, whose kids are reached already, adds v alone
pub reach_more : (N : ℕ) (f : ℕ → ℕ → ℕ) (b : ℕ → ℕ) (kids : ℕ → Kids) (p i v : ℕ) → ((k : Kid) → kid_at (kids v) k ≢ 0 → Reach N f b kids (kid_at (kids v) k)) → {n : ℕ} → Reach N (upd f p (upd (f p) i v)) b kids n → (n ≡ v) ⊎ Reach N f b kids n
reach_more N f b kids p i v g {n} (by_slot q k h1 h2 h3 h4 e z) =
    elim (cases_eq q p) [
      | inr d ↦ inr (by_slot q k h1 h2 h3 h4 (ap (λ g. g k) (sym (upd_other f p q (upd (f p) i v) d)) ∙ e) z)
      | inl d ↦ (let u : upd (f p) i v k ≡ n = ap (λ g. g k) (sym (upd_same f p (upd (f p) i v))) ∙ ap (λ w. upd f p (upd (f p) i v) w k) (sym d) ∙ e in
          elim (cases_eq k i) [
            | inl c ↦ inl (sym u ∙ ap (upd (f p) i v) c ∙ upd_same (f p) i v)
            | inr c ↦ inr (by_slot q k h1 h2 h3 h4 (ap (λ w. f w k) d ∙ sym (upd_other (f p) i k v c) ∙ u) z)
          ])
    ]
reach_more N f b kids p i v g (by_box q h1 h2 e z) = inr (by_box q h1 h2 e z)
reach_more N f b kids p i v g {n} (by_kid m k r e z) =
    elim (reach_more N f b kids p i v g r) [
      | inr o ↦ inr (by_kid m k o e z)
      | inl q ↦ (let u : kid_at (kids v) k ≡ n = ap (λ w. kid_at (kids w) k) (sym q) ∙ e in inr (subst (Reach N f b kids) u (g k (λ y. z (sym u ∙ y)))))
    ]

-- a new store reaches nothing
pub new_reaches : (D : Type 0) (N : ℕ) {n : ℕ} → Reached {D = D} N new_store n → ⊥
new_reaches D N (by_slot q i a b c d e z) = z (sym e)
new_reaches D N (by_box q a b e z) = z (sym e)
new_reaches D N (by_kid m k r e z) = new_reaches D N r

-- what a Make has written stays while its node's data does
pub written_kept : {D : Type 0} (info info' : ℕ → D) (x : Plan D) (c : Place) → FitPlace c → ((v : ℕ) → 1 ≤ v → (reliance_at c).one ≡ v → info' v ≡ info v) → WrittenSoFar info x c → WrittenSoFar info' x c
written_kept info info' x (CountKid v k) f h d = h v f refl ∙ d
written_kept info info' x (LinkKid v k w) f h d = h v f.0 refl ∙ d
written_kept info info' x _ f h d = tt

pub after_kid_written : {D : Type 0} (info : ℕ → D) (n : ℕ) (k : Kid) (x : Plan D) → WrittenSoFar info x (after_kid n k)
after_kid_written info n First x = tt
after_kid_written info n Second x = tt
after_kid_written info n Third x = tt

module _ {D : Type 0} (suits : D → PerKid Bool → Bool) where
  -- what the invariant says of one party's running call
  abbrev Fine : (ℕ → D) → Running D → Type 0
  Fine info r = elim r [ Works j c ↦ elim j [ Makes plan ↦ (suits plan.given (given_by plan.kids) ≡ true) × WrittenSoFar info plan c | Sweeps ↦ Unit {0} ] | _ ↦ Unit {0} ]

  fine_at : (info : ℕ → D) (r : Running D) → ((plan : Plan D) (c : Place) → r ≡ Works (Makes plan) c → (suits plan.given (given_by plan.kids) ≡ true) × WrittenSoFar info plan c) → Fine info r
  fine_at info (Works (Makes plan) c) h = h plan c refl
  fine_at info _ h = tt

  fine_kept : (N : ℕ) (info info' : ℕ → D) (r : Running D) → Fit N r → ((v : ℕ) → 1 ≤ v → (reliance r).one ≡ v → info' v ≡ info v) → Fine info r → Fine info' r
  fine_kept N info info' (Works (Makes plan) c) f h d = (d.0, written_kept info info' plan c f.0 h d.1)
  fine_kept N info info' _ f h d = tt

  fitting : (N : ℕ) (s : Store D) (info : ℕ → D) → ((n : ℕ) → Reached N s n → suits (info n) (given_by (s.kids n)) ≡ true) → ((q : ℕ) → 1 ≤ q → q ≤ N → Fine info (s.run q)) → Fitting suits N s info
  fitting N s info h g = record { reached = h; plans = λ q x y plan c e. subst (Fine info) e (g q x y) }

  -- a new store fits, whatever the data
  pub fits_new : (N : ℕ) (info : ℕ → D) → Fitting suits N new_store info
  fits_new N info = fitting N new_store info (λ n r. absurd (new_reaches D N r)) (λ q x y. tt)

  module _ (N : ℕ) (s : Store D) (info : ℕ → D) (F : Fitting suits N s info) where
    fine_of : (q : ℕ) → 1 ≤ q → q ≤ N → Fine info (s.run q)
    fine_of q x y = fine_at info (s.run q) (F.plans q x y)

    -- a party begins, moves on, or ends, and nothing shared changes
    fits_run : (p : ℕ) (r : Running D) → Fine info r → Fitting suits N (set_run s p r) info
    fits_run p r h = fitting N (set_run s p r) info F.reached (λ q x y. upd_all (λ k f. Fine info f) s.run p r h q (λ d. fine_of q x y))

    fits_trail : (p : ℕ) (T : Trail) → Fitting suits N (set_trail s p T) info
    fits_trail p T = fitting N (set_trail s p T) info F.reached fine_of

    started_fits : (p : ℕ) (c : Call D) → first_fault (call_faults suits c (s.slot p) (s.trail p)) ≡ None → Fitting suits N (started c s p) info
    started_fits p (Enter i) h = fits_trail p (along i (s.slot p i) [])
    started_fits p Up h = fits_trail p (shorter (s.trail p))
    started_fits p Leave h = fits_trail p no_trail
    started_fits p Read h = fits_run p (Reads ReadNothing) tt
    started_fits p (Down k) h = fits_run p (GoesDown (kid_of k)) tt
    started_fits p (Keep i) h = fits_run p (Keeps i) tt
    started_fits p (Drop i) h = fits_run p (Drops i) tt
    started_fits p (Hand i q) h = fits_run p (Hands i q) tt
    started_fits p (Fetch i) h = fits_run p (Fetches i) tt
    started_fits p (Make plan) h = fits_run p (Works (Makes plan) OpenTray) ((make_passed suits (s.slot p) (s.trail p) plan h).data_suits, tt)
    started_fits p Sweep h = fits_run p (Works Sweeps LookForNode) tt

    -- an accepted call
    pub fits_started : (M p : ℕ) (c : Call D) (l : Lengths) → begin_fault suits N M (not (is_idle (s.run p))) p (AsksCall c) l (s.slot p) (s.trail p) ≡ None → Fitting suits N (started c s p) info
    fits_started M p c l h = started_fits p c (accepted suits N M (not (is_idle (s.run p))) p (AsksCall c) l (s.slot p) (s.trail p) h).faultless

  -- a walk that begins
  pub fits_started_walk : (N : ℕ) (s : Store D) (info : ℕ → D) → Fitting suits N s info → (i : ℕ) (t : Situation) (p : ℕ) → Fitting suits N (started_walk i t s p) info
  fits_started_walk N s info F i t p =
      let T : Trail = along i (s.slot p i) [] in
      fits_run N (set_trail s p T) info (fits_trail N s info F p T) p (WalkReads t ReadNothing) tt

  resumes_fine : (info : ℕ → D) (t : Situation) (T : Trail) → Fine info (resumes t T)
  resumes_fine info t no_trail = tt
  resumes_fine info t (along i n ns) = tt

  -- a walk that has read its last node
  pub fits_settled : {W : Type 0} (worth : D → Situation → W → W → W → W) (blank : W) (N : ℕ) (s : Store D) (info : ℕ → D) → Fitting suits N s info → (notes : Notes W) (p : ℕ) (t : Situation) (ks : Kids) → Fitting suits N (settled_store worth blank s notes p t ks) info
  fits_settled worth blank N s info F notes p t ks =
      elim (first_unmarked notes ks) as (λ o. Fitting suits N (elim o [ Some k ↦ set_run s p (WalkGoesDown t k) | None ↦ gone_up worth blank s p t ]) info) [
        | Some k ↦ fits_run N s info F p (WalkGoesDown t k) tt
        | None ↦ (let T : Trail = shorter (s.trail p) in fits_run N (set_trail s p T) info (fits_trail N s info F p T) p (resumes t T) (resumes_fine info t T))
      ]

-- A step of the party p.
module _ {D : Type 0} (suits : D → PerKid Bool → Bool) (N M : ℕ) (s : Store D) (S : Sound N M s) (info : ℕ → D) (p : ℕ) (a : 1 ≤ p) (b : p ≤ N) where
  -- what a store with p's words written has to do with s
  record Near (t : Store D) : Type 0 where
    slots : t.slot ≡ s.slot
    boxes : t.inbox ≡ s.inbox
    runs : t.run ≡ s.run
    kept : (n : ℕ) → Reached N s n → t.kids n ≡ s.kids n

  near : (t : Store D) → t.slot ≡ s.slot → t.inbox ≡ s.inbox → t.run ≡ s.run → t.kids ≡ s.kids → Near t
  near t e1 e2 e3 e4 = record { slots = e1; boxes = e2; runs = e3; kept = λ n r. ap (λ f. f n) e4 }

  near_kid : (n : ℕ) (k : Kid) (v : ℕ) → (Reached N s n → ⊥) → Near (set_kid s n k v)
  near_kid n k v out = record { slots = refl; boxes = refl; runs = refl; kept = λ m r. upd_other s.kids n m (put_kid (s.kids n) k v) (λ e. out (subst (Reached N s) e r)) }

  -- p's step to t, after which the data is info': what t reaches s reached, or it fits
  record After (info' : ℕ → D) (t : Store D) : Type 0 where
    own : Fine suits info' (t.run p)
    others : (q : ℕ) → q ≢ p → t.run q ≡ s.run q
    kept : (n : ℕ) → Reached N s n → t.kids n ≡ s.kids n
    reach : (n : ℕ) → Reached N t n → Reached N s n ⊎ (suits (info' n) (given_by (t.kids n)) ≡ true)

  pub old_slots : (q i : ℕ) → 1 ≤ q → q ≤ N → 1 ≤ i → i ≤ last_slot → s.slot q i ≢ 0 → Reached N s (s.slot q i)
  old_slots q i h1 h2 h3 h4 z = by_slot q i h1 h2 h3 h4 refl z

  pub old_boxes : (q : ℕ) → 1 ≤ q → q ≤ N → s.inbox q ≢ 0 → Reached N s (s.inbox q)
  old_boxes q h1 h2 z = by_box q h1 h2 refl z

  near_reach : (t : Store D) → Near t → {n : ℕ} → Reached N t n → Reached N s n
  near_reach t E r = reach_into N s t (λ q i h1 h2 h3 h4. subst (λ f. f q i ≢ 0 → Reached N s (f q i)) (sym E.slots) (old_slots q i h1 h2 h3 h4))
      (λ q h1 h2. subst (λ f. f q ≢ 0 → Reached N s (f q)) (sym E.boxes) (old_boxes q h1 h2)) E.kept r

  -- p moves on, slots and inboxes as they were
  to : (t : Store D) (r : Running D) (info' : ℕ → D) → Near t → Fine suits info' r → After info' (set_run t p r)
  to t r info' E h = record {
    own = subst (Fine suits info') (sym (upd_same t.run p r)) h;
    others = λ q d. upd_other t.run p q r d ∙ ap (λ f. f q) E.runs;
    kept = E.kept;
    reach = λ n y. inl (near_reach t E y);
  }

  -- p's call ends; slots and inboxes hold what was reached
  ends : (t : Store D) → t.run ≡ s.run → t.kids ≡ s.kids → ((q i : ℕ) → 1 ≤ q → q ≤ N → 1 ≤ i → i ≤ last_slot → t.slot q i ≢ 0 → Reached N s (t.slot q i)) → ((q : ℕ) → 1 ≤ q → q ≤ N → t.inbox q ≢ 0 → Reached N s (t.inbox q))
      → After info (set_run t p Idle)
  ends t e1 e2 f g = record {
    own = subst (Fine suits info) (sym (upd_same t.run p Idle)) tt;
    others = λ q d. upd_other t.run p q Idle d ∙ ap (λ f. f q) e1;
    kept = λ n r. ap (λ f. f n) e2;
    reach = λ n r. inl (reach_into N s (set_run t p Idle) f g (λ m _. ap (λ f. f m) e2) r);
  }

  -- one of p's slots is written with what is reached, or 0; and so an inbox
  pub slot_reached : (j v : ℕ) → (v ≢ 0 → Reached N s v) → (q i : ℕ) → 1 ≤ q → q ≤ N → 1 ≤ i → i ≤ last_slot → upd s.slot p (upd (s.slot p) j v) q i ≢ 0 → Reached N s (upd s.slot p (upd (s.slot p) j v) q i)
  slot_reached j v h q i x y c d = upd_all (λ k f. 1 ≤ k → k ≤ N → f i ≢ 0 → Reached N s (f i)) s.slot p (upd (s.slot p) j v)
      (λ x y. upd_all (λ m u. 1 ≤ m → m ≤ last_slot → u ≢ 0 → Reached N s u) (s.slot p) j v (λ _ _. h) i (λ _ c d. old_slots p i x y c d) c d) q (λ _ x y. old_slots q i x y c d) x y

  pub box_reached : (r v : ℕ) → (v ≢ 0 → Reached N s v) → (q : ℕ) → 1 ≤ q → q ≤ N → upd s.inbox r v q ≢ 0 → Reached N s (upd s.inbox r v q)
  box_reached r v h q x y = upd_all (λ k u. 1 ≤ k → k ≤ N → u ≢ 0 → Reached N s u) s.inbox r v (λ _ _. h) q (λ _ x y. old_boxes q x y) x y

  on : (j : Job D) (c d : Place) → Fine suits info (Works j c) → ((x : Plan D) → WrittenSoFar info x d) → Fine suits info (Works j d)
  on (Makes x) c d h g = (h.0, g x)
  on Sweeps c d h g = tt

  backs : (j : Job D) (c : Place) → Fine suits info (Works j c) → Fine suits info (back j)
  backs (Makes x) c h = (h.0, tt)
  backs Sweeps c h = tt

  -- the next kid of a Make, or its end
  module _ (x : Plan D) (c : Place) (e : s.run p ≡ Works (Makes x) c) (fits : suits x.given (given_by x.kids) ≡ true) (t : Store D) (E : Near t) (info' : ℕ → D) (v : ℕ) (wrote : info' v ≡ x.given) where
    wanted_there : (k : Kid) → kid_at x.kids k ≢ 0 → (kid_at x.kids k ≤ last_slot) × (s.slot p (kid_at x.kids k) ≢ 0)
    wanted_there k z = (good N M s S.inv p a b (Makes x) c e).1.wants_is k z

    module _ (sh : (k : Kid) → kid_at (t.kids v) k ≡ wants (s.slot p) x k) where
      same_given : (k : Kid) → not (eqb (kid_at (t.kids v) k) 0) ≡ not (eqb (kid_at x.kids k) 0)
      same_given k = elim (cases_eq (kid_at x.kids k) 0) [
        | inl z ↦ ap not (eq-eqb (kid_at (t.kids v) k) 0 (sh k ∙ wants_none (s.slot p) x k z) ∙ sym (eq-eqb (kid_at x.kids k) 0 z))
        | inr z ↦ ap not (ne_eqb (kid_at (t.kids v) k) 0 (λ y. (wanted_there k z).1 (sym (sh k ∙ wants_some (s.slot p) x k z) ∙ y)) ∙ sym (ne_eqb (kid_at x.kids k) 0 z))
      ]

      given_as_planned : given_by (t.kids v) ≡ given_by x.kids
      given_as_planned = λ i. record { first = same_given First i; second = same_given Second i; third = same_given Third i }

      made_fits : suits (info' v) (given_by (t.kids v)) ≡ true
      made_fits = ap (λ d. suits d (given_by (t.kids v))) wrote ∙ ap (suits x.given) given_as_planned ∙ fits

      kid_reached : (k : Kid) → kid_at (t.kids v) k ≢ 0 → Reached N t (kid_at (t.kids v) k)
      kid_reached k z = elim (cases_eq (kid_at x.kids k) 0) [
        | inl y ↦ absurd (z (sh k ∙ wants_none (s.slot p) x k y))
        | inr y ↦ by_slot p (kid_at x.kids k) a b (omega arith) (wanted_there k y).0 (ap (λ f. f p (kid_at x.kids k)) E.slots ∙ sym (sh k ∙ wants_some (s.slot p) x k y)) z
      ]

      end_made : After info' (made x t p v)
      end_made = record {
        own = subst (Fine suits info') (sym (upd_same t.run p Idle)) tt;
        others = λ q d. upd_other t.run p q Idle d ∙ ap (λ f. f q) E.runs;
        kept = E.kept;
        reach = λ n r. elim (reach_more N t.slot t.inbox t.kids p x.slot v kid_reached r) [
          | inl q ↦ inr (subst (λ m. suits (info' m) (given_by (t.kids m)) ≡ true) (sym q) made_fits)
          | inr o ↦ inl (near_reach t E o)
        ];
      }

    end : Shape (s.slot p) x (t.kids v) 4 → After info' (made x t p v)
    end sh = end_made (λ k. (sh k).0 (position_low k))

    next : (k : Kid) → After info' (set_run t p (Works (Makes x) (CountKid v k)))
    next k = to t (Works (Makes x) (CountKid v k)) info' E (fits, wrote)

    after_first : Shape (s.slot p) x (t.kids v) 1 → After info' (give_first x t p v)
    after_first = first_by (After info') x t p v (Shape (s.slot p) x (t.kids v)) end (λ k _ _. next k) (shape_past (s.slot p) x (t.kids v))

    after_kid_lem : (k : Kid) → Shape (s.slot p) x (t.kids v) (suc (position k)) → After info' (give_after x t p v k)
    after_kid_lem = after_by (After info') x t p v (Shape (s.slot p) x (t.kids v)) end (λ k _ _. next k) (shape_past (s.slot p) x (t.kids v))

  -- the kids of v after a kid is linked
  pub linked_shape : (y : Plan D) (v : ℕ) (k : Kid) (w : ℕ) → s.run p ≡ Works (Makes y) (LinkKid v k w) → Shape (s.slot p) y (upd s.kids v (put_kid (s.kids v) k w) v) (suc (position k))
  linked_shape y v k w e i =
      let g = good N M s S.inv p a b (Makes y) (LinkKid v k w) e in
      let u = upd_same s.kids v (put_kid (s.kids v) k w) in
      let wz : w ≢ 0 = (let h = g.2.0.1 in omega arith) in (
        (λ h. elim (cases_eq (position i) (position k)) [
          | inl d ↦ position_same (λ q. kid_at (upd s.kids v (put_kid (s.kids v) k w) v) q ≡ wants (s.slot p) y q) i k d
              (ap (λ q. kid_at q k) u ∙ put_same (s.kids v) k w ∙ sym (g.0.put_is wz) ∙ sym (wants_some (s.slot p) y k g.2.1))
          | inr d ↦ ap (λ q. kid_at q i) u ∙ put_other (s.kids v) i k w d ∙ elim (cases_eq (kid_at y.kids i) 0) [
            | inl o ↦ g.0.none_given i (omega arith) o ∙ sym (wants_none (s.slot p) y i o)
            | inr o ↦ g.0.given i (omega arith) o ∙ sym (wants_some (s.slot p) y i o)
          ]
        ]),
        λ h. ap (λ q. kid_at q i) u ∙ put_other (s.kids v) i k w (λ q. omega arith) ∙ g.0.bare i (omega arith) (position_low i),
      )

  -- into p's own tray, or on to give back
  own_after : (n : ℕ) (c : Place) (j : Job D) → Fine suits info (Works j c) → After info (own_tray j s p n)
  own_after n c j h = cond_both (is_open (s.tray p)) (set_run (set_tray s p (Holding n)) p (Works j (CloseTray n))) (set_run s p (Works j (GiveBack n))) (After info)
      (λ _. to (set_tray s p (Holding n)) (Works j (CloseTray n)) info (near (set_tray s p (Holding n)) refl refl refl refl) (on j c (CloseTray n) h (λ _. tt)))
      (λ _. to s (Works j (GiveBack n)) info (near s refl refl refl refl) (on j c (GiveBack n) h (λ _. tt)))

  offer_after : (x n : ℕ) (j : Job D) → Fine suits info (Works j (Offer n)) → After info (place_step (Offer n) j s p x)
  offer_after x n (Makes y) h = cond_both (eqb x p) (own_tray (Makes y) s p n) (cond (is_open (s.tray x)) (set_run (set_tray s x (Holding n)) p (back (Makes y))) (set_run s p (Works (Makes y) (KeepForOneself n)))) (After info)
      (λ _. own_after n (Offer n) (Makes y) h)
      (λ _. cond_both (is_open (s.tray x)) (set_run (set_tray s x (Holding n)) p (back (Makes y))) (set_run s p (Works (Makes y) (KeepForOneself n))) (After info)
      (λ _. to (set_tray s x (Holding n)) (back (Makes y)) info (near (set_tray s x (Holding n)) refl refl refl refl) (h.0, tt))
      (λ _. to s (Works (Makes y) (KeepForOneself n)) info (near s refl refl refl refl) (h.0, tt)))
  offer_after x n Sweeps h = cond_both (eqb x p) (set_run (set_count s n 0) p Idle) (cond (is_open (s.tray x)) (set_run (set_tray s x (Holding n)) p Idle) (set_run s p (Works Sweeps (GiveBack n)))) (After info)
      (λ _. to (set_count s n 0) Idle info (near (set_count s n 0) refl refl refl refl) tt)
      (λ _. cond_both (is_open (s.tray x)) (set_run (set_tray s x (Holding n)) p Idle) (set_run s p (Works Sweeps (GiveBack n))) (After info)
      (λ _. to (set_tray s x (Holding n)) Idle info (near (set_tray s x (Holding n)) refl refl refl refl) tt)
      (λ _. to s (Works Sweeps (GiveBack n)) info (near s refl refl refl refl) tt))

  as_is : Near s
  as_is = near s refl refl refl refl

  place_after : (x : ℕ) (c : Place) (j : Job D) → s.run p ≡ Works j c → Fine suits info (Works j c) → After (data_at (Works j c) info) (place_step c j s p x)
  place_after x OpenTray j e h = to (set_tray s p Open) (Works j ReadTray) info (near (set_tray s p Open) refl refl refl refl) (on j OpenTray ReadTray h (λ _. tt))
  place_after x ReadTray j e h = to s (at_ReadTray (s.tray p) j) info as_is (read (s.tray p))
    where
      read : (t : Tray) → Fine suits info (at_ReadTray t j)
      read Closed = on j ReadTray LookForNode h (λ _. tt)
      read Open = on j ReadTray LookForNode h (λ _. tt)
      read (Holding v) = on j ReadTray (CloseTray v) h (λ _. tt)
  place_after x LookForNode j e h = cond_both (eqb (s.count x) 0) (set_run s p (Works j (LockNode x))) (set_run s p (back j)) (After info)
      (λ _. to s (Works j (LockNode x)) info as_is (on j LookForNode (LockNode x) h (λ _. tt))) (λ _. to s (back j) info as_is (backs j LookForNode h))
  place_after x (LockNode n) j e h = cond_both (eqb (s.lock n) 0) (set_run (set_lock s n p) p (Works j (Recheck n))) (set_run s p (back j)) (After info)
      (λ _. to (set_lock s n p) (Works j (Recheck n)) info (near (set_lock s n p) refl refl refl refl) (on j (LockNode n) (Recheck n) h (λ _. tt))) (λ _. to s (back j) info as_is (backs j (LockNode n) h))
  place_after x (Recheck n) j e h = cond_both (eqb (s.count n) 0) (set_run s p (Works j (ReadKid n First))) (set_run s p (Works j (UnlockAndGoBack n))) (After info)
      (λ _. to s (Works j (ReadKid n First)) info as_is (on j (Recheck n) (ReadKid n First) h (λ _. tt))) (λ _. to s (Works j (UnlockAndGoBack n)) info as_is (on j (Recheck n) (UnlockAndGoBack n) h (λ _. tt)))
  place_after x (UnlockAndGoBack n) j e h = to (set_lock s n 0) (back j) info (near (set_lock s n 0) refl refl refl refl) (backs j (UnlockAndGoBack n) h)
  place_after x (ReadKid n k) j e h = cond_both (eqb (kid_at (s.kids n) k) 0) (set_run s p (Works j (after_kid n k))) (set_run s p (Works j (ClearKid n k (kid_at (s.kids n) k)))) (After info)
      (λ _. to s (Works j (after_kid n k)) info as_is (on j (ReadKid n k) (after_kid n k) h (after_kid_written info n k))) (λ _. to s (Works j (ClearKid n k (kid_at (s.kids n) k))) info as_is (on j (ReadKid n k) (ClearKid n k (kid_at (s.kids n) k)) h (λ _. tt)))
  place_after x (ClearKid n k w) j e h = to (set_kid s n k 0) (Works j (UncountKid n k w)) info (near_kid n k 0 (out_empty N M s S.inv p a b (S.into p a b) j (ClearKid n k w) n e refl)) (on j (ClearKid n k w) (UncountKid n k w) h (λ _. tt))
  place_after x (UncountKid n k w) j e h = let u = set_count s w (s.count w - 1) in to u (Works j (after_kid n k)) info (near u refl refl refl refl) (on j (UncountKid n k w) (after_kid n k) h (after_kid_written info n k))
  place_after x (Claim n) j e h = to (set_count s n 1) (Works j (Unlock n)) info (near (set_count s n 1) refl refl refl refl) (on j (Claim n) (Unlock n) h (λ _. tt))
  place_after x (Unlock n) j e h = to (set_lock s n 0) (Works j (Offer n)) info (near (set_lock s n 0) refl refl refl refl) (on j (Unlock n) (Offer n) h (λ _. tt))
  place_after x (Offer n) j e h = offer_after x n j h
  place_after x (KeepForOneself n) j e h = own_after n (KeepForOneself n) j h
  place_after x (GiveBack n) j e h = to (set_count s n 0) (back j) info (near (set_count s n 0) refl refl refl refl) (backs j (GiveBack n) h)
  place_after x (CloseTray v) j e h = to (set_tray s p Closed) (Works j (WriteData v)) info (near (set_tray s p Closed) refl refl refl refl) (on j (CloseTray v) (WriteData v) h (λ _. tt))
  place_after x (WriteData v) (Makes y) e h =
      let g = good N M s S.inv p a b (Makes y) (WriteData v) e in
      after_first y (WriteData v) e h.0 s as_is (upd info v y.given) v (upd_same info v y.given)
      (λ k. ((λ z. absurd (let u = position_pos k in omega arith)), λ z. g.0.bare k z (position_low k)))
  place_after x (CountKid v k) (Makes y) e h =
      let w = s.slot p (kid_at y.kids k) in
      let u = set_count s w (s.count w + 1) in
      to u (Works (Makes y) (LinkKid v k w)) info (near u refl refl refl refl) (h.0, h.1)
  place_after x (LinkKid v k w) (Makes y) e h =
      after_kid_lem y (LinkKid v k w) e h.0 (set_kid s v k w) (near_kid v k w (out_one N M s S.inv p a b (S.into p a b) (Makes y) (LinkKid v k w) v e refl)) info v h.1 k (linked_shape y v k w e)
  place_after x c Sweeps e h = absurd (good N M s S.inv p a b Sweeps c e).2.1

  read_fine : (g : Reading D) (d : D) (ks : Kids) → Fine suits info (read_on_at g d ks (λ h. Reads h))
  read_fine ReadNothing d ks = tt
  read_fine _ d ks = tt

  walk_fine : (t : Situation) (g : Reading D) (d : D) (ks : Kids) → Fine suits info (read_on_at g d ks (λ h. WalkReads t h))
  walk_fine t ReadNothing d ks = tt
  walk_fine t _ d ks = tt

  down_near : (n : ℕ) → Near (down_to s p n)
  down_near n = let u = set_trail s p (longer (s.trail p) n) in cond_both (eqb n 0) s u Near (λ _. as_is) (λ _. near u refl refl refl refl)

  turn_after : (x : ℕ) (r : Running D) → s.run p ≡ r → Fine suits info r → After (data_at r info) (turn_at r s info p x)
  turn_after x Idle e h = record { own = subst (Fine suits info) (sym e) tt; others = λ q d. refl; kept = λ n r. refl; reach = λ n r. inl r }
  turn_after x (Works j c) e h = place_after x c j e h
  turn_after x (Reads g) e h = to s (read_on_at g (info (last s p)) (s.kids (last s p)) (λ h. Reads h)) info as_is (read_fine g (info (last s p)) (s.kids (last s p)))
  turn_after x (GoesDown k) e h = let n = kid_at (s.kids (last s p)) k in to (down_to s p n) Idle info (down_near n) tt
  turn_after x (WalkReads t g) e h = to s (read_on_at g (info (last s p)) (s.kids (last s p)) (λ h. WalkReads t h)) info as_is (walk_fine t g (info (last s p)) (s.kids (last s p)))
  turn_after x (WalkGoesDown t k) e h = let n = kid_at (s.kids (last s p)) k in to (down_to s p n) (WalkReads t ReadNothing) info (down_near n) tt
  turn_after x (Keeps i) e h =
      let w = last s p in
      ends (set_slot (set_count s w (s.count w + 1)) p i w) refl refl (slot_reached i w (λ _. last_reached N M s S p a b (ap on_trail e))) old_boxes
  turn_after x (Drops i) e h =
      let w = s.slot p i in
      ends (set_slot (set_count s w (s.count w - 1)) p i 0) refl refl (slot_reached i 0 (λ z. absurd (z refl))) old_boxes
  turn_after x (Fetches i) e h = cond_both (eqb (s.inbox p) 0) (set_run s p Idle) (set_run s p (TakesOut i (s.inbox p))) (After info) (λ _. to s Idle info as_is tt) (λ _. to s (TakesOut i (s.inbox p)) info as_is tt)
  turn_after x (Hands i q) e h =
      let g : Good N M s p (Hands i q) = subst (Good N M s p) e (S.inv.parties p a b) in
      let i1 = g.2.0 in
      let o = g.1.source_is (omega arith) in
      let v = s.slot p i in
      cond_both (eqb (s.inbox q) 0) (set_run (set_slot (set_inbox s q v) p i 0) p Idle) (set_run s p Idle) (After info)
      (λ _. ends (set_slot (set_inbox s q v) p i 0) refl refl (slot_reached i 0 (λ z. absurd (z refl))) (box_reached q v (λ z. by_slot p i a b i1 o.0 refl z)))
      (λ _. to s Idle info as_is tt)
  turn_after x (TakesOut i v) e h =
      let g : Good N M s p (TakesOut i v) = subst (Good N M s p) e (S.inv.parties p a b) in
      let v1 = g.2.1 in
      let o : s.inbox p ≡ v = g.1.boxed_is (omega arith) in
      ends (set_slot (set_inbox s p 0) p i v) refl refl (slot_reached i v (λ z. by_box p a b o z)) (box_reached p 0 (λ z. absurd (z refl)))

  -- the data of v, which p carries, is nobody else's
  module _ (v : ℕ) (y : Plan D) (e : s.run p ≡ Works (Makes y) (WriteData v)) where
    not_reached : (n : ℕ) → Reached N s n → upd info v y.given n ≡ info n
    not_reached n r = upd_other info v n y.given (λ q. out_one N M s S.inv p a b (S.into p a b) (Makes y) (WriteData v) v e refl (subst (Reached N s) q r))

    not_carried : (q : ℕ) → 1 ≤ q → q ≤ N → q ≢ p → (u : ℕ) → 1 ≤ u → (reliance (s.run q)).one ≡ u → upd info v y.given u ≡ info u
    not_carried q h1 h2 d u h3 o =
        let g = good N M s S.inv p a b (Makes y) (WriteData v) e in
        let v1 : 1 ≤ v = g.2.0 in
        let cv : 1 ≤ carry (reliance (s.run p)) v = subst (λ r. 1 ≤ carry (reliance r) v) (sym e) (carry_one N M v (reliance_at (WriteData v)) refl) in
        upd_other info v u y.given (λ z. (alone_refs N M s S.inv p v a b v1 (omega arith)).no_one q h1 h2 d (o ∙ z))

  -- a step changes the data of no reached node, and of none that another carries
  pub record Unseen (info' : ℕ → D) : Type 0 where
    pub seen : (n : ℕ) → Reached N s n → info' n ≡ info n
    pub others : (q : ℕ) → 1 ≤ q → q ≤ N → q ≢ p → (u : ℕ) → 1 ≤ u → (reliance (s.run q)).one ≡ u → info' u ≡ info u

  same_data : Unseen info
  same_data = record { seen = λ n r. refl; others = λ q h1 h2 d u h3 o. refl }

  unseen_place : (c : Place) (j : Job D) → s.run p ≡ Works j c → Unseen (data_at (Works j c) info)
  unseen_place (WriteData v) (Makes y) e = record { seen = not_reached v y e; others = not_carried v y e }
  unseen_place (WriteData v) Sweeps e = same_data
  unseen_place _ j e = same_data

  pub unseen : (r : Running D) → s.run p ≡ r → Unseen (data_at r info)
  unseen (Works j c) e = unseen_place c j e
  unseen _ e = same_data

  fits_after : Fitting suits N s info → (info' : ℕ → D) (t : Store D) → Unseen info' → After info' t → Fitting suits N t info'
  fits_after F info' t U A = fitting suits N t info'
      (λ n r. elim (A.reach n r) [
        | inl o ↦ ap (λ d. suits d (given_by (t.kids n))) (U.seen n o) ∙ ap (λ ks. suits (info n) (given_by ks)) (A.kept n o) ∙ F.reached n o
        | inr h ↦ h
      ])
      (λ q x y. elim (cases_eq q p) [
        | inl e ↦ subst (λ k. Fine suits info' (t.run k)) (sym e) A.own
        | inr d ↦ subst (Fine suits info') (sym (A.others q d)) (fine_kept suits N info info' (s.run q) (S.inv.parties q x y).2 (U.others q x y d) (fine_of suits N s info F q x y))
      ])

-- a step keeps the data fitting
pub fits_turn : {D : Type 0} (suits : D → PerKid Bool → Bool) (N M : ℕ) (s : Store D) → Sound N M s → (info : ℕ → D) (p : ℕ) → 1 ≤ p → p ≤ N → (x : ℕ) → Fitting suits N s info → Fitting suits N (turn_at (s.run p) s info p x) (data_at (s.run p) info)
fits_turn suits N M s S info p a b x F =
    fits_after suits N M s S info p a b F (data_at (s.run p) info) (turn_at (s.run p) s info p x) (unseen suits N M s S info p a b (s.run p) refl)
    (turn_after suits N M s S info p a b x (s.run p) refl (fine_of suits N s info F p a b))

-- the same of the specification's step, where its store is the explicit one
pub fits_stepped : {D : Type 0} (W : Type 0) (suits : D → PerKid Bool → Bool) (N M : ℕ) (s : Store D) → Sound N M s → (info : ℕ → D) (p : ℕ) → 1 ≤ p → p ≤ N → (x : ℕ)
    → stepped N M s info p x (decision {W = W} N M s info p x) ≡ turn_at (s.run p) s info p x → Fitting suits N s info
    → Fitting suits N (stepped N M s info p x (decision {W = W} N M s info p x)) (data_after N M s info p x (decision {W = W} N M s info p x))
fits_stepped W suits N M s S info p a b x e F =
    subst (λ t. Fitting suits N t (data_after N M s info p x (decision {W = W} N M s info p x))) (sym e)
    (subst (Fitting suits N (turn_at (s.run p) s info p x)) (sym (data_after_lem W N M s info p x)) (fits_turn suits N M s S info p a b x F))

module _ {D W A B : Type 0} (X : Setting D W A B) where
  -- the data fits in a system
  abbrev pub Fits : System D W A B → Type 0
  Fits F = Fitting X.suits X.parties F.store F.info

  module _ (F : System D W A B) where
    -- the specification's step of p, with the pick x, is the explicit one
    abbrev pub StepIs : ℕ → ℕ → Type 0
    StepIs p x = stepped X.parties X.nodes F.store F.info p x (decision {W = W} X.parties X.nodes F.store F.info p x) ≡ turn_at (F.store.run p) F.store F.info p x

    abbrev FitsStepped : ℕ → ℕ → Decision D W → Type 0
    FitsStepped p x d = Fitting X.suits X.parties (stepped X.parties X.nodes F.store F.info p x d) (data_after X.parties X.nodes F.store F.info p x d)

    abbrev deciding : Word D → Change → Running D → Told D W → Decision D W
    deciding w c r t = record { word = w; change = c; next = r; told = t }

    -- what a decision makes of the store, whether it tells or settles
    moved_fits : Fits F → (p x : ℕ) (w : Word D) (c : Change) (r : Running D) (t : Told D W) → FitsStepped p x (deciding w c r t) → Fitting X.suits X.parties (moved_as X F p x (deciding w c r t) t).store (moved_as X F p x (deciding w c r t) t).info
    moved_fits h p x w c r (Tells o) g = g
    moved_fits h p x w c r (Settles n) g = fits_settled X.suits X.worth X.blank X.parties F.store F.info h (F.notes p) p n.situation n.kids

    module _ (S : Sound X.parties X.nodes F.store) (h : Fits F) where
      -- an accepted Turn
      pub fits_steps : (p : ℕ) (o : Outcome D W) (G : System D W A B) → 1 ≤ p → p ≤ X.parties → (T : Steps X F p o G) → StepIs p T.pick → Fits G
      fits_steps p o G a b T e =
          let d = decision {W = W} X.parties X.nodes F.store F.info p T.pick in
          let u = moved_fits h p T.pick d.word d.change d.next d.told (fits_stepped W X.suits X.parties X.nodes F.store S F.info p a b T.pick e h) in
          subst (λ t. Fitting X.suits X.parties t G.info) (sym T.store_is) (subst (Fitting X.suits X.parties (Rattle.model.specs.Runs.moved X F p T.pick).store) (sym T.info_is) u)

      -- one Begin or Turn
      pub fits_moves : (e : Event D) (o : Outcome D W) (G : System D W A B)
          → ((p : ℕ) → 1 ≤ p → p ≤ X.parties → is_idle (F.store.run p) ≡ false → (T : Steps X F p o G) → StepIs p T.pick) → Moves X F e o G → Fits G
      fits_moves e o G same (begin_refused r f q g) = subst Fits (sym g) h
      fits_moves e o G same (call_begun {p} {c} {l} f q g) = subst Fits (sym g) (fits_started X.suits X.parties F.store F.info h X.nodes p c l f)
      fits_moves e o G same (walk_begun {p} {w} t worths f i q g) = subst Fits (sym g) (fits_started_walk X.suits X.parties F.store F.info h w.slot t p)
      fits_moves e o G same (turn_refused r f q g) = subst Fits (sym g) h
      fits_moves e o G same (turn {p} {l} f T) = let u = turn_passed X.parties X.nodes p l (F.store.run p) f in fits_steps p o G u.0 u.1 T (same p u.0 u.1 u.2 T)
      fits_moves e o G same (walk_turn_refused r f q g) = subst Fits (sym g) h
      fits_moves e o G same (walk_turn {p} {l} f T) = let u = walk_turn_passed X.parties X.nodes p l (F.store.run p) f in fits_steps p o G u.0 u.1 T (same p u.0 u.1 u.2 T)

  -- a new store with its caller's lists
  pub fits_at_first : (F : System D W A B) → New X F → Fits F
  fits_at_first F n = subst (λ s. Fitting X.suits X.parties s F.info) (sym n.store_is) (fits_new X.suits X.parties F.info)

  -- every store that can exist fits, if it is sound and its steps are the explicit ones
  module _ (sound : (F : System D W A B) → CanExist X F → Sound X.parties X.nodes F.store)
      (same : (F G : System D W A B) → CanExist X F → (p : ℕ) (o : Outcome D W) → 1 ≤ p → p ≤ X.parties → is_idle (F.store.run p) ≡ false → (T : Steps X F p o G) → StepIs F p T.pick) where
    pub existing_fits : (F : System D W A B) → CanExist X F → Fits F
    existing_fits F (new n) = fits_at_first F n
    existing_fits G (moved {F} {e} {o} c m) = fits_moves F (sound F c) (existing_fits F c) e o G (λ p a b i T. same F G c p o a b i T) m

    pub reached_data_fits : ReachedDataFits X
    reached_data_fits F c = (existing_fits F c).reached
