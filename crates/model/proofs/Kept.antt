-- Every store that can exist is sound, and its orders are made for it.
use Rattle.std.proofs.Common.{◌≡◌, ℕ, ◌+◌, ◌*◌, ◌≤◌, Bool, true, false, sym, refl, ap, ◌∙◌, subst, arith}
use Rattle.std.proofs.lemmas.Bool.{true≢false}
use Rattle.orders.specs.Meaning.{Picked}
use Rattle.model.specs.Types.{Kids, Event, ReadSecond, Running, Idle, WalkReads, Outcome, Situation, Told, Tells, Settles, Decision}
use Rattle.model.specs.State.{Trail, no_trail, along, last}
use Rattle.model.specs.Steps.{address, decision, stepped, looks_at, loaded, decide}
use Rattle.model.specs.Checks.{is_idle}
use Rattle.model.specs.Sound.{TrailAt, Sound}
use Rattle.model.specs.Setting.{Meaning, Setting, InLimits}
use Rattle.model.specs.Runs.{System, Moves, begin_refused, call_begun, walk_begun, turn_refused, turn, walk_turn_refused, walk_turn, Steps, moved, moved_as, Asks, asks_nodes, asks_parties}
use Rattle.model.specs.Opened.{New, Sized}
use Rattle.model.specs.Existing.{CanExist, new, moved as then-moved, CountsAreReferences, NoNodeReachesItself, CountsAreAtMost, NoTrailOutgrowsTheNodes, IsPath, TrailsArePaths}
use Rattle.model.proofs.Accepted.{turn_passed, walk_turn_passed}
use Rattle.model.proofs.Begins.{sound_started, sound_started_walk}
use Rattle.model.proofs.Carried.{refs_are_references}
use Rattle.model.proofs.Bounds.{few_slots, few_boxes, few_trays, few_carriers, few_kids}
use Rattle.model.proofs.NewStore.{new_sound}
use Rattle.model.proofs.Reached.{no_circle}
use Rattle.model.proofs.Stepped.{sound_stepped, sound_settled}
use Rattle.model.proofs.Tells.{TellsAtOnce, IsFourth, tells_at_once}
use Rattle.model.proofs.Trails.{trail_fits}

-- what a pick leaves of an order, an order that is not asked keeps too
pub asked_or_not : {O V : Type 0} (m : Meaning O) (f : O → V) (asked : Bool) (old later : O) (p x : ℕ) → (Picked m.numbers m.horizon m.due old later p x → f later ≡ f old) → Asks m asked old later p x → f later ≡ f old
asked_or_not m f true old later p x h a = h (a.picks refl)
asked_or_not m f false old later p x h a = ap f (a.rests refl)

is_path : (kids : ℕ → Kids) (slots : ℕ → ℕ) (source : ℕ) (T : Trail) → TrailAt kids slots source T → IsPath kids slots T
is_path kids slots source no_trail t = t
is_path kids slots source (along i n ns) t = (t.1, t.2, t.3, t.0)

module _ {D W A B : Type 0} (X : Setting D W A B) where
  pub record Kept (F : System D W A B) : Type 0 where
    pub limits : InLimits X.nodes X.parties
    pub sound : Sound X.parties X.nodes F.store
    pub sized : Sized X F

  -- what a Turn makes of the store is sound
  module _ (F : System D W A B) (S : Sound X.parties X.nodes F.store) (p : ℕ) (a : 1 ≤ p) (b : p ≤ X.parties) (x : ℕ) where
    abbrev here : Decision D W
    here = decision X.parties X.nodes F.store F.info p x

    told_sound : (T : Told D W) → TellsAtOnce T → Sound X.parties X.nodes (stepped X.parties X.nodes F.store F.info p x here) → Sound X.parties X.nodes (moved_as X F p x here T).store
    told_sound (Tells o) h s = s
    told_sound (Settles n) h s = absurd h

    at_once : (r : Running D) → F.store.run p ≡ r → is_idle r ≡ false → (IsFourth r → ⊥) → Sound X.parties X.nodes (moved X F p x).store
    at_once r e i f = told_sound here.told
        (tells_at_once W (F.store.run p) (loaded F.store F.info (looks_at X.parties X.nodes F.store p x)) p x (F.store.slot p) (last F.store p) (subst (λ v. IsFourth v → ⊥) (sym e) f))
        (sound_stepped W X.parties X.nodes F.store S p a b F.info x (ap is_idle e ∙ i))

    -- a walk's fourth reading settles its node
    settles : (t : Situation) (d : D) (j k : ℕ) → F.store.run p ≡ WalkReads t (ReadSecond d j k)
        → here.told ≡ Settles (record { situation = t; given = d; kids = record { first = j; second = k; third = (F.store.kids (last F.store p)).third } })
    settles t d j k e =
        let P : Running D → Type 0 = λ r. (decide {W = W} r (loaded F.store F.info (address X.parties X.nodes r p x (F.store.slot p) (last F.store p))) p x (F.store.slot p) (last F.store p)).told
        ≡ Settles (record { situation = t; given = d; kids = record { first = j; second = k; third = (F.store.kids (last F.store p)).third } }) in
        subst P (sym e) refl

    fourth : (t : Situation) (d : D) (j k : ℕ) → F.store.run p ≡ WalkReads t (ReadSecond d j k) → Sound X.parties X.nodes (moved X F p x).store
    fourth t d j k e =
        let P : Told D W → Type 0 = λ T. Sound X.parties X.nodes (moved_as X F p x here T).store in
        subst P (sym (settles t d j k e)) (sound_settled X.worth X.blank X.parties X.nodes F.store S p a b t d j k e (F.notes p) (record { first = j; second = k; third = (F.store.kids (last F.store p)).third }))

    pub moved_sound : (r : Running D) → F.store.run p ≡ r → is_idle r ≡ false → Sound X.parties X.nodes (moved X F p x).store
    moved_sound Idle e i = absurd (true≢false i)
    moved_sound (WalkReads t (ReadSecond d j k)) e i = fourth t d j k e
    moved_sound c e i = at_once c e i (λ z. z)

  steps_keep : {F G : System D W A B} {p : ℕ} {o : Outcome D W} → Kept F → (1 ≤ p) × (p ≤ X.parties) → is_idle (F.store.run p) ≡ false → Steps X F p o G → Kept G
  steps_keep {F} {G} {p} K is runs m = record {
    limits = K.limits;
    sound = subst (Sound X.parties X.nodes) (sym m.store_is) (moved_sound F K.sound p is.0 is.1 m.pick (F.store.run p) refl runs);
    sized = record {
      nodes = asked_or_not X.node_order X.node_order.numbers (asks_nodes (F.store.run p)) F.node_order G.node_order p m.pick (λ u. u.numbers_stay) m.node_picks ∙ K.sized.nodes;
      parties = asked_or_not X.party_order X.party_order.numbers (asks_parties (F.store.run p)) F.party_order G.party_order p m.pick (λ u. u.numbers_stay) m.party_picks ∙ K.sized.parties;
    };
  }

  pub moves_keep : {F G : System D W A B} {e : Event D} {o : Outcome D W} → Kept F → Moves X F e o G → Kept G
  moves_keep K (begin_refused r h t g) = subst Kept (sym g) K
  moves_keep {F} K (call_begun {p} {c} {l} h t g) = subst Kept (sym g) (record { limits = K.limits; sound = sound_started X.suits X.parties X.nodes F.store K.sound p c l h; sized = record { nodes = K.sized.nodes; parties = K.sized.parties } })
  moves_keep {F} K (walk_begun {p} {w} {l} t worths h d b g) = subst Kept (sym g) (record { limits = K.limits; sound = sound_started_walk X.suits X.parties X.nodes F.store K.sound p w l t h; sized = record { nodes = K.sized.nodes; parties = K.sized.parties } })
  moves_keep K (turn_refused r h t g) = subst Kept (sym g) K
  moves_keep {F} K (turn {p} {l} h m) = let u = turn_passed X.parties X.nodes p l (F.store.run p) h in steps_keep K (u.0, u.1) u.2 m
  moves_keep K (walk_turn_refused r h t g) = subst Kept (sym g) K
  moves_keep {F} K (walk_turn {p} {l} h m) = let u = walk_turn_passed X.parties X.nodes p l (F.store.run p) h in steps_keep K (u.0, u.1) u.2 m

  pub new_kept : (F : System D W A B) → New X F → Kept F
  new_kept F n = record { limits = n.limits; sound = subst (Sound X.parties X.nodes) (sym n.store_is) (new_sound D X.parties X.nodes); sized = n.sized }

  pub existing_kept : (F : System D W A B) → CanExist X F → Kept F
  existing_kept F (new n) = new_kept F n
  existing_kept F (then-moved {F = E} c m) = moves_keep (existing_kept E c) m

  pub counts_are_references : CountsAreReferences X
  counts_are_references F c n low high = (existing_kept F c).sound.inv.counts n low ∙ refs_are_references X.parties X.nodes F.store n low

  pub no_node_reaches_itself : NoNodeReachesItself X
  no_node_reaches_itself F c = no_circle F.store.kids (existing_kept F c).sound.ranked

  pub no_trail_outgrows_the_nodes : NoTrailOutgrowsTheNodes X
  no_trail_outgrows_the_nodes F c q low high = trail_fits X.parties X.nodes F.store (existing_kept F c).sound q low high

  pub trails_are_paths : TrailsArePaths X
  trails_are_paths F c q low high = is_path F.store.kids (F.store.slot q) _ (F.store.trail q) ((existing_kept F c).sound.trails q low high)

  pub counts_are_at_most : {most : ℕ} → most ≡ 12 * X.parties + 3 * X.nodes → CountsAreAtMost X most
  counts_are_at_most is F c n low high =
      let e = (existing_kept F c).sound.inv.counts n low in
      let N = X.parties in
      omega (arith, is, e, few_slots N n F.store.slot, few_boxes N n F.store.inbox, few_trays N n F.store.tray, few_carriers N n F.store.run, few_kids X.nodes n F.store.kids)
