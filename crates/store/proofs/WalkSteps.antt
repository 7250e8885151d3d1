-- A walk's Turn: it keeps the store sound, settles a node of the store, and is a step of the model.
use Rattle.std.proofs.Common.{◌≡◌, ℕ, true, None, sym, refl, ap, ◌∙◌, subst, true≢false}
use mathlib.Core.Logic.{∥∥₁_elim}
use mathlib.Core.Bool.{Bool-set}
use Rattle.kinds.specs.declared.kind.Kind.{Ghosts as KindMeaning}
use Rattle.orders.specs.declared.order.Order.{Ghosts as OrderMeaning}
use Rattle.model.specs.declared.calls.Lengths.{Lengths}
use Rattle.model.specs.Types.{Outcome}
use Rattle.model.specs.declared.running.Running.{Running}
use Rattle.model.specs.declared.running.Running.TheVariants.{WalkReads, WalkGoesDown}
use Rattle.model.specs.declared.sizes.Sizes.{Sizes}
use Rattle.model.specs.declared.words.NodeRead.{NodeRead}
use Rattle.model.specs.Fun.{upd}
use Rattle.model.specs.Checks.{is_walking, walk_turn_fault}
use Rattle.model.specs.Runs.{System, Steps}
use Rattle.model.specs.Setting.{Setting, setting_for}
use Rattle.model.specs.Sound.{Sound, on_trail}
use Rattle.model.specs.State.{Store, last}
use Rattle.model.specs.Steps.{between}
use Rattle.model.specs.Walks.{Notes}
use Rattle.model.proofs.Accepted.{walk_turn_passed, walk_turn_walks}
use Rattle.model.proofs.Kept.{moved_sound}
use Rattle.model.proofs.Reached.{reached_held}
use Rattle.model.proofs.Between.{is_within}
use Rattle.model.proofs.Sums.{upd_same}
use Rattle.model.proofs.Trails.{last_reached}
use Rattle.cells.proofs.Views.{upd_twice}
use Rattle.walks.specs.declared.notes.Notes.{Notes as Lists}
use Rattle.store.specs.Moved.{noted_on}
use Rattle.store.specs.Settled.{Settled}
use Rattle.store.specs.Taken.{HasRead}
use Rattle.store.proofs.WalkTurns.{settles_at_turn}

-- a walk's Turn is checked against the same sizes and lengths, and the same call that runs
pub same_walk_fault : {D : Type 0} {N M : ℕ} (p : ℕ) {z : Sizes} {l l' : Lengths} {r r' : Running D} → z ≡ record { parties = N; nodes = M } → l ≡ l' → r ≡ r' → walk_turn_fault N M p l' r' ≡ walk_turn_fault z.parties z.nodes p l r
same_walk_fault {D} {N} {M} p {z} {l} {l'} {r} ez el er = sym (ap (λ u. walk_turn_fault u.parties u.nodes p l r) ez ∙ ap (λ k. walk_turn_fault N M p k r) el ∙ ap (walk_turn_fault N M p l') er)

-- a walk needs a trail
on_trail_when_walking : {D : Type 0} (r : Running D) → is_walking r ≡ true → on_trail r ≡ true
on_trail_when_walking (WalkReads t g) h = refl
on_trail_when_walking (WalkGoesDown t k) h = refl
on_trail_when_walking _ h = absurd (true≢false (sym h))

-- a walk's Turn that passes its checks
module _ {D W A B : Type 0} {X : Setting D W A B} {F G : System D W A B} {p : ℕ} (l : Lengths) (passed : walk_turn_fault X.parties X.nodes p l (F.store.run p) ≡ None) where
  -- keeps the store sound
  pub walk_keeps_sound : {o : Outcome D W} → Steps X F p o G → Sound X.parties X.nodes F.store → Sound X.parties X.nodes G.store
  walk_keeps_sound m S =
      let u = walk_turn_passed X.parties X.nodes p l (F.store.run p) passed in
      subst (Sound X.parties X.nodes) (sym m.store_is) (moved_sound X F S p u.0 u.1 m.pick (F.store.run p) refl u.2)

  -- and settles a node of the store
  pub settles_at_node : {read : NodeRead D} {m : ℕ} → ∥ Sound X.parties X.nodes F.store ∥₁ → HasRead X F G p read → m ≡ X.nodes → between 1 m (last G.store p) ≡ true
  settles_at_node t h em =
      let u = walk_turn_passed X.parties X.nodes p l (F.store.run p) passed in
      let w = walk_turn_walks X.parties X.nodes p l (F.store.run p) passed in
      let n = last F.store p in
      let stands : between 1 X.nodes n ≡ true = ∥∥₁_elim t (Bool-set (between 1 X.nodes n) true)
      (λ S. let held = reached_held X.parties X.nodes F.store S.inv (last_reached X.parties X.nodes F.store S p u.0 u.1 (on_trail_when_walking (F.store.run p) w)) in is_within 1 X.nodes n held.pos held.low) in
      ap (λ k. between 1 k (last G.store p)) em ∙ ap (λ H. between 1 X.nodes (last H.store p)) h.waits ∙ stands

-- the reading that settles a node, and the settling, are one step of the model
pub settled_step : {K D W A B : Type 0} (kind : KindMeaning K D W) (node_order : OrderMeaning A) (party_order : OrderMeaning B) (N M : ℕ) (notes : ℕ → Notes W) (lists lists' : Lists W)
    {F G : System D W A B} {t : Store D} {p k m : ℕ} {read : NodeRead D} {o : Outcome D W}
    → F.notes ≡ upd notes p (noted_on kind M lists) → HasRead (setting_for kind node_order party_order N M) F G p read → k ≡ N → m ≡ M
    → Settled (setting_for kind node_order party_order k m) G.store t p read (noted_on kind m lists) (noted_on kind m lists') o
    → Steps (setting_for kind node_order party_order N M) F p o (record { store = t; info = G.info; notes = upd notes p (noted_on kind M lists'); node_order = G.node_order; party_order = G.party_order })
settled_step {W = W} kind node_order party_order N M notes lists lists' {F} {G} {t} {p} {k} {m} {read} {o} en h ek em settled =
    let X = setting_for kind node_order party_order N M in
    let old : Notes W = noted_on kind M lists in
    let later : Notes W = noted_on kind M lists' in
    let own : F.notes p ≡ old = ap (λ f. f p) en ∙ upd_same notes p old in
    let sized = subst (λ j. Settled (setting_for kind node_order party_order N j) G.store t p read (noted_on kind j lists) (noted_on kind j lists') o) em
    (subst (λ j. Settled (setting_for kind node_order party_order j m) G.store t p read (noted_on kind m lists) (noted_on kind m lists') o) ek settled) in
    subst (λ f. Steps X F p o (record { store = t; info = G.info; notes = f; node_order = G.node_order; party_order = G.party_order })) (ap (λ f. upd f p later) en ∙ upd_twice notes p old later)
    (settles_at_turn h (subst (λ n. Settled X G.store t p read n later o) (sym own) sized))
