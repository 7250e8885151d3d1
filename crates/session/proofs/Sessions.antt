-- From a command over one party's lists to a move of the whole session.
use Rattle.std.proofs.Common.{◌≡◌, ℕ, ◌-◌, ◌<◌, ◌≤◌, Bool, false, not, ◌||◌, ltb, List, [], ◌∷◌, Some, length, map, set, get_or, sym, refl, ap, ◌∙◌, subst, arith}
use Rattle.std.specs.Prelude.{All, vec_items}
use Rattle.std.specs.Vec.{with_items}
use Rattle.std.proofs.lemmas.List.{map-set, length-map, get_or-map}
use Rattle.std.proofs.lemmas.List.Elements.{All-set}
use Rattle.refusals.specs.declared.Refusal.TheVariants.{NoSuchParty, ShortList, NothingToTurn}
use Rattle.kinds.specs.declared.kind.Kind.{Ghosts as KindMeaning}
use Rattle.orders.specs.declared.order.Order.{Ghosts as OrderMeaning}
use Rattle.model.specs.declared.calls.Event.{Event}
use Rattle.model.specs.declared.calls.Lengths.{Lengths}
use Rattle.model.specs.Checks.{first_fault, walk_turn_fault, is_walking}
use Rattle.cells.specs.declared.records.Cells.{Cells}
use Rattle.model.specs.Types.{Outcome}
use Rattle.model.specs.Entries.{nth}
use Rattle.model.specs.Fun.{upd}
use Rattle.model.specs.Walks.{Notes}
use Rattle.model.specs.Runs.{System, Moves}
use Rattle.model.specs.Setting.{setting_for, Setting}
use Rattle.model.specs.Steps.{between}
use Rattle.model.proofs.Frames.{upd_all}
use Rattle.model.proofs.EntryLemmas.{nth_set, nth_read}
use Rattle.cells.proofs.Views.{upd_own}
use Rattle.cells.specs.View.{nodes_of, parties_of, view_of, SameSizes}
use Rattle.store.specs.Moved.{Shown}
use Rattle.session.specs.declared.lists.WalkLists.{WalkLists}
use Rattle.session.specs.Lent.{CommandOnStore, CommandOnWalkLists, noted_in, nothing_noted, all_noted}
use Rattle.session.specs.Lists.{AnEntryEach}
use Rattle.session.proofs.Lent.{sys}

-- a walk's Turn of what is no party is refused so, whatever else is wrong
pub no_party_to_turn : {D : Type 0} (c : Cells D) (p : ℕ) (l : Lengths) → between 1 (parties_of c) p ≡ false → walk_turn_fault (parties_of c) (nodes_of c) p l ((view_of c).run p) ≡ Some NoSuchParty
no_party_to_turn c p l e =
    ap (λ b. first_fault ((not b, NoSuchParty) ∷ (ltb l.entries (nodes_of c) || (ltb l.marks (nodes_of c) || ltb l.worths (nodes_of c)), ShortList) ∷ (not (is_walking ((view_of c).run p)), NothingToTurn) ∷ [])) e

-- the lists of one party's walks, with other entries
abbrev pub rewritten : {W : Type 0} → WalkLists W → List Bool → List W → WalkLists W
rewritten own marks worths = record { marks = with_items own.marks marks; worths = with_items own.worths worths }

-- the lists at a place have an entry for each node
pub entries_at : {W : Type 0} {M : ℕ} (walks : List (WalkLists W)) (i : ℕ) (own : WalkLists W) → own ≡ get_or walks i own → i < length walks → All (AnEntryEach M) walks → AnEntryEach M own
entries_at {M = M} walks i own is low h = subst (AnEntryEach M) (sym is) (h i own low)

pub still_noted : {W : Type 0} {M M' : ℕ} → M' ≡ M → (walks : List (WalkLists W)) (i : ℕ) (own : WalkLists W) (marks : List Bool) (worths : List W) → own ≡ get_or walks i own → i < length walks
    → All (AnEntryEach M) walks → All (AnEntryEach M') (set walks i (rewritten own marks worths))
still_noted {M = M} e walks i own marks worths is low h =
    let u = entries_at walks i own is low h in
    subst (λ m. All (AnEntryEach m) (set walks i (rewritten own marks worths))) (sym e) (All-set (AnEntryEach M) walks i (rewritten own marks worths) (record { marks = u.marks; worths = u.worths }) h)

module _ {K D W A B : Type 0} (kind : KindMeaning K D W) (node_order : OrderMeaning A) (party_order : OrderMeaning B) where
  module _ (before after : Shown D A B) (walks : List (WalkLists W)) where
    abbrev N : ℕ
    N = parties_of before.cells

    abbrev M : ℕ
    M = nodes_of before.cells

    abbrev X : Setting D W A B
    X = setting_for kind node_order party_order N M

    abbrev nothing : Notes W
    nothing = nothing_noted kind

    -- the lists hold the same in as many nodes
    same_size : {e : Event D} {o : Outcome D W} (F : System D W A B) (ws : List (WalkLists W)) → SameSizes before.cells after.cells
        → Moves X F e o (sys kind node_order party_order after (all_noted kind M ws)) → Moves X F e o (sys kind node_order party_order after (all_noted kind (nodes_of after.cells) ws))
    same_size {e} {o} F ws z m = subst (λ n. Moves X F e o (sys kind node_order party_order after (all_noted kind n ws))) (sym z.nodes) m

    -- a command that leaves all walks' lists
    pub leaves_walks : {e : Event D} {o : Outcome D W} → ((notes : ℕ → Notes W) → CommandOnStore kind node_order party_order e o before after notes notes)
        → Moves X (sys kind node_order party_order before (all_noted kind M walks)) e o (sys kind node_order party_order after (all_noted kind (nodes_of after.cells) walks))
    leaves_walks h = let c = h (all_noted kind M walks) in same_size (sys kind node_order party_order before (all_noted kind M walks)) walks c.sizes c.moves

    -- and all worths
    pub leaves_worths : SameSizes before.cells after.cells → (q : ℕ) → (all_noted kind (nodes_of after.cells) walks q).worths ≡ (all_noted kind M walks q).worths
    leaves_worths z q = ap (λ m. (all_noted kind m walks q).worths) z.nodes

    -- one party's lists among all, at the place i
    own_noted : (p i : ℕ) (own : WalkLists W) → 1 ≤ p → p ≤ length walks → i ≡ p - 1 → own ≡ get_or walks i own → all_noted kind M walks p ≡ noted_in kind M own
    own_noted p i own low high at is =
        let note = noted_in kind M in
        nth_read nothing (map note walks) p low ∙ ap (λ j. get_or (map note walks) j nothing) (sym at) ∙ get_or-map note walks i own nothing (omega arith) ∙ ap note (sym is)

    -- changed
    own_changed : (p i : ℕ) (own' : WalkLists W) → 1 ≤ p → p ≤ length walks → i ≡ p - 1 → upd (all_noted kind M walks) p (noted_in kind M own') ≡ all_noted kind M (set walks i own')
    own_changed p i own' low high at =
        let note = noted_in kind M in
        sym (nth_set nothing (map note walks) p (note own') low (let l = length-map walks note in omega (arith, l))) ∙ ap (λ j. nth nothing (set (map note walks) j (note own'))) (sym at)
        ∙ ap (nth nothing) (sym (map-set note walks i own'))

    -- a command that writes no worth on one party's lists
    pub own_worths : (p i : ℕ) (own own' : WalkLists W) → 1 ≤ p → p ≤ length walks → i ≡ p - 1 → own ≡ get_or walks i own → vec_items own'.worths ≡ vec_items own.worths → SameSizes before.cells after.cells
        → (q : ℕ) → (all_noted kind (nodes_of after.cells) (set walks i own') q).worths ≡ (all_noted kind M walks q).worths
    own_worths p i own own' low high at is same z q =
        let all = all_noted kind M walks in
        let changed = noted_in kind M own' in
        let own_same : changed.worths ≡ (all p).worths = ap (nth kind.none) same ∙ sym (ap (λ n. n.worths) (own_noted p i own low high at is)) in
        ap (λ m. (all_noted kind m (set walks i own') q).worths) z.nodes ∙ sym (ap (λ f. (f q).worths) (own_changed p i own' low high at))
        ∙ upd_all (λ r n. n.worths ≡ (all r).worths) all p changed own_same q (λ _. refl)

    -- a command that changes one party's
    pub changes_own : {e : Event D} {o : Outcome D W} (p i : ℕ) (own own' : WalkLists W) → 1 ≤ p → p ≤ length walks → i ≡ p - 1 → own ≡ get_or walks i own
        → CommandOnWalkLists kind node_order party_order p e o before after (vec_items own.marks) (vec_items own'.marks) (vec_items own.worths) (vec_items own'.worths)
        → Moves X (sys kind node_order party_order before (all_noted kind M walks)) e o (sys kind node_order party_order after (all_noted kind (nodes_of after.cells) (set walks i own')))
    changes_own {e} {o} p i own own' low high at is h =
        let all = all_noted kind M walks in
        let note = noted_in kind M in
        let c = h.on_store all in
        let first : upd all p (note own) ≡ all = upd_own all p (note own) (sym (own_noted p i own low high at is)) in
        let then : upd all p (note own') ≡ all_noted kind M (set walks i own') = own_changed p i own' low high at in
        same_size (sys kind node_order party_order before all) (set walks i own') c.sizes
        (subst (λ n. Moves X (sys kind node_order party_order before n) e o (sys kind node_order party_order after (all_noted kind M (set walks i own')))) first
        (subst (λ n. Moves X (sys kind node_order party_order before (upd all p (note own))) e o (sys kind node_order party_order after n)) then c.moves))
