-- What one line opens is alike however it is opened: a new store with the strides that are asked for, and nothing noted.
use Rattle.std.proofs.Common.{◌≡◌, ℕ, zero, suc, false, ◌&&◌, leb, List, length, map, replicate, get_or, inl, inr, sym, refl, ap, ◌∙◌, arith, true≢false}
use Rattle.std.specs.Prelude.{All, vec_items}
use mathlib.Core.Path.{fun_ext, subst₂}
use Rattle.std.proofs.Math.Bool.{and-false}
use Rattle.std.proofs.lemmas.Bool.{cases_lt}
use Rattle.std.proofs.lemmas.List.{get_or-replicate, get_or_past, length-replicate}
use Rattle.std.proofs.lemmas.List.Elements.{All-map, All-get_or}
use Rattle.kinds.specs.declared.kind.Kind.{Ghosts as KindMeaning}
use Rattle.orders.specs.Rounds.{place_of, round_due}
use Rattle.orders.specs.declared.stride.Stride.{Stride}
use Rattle.orders.specs.contracts.stride.StrideOrder.TheImpl as stride
use Rattle.model.specs.Entries.{nth}
use Rattle.model.specs.Setting.{meaning_of, setting_for}
use Rattle.model.specs.Walks.{Notes}
use Rattle.model.proofs.Alike.{AlikeNotes, AlikeOrders, Alike}
use Rattle.cells.specs.View.{nodes_of}
use Rattle.store.specs.Given.{zero_data}
use Rattle.session.specs.declared.session.Session.{Session}
use Rattle.session.specs.declared.lists.WalkLists.{WalkLists}
use Rattle.session.specs.Lent.{noted_in, nothing_noted, all_noted}
use Rattle.session.specs.Performed.{Unnoted}
use Rattle.session.specs.Sessions.{system_in}
use Rattle.replay.specs.declared.requests.Opening.{Opening}
use Rattle.replay.specs.Openings.{StartsWithStride, OpenedOnSheet}

alike_strides : (m by : ℕ) (a b : Stride) → StartsWithStride m by a → StartsWithStride m by b → AlikeOrders (meaning_of (stride.ghosts)) a b
alike_strides m by a b f g =
    let size : a.round.size ≡ b.round.size = f.made.sized ∙ sym g.made.sized in
    let step : a.stride ≡ b.stride = f.stride_is ∙ sym g.stride_is in
    record {
      numbers = size;
      dues = λ p n is i. (
          let place : place_of a.round.places p ≡ place_of b.round.places p = f.made.started p is ∙ sym (g.made.started p is) in
          λ z. round_due (λ q. q) (size z) (step z) (place z) n
          );
    }

all_false : (M n : ℕ) → nth false (replicate M false) n ≡ false
all_false M zero = refl
all_false M (suc n) = elim (cases_lt n M) [
  | inl l ↦ get_or-replicate M n false false l
  | inr ge ↦ get_or_past (replicate M false) n false (let e = length-replicate M false in omega (arith, e, ge))
]

module _ {K D W : Type 0} (kind : KindMeaning K D W) where
  abbrev Unmarked : Notes W → Type 0
  Unmarked a = a.marks ≡ (λ n. false)

  list_unmarked : (M' M : ℕ) (l : WalkLists W) → Unnoted kind.none M l → Unmarked (noted_in kind M' l)
  list_unmarked M' M l u = fun_ext (λ n. ap (λ marks. leb n M' && nth false marks n) u.marks ∙ ap (λ b. leb n M' && b) (all_false M n) ∙ and-false (leb n M'))

  none_marked : (M' M : ℕ) (walks : List (WalkLists W)) → All (Unnoted kind.none M) walks → (q : ℕ) → Unmarked (all_noted kind M' walks q)
  none_marked M' M walks h zero = refl
  none_marked M' M walks h (suc i) = elim (cases_lt i (length (map (noted_in kind M') walks))) [
    | inl l ↦ All-get_or Unmarked (map (noted_in kind M') walks) i (nothing_noted kind) l (All-map Unmarked (noted_in kind M') walks (λ j d low. list_unmarked M' M (get_or walks j d) (h j d low)))
    | inr past ↦ ap (λ a. a.marks) (get_or_past (map (noted_in kind M') walks) i (nothing_noted kind) past)
  ]

  unmarked_alike : (a b : Notes W) → Unmarked a → Unmarked b → AlikeNotes a b
  unmarked_alike a b h g = record { marks = h ∙ sym g; worths = λ n e. absurd (true≢false (sym e ∙ ap (λ f. f n) h)) }

  pub alike_openings : (o : Opening) (s t : Session K Stride Stride D W kind (stride.ghosts) (stride.ghosts)) → OpenedOnSheet o s → OpenedOnSheet o t
      → Alike (setting_for kind (stride.ghosts) (stride.ghosts) o.parties o.nodes) (system_in s) (system_in t)
  alike_openings o s t f g =
      let nodes = alike_strides o.nodes o.node_stride f.node_order g.node_order f.node_stride g.node_stride in
      let parties = alike_strides o.parties o.party_stride f.party_order g.party_order f.party_stride g.party_stride in
      let L : Stride → Stride → Type 0 = λ a b. AlikeOrders (meaning_of (stride.ghosts)) a b in
      record {
        store = f.new.store.new ∙ sym g.new.store.new;
        info = ap (nth (zero_data kind)) (f.new.entries ∙ sym g.new.entries);
        notes = λ q. unmarked_alike ((system_in s).notes q) ((system_in t).notes q) (none_marked (nodes_of s.store.cells) o.nodes (vec_items s.walks) f.new.walks q) (none_marked (nodes_of t.store.cells) o.nodes (vec_items t.walks) g.new.walks q);
        nodes = subst₂ L (sym f.new.store.same_node_order) (sym g.new.store.same_node_order) nodes;
        parties = subst₂ L (sym f.new.store.same_party_order) (sym g.new.store.same_party_order) parties;
      }
