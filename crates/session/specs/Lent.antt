-- What a command does to a store and to the lists that it is lent.
use Rattle.std.specs.Prelude.{◌≡◌, ℕ, Bool, true, false, List, map, vec_items}
use Rattle.kinds.specs.declared.kind.Kind.{Ghosts as KindMeaning}
use Rattle.orders.specs.declared.order.Order.{Ghosts as OrderMeaning}
use Rattle.model.specs.Entries.{nth}
use Rattle.model.specs.declared.calls.Event.{Event}
use Rattle.model.specs.declared.calls.Event.TheVariants.{Begins, Turns, WalkTurns}
use Rattle.model.specs.Fun.{upd}
use Rattle.model.specs.Types.{Outcome}
use Rattle.model.specs.Walks.{Notes}
use Rattle.walks.specs.Notes.{notes_of}
use Rattle.cells.specs.View.{nodes_of, SameSizes}
use Rattle.store.specs.Moved.{Shown, MovesBy}
use Rattle.session.specs.declared.lists.WalkLists.{WalkLists}

abbrev pub is_begin : {D : Type 0} → Event D → Bool
is_begin e = elim e [ Begins p a l ↦ true | Turns p l ↦ false | WalkTurns p l ↦ false ]

module _ {K D W : Type 0} (kind : KindMeaning K D W) where
  -- what the lists of one party's walks hold of M nodes
  abbrev pub noted_in : ℕ → WalkLists W → Notes W
  noted_in M l = notes_of kind.none M (vec_items l.marks) (vec_items l.worths)

  -- nothing marked, each worth the blank
  abbrev pub nothing_noted : Notes W
  nothing_noted = record { marks = λ n. false; worths = λ n. kind.none }

  -- what the walks of each party have noted
  abbrev pub all_noted : ℕ → List (WalkLists W) → ℕ → Notes W
  all_noted M walks = nth nothing_noted (map (noted_in M) walks)

module _ {K D W A B : Type 0} (kind : KindMeaning K D W) (node_order : OrderMeaning A) (party_order : OrderMeaning B) where
  -- what a command does to a store with its data list: a move of the model, from everybody's notes before to those after
  pub record CommandOnStore (command : Event D) (o : Outcome D W) (before after : Shown D A B) (notes notes' : ℕ → Notes W) : Type 0 where
    pub moves : MovesBy kind node_order party_order command o before after notes notes'
    pub sizes : SameSizes before.cells after.cells

  -- what a command of a walk does, which is lent its party's marks and worths beside the data list; nobody else's notes change
  pub record CommandOnWalkLists (p : ℕ) (command : Event D) (o : Outcome D W) (before after : Shown D A B) (marks marks' : List Bool) (worths worths' : List W) : Type 0 where
    pub on_store : (notes : ℕ → Notes W) → CommandOnStore command o before after (upd notes p (notes_of kind.none (nodes_of before.cells) marks worths)) (upd notes p (notes_of kind.none (nodes_of before.cells) marks' worths'))
    -- a Begin takes marks off, and writes no worth
    pub worths_stay : is_begin command ≡ true → worths' ≡ worths
