-- A session as the model's system, and what a command does to it.
use Rattle.std.specs.Prelude.{◌≡◌, ℕ, true, vec_items}
use Rattle.kinds.specs.declared.kind.Kind.{Ghosts as KindMeaning}
use Rattle.orders.specs.declared.order.Order.{Ghosts as OrderMeaning}
use Rattle.model.specs.declared.calls.Event.{Event}
use Rattle.model.specs.Types.{Outcome}
use Rattle.model.specs.Setting.{Setting, setting_for}
use Rattle.model.specs.Runs.{System, Moves}
use Rattle.cells.specs.View.{parties_of, nodes_of, SameSizes}
use Rattle.store.specs.Given.{system_of}
use Rattle.session.specs.declared.session.Session.{Session}
use Rattle.session.specs.Lent.{all_noted, is_begin}

module _ {K A B D W : Type 0} {kind : KindMeaning K D W} {node_order : OrderMeaning A} {party_order : OrderMeaning B} where
  abbrev pub setting_of : Session K A B D W kind node_order party_order → Setting D W A B
  setting_of s = setting_for kind node_order party_order (parties_of s.store.cells) (nodes_of s.store.cells)

  -- the store's words, the data list, and what the walks of each party have noted
  abbrev pub system_in : Session K A B D W kind node_order party_order → System D W A B
  system_in s = system_of kind s.store.cells s.store.node_order s.store.party_order (vec_items s.entries) (all_noted kind (nodes_of s.store.cells) (vec_items s.walks))

  -- what a command does to a session: a move of the model, with this outcome
  pub record CommandOnSession (command : Event D) (o : Outcome D W) (before after : Session K A B D W kind node_order party_order) : Type 0 where
    pub moves : Moves (setting_of before) (system_in before) command o (system_in after)
    -- a Begin writes no worth
    pub worths_stay : is_begin command ≡ true → (q : ℕ) → ((system_in after).notes q).worths ≡ ((system_in before).notes q).worths
    pub sizes : SameSizes before.store.cells after.store.cells
