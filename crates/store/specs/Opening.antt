-- When a store opens, and why it does not.
use Rattle.std.specs.Prelude.{◌≡◌, ℕ, ◌⊎◌}
use Rattle.refusals.specs.declared.Refusal.TheVariants.{OutsideLimits, OrderOfAnotherSize}
use Rattle.model.specs.State.{new_store}
pub use Rattle.model.specs.Setting.{InLimits}
use Rattle.cells.specs.declared.records.Cells.{Cells}
use Rattle.cells.specs.View.{view_of, parties_of, nodes_of}
use Rattle.store.specs.declared.errors.OpenError.{OpenError}
use Rattle.store.specs.declared.errors.OpenError.TheVariants.{Refused, NoMemory}

module _ {A B : Type 0} (numbers : A → ℕ) (numbers' : B → ℕ) where
  -- the orders are made for so many nodes and parties
  pub record MadeFor (nodes parties : ℕ) (node_order : A) (party_order : B) : Type 0 where
    pub for_nodes : numbers node_order ≡ nodes
    pub for_parties : numbers' party_order ≡ parties

  -- a new store of these sizes, with these orders
  pub record Opens {D : Type 0} (nodes parties : ℕ) (node_order : A) (party_order : B) (cells : Cells D) (node_order' : A) (party_order' : B) : Type 0 where
    pub limits : InLimits nodes parties
    pub sized : MadeFor nodes parties node_order party_order
    pub new : view_of cells ≡ new_store
    pub all_nodes : nodes_of cells ≡ nodes
    pub all_parties : parties_of cells ≡ parties
    pub same_node_order : node_order' ≡ node_order
    pub same_party_order : party_order' ≡ party_order

  -- limits are looked at first, then sizes; memory is asked for last
  abbrev pub OpeningFails : ℕ → ℕ → A → B → OpenError → Type 0
  OpeningFails nodes parties node_order party_order e = elim e [
    | Refused r ↦ ((r ≡ OutsideLimits) × (InLimits nodes parties → ⊥)) ⊎ ((r ≡ OrderOfAnotherSize) × InLimits nodes parties × (MadeFor nodes parties node_order party_order → ⊥))
    | NoMemory m ↦ InLimits nodes parties × MadeFor nodes parties node_order party_order
  ]
