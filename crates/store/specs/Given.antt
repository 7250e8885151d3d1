-- The program's store, its orders and its caller's lists as the model's system.
use Rattle.std.specs.Prelude.{ℕ, List, [], ◌∷◌}
use Rattle.kinds.specs.declared.kind.Kind.{Ghosts as KindMeaning}
use Rattle.model.specs.Entries.{nth}
use Rattle.model.specs.Runs.{System}
use Rattle.model.specs.Walks.{Notes}
use Rattle.cells.specs.declared.records.Cells.{Cells}
use Rattle.cells.specs.View.{view_of}

-- the data of all zero bytes, which stands for entries that a data list does not have
abbrev pub zero_data : {K D W : Type 0} → KindMeaning K D W → D
zero_data kind = kind.restored 0 (0 ∷ 0 ∷ 0 ∷ 0 ∷ [])

module _ {K D W A B : Type 0} (kind : KindMeaning K D W) where
  -- node n's data is entry n of the list; each party's walk has notes of its own
  abbrev pub system_of : Cells D → A → B → List D → (ℕ → Notes W) → System D W A B
  system_of cells node_order party_order entries notes = record { store = view_of cells; info = nth (zero_data kind) entries; notes = notes; node_order = node_order; party_order = party_order }
