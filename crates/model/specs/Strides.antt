-- A new store with two strides as its search orders.
use Rattle.std.specs.Prelude.{ℕ, ◌≤◌}
use Rattle.orders.specs.Limits.{last_party}
use Rattle.orders.specs.declared.stride.Stride.{Stride}
use Rattle.orders.specs.contracts.stride.StrideOrder.TheImpl as stride
use Rattle.kinds.specs.declared.kind.Kind.{Ghosts as KindMeaning}
use Rattle.model.specs.State.{new_store}
use Rattle.model.specs.Walks.{Notes}
use Rattle.model.specs.Setting.{Setting, setting_for}
use Rattle.model.specs.Plain.{Plain, NewPlain, Ask}
use Rattle.model.specs.Opened.{Opened}

module _ {K D W : Type 0} (kind : KindMeaning K D W) where
  -- as many nodes and parties as the strides are made for
  abbrev pub stride_setting : Stride → Stride → Setting D W Stride Stride
  stride_setting nodes parties = setting_for kind (stride.ghosts) (stride.ghosts) ((stride.ghosts).numbers parties) ((stride.ghosts).numbers nodes)

  -- a new store with strides is opened with any new plain store, whatever the caller's lists hold
  abbrev pub StridesOpenANewStore : Type 0
  StridesOpenANewStore = (nodes parties : Stride) → (stride.ghosts).numbers parties ≤ last_party → (info : ℕ → D) (notes : ℕ → Notes W) (s : Plain D) (asked : ℕ → Ask D) → NewPlain s
      → Opened (stride_setting nodes parties) (record { store = new_store; info = info; notes = notes; node_order = nodes; party_order = parties }) s asked
