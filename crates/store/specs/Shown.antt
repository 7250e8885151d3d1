-- A store with the data list that it is given, as the promises speak of it.
use Rattle.std.specs.Prelude.{List}
use Rattle.kinds.specs.declared.kind.Kind.{Ghosts as KindMeaning}
use Rattle.orders.specs.declared.order.Order.{Ghosts as OrderMeaning}
use Rattle.store.specs.declared.store.Store.{Store}
use Rattle.store.specs.Moved.{Shown}

module _ {K A B D W : Type 0} {kind : KindMeaning K D W} {node_order : OrderMeaning A} {party_order : OrderMeaning B} where
  abbrev pub shown : Store K A B D W kind node_order party_order → List D → Shown D A B
  shown s entries = record { cells = s.cells; nodes = s.node_order; parties = s.party_order; entries = entries }
