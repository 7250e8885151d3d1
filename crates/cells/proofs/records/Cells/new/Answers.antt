use Rattle.std.proofs.Common.{arith}
use Rattle.cells.proofs.Fresh.{new_view}
use Rattle.cells.proofs.records.Cells.new.Goals as goal

pub returns-clause-view : goal.returns-clause-view
returns-clause-view g c =
    let nodes = c.in_ok-nodes.ensures.items_if_clones_equal (λ y h. h) in
    let records = c.in_ok-records.ensures.items_if_clones_equal (λ y h. let k = rw c.new-2.ensures at h in rw c.new-2.ensures (grind arith)) in
    new_view _ _ c.in_ok-nodes.nodes.items c.in_ok-records.records.items (rw c.new.ensures at nodes) (rw c.new-2.ensures at records)
