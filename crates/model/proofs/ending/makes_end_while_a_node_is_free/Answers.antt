use Rattle.model.specs.Setting.{setting_for}
use Rattle.model.proofs.MakesEnd.{existing_makes_end}
use Rattle.model.proofs.ending.makes_end_while_a_node_is_free.Goals as goal

pub returns : goal.returns
returns g c N M =
    let X = setting_for g.K.Kind g.U.Order g.V.Order N M in
    existing_makes_end X g.met.U.Order.due_below_span g.met.V.Order.due_below_span
