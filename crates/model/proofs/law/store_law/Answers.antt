use Rattle.model.specs.Setting.{setting_for}
use Rattle.model.proofs.StoreLaw.{store_law}
use Rattle.model.proofs.law.store_law.Goals as goal

pub returns : goal.returns
returns g c N M =
    let X = setting_for g.K.Kind g.U.Order g.V.Order N M in
    store_law X g.met.U.Order.due_below_span g.met.V.Order.due_below_span
