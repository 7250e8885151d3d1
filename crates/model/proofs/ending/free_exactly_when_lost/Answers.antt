use Rattle.model.specs.Setting.{setting_for}
use Rattle.model.proofs.Resting.{free_when_lost}
use Rattle.model.proofs.Kept.{existing_kept}
use Rattle.model.proofs.ending.free_exactly_when_lost.Goals as goal

pub returns : goal.returns
returns g c N M F e =
    let X = setting_for g.K.Kind g.U.Order g.V.Order N M in
    free_when_lost X F (existing_kept X F e)
