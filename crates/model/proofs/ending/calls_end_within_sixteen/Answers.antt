use Rattle.model.specs.Setting.{setting_for}
use Rattle.model.proofs.OtherCallsEnd.{other_calls_end}
use Rattle.model.proofs.Kept.{existing_kept}
use Rattle.model.proofs.ending.calls_end_within_sixteen.Goals as goal

pub returns : goal.returns
returns g c N M F e =
    let X = setting_for g.K.Kind g.U.Order g.V.Order N M in
    other_calls_end X F (existing_kept X F e)
