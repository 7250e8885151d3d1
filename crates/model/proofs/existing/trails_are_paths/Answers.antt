use Rattle.model.specs.Setting.{setting_for}
use Rattle.model.proofs.Kept.{trails_are_paths}
use Rattle.model.proofs.existing.trails_are_paths.Goals as goal

pub returns : goal.returns
returns g c N M = trails_are_paths (setting_for g.K.Kind g.U.Order g.V.Order N M)
