use Rattle.model.specs.Setting.{setting_for}
use Rattle.model.proofs.Kept.{no_node_reaches_itself}
use Rattle.model.proofs.existing.no_node_reaches_itself.Goals as goal

pub returns : goal.returns
returns g c N M = no_node_reaches_itself (setting_for g.K.Kind g.U.Order g.V.Order N M)
