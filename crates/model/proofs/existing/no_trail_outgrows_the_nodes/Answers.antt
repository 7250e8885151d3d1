use Rattle.model.specs.Setting.{setting_for}
use Rattle.model.proofs.Kept.{no_trail_outgrows_the_nodes}
use Rattle.model.proofs.existing.no_trail_outgrows_the_nodes.Goals as goal

pub returns : goal.returns
returns g c N M = no_trail_outgrows_the_nodes (setting_for g.K.Kind g.U.Order g.V.Order N M)
