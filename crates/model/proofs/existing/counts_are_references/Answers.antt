use Rattle.model.specs.Setting.{setting_for}
use Rattle.model.proofs.Kept.{counts_are_references}
use Rattle.model.proofs.existing.counts_are_references.Goals as goal

pub returns : goal.returns
returns g c N M = counts_are_references (setting_for g.K.Kind g.U.Order g.V.Order N M)
