use Rattle.model.specs.Setting.{setting_for}
use Rattle.model.proofs.FitsAlways.{reached_data_always_fits}
use Rattle.model.proofs.existing.reached_data_fits.Goals as goal

pub returns : goal.returns
returns g c N M = reached_data_always_fits (setting_for g.K.Kind g.U.Order g.V.Order N M)
