use Rattle.model.specs.Setting.{setting_for}
use Rattle.model.proofs.OneWord.{begins_change_no_word}
use Rattle.model.proofs.changes.begins_change_no_word.Goals as goal

pub returns : goal.returns
returns g c N M = begins_change_no_word (setting_for g.K.Kind g.U.Order g.V.Order N M)
