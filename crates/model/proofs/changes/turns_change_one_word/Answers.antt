use Rattle.model.specs.Setting.{setting_for}
use Rattle.model.proofs.OneWord.{turns_change_one_word}
use Rattle.model.proofs.changes.turns_change_one_word.Goals as goal

pub returns : goal.returns
returns g c N M = turns_change_one_word (setting_for g.K.Kind g.U.Order g.V.Order N M)
