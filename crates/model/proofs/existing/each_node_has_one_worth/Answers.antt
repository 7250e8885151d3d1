use Rattle.model.specs.Setting.{setting_for}
use Rattle.model.proofs.Worths.{worth_exists, worth_unique}
use Rattle.model.proofs.Kept.{existing_kept}
use Rattle.model.proofs.existing.each_node_has_one_worth.Goals as goal

pub returns : goal.returns
returns g c N M F e t n =
    let X = setting_for g.K.Kind g.U.Order g.V.Order N M in
    let u = worth_exists X.worth X.blank t F.store.kids F.info (existing_kept X F e).sound.ranked n in
    (u.0, u.1, λ v h. worth_unique X.worth X.blank t F.store.kids F.info h u.1)
