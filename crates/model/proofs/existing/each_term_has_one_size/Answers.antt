use Rattle.model.proofs.Kept.{existing_kept}
use Rattle.model.proofs.TermSizes.{each_term_has_a_size}
use Rattle.model.proofs.Worths.{term_has_unique}
use Rattle.model.specs.Setting.{setting_for}
use Rattle.model.proofs.existing.each_term_has_one_size.Goals as goal

pub returns : goal.returns
returns g c N M F e n =
    let size = each_term_has_a_size F.store.kids (existing_kept (setting_for g.K.Kind g.U.Order g.V.Order N M) F e).sound.ranked M n in
    (size.0, size.1, λ l h. term_has_unique M F.store.kids n l size.0 h size.1)
