use Rattle.model.specs.Setting.{setting_for}
use Rattle.model.proofs.Kept.{counts_are_at_most}
use Rattle.model.proofs.existing.most_references.Goals as goal

pub returns : goal.returns
returns g c =
    let X = setting_for g.K.Kind g.U.Order g.V.Order c.args.parties c.args.nodes in
    record { value = c.references.ensures; bound = counts_are_at_most X c.references.ensures }
