use Rattle.std.specs.Prelude.{Some, None, ◌-◌}
use Rattle.kinds.specs.Kids.{position}
use Rattle.step.proofs.linking.+link_from.Given as goal

abbrev pub decreases-link_from : goal.decreases-link_from
decreases-link_from g l = elim l.from [ None ↦ 0 | Some k ↦ 4 - position k ]
