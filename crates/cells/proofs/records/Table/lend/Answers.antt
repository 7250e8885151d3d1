use Rattle.std.proofs.Common.{refl, arith}
use Rattle.std.proofs.lemmas.Grind.{common_steps}
use Rattle.cells.proofs.records.Table.lend.Goals as goal

pub returns : goal.returns
returns g c = (refl, record { follows = tt; value = grind (arith, common_steps) })
