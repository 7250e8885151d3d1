use Rattle.std.proofs.Common.{◌≡◌, pos, to_z, of_z, w32, rules, arith}
use Rattle.std.proofs.lemmas.Int.{ints, clamps}
use Rattle.kinds.specs.Maps.{limited, exactly}
use Rattle.figures.proofs.pressures.node_within.Goals as goal

pub returns : goal.returns
returns c =
    let worth : to_z w32 (of_z w32 c.node.result) ≡ limited (exactly c.args.code (pos 0) c.args.s c.args.first c.args.second c.args.third) = search rules in
    omega (arith, ints, clamps)
