use Rattle.model.proofs.Sixteen.{sixteen_is_reached}
use Rattle.model.proofs.ending.sixteen_is_reached.Goals as goal

pub returns : goal.returns
returns c = sixteen_is_reached
