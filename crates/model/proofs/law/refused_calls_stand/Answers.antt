use Rattle.model.proofs.RefusedCalls.{refused_calls_stand}
use Rattle.model.proofs.law.refused_calls_stand.Goals as goal

pub returns : goal.returns
returns c = refused_calls_stand
