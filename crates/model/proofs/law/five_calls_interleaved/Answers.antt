use Rattle.model.proofs.FiveCalls.{five_calls_interleaved}
use Rattle.model.proofs.law.five_calls_interleaved.Goals as goal

pub returns : goal.returns
returns c = five_calls_interleaved
