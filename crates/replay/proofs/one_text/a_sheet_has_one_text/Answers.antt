use Rattle.replay.proofs.OneText.{one_text}
use Rattle.replay.proofs.one_text.a_sheet_has_one_text.Goals as goal

pub returns : goal.returns
returns c = one_text
