use Rattle.std.proofs.Common.{length}
use Rattle.std.specs.String.{string_bytes}
use Rattle.sheet.specs.Lines.{lines_of}
use Rattle.replay.proofs.SoFar.{SoFar}
use Rattle.replay.proofs.replaying.replay_lines.Given as goal

abbrev pub invariant-loop-line : goal.invariant-loop-line
invariant-loop-line g l = SoFar g.K.Kind g.K.OnSheet.numbers l.lines (string_bytes l.initial.out) l.reader.rest.now l.reader.line (string_bytes l.out) l.held

abbrev pub decreases-loop-line : goal.decreases-loop-line
decreases-loop-line g l = length (lines_of l.reader.rest.now)
