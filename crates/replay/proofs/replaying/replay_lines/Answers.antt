use Rattle.std.proofs.Common.{◌≡◌, [], rules}
use Rattle.std.specs.String.{string_bytes}
use Rattle.replay.proofs.SoFar.{at_first, one_line_more, at_last}
use Rattle.replay.proofs.replaying.replay_lines.Goals as goal

pub loop-line-init : goal.loop-line-init
loop-line-init g c = rw (c.new-reader.ensures.rest, c.new-reader.ensures.line) (at_first g.K.Kind g.K.OnSheet.numbers c.args.lines.now (string_bytes c.args.out.now))

pub loop-line-preserved : goal.loop-line-preserved
loop-line-preserved g c =
    let e = c.in-Some.ensures in
    one_line_more g.K.Kind g.K.OnSheet.numbers c.args.lines.now (string_bytes c.args.out.now) c.loop-line.invariant e.left e.values e.number e.counted c.in_ok-reply.ensures c.in_ok-write.ensures.ok

pub returns : goal.returns
returns g c =
    let end : c.loop-line.reader.rest.now ≡ [] = search rules in
    at_last g.K.Kind g.K.OnSheet.numbers c.args.lines.now (string_bytes c.args.out.now) end c.loop-line.invariant
