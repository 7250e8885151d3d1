use Rattle.std.proofs.Common.{◌≡◌, true, rules}
use Rattle.replay.specs.Turns.{is_running_on}
use Rattle.replay.proofs.TurnsOn.{sizes_further, turned_further}
use Rattle.replay.proofs.turning.turn_up_to.Goals as goal

pub loop-preserved : goal.loop-preserved
loop-preserved g c =
    let first = c.args.session.now in
    let s = c.loop.session in
    let t = c.turn_once-outcome-in-loop in
    let before = c.loop.invariant in
    let on : is_running_on c.loop.outcome ≡ true = search rules in
    (sizes_further g.K.Kind first s t.new.session before.0 t.ensures.sizes, search rules, turned_further g.K.Kind first s t.new.session c.args.party c.loop.counter c.loop.outcome t.result before.0 before.2 on t.ensures.moves)
