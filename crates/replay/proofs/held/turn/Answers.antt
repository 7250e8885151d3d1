use Rattle.std.proofs.Common.{refl}
use Rattle.replay.proofs.LinesDone.{without_store, turns_with}
use Rattle.replay.proofs.held.turn.Goals as goal

pub returns-in_default : goal.returns-in_default
returns-in_default g c values asked = without_store g.K.Kind g.K.OnSheet.numbers c.args.number values c.args.held.now c.code_alone.result c.in_default.is asked refl c.code_alone.ensures

pub returns : goal.returns
returns g c values asked = rw c.in-Some.is (turns_with g.K.Kind g.K.OnSheet.numbers c.args.number values c.in-Some.session c.turn_up_to.new.session c.reply_to.result asked c.turn_up_to.ensures.turns c.turn_up_to.ensures.sizes c.reply_to.ensures)
