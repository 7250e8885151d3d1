use Rattle.std.proofs.Common.{refl}
use Rattle.replay.proofs.LinesDone.{without_store, begins_with}
use Rattle.replay.proofs.held.begin.Goals as goal

pub returns-in_default : goal.returns-in_default
returns-in_default g c values asked = without_store g.K.Kind g.K.OnSheet.numbers c.args.number values c.args.held.now c.code_alone.result c.in_default.is asked refl c.code_alone.ensures

pub returns : goal.returns
returns g c values asked = rw c.in-Some.is (begins_with g.K.Kind g.K.OnSheet.numbers c.args.number values c.in-Some.session c.carry_out.new.self c.reply_to.result asked c.entries_of_all-entries.ensures c.carry_out.ensures c.reply_to.ensures)
