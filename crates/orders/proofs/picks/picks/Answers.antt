use Rattle.std.proofs.Common.{rules}
use Rattle.orders.proofs.Runs.{none_yet, one_more, each_comes}
use Rattle.orders.proofs.picks.picks.Goals as goal

pub loop-init : goal.loop-init
loop-init g c = search (rules, none_yet)

pub loop-preserved : goal.loop-preserved
loop-preserved g c = search (rules, one_more)

pub returns-clause-each_comes : goal.returns-clause-each_comes
returns-clause-each_comes g c is enough = search (rules, each_comes, g.met.O.Order.due_below_span)
