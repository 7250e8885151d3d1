use Rattle.orders.proofs.OnePick.{strides_leave_one_pick, strides_answer_along}
use Rattle.orders.proofs.one_pick.strides_leave_one_pick.Goals as goal

pub returns-clause-one_pick : goal.returns-clause-one_pick
returns-clause-one_pick c = strides_leave_one_pick

pub returns-clause-in_turn : goal.returns-clause-in_turn
returns-clause-in_turn c = strides_answer_along
