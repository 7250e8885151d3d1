use Rattle.orders.proofs.OnePick.{cards_leave_one_pick, cards_answer_along}
use Rattle.orders.proofs.one_pick.cards_leave_one_pick.Goals as goal

pub returns-clause-one_pick : goal.returns-clause-one_pick
returns-clause-one_pick c = cards_leave_one_pick

pub returns-clause-in_turn : goal.returns-clause-in_turn
returns-clause-in_turn c = cards_answer_along
