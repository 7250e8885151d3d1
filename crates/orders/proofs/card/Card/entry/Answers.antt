use Rattle.std.proofs.Common.{vec_items, arith}
use Rattle.std.proofs.lemmas.Grind.{common_steps}
use Rattle.orders.specs.CardsLemmas.{entry_is_number}
use Rattle.orders.proofs.card.Card.entry.Goals as goal

-- the entry is one of the numbers, so it fits a number's width
pub overflow_cast-result : goal.overflow_cast-result
overflow_cast-result c =
    let s = c.args.self.now in
    grind (arith, common_steps, entry_is_number s.round.size (vec_items s.entries) s.fits c.args.place c.requires)
