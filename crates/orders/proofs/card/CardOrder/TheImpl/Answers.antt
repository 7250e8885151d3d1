use Rattle.std.proofs.Common.{vec_items, refl, ap, ◌∙◌, arith}
use Rattle.orders.specs.Rounds.{place_of, round_due, entry_at}
use Rattle.orders.specs.contracts.card.CardOrder.TheImpl as own
use Rattle.orders.specs.CardsLemmas.{entry_is_number, number_stands}
use Rattle.orders.specs.Factors.{none_shared_with_one}
use Rattle.orders.specs.RoundsLemmas.{move_is_pick}
use Rattle.orders.proofs.card.CardOrder.TheImpl.Goals as goal

pub pick-tells : goal.pick-tells
pick-tells c =
    let old = c.args.self.now in
    let new = c.new.self.now in
    let said = c.ensures in
    record {
      picked = move_is_pick (entry_at (vec_items old.entries)) old.round.size 1 old.round.size_fits.low (omega arith) (none_shared_with_one old.round.size)
          (number_stands old.round.size (vec_items old.entries) old.fits) (entry_is_number old.round.size (vec_items old.entries) old.fits)
          (own.ghosts).numbers (own.ghosts).horizon (own.ghosts).due old new c.args.party c.result old.round.places new.round.places
          old.round.placed refl said.same.0 said.same.0 (λ q n. refl)
          (λ q n. ap (λ s. round_due (entry_at (vec_items new.entries)) s 1 (place_of new.round.places q) n) said.same.0
          ∙ ap (λ e. round_due (entry_at (vec_items e)) old.round.size 1 (place_of new.round.places q) n) said.same.1)
          said.places
          said.answer
          said.refused;
    }
