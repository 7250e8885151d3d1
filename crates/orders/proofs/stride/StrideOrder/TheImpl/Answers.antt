use Rattle.std.proofs.Common.{◌-◌, set, refl, ap, ◌∙◌}
use Rattle.orders.specs.Rounds.{place_of, round_due}
use Rattle.orders.specs.RoundsLemmas.{move_is_pick}
use Rattle.orders.proofs.stride.StrideOrder.TheImpl.Goals as goal
use Rattle.orders.specs.contracts.stride.StrideOrder.TheImpl as own

pub pick-tells : goal.pick-tells
pick-tells c =
    let old = c.args.self.now in
    let new = c.new.self.now in
    let said = c.ensures in
    record {
      picked = move_is_pick (λ q. q) old.round.size old.stride old.round.size_fits.low old.fits.low old.fits.apart
          (λ i h. (i, h, refl)) (λ i h. h)
          (own.ghosts).numbers (own.ghosts).horizon (own.ghosts).due old new c.args.party c.result old.round.places new.round.places
          old.round.placed refl said.same.0 said.same.0 (λ q n. refl)
          (λ q n. ap (λ s. round_due (λ a. a) s new.stride (place_of new.round.places q) n) said.same.0
          ∙ ap (λ s. round_due (λ a. a) old.round.size s (place_of new.round.places q) n) said.same.1)
          (λ is. said.places is ∙ ap (λ r. set old.round.places (c.args.party - 1) r) (said.answer is))
          said.answer
          said.refused;
    }
