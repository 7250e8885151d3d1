use Rattle.std.proofs.Common.{refl, rules}
use Rattle.store.specs.Shown.{shown}
use Rattle.session.proofs.Lent.{turns_call}
use Rattle.session.proofs.lending.turn.Goals as goal

pub returns : goal.returns
returns g c notes =
    turns_call g.K.Kind g.U.Order g.V.Order (shown c.args.store.now c.args.data.now) (shown c.turn.new.self _) c.args.lengths.entries c.min-lent.result c.requires c.min-lent.ensures
    c.args.party c.args.lengths c.turn.new.data notes refl (search rules) refl c.turn.ensures
