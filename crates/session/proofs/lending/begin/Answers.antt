use Rattle.std.proofs.Common.{refl}
use Rattle.store.specs.Shown.{shown}
use Rattle.session.proofs.Lent.{begins_call}
use Rattle.session.proofs.lending.begin.Goals as goal

pub returns : goal.returns
returns g c notes =
    begins_call g.K.Kind g.U.Order g.V.Order (shown c.args.store.now c.args.data.now) (shown c.begin.new.self c.args.data.now) c.args.lengths.entries c.min-lent.result c.requires c.min-lent.ensures
    c.args.party c.args.call c.args.lengths notes refl refl c.begin.ensures
