use Rattle.std.proofs.Common.{refl, rules}
use Rattle.store.specs.Shown.{shown}
use Rattle.session.proofs.Lent.{begins_walk}
use Rattle.session.proofs.lending.begin_walk.Goals as goal

pub returns : goal.returns
returns g c =
    let before = shown c.args.store.now c.args.data.now in
    let marks = c.split_at_mut-marks in
    let worths = c.split_at_mut-worths in
    let E = c.begin_walk.ensures in
    begins_walk g.K.Kind g.U.Order g.V.Order before (shown c.begin_walk.new.self c.args.data.now) c.args.lengths.entries c.min-lent.result c.requires.entries c.min-lent.ensures
    c.args.party _ c.begin_walk.new.notes c.args.marks.now _ c.args.worths.now _ c.args.lengths.marks c.min-marked.result c.args.lengths.worths c.min-noted.result
    c.requires.lists.0 c.requires.lists.1 c.min-marked.ensures c.min-noted.ensures marks.ensures.front worths.ensures.front
    (search rules) (search rules)
    E.same_lists E.begins.further c.args.walk c.args.lengths refl refl refl refl E.begins
