use Rattle.std.proofs.Common.{◌∙◌, ap, subst}
use Rattle.replay.specs.Openings.{OpeningRefused}
use Rattle.replay.specs.Stages.{coded}
use Rattle.replay.proofs.LinesDone.{keeps_store, opens_store}
use Rattle.replay.proofs.held.open_another.Goals as goal

pub returns-in-Ok : goal.returns-in-Ok
returns-in-Ok g c values asked = opens_store g.K.Kind g.K.OnSheet.numbers c.args.number values c.args.held.now c.open_in_place.new.held c.code_alone.result asked c.in-Ok.ensures.opened c.code_alone.ensures

pub returns-in-Err-Refused : goal.returns-in-Err-Refused
returns-in-Err-Refused g c values asked =
    let i = c.in-Err-Refused in
    keeps_store g.K.Kind g.K.OnSheet.numbers c.args.number values c.args.held.now c.open_in_place.new.held c.code_alone-in-Err-Refused.result {e = i.refusal} asked (subst (OpeningRefused c.args.opening) i.field-0-is i.ensures.refused) i.ensures.kept
    (c.code_alone-in-Err-Refused.ensures ∙ ap (coded c.args.number) c.number.ensures)
