use Rattle.model.specs.State.{trail_of}
use Rattle.cells.specs.Walked.{runs_on, trails_on}
use Rattle.cells.proofs.Begun.{walks}
use Rattle.cells.proofs.records.Cells.go_on.Goals as goal

pub returns-clause-becomes : goal.returns-clause-becomes
returns-clause-becomes g c =
    let h = c.in-Some.ensures.value in
    let b = c.args.below in
    walks c.args.self.now c.args.party h.0 c.in-Some.record.now c.walk_on.new.own h.1
    (λ z. trails_on b (trail_of z.trail)) (λ z. runs_on c.args.situation b (trails_on b (trail_of z.trail))) c.walk_on.ensures
