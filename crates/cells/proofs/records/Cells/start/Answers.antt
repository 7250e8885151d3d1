use Rattle.cells.proofs.Begun.{begins}
use Rattle.cells.proofs.records.Cells.start.Goals as goal

pub returns-clause-becomes : goal.returns-clause-becomes
returns-clause-becomes g c =
    let h = c.in-Some.ensures.value in
    begins c.args.self.now c.args.party h.0 c.in-Some.record.now c.begin.new.own h.1 c.args.call.now c.begin.ensures
