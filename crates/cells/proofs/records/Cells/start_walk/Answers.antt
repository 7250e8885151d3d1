use Rattle.std.proofs.Common.{[]}
use Rattle.model.specs.Entries.{nth}
use Rattle.model.specs.State.{along}
use Rattle.model.specs.declared.running.Reading.TheVariants.{ReadNothing}
use Rattle.model.specs.declared.running.Running.TheVariants.{WalkReads}
use Rattle.cells.proofs.Begun.{walks}
use Rattle.cells.proofs.records.Cells.start_walk.Goals as goal

pub returns-clause-becomes : goal.returns-clause-becomes
returns-clause-becomes g c =
    let h = c.in-Some.ensures.value in
    let i = c.args.slot in
    walks c.args.self.now c.args.party h.0 c.in-Some.record.now c.begin_walk.new.own h.1
    (λ z. along i (nth 0 z.slots i) []) (λ z. WalkReads c.args.situation ReadNothing) c.begin_walk.ensures
