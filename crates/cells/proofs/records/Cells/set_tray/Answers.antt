use Rattle.cells.proofs.Views.{tray_put}
use Rattle.cells.proofs.records.Cells.set_tray.Goals as goal

pub returns-in-Some : goal.returns-in-Some
returns-in-Some g c = let h = c.in-Some.ensures.value in tray_put c.args.self.now c.args.q h.0 c.in-Some.record.now h.1 c.args.v
