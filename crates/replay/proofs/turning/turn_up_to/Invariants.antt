use Rattle.std.proofs.Common.{◌≤◌}
use Rattle.cells.specs.View.{SameSizes}
use Rattle.session.specs.Sessions.{setting_of, system_in}
use Rattle.replay.proofs.TurnsOn.{HasTurned}
use Rattle.replay.proofs.turning.turn_up_to.Given as goal

abbrev pub invariant-loop : goal.invariant-loop
invariant-loop g l = SameSizes l.fn.session.store.cells l.session.store.cells × (l.counter ≤ l.most) × HasTurned (setting_of l.fn.session) l.party (system_in l.fn.session) l.counter l.outcome (system_in l.session)
