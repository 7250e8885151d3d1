use Rattle.std.proofs.Common.{◌≡◌, ◌≤◌, length, take, vec_items, vec_len, vec_capacity}
use Rattle.std.specs.Prelude.{zip}
use Rattle.model.specs.Runs.{Run}
use Rattle.cells.specs.View.{SameSizes}
use Rattle.session.specs.Performed.{CarriedOut}
use Rattle.session.specs.Sessions.{setting_of, system_in}
use Rattle.session.proofs.perform.perform.Given as goal

abbrev pub invariant-loop-command : goal.invariant-loop-command
invariant-loop-command g l = Run (setting_of l.initial.session) (system_in l.initial.session) (zip (take l.command-index l.commands) (vec_items l.outcomes)) (system_in l.session)
    × CarriedOut l.initial.session (take l.command-index l.commands) (vec_items l.outcomes) l.session
    × SameSizes l.initial.session.store.cells l.session.store.cells × (vec_len l.outcomes ≡ l.command-index) × (length l.commands ≤ vec_capacity l.outcomes)
