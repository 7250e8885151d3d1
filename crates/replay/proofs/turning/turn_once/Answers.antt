use Rattle.std.proofs.Common.{◌≡◌, subst}
use Rattle.model.specs.Runs.{Moves}
use Rattle.session.specs.Sessions.{setting_of, system_in}
use Rattle.replay.specs.Turns.{next_turn}
use Rattle.replay.proofs.turning.turn_once.Goals as goal

pub returns-clause-moves : goal.returns-clause-moves
returns-clause-moves g c =
    let s = c.args.session.now in
    let is : c.next_turn-turn.result ≡ next_turn (setting_of s) c.args.party (system_in s) = c.next_turn-turn.ensures in
    subst (λ e. Moves (setting_of s) (system_in s) e c.carry_out.result (system_in c.carry_out.new.self)) is c.carry_out.ensures.moves
