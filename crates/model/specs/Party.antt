-- What a party of a new store has.
use Rattle.std.specs.Prelude.{replicate}
use Rattle.orders.specs.Limits.{largest_size}
use Rattle.model.specs.declared.party.PartyRecord.{PartyRecord}
use Rattle.model.specs.Types.{Closed, Idle}
use Rattle.model.specs.Checks.{last_slot}

abbrev pub new_record : {D : Type 0} → PartyRecord D
new_record = record { slots = replicate last_slot 0; inbox = 0; tray = Closed; trail = record { entered = 0; length = 0; nodes = replicate largest_size 0 }; running = Idle }
