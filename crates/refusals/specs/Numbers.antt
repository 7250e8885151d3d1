-- The number by which each refusal goes in every answer, sheet and document.
use Rattle.std.specs.Prelude.{ℕ}
use Rattle.refusals.specs.declared.Refusal.{Refusal}
use Rattle.refusals.specs.declared.Refusal.TheVariants.{OutsideLimits, BadOrder, OrderOfAnotherSize, NoSuchParty, NoSuchSlot, ShortList, DataDoesNotFit, BadSituation, Busy, NothingToTurn, SlotEmpty, SlotFilled, NoTrail, TrailStands, NoKid, InboxFull, InboxEmpty}

abbrev pub number_of : Refusal → ℕ
number_of OutsideLimits = 1
number_of BadOrder = 2
number_of OrderOfAnotherSize = 3
number_of NoSuchParty = 4
number_of NoSuchSlot = 5
number_of ShortList = 6
number_of DataDoesNotFit = 7
number_of BadSituation = 8
number_of Busy = 11
number_of NothingToTurn = 12
number_of SlotEmpty = 13
number_of SlotFilled = 14
number_of NoTrail = 15
number_of TrailStands = 16
number_of NoKid = 17
number_of InboxFull = 18
number_of InboxEmpty = 19
