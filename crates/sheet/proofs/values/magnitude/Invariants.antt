use Rattle.std.proofs.Common.{◌≡◌, ◌^◌, ◌<◌, drop}
use Rattle.sheet.specs.Values.{going_on}
use Rattle.sheet.proofs.values.magnitude.Given as goal

-- what is read so far goes on to what the whole is, and has no more digits than were read
abbrev pub invariant-loop-digit : goal.invariant-loop-digit
invariant-loop-digit l = (going_on l.number (drop l.digit-index l.digits) ≡ going_on 0 l.digits) × (l.number < 10 ^ l.digit-index)
