use Rattle.std.proofs.Common.{◌≡◌, ◌≤◌, length, take}
use Rattle.std.specs.Io.KnownBytes.{Consumes}
use Rattle.turns.proofs.filling.fill.Given as goal

-- each turn brought a byte at least
abbrev pub invariant-loop : goal.invariant-loop
invariant-loop g l = (l.counter ≤ l.filled) × (l.filled ≤ length l.buffer) × (length l.buffer ≡ length l.fn.buffer)
    × Consumes (g.R.Read.remaining l.fn.input) (g.R.Read.remaining l.input) (take l.filled l.buffer)
