-- The limits of search orders, each said once.
use Rattle.std.specs.Prelude.{ℕ, ◌≤◌}

-- parties are numbered from 1 to this
abbrev pub last_party : ℕ
last_party = 15

-- an order is made for the numbers 1 to m, m being at most this
abbrev pub largest_size : ℕ
largest_size = 255

abbrev pub longest_stride : ℕ
longest_stride = 255

abbrev pub IsParty : ℕ → Type 0
IsParty p = (1 ≤ p) × (p ≤ last_party)
