-- A store of two parties and four nodes, for runs that are exhibited.
use Rattle.std.specs.Prelude.{ℕ, true, cond, nat_lt}
use Rattle.model.specs.Types.{Lengths, Up, Asked, AsksCall}
use Rattle.model.specs.Setting.{Meaning, Setting}
use Rattle.model.specs.Plain.{Ask}

-- a due of so much, and at most 99
abbrev pub at_most99 : ℕ → ℕ
at_most99 n = cond (nat_lt 99 n) 99 n

-- an order over the numbers 1 to m whose value is each party's due
abbrev pub falling : ℕ → Meaning (ℕ → ℕ)
falling m = record { numbers = λ o. m; horizon = λ o. 100; due = λ o p n. at_most99 (o p) }

-- data is a number that fits any kids, and a node's worth is its data
abbrev pub small : Setting ℕ ℕ (ℕ → ℕ) (ℕ → ℕ)
small = record { suits = λ d k. true; worth = λ d t a b c. d; blank = 0; node_order = falling 4; party_order = falling 2; parties = 2; nodes = 4 }

-- lists that are long enough
abbrev pub long : Lengths
long = record { entries = 4; marks = 4; worths = 4 }

-- what a party asks for, with such lists
abbrev pub by : ℕ → Asked ℕ → Ask ℕ
by p a = record { party = p; asked = a; lengths = long }

-- at first nobody has asked for anything
abbrev pub asked_nothing : ℕ → Ask ℕ
asked_nothing q = by q (AsksCall Up)
