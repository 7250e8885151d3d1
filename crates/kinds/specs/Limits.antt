-- The limits of situations and data, each said once.
use Rattle.std.specs.Prelude.{ℕ, Bool, ◌&&◌, ℤ, pos, negsuc, int_le}

-- a node has this many kids, counted from 1
abbrev pub last_kid : ℕ
last_kid = 3

-- ranges are numbered from 0 to this
abbrev pub last_range : ℕ
last_range = 1

-- gears are numbered from 1 to this
abbrev pub last_gear : ℕ
last_gear = 16

-- in degrees Celsius: from 40 below zero
abbrev pub coldest : ℤ
coldest = negsuc 39

abbrev pub hottest : ℤ
hottest = pos 150

-- map numbers and worths lie between the smallest and the largest
abbrev pub smallest : ℤ
smallest = negsuc 999999

abbrev pub largest : ℤ
largest = pos 1000000

abbrev pub greatest_severity : ℕ
greatest_severity = 9

abbrev pub latest_hour : ℕ
latest_hour = 2000000

abbrev pub between : ℤ → ℤ → ℤ → Bool
between low high z = int_le low z && int_le z high
