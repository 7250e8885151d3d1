-- How the fields of a line are taken, one after another. Only private functions are held to this: it is the program's own way, and need not be
-- believed. Which values a line has is `values_on` (Lines.antt), and the contract of `Reader::next_line` holds the whole to that.
use Rattle.std.specs.Prelude.{ℕ, List, Option, None}
use Rattle.sheet.specs.Letters.{letter_of}
use Rattle.sheet.specs.Lines.{row}
use Rattle.sheet.specs.Values.{value_of}
use Rattle.sheet.specs.declared.lines.Values.{Values}
use Rattle.sheet.specs.declared.columns.Place.{Place}
use Rattle.sheet.specs.declared.columns.Place.TheVariants.{Party, Call, A, Fourth, Fifth, D, E, F, End, BehindEnd}
use Rattle.sheet.specs.declared.columns.Columns.{Columns}

-- before the first field
abbrev pub no_columns : Columns
no_columns = record { next = Party; party = None; call = None; a = None; fourth = None; fifth = None; d = None; e = None; f = None }

abbrev pub following : Place → Place
following Party = Call
following Call = A
following A = Fourth
following Fourth = Fifth
following Fifth = D
following D = E
following E = F
following F = End
following End = BehindEnd
following BehindEnd = BehindEnd

-- a part read for the place
abbrev pub read_at : Place → Columns → List ℕ → Columns
read_at Party columns part = record columns { party = value_of part }
read_at Call columns part = record columns { call = letter_of part }
read_at A columns part = record columns { a = value_of part }
read_at Fourth columns part = record columns { fourth = value_of part }
read_at Fifth columns part = record columns { fifth = value_of part }
read_at D columns part = record columns { d = value_of part }
read_at E columns part = record columns { e = value_of part }
read_at F columns part = record columns { f = value_of part }
read_at End columns part = columns
read_at BehindEnd columns part = columns

abbrev pub with_part : Columns → List ℕ → Columns
with_part columns part = read_at columns.next (record columns { next = following columns.next }) part

-- the columns as a line's values, if this is their end
abbrev pub ended_at : Place → Columns → Option Values
ended_at End c = row c.party c.call c.a c.fourth c.fifth c.d c.e c.f
ended_at place c = None

abbrev pub values_taken : Columns → Option Values
values_taken columns = ended_at columns.next columns
