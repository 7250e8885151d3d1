-- How a refusal is written out.
use Rattle.std.specs.Prelude.{ℕ, List, ◌++◌, codes}
use Rattle.std.specs.Fmt.{decimal}
use Rattle.refusals.specs.Numbers.{number_of}
use Rattle.refusals.specs.declared.Refusal.{Refusal}

-- by its number, in base ten
abbrev pub refusal_text : Refusal → List ℕ
refusal_text e = codes "refused with " ++ decimal (number_of e)
