-- How the reason why no store was opened is written out.
use Rattle.std.specs.Prelude.{ℕ, List, codes}
use Rattle.refusals.specs.Shown.{refusal_text}
use Rattle.store.specs.declared.errors.OpenError.{OpenError}
use Rattle.store.specs.declared.errors.OpenError.TheVariants.{NoMemory, Refused}

abbrev pub open_error_text : OpenError → List ℕ
open_error_text (Refused e) = refusal_text e
open_error_text (NoMemory cause) = codes "no memory for the store"
