-- Lists whose entries go by numbers from 1, as nodes, parties and slots do.
use Rattle.std.specs.Prelude.{ℕ, zero, suc, List, slice_index_or}

-- the entry of the number n; the blank where the list has none
abbrev pub nth : {A : Type 0} → A → List A → ℕ → A
nth blank entries zero = blank
nth blank entries (suc n) = slice_index_or entries n blank
