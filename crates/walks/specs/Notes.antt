-- A walk's notes as they stand in its caller's two lists.
use Rattle.std.specs.Prelude.{◌≡◌, ℕ, Bool, false, ◌&&◌, List, [], length, nat_le}
use Rattle.model.specs.Entries.{nth}
use Rattle.model.specs.Steps.{between}
use Rattle.walks.specs.declared.notes.Notes.{Notes as Lent}
use Rattle.model.specs.Walks.{Notes}
pub use Rattle.model.specs.Walks.{worked_out}

-- the marks of the nodes 1 to M on a list; what stands beyond is not looked at
abbrev pub marks_of : ℕ → List Bool → ℕ → Bool
marks_of M marks n = nat_le n M && nth false marks n

abbrev pub notes_of : {W : Type 0} → W → ℕ → List Bool → List W → Notes W
notes_of blank M marks worths = record { marks = marks_of M marks; worths = nth blank worths }

-- the marks alone, with no worth noted
abbrev pub marks_alone : ℕ → List Bool → Notes ℕ
marks_alone M marks = notes_of 0 M marks []

-- the worths alone, with no mark noted
abbrev pub worths_alone : {W : Type 0} → W → List W → Notes W
worths_alone blank worths = notes_of blank 0 [] worths

-- n is one of the nodes 1 to M, and each of these has an entry on both lists
abbrev pub has_entries : {W : Type 0} → ℕ → List Bool → List W → ℕ → Bool
has_entries M marks worths n = between 1 M n && (nat_le M (length marks) && nat_le M (length worths))

-- still the two lists that were lent, each as long as before
abbrev pub SameLists : {W : Type 0} → Lent W → Lent W → Type 0
SameLists old new = (new.marks.ghost_name ≡ old.marks.ghost_name) × (new.worths.ghost_name ≡ old.worths.ghost_name) × (length new.marks.now ≡ length old.marks.now) × (length new.worths.now ≡ length old.worths.now)
