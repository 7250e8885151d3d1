-- What a Begin and a Turn promise: they are moves of the model, from the system before to the system after.
use Rattle.std.specs.Prelude.{◌≡◌, ℕ, ◌<◌, false, List, length}
use Rattle.kinds.specs.declared.kind.Kind.{Ghosts as KindMeaning}
use Rattle.orders.specs.declared.order.Order.{Ghosts as OrderMeaning}
use Rattle.model.specs.declared.calls.Asked.TheVariants.{AsksCall, AsksWalk}
use Rattle.model.specs.declared.calls.Call.{Call}
use Rattle.model.specs.declared.calls.Event.{Event}
use Rattle.model.specs.declared.calls.Event.TheVariants.{Begins, Turns, WalkTurns}
use Rattle.model.specs.declared.calls.Lengths.{Lengths}
use Rattle.model.specs.declared.calls.Walk.{Walk}
use Rattle.model.specs.Types.{Outcome}
use Rattle.model.specs.Entries.{nth}
use Rattle.model.specs.Fun.{upd}
use Rattle.model.specs.Runs.{Moves}
use Rattle.model.specs.Setting.{setting_for}
use Rattle.model.specs.Walks.{Notes}
use Rattle.walks.specs.declared.notes.Notes.{Notes as Lists}
use Rattle.walks.specs.Notes.{notes_of}
use Rattle.cells.specs.declared.records.Cells.{Cells}
use Rattle.cells.specs.View.{SameSizes, parties_of, nodes_of}
use Rattle.store.specs.Given.{system_of}

-- a store with the data list that it is given
pub record Shown (D A B : Type 0) : Type 0 where
  pub cells : Cells D
  pub nodes : A
  pub parties : B
  pub entries : List D

-- what a walk has noted of M nodes on its two lists
abbrev pub noted_on : {K D W : Type 0} → KindMeaning K D W → ℕ → Lists W → Notes W
noted_on kind M lists = notes_of kind.none M lists.marks.now lists.worths.now

-- entries past those of the store's nodes hold what they held
abbrev pub FurtherStay : {K D W : Type 0} → KindMeaning K D W → ℕ → Lists W → Lists W → Type 0
FurtherStay kind M lists lists' = (n : ℕ) → M < n
    → (nth false lists'.marks.now n ≡ nth false lists.marks.now n) × (nth kind.none lists'.worths.now n ≡ nth kind.none lists.worths.now n)

module _ {K D W A B : Type 0} (kind : KindMeaning K D W) (node_order : OrderMeaning A) (party_order : OrderMeaning B) where
  abbrev pub MovesBy : Event D → Outcome D W → Shown D A B → Shown D A B → (ℕ → Notes W) → (ℕ → Notes W) → Type 0
  MovesBy e o before after notes notes' =
      Moves (setting_for kind node_order party_order (parties_of before.cells) (nodes_of before.cells))
      (system_of kind before.cells before.nodes before.parties before.entries notes) e o
      (system_of kind after.cells after.nodes after.parties after.entries notes')

  -- the Begin of a call, which looks at the data list's length alone; nobody's notes change
  pub record BeginsCall (p : ℕ) (c : Call D) (o : Outcome D W) (before after : Shown D A B) : Type 0 where
    pub moves : (notes : ℕ → Notes W) (l : Lengths) → l.entries ≡ length before.entries → MovesBy (Begins p (AsksCall c) l) o before after notes notes
    pub sizes : SameSizes before.cells after.cells

  -- the Turn of a call; nobody's notes change
  pub record TurnsCall (p : ℕ) (o : Outcome D W) (before after : Shown D A B) : Type 0 where
    pub moves : (notes : ℕ → Notes W) (l : Lengths) → l.entries ≡ length before.entries → MovesBy (Turns p l) o before after notes notes
    pub sizes : SameSizes before.cells after.cells

  -- the lengths of a walk's lists
  abbrev pub walk_lengths : Shown D A B → Lists W → Lengths
  walk_lengths before lists = record { entries = length before.entries; marks = length lists.marks.now; worths = length lists.worths.now }

  -- everybody's notes, the party's own on its two lists
  abbrev pub with_lists : (ℕ → Notes W) → ℕ → Shown D A B → Lists W → ℕ → Notes W
  with_lists notes p before lists = upd notes p (noted_on kind (nodes_of before.cells) lists)

  -- the Begin of a walk, which takes marks off and leaves the worths; its notes stand on its two lists, and nobody else's change
  pub record BeginsWalk (p : ℕ) (w : Walk) (o : Outcome D W) (before after : Shown D A B) (lists lists' : Lists W) : Type 0 where
    pub worths : lists'.worths.now ≡ lists.worths.now
    pub moves : (notes : ℕ → Notes W) → MovesBy (Begins p (AsksWalk w) (walk_lengths before lists)) o before after (with_lists notes p before lists) (with_lists notes p before lists')
    pub further : FurtherStay kind (nodes_of before.cells) lists lists'
    pub sizes : SameSizes before.cells after.cells

  -- the Turn of a walk
  pub record TurnsWalk (p : ℕ) (o : Outcome D W) (before after : Shown D A B) (lists lists' : Lists W) : Type 0 where
    pub moves : (notes : ℕ → Notes W) → MovesBy (WalkTurns p (walk_lengths before lists)) o before after (with_lists notes p before lists) (with_lists notes p before lists')
    pub further : FurtherStay kind (nodes_of before.cells) lists lists'
    pub sizes : SameSizes before.cells after.cells
