-- The session that a replay holds, as what stands at a line.
use Rattle.std.specs.Prelude.{◌≡◌, ℕ, Some, None, Option}
use Rattle.kinds.specs.declared.kind.Kind.{Ghosts as KindMeaning}
use Rattle.orders.specs.declared.stride.Stride.{Stride}
use Rattle.orders.specs.contracts.stride.StrideOrder.TheImpl as stride
use Rattle.cells.specs.View.{parties_of, nodes_of}
use Rattle.session.specs.declared.session.Session.{Session}
use Rattle.session.specs.Sessions.{system_in}
use Rattle.sheet.specs.declared.lines.Values.{Values}
use Rattle.sheet.specs.declared.replies.Reply.{Reply}
use Rattle.replay.specs.Numbers.{SheetNumbers}
use Rattle.replay.specs.Stages.{LineDoes, Stage}

module _ {K D W : Type 0} {kind : KindMeaning K D W} where
  pub record StandsAs (b : Stage D W) (s : Session K Stride Stride D W kind (stride.ghosts) (stride.ghosts)) : Type 0 where
    pub now : b.now ≡ system_in s
    pub parties : parties_of s.store.cells ≡ b.opening.parties
    pub nodes : nodes_of s.store.cells ≡ b.opening.nodes

  -- a store stands at a line just where one is held
  abbrev pub IsHeld : Option (Stage D W) → Option (Session K Stride Stride D W kind (stride.ghosts) (stride.ghosts)) → Type 0
  IsHeld None None = Unit {0}
  IsHeld None (Some s) = ⊥
  IsHeld (Some b) None = ⊥
  IsHeld (Some b) (Some s) = StandsAs b s

  -- whatever stands before the line, something stands after it as the line asks for
  abbrev pub CarriesOutLine : SheetNumbers D W → ℕ → Option Values → Option (Session K Stride Stride D W kind (stride.ghosts) (stride.ghosts)) → Option (Session K Stride Stride D W kind (stride.ghosts) (stride.ghosts)) → Reply → Type 0
  CarriesOutLine sheet n values held held' reply = (before : Option (Stage D W)) → IsHeld before held
      → (after : Option (Stage D W)) × IsHeld after held' × LineDoes kind sheet before n values after reply
