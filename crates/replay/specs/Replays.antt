-- The replies to a sheet, as text.
use Rattle.std.specs.Prelude.{◌≡◌, ℕ, List, ◌++◌, Some, None, Option}
use Rattle.std.specs.List.{flat_map}
use Rattle.kinds.specs.declared.kind.Kind.{Ghosts as KindMeaning}
use Rattle.kinds.specs.contracts.maps.MapsKind.TheImpl as maps
use Rattle.kinds.specs.contracts.traces.TracesKind.TheImpl as traces
use Rattle.sheet.specs.declared.headings.SheetOf.TheVariants.{Maps, Traces}
use Rattle.sheet.specs.declared.replies.Reply.{Reply}
use Rattle.sheet.specs.Headings.{heading_of}
use Rattle.sheet.specs.Lines.{lines_of}
use Rattle.sheet.specs.Replies.{names_line, reply_line}
use Rattle.replay.specs.Numbers.{SheetNumbers, of_maps, of_traces}
use Rattle.replay.specs.Stages.{Replayed, Stage, coded}

module _ {K D W : Type 0} (kind : KindMeaning K D W) (sheet : SheetNumbers D W) where
  -- these lines are replayed, from the first on, and this is added: a line for each of them, which is its reply
  pub record Adds (lines out out' : List ℕ) : Type 0 where
    pub replies : List Reply
    pub after : Option (Stage D W)
    pub replayed : Replayed kind sheet (lines_of lines) replies after
    pub written : out' ≡ out ++ flat_map reply_line replies

-- a sheet that is too long or begins otherwise is answered with 91 alone
abbrev pub Replays : List ℕ → List ℕ → Type 0
Replays sheet out = elim (heading_of sheet) [
  | None ↦ out ≡ names_line ++ reply_line (coded 0 91)
  | Some h ↦ elim h.0 [ Maps ↦ Adds (maps.ghosts) of_maps h.1 names_line out | Traces ↦ Adds (traces.ghosts) of_traces h.1 names_line out ]
]
