use Rattle.std.proofs.Common.{◌≡◌, ℕ, List, length}
use Rattle.sheet.specs.declared.columns.Columns.{Columns}
use Rattle.sheet.specs.Lines.{first_line, lines_of, values_on}
use Rattle.sheet.proofs.LinesOfTexts.{lines_behind, values_ahead}
use Rattle.sheet.proofs.reader.Reader.next_line.Given as goal

-- what is left of the line leads to the values and to the lines behind it
pub record IsOnLine (start rest : List ℕ) (columns : Columns) (line number : ℕ) : Type 0 where
  pub numbered : line ≡ number
  pub values : values_ahead columns (lines_of rest) ≡ values_on (first_line start)
  pub behind : lines_behind (lines_of rest) ≡ lines_behind (lines_of start)

abbrev pub invariant-loop-field : goal.invariant-loop-field
invariant-loop-field l = IsOnLine l.fn.self.rest.now l.self.rest.now l.columns l.self.line l.number

abbrev pub decreases-loop-field : goal.decreases-loop-field
decreases-loop-field l = length l.self.rest.now
