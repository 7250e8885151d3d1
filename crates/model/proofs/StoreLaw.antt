-- The law of the shared store: its parts put together at the end of any run from an opened pair.
use Rattle.model.specs.Setting.{Setting}
use Rattle.model.specs.Law.{FromOpened, StoreLaw}
use Rattle.model.proofs.Resting.{free_when_lost}
use Rattle.model.proofs.OtherCallsEnd.{other_calls_end}
use Rattle.model.proofs.MakesEnd.{DuesBelowSpan, makes_end}
use Rattle.model.proofs.WalkRun.{walks_end}
use Rattle.model.proofs.OpenedNext.{opened_kept}
use Rattle.model.proofs.RunsPlainly.{runs_plainly}
use Rattle.model.proofs.NewOpened.{new_is_opened}

module _ {D W A B : Type 0} (X : Setting D W A B) (node-low : DuesBelowSpan X.node_order) (party_low : DuesBelowSpan X.party_order) where
  from_opened : FromOpened X
  from_opened F s asked O es G r =
      let h = runs_plainly X s asked O r in
      let P = h.2.1 in
      let K = opened_kept X G h.0 h.2.0 P in
      record {
        runs_as_plain = (h.0, h.1, P.agrees);
        free_when_lost = free_when_lost X G K;
        makes_end = makes_end X node-low party_low G K P.seeking;
        other_calls_end = other_calls_end X G K;
        walks_end = walks_end X G K;
      }

  pub store_law : StoreLaw X
  store_law = (from_opened, new_is_opened X)
