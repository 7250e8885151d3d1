-- What settling a node promises the Turn of a walk that has read it, through the model's settling. What the public calls
-- promise stands in `Moved`.
use Rattle.std.specs.Prelude.{◌≡◌, ℕ}
use Rattle.model.specs.declared.words.NodeRead.{NodeRead}
use Rattle.model.specs.Types.{Outcome}
use Rattle.model.specs.Runs.{tells_settled}
use Rattle.model.specs.Setting.{Setting}
use Rattle.model.specs.State.{Store}
use Rattle.model.specs.Walks.{Notes, settled_store, settled_notes}

-- s and noted before it, t and noted' after it
pub record Settled {D W A B : Type 0} (X : Setting D W A B) (s t : Store D) (p : ℕ) (read : NodeRead D) (noted noted' : Notes W) (o : Outcome D W) : Type 0 where
  pub goes : t ≡ settled_store X.worth X.blank s noted p read.situation read.kids
  pub notes : noted' ≡ settled_notes X.worth X.blank s noted p read.situation read.given read.kids
  pub tells : o ≡ tells_settled X s t noted' p
