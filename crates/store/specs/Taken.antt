-- What a Turn's own step promises the Turn, through the model's step. What the public calls promise stands in `Moved`.
use Rattle.std.specs.Prelude.{◌≡◌, ℕ}
use Rattle.kinds.specs.declared.kind.Kind.{Ghosts as KindMeaning}
use Rattle.orders.specs.declared.order.Order.{Ghosts as OrderMeaning}
use Rattle.model.specs.declared.running.Running.TheVariants.{Idle}
use Rattle.model.specs.declared.words.NodeRead.{NodeRead}
use Rattle.model.specs.declared.words.Told.{Told}
use Rattle.model.specs.declared.words.Told.TheVariants.{Tells, Settles}
use Rattle.model.specs.Runs.{System, Steps, with_store}
use Rattle.model.specs.Setting.{Setting, setting_for}
use Rattle.model.specs.State.{set_run}
use Rattle.model.specs.Steps.{decision}
use Rattle.model.specs.Walks.{Notes}
use Rattle.cells.specs.View.{SameSizes, parties_of, nodes_of}
use Rattle.store.specs.Given.{system_of}
use Rattle.store.specs.Moved.{Shown}

module _ {D W A B : Type 0} (X : Setting D W A B) (F G : System D W A B) (p : ℕ) where
  -- a walk has read its node; until that is settled, the party runs nothing and all else is as before
  pub record HasRead (read : NodeRead D) : Type 0 where
    pub pick : ℕ
    pub reads : (decision {W = W} X.parties X.nodes F.store F.info p pick).told ≡ Settles read
    pub waits : G ≡ with_store X F (set_run F.store p Idle)

  -- what tells its outcome at once is the model's step
  abbrev pub Taken : Told D W → Type 0
  Taken (Tells o) = Steps X F p o G
  Taken (Settles read) = HasRead read

module _ {K D W A B : Type 0} (kind : KindMeaning K D W) (node_order : OrderMeaning A) (party_order : OrderMeaning B) where
  -- whatever walks have noted, which stays
  pub record TakesStep (p : ℕ) (told : Told D W) (before after : Shown D A B) : Type 0 where
    pub taken : (notes : ℕ → Notes W) → Taken (setting_for kind node_order party_order (parties_of before.cells) (nodes_of before.cells))
        (system_of kind before.cells before.nodes before.parties before.entries notes) (system_of kind after.cells after.nodes after.parties after.entries notes) p told
    pub sizes : SameSizes before.cells after.cells
