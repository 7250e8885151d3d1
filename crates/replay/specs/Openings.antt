-- A store that a line opens: its orders are strides.
use Rattle.std.specs.Prelude.{◌≡◌, ℕ, ◌⊎◌}
use Rattle.refusals.specs.declared.Refusal.TheVariants.{OutsideLimits, BadOrder}
use Rattle.kinds.specs.declared.kind.Kind.{Ghosts as KindMeaning}
use Rattle.orders.specs.Making.{StrideFits, Made}
use Rattle.orders.specs.declared.stride.Stride.{Stride}
use Rattle.orders.specs.contracts.stride.StrideOrder.TheImpl as stride
use Rattle.store.specs.declared.errors.OpenError.{OpenError}
use Rattle.store.specs.declared.errors.OpenError.TheVariants.{Refused, NoMemory}
use Rattle.store.specs.Opening.{InLimits}
use Rattle.session.specs.declared.session.Session.{Session}
use Rattle.session.specs.Performed.{NewSession}
use Rattle.replay.specs.declared.requests.Opening.{Opening}

-- a stride order for 1 to m, each party at its start
pub record StartsWithStride (m by : ℕ) (s : Stride) : Type 0 where
  pub made : Made m (StrideFits m by) s.round.size s.round.places
  pub stride_is : s.stride ≡ by

-- the strides are good for the store's nodes and parties
pub record StridesFit (o : Opening) : Type 0 where
  pub nodes : StrideFits o.nodes o.node_stride
  pub parties : StrideFits o.parties o.party_stride

-- limits are looked at first, then the strides; memory is asked for last
abbrev pub OpeningRefused : Opening → OpenError → Type 0
OpeningRefused o e = elim e [
  | Refused r ↦ ((r ≡ OutsideLimits) × (InLimits o.nodes o.parties → ⊥)) ⊎ ((r ≡ BadOrder) × InLimits o.nodes o.parties × (StridesFit o → ⊥))
  | NoMemory m ↦ InLimits o.nodes o.parties × StridesFit o
]

module _ {K D W : Type 0} {kind : KindMeaning K D W} where
  pub record OpenedOnSheet (o : Opening) (s : Session K Stride Stride D W kind (stride.ghosts) (stride.ghosts)) : Type 0 where
    pub node_order : Stride
    pub party_order : Stride
    pub node_stride : StartsWithStride o.nodes o.node_stride node_order
    pub party_stride : StartsWithStride o.parties o.party_stride party_order
    pub new : NewSession o.nodes o.parties node_order party_order s
