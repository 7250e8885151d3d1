-- Opening with strides that are made for the sizes is never refused for another size.
use Rattle.std.proofs.Common.{◌≡◌, Ok, Err, Result, inl, inr}
use Rattle.std.specs.Prelude.{MatchResult}
use Rattle.kinds.specs.declared.kind.Kind.{Ghosts as KindMeaning}
use Rattle.orders.specs.Making.{StrideFits, Made}
use Rattle.orders.specs.declared.stride.Stride.{Stride}
use Rattle.orders.specs.contracts.stride.StrideOrder.TheImpl as stride
use Rattle.store.specs.declared.errors.OpenError.{OpenError}
use Rattle.store.specs.declared.errors.OpenError.TheVariants.{Refused, NoMemory}
use Rattle.store.specs.Opening.{InLimits, OpeningFails}
use Rattle.session.specs.declared.session.Session.{Session}
use Rattle.session.specs.Performed.{NewSession}
use Rattle.replay.specs.declared.requests.Opening.{Opening}
use Rattle.replay.specs.Openings.{StartsWithStride, OpeningRefused, OpenedOnSheet}

module _ (o : Opening) (node_order party_order : Stride) (limits : InLimits o.nodes o.parties) (node_stride : StartsWithStride o.nodes o.node_stride node_order) (party_stride : StartsWithStride o.parties o.party_stride party_order) where
  fails : (e : OpenError) → OpeningFails ((stride.ghosts).numbers) ((stride.ghosts).numbers) o.nodes o.parties node_order party_order e → OpeningRefused o e
  fails (Refused r) (inl h) = absurd (h.1 limits)
  fails (Refused r) (inr h) = absurd (h.2 (record { for_nodes = node_stride.made.sized; for_parties = party_stride.made.sized }))
  fails (NoMemory m) h = (limits, record { nodes = node_stride.made.fits; parties = party_stride.made.fits })

  opened : {K D W : Type 0} (kind : KindMeaning K D W) (r : Result (Session K Stride Stride D W kind (stride.ghosts) (stride.ghosts)) OpenError)
      → MatchResult r (λ s. NewSession o.nodes o.parties node_order party_order s) (λ e. OpeningFails ((stride.ghosts).numbers) ((stride.ghosts).numbers) o.nodes o.parties node_order party_order e)
      → MatchResult r (λ s. OpenedOnSheet o s) (λ e. OpeningRefused o e)
  opened kind (Ok s) h = record { node_order = node_order; party_order = party_order; node_stride = node_stride; party_stride = party_stride; new = h }
  opened kind (Err e) h = fails e h

-- the same, of what each making tells
pub opened_on_sheet : {K D W : Type 0} (kind : KindMeaning K D W) (o : Opening) (node_order party_order : Stride) (r : Result (Session K Stride Stride D W kind (stride.ghosts) (stride.ghosts)) OpenError) → InLimits o.nodes o.parties
    → Made o.nodes (StrideFits o.nodes o.node_stride) node_order.round.size node_order.round.places → node_order.stride ≡ o.node_stride
    → Made o.parties (StrideFits o.parties o.party_stride) party_order.round.size party_order.round.places → party_order.stride ≡ o.party_stride
    → MatchResult r (λ s. NewSession o.nodes o.parties node_order party_order s) (λ e. OpeningFails ((stride.ghosts).numbers) ((stride.ghosts).numbers) o.nodes o.parties node_order party_order e)
    → MatchResult r (λ s. OpenedOnSheet o s) (λ e. OpeningRefused o e)
opened_on_sheet kind o node_order party_order r limits nodes node_stride parties party_stride h =
    opened o node_order party_order limits (record { made = nodes; stride_is = node_stride }) (record { made = parties; stride_is = party_stride }) kind r h
