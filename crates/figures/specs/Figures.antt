-- The bench figures: what the definitions of orders and kinds give, and what it should be.
use Rattle.std.specs.Prelude.{◌≡◌, ℕ, false, cond, List, [], ◌∷◌, length, map, ℤ, pos, negsuc}
use Rattle.refusals.specs.Numbers.{number_of}
use Rattle.refusals.specs.declared.Refusal.{Refusal}
use Rattle.orders.specs.Making.{SizeFits, StrideFits, CardFits, Made, RefusedBy}
use Rattle.orders.specs.Meaning.{PickedInTurn}
use Rattle.orders.specs.Rounds.{start_place, entry_at, answers_from}
use Rattle.orders.specs.declared.order.Order.{Ghosts as OrderMeaning}
use Rattle.orders.specs.contracts.stride.StrideOrder.TheImpl as stride
use Rattle.orders.specs.contracts.card.CardOrder.TheImpl as card_order
use Rattle.kinds.specs.Maps.{map_data, map_fits, map_worth}
use Rattle.kinds.specs.Traces.{trace_worth, no_trace}
use Rattle.kinds.specs.declared.codes.Code.{Code}
use Rattle.kinds.specs.declared.codes.Code.TheVariants.{Number, Sum, Scaled, Held}
use Rattle.kinds.specs.declared.gearbox.Situation.{Situation}
use Rattle.kinds.specs.declared.traces.TraceData.{TraceData}
use Rattle.kinds.specs.declared.traces.Worst.{Worst}

-- a figure: which numbers the definitions give, and which they should
pub record Figure : Type 1 where
  pub gives : List ℤ → Type 0
  pub should : List ℤ

-- the definitions give what they should and nothing else
abbrev pub Holds : Figure → Type 0
Holds figure = figure.gives figure.should × ((other : List ℤ) → figure.gives other → other ≡ figure.should)

abbrev pub EachHolds : List Figure → Type 0
EachHolds [] = Unit {0}
EachHolds (figure ∷ figures) = Holds figure × EachHolds figures

-- the numbers that an order answers a party first: it may be made, they are what stands at the party's next places, and
-- whatever picks in a row keep the meaning of an order made so answer them
pub record Answering {O : Type 0} (o : OrderMeaning O) (MadeSo : O → Type 0) (shown : ℕ → ℕ) (m stride : ℕ) (Fits : Type 0) (party count : ℕ) (given : List ℤ) : Type 0 where
  pub size_fits : SizeFits m
  pub fits : Fits
  pub along : given ≡ map pos (answers_from shown m stride (start_place m party) count)
  pub by_meaning : (old new : O) (answers : List ℕ) → MadeSo old → PickedInTurn o.numbers o.horizon o.due party old answers new → length answers ≡ count → map pos answers ≡ given

abbrev pub stride_answering : ℕ → ℕ → ℕ → ℕ → List ℤ → Type 0
stride_answering m by party count = Answering (stride.ghosts) (λ s. Made m (StrideFits m by) s.round.size s.round.places × (s.stride ≡ by)) (λ q. q) m by (StrideFits m by) party count

abbrev pub card_answering : ℕ → List ℕ → ℕ → ℕ → List ℤ → Type 0
card_answering m entries party count = Answering (card_order.ghosts) (λ c. Made m (CardFits m entries) c.round.size c.round.places × (c.entries.items ≡ entries)) (entry_at entries) m 1 (CardFits m entries) party count

-- the number of the refusal that a stride order of size m meets
abbrev pub refusing : ℕ → ℕ → List ℤ → Type 0
refusing m stride given = (e : Refusal) × RefusedBy m (StrideFits m stride) e × (given ≡ pos (number_of e) ∷ [])

-- a node's worth in every situation
abbrev pub worth_of : Code → ℤ → ℤ → ℤ → List ℤ → Type 0
worth_of code a b c given = (s : Situation) → given ≡ map_worth (map_data code (pos 0)) s a b c ∷ []

-- whether a number without kids fits, 1 for yes and 0 for no
abbrev pub number_fitting : ℕ → ℤ
number_fitting n = cond (map_fits (map_data Number (pos n)) (record { first = false; second = false; third = false })) (pos 1) (pos 0)

-- the worst of a trace node over one kid, in every situation
abbrev pub worst_over : TraceData → Worst → List ℤ → Type 0
worst_over d kid given = (s : Situation) → given ≡ pos (trace_worth d s kid no_trace no_trace).severity ∷ pos (trace_worth d s kid no_trace no_trace).hour ∷ []

abbrev pub card : List ℕ
card = 2 ∷ 1 ∷ 3 ∷ []

abbrev pub figures : List Figure
figures =
    record { gives = stride_answering 9 4 1 4; should = pos 5 ∷ pos 9 ∷ pos 4 ∷ pos 8 ∷ [] }
    ∷ record { gives = refusing 9 3; should = pos 2 ∷ [] }
    ∷ record { gives = stride_answering 1 1 1 1; should = pos 1 ∷ [] }
    ∷ record { gives = card_answering 3 card 1 3; should = pos 1 ∷ pos 3 ∷ pos 2 ∷ [] }
    ∷ record { gives = worth_of Scaled (pos 7) (pos 50) (pos 0); should = pos 3 ∷ [] }
    ∷ record { gives = worth_of Scaled (negsuc 6) (pos 50) (pos 0); should = negsuc 2 ∷ [] }
    ∷ record { gives = worth_of Sum (pos 900000) (pos 200000) (pos 0); should = pos 1000000 ∷ [] }
    ∷ record { gives = worth_of Held (pos 5) (pos 10) (pos 3); should = pos 10 ∷ [] }
    ∷ record { gives = λ given. given ≡ number_fitting 1000000 ∷ number_fitting 1000001 ∷ []; should = pos 1 ∷ pos 0 ∷ [] }
    ∷ record { gives = worst_over (record { severity = 4; hour = 10 }) (record { severity = 2; hour = 30 }); should = pos 4 ∷ pos 30 ∷ [] }
    ∷ []
