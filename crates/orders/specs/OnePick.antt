-- What the meaning of a stride or of a card leaves open of a pick: nothing.
use Rattle.std.specs.Prelude.{◌≡◌, ℕ, ◌+◌, ◌<◌, ◌≢◌, List, length}
use Rattle.orders.specs.Limits.{IsParty}
use Rattle.orders.specs.Meaning.{IsNumber, Picked, PickedInTurn}
use Rattle.orders.specs.Rounds.{place_of, entry_at, answers_from}
use Rattle.orders.specs.declared.order.Order.{Ghosts as OrderMeaning}
use Rattle.orders.specs.contracts.stride.StrideOrder.TheImpl as stride
use Rattle.orders.specs.contracts.card.CardOrder.TheImpl as card

-- each number has a due of its own, below m
pub record EachItsOwn (m : ℕ) (due : ℕ → ℕ) : Type 0 where
  pub below : (n : ℕ) → IsNumber m n → due n < m
  pub apart : (n k : ℕ) → IsNumber m n → IsNumber m k → due n ≡ due k → n ≡ k

-- a pick whose answer and whose dues after it follow from the dues before it: the number due at once is answered, and
-- comes last from now on; every other is due one pick sooner
pub record MovesOn (m : ℕ) (before after : ℕ → ℕ) (answer : ℕ) : Type 0 where
  pub at_once : before answer ≡ 0
  pub others : (n : ℕ) → IsNumber m n → n ≢ answer → after n + 1 ≡ before n
  pub last : after answer + 1 ≡ m

-- whatever pick keeps the meaning moves a party on so
abbrev pub LeavesOnePick : {O : Type 0} → OrderMeaning O → Type 0
LeavesOnePick {O} o = (old new : O) (p x : ℕ) → IsParty p → Picked o.numbers o.horizon o.due old new p x → MovesOn (o.numbers old) (o.due old p) (o.due new p) x

abbrev pub StridesLeaveOnePick : Type 0
StridesLeaveOnePick = LeavesOnePick (stride.ghosts)

abbrev pub CardsLeaveOnePick : Type 0
CardsLeaveOnePick = LeavesOnePick (card.ghosts)

-- whatever picks in a row keep the meaning, they answer what stands at the party's next places
abbrev pub AnswersAlong : {O : Type 0} → OrderMeaning O → (O → ℕ → ℕ) → (stride : O → ℕ) → (place : O → ℕ → ℕ) → Type 0
AnswersAlong {O} o shown stride place = (old new : O) (p : ℕ) (answers : List ℕ) → IsParty p → PickedInTurn o.numbers o.horizon o.due p old answers new
    → answers ≡ answers_from (shown old) (o.numbers old) (stride old) (place old p) (length answers)

abbrev pub StridesAnswerAlong : Type 0
StridesAnswerAlong = AnswersAlong (stride.ghosts) (λ s q. q) (λ s. s.stride) (λ s p. place_of s.round.places p)

abbrev pub CardsAnswerAlong : Type 0
CardsAnswerAlong = AnswersAlong (card.ghosts) (λ c. entry_at c.entries.items) (λ c. 1) (λ c p. place_of c.round.places p)
