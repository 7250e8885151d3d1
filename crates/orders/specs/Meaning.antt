-- What a search order promises, by its meaning alone: for how many numbers it is made, its span, and
-- the due of each number for each party, which is how many of the party's picks may still pass it by.
use Rattle.std.specs.Prelude.{◌≡◌, ℕ, ◌<◌, ◌≤◌, ◌⊎◌, List, [], ◌∷◌, ◌≢◌}
use Rattle.orders.specs.Limits.{IsParty}

-- n is one of the numbers 1 to m
abbrev pub IsNumber : ℕ → ℕ → Type 0
IsNumber m n = (1 ≤ n) × (n ≤ m)

-- a pick's answer for a party, with that party's dues before and after: it is one of the numbers, and
-- every other number is now due sooner
pub record Answered (m : ℕ) (before after : ℕ → ℕ) (answer : ℕ) : Type 0 where
  pub number : IsNumber m answer
  pub sooner : (n : ℕ) → IsNumber m n → (n ≢ answer) → after n < before n

-- one pick: what it answers, and what it leaves
pub record Picked {O : Type 0} (numbers horizon : O → ℕ) (due : O → ℕ → ℕ → ℕ) (old new : O) (party answer : ℕ) : Type 0 where
  pub numbers_stay : numbers new ≡ numbers old
  pub span_stays : horizon new ≡ horizon old
  pub others_stay : (q n : ℕ) → IsParty q → (q ≢ party) → IsNumber (numbers old) n → due new q n ≡ due old q n
  pub answers : IsParty party → Answered (numbers old) (due old party) (due new party) answer
  pub refuses : (IsParty party → ⊥) → (answer ≡ 0) × (new ≡ old)

-- picks for one party, one after another, with what they answered
pub data PickedInTurn {O : Type 0} (numbers horizon : O → ℕ) (due : O → ℕ → ℕ → ℕ) (party : ℕ) : O → List ℕ → O → Type 0 where
  none : {o : O} → PickedInTurn numbers horizon due party o [] o
  then : {o between o' : O} {answer : ℕ} {answers : List ℕ} → Picked numbers horizon due o between party answer
      → PickedInTurn numbers horizon due party between answers o' → PickedInTurn numbers horizon due party o (answer ∷ answers) o'

abbrev pub Among : ℕ → List ℕ → Type 0
Among n [] = ⊥
Among n (x ∷ xs) = (x ≡ n) ⊎ Among n xs

abbrev pub EachComes : ℕ → List ℕ → Type 0
EachComes m answers = (n : ℕ) → IsNumber m n → Among n answers
