-- When a search order may be made.
use Rattle.std.specs.Prelude.{◌≡◌, ℕ, ◌%◌, ◌<◌, ◌≤◌, ◌⊎◌, List, length, count_by, ◌≢◌, nat_eq}
use Rattle.refusals.specs.declared.Refusal.{Refusal}
use Rattle.refusals.specs.declared.Refusal.TheVariants.{OutsideLimits, BadOrder}
use Rattle.orders.specs.Limits.{IsParty, largest_size, longest_stride}
use Rattle.orders.specs.Meaning.{IsNumber}
use Rattle.orders.specs.Rounds.{start_place, place_of}

pub record SizeFits (m : ℕ) : Type 0 where
  pub low : 1 ≤ m
  pub high : m ≤ largest_size

-- no number above 1 divides both
abbrev pub NoSharedFactor : ℕ → ℕ → Type 0
NoSharedFactor a b = (d : ℕ) → 1 < d → a % d ≡ 0 → b % d ≢ 0

pub record StrideFits (m stride : ℕ) : Type 0 where
  pub low : 1 ≤ stride
  pub high : stride ≤ longest_stride
  pub apart : NoSharedFactor stride m

-- how often n stands on a card
abbrev pub times_on : List ℕ → ℕ → ℕ
times_on card n = count_by (λ x. nat_eq x n) card

-- a card of m entries on which each of 1 to m stands once
pub record CardFits (m : ℕ) (card : List ℕ) : Type 0 where
  pub entries : length card ≡ m
  pub once : (n : ℕ) → IsNumber m n → times_on card n ≡ 1

-- why a making is refused, where the order's own part fits or not: the size is looked at first
abbrev pub RefusedBy : ℕ → Type 0 → Refusal → Type 0
RefusedBy m Fits e = ((e ≡ OutsideLimits) × (SizeFits m → ⊥)) ⊎ ((e ≡ BadOrder) × SizeFits m × (Fits → ⊥))

-- every party at its start
abbrev pub AtStart : ℕ → List ℕ → Type 0
AtStart m places = (p : ℕ) → IsParty p → place_of places p ≡ start_place m p

-- an order made for m: its own part fits, and it is of that size with every party at its start
pub record Made (m : ℕ) (Fits : Type 0) (size : ℕ) (places : List ℕ) : Type 0 where
  pub size_fits : SizeFits m
  pub fits : Fits
  pub sized : size ≡ m
  pub started : AtStart m places
