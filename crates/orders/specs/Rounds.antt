-- A round of m places, numbered from 1, on which each party has a place of its own and moves on by a
-- fixed stride, after the last place the first.
use Rattle.std.specs.Prelude.{ℕ, zero, suc, ◌+◌, ◌-◌, ◌*◌, ◌%◌, cond, List, [], ◌∷◌, ◌==◌, slice_index}

-- where a party starts
abbrev pub start_place : ℕ → ℕ → ℕ
start_place m party = (party - 1) % m + 1

-- the place that follows q
abbrev pub next_place : ℕ → ℕ → ℕ → ℕ
next_place m stride q = (q - 1 + stride) % m + 1

-- a party's place, on the list of all places
abbrev pub place_of : List ℕ → ℕ → ℕ
place_of places party = slice_index places (party - 1)

-- the place after k moves and one more
unfoldable pub place_after : ℕ → ℕ → ℕ → ℕ → ℕ
place_after m stride q k = (q - 1 + (k + 1) * stride) % m + 1

-- how many of the answers go before the first n, looking at no more than the first few
unfoldable pub before : (ℕ → ℕ) → ℕ → ℕ → ℕ
before answer n zero = zero
before answer n (suc few) = cond (answer zero == n) zero (suc (before (λ k. answer (suc k)) n few))

-- the due of n for a party at the place q, where a pick shows what stands at the next place
abbrev pub round_due : (ℕ → ℕ) → ℕ → ℕ → ℕ → ℕ → ℕ
round_due shown m stride q n = before (λ k. shown (place_after m stride q k)) n m

-- so many answers of a party at the place q, where a pick shows what stands at the next place
abbrev pub answers_from : (ℕ → ℕ) → ℕ → ℕ → ℕ → ℕ → List ℕ
answers_from shown m stride q zero = []
answers_from shown m stride q (suc k) = shown (next_place m stride q) ∷ answers_from shown m stride (next_place m stride q) k

-- what stands at a position of a card, counted from 1
abbrev pub entry_at : List ℕ → ℕ → ℕ
entry_at card position = slice_index card (position - 1)
