-- What stands on a card of m entries on which each of 1 to m stands once.
use Rattle.std.proofs.Common.{◌≡◌, ℕ, zero, suc, ◌+◌, ◌-◌, ◌<◌, ◌≤◌, cond, eqb, List, [], ◌∷◌, length, get_or, refl, ap, ◌∙◌, inl, inr, arith}
use Rattle.std.proofs.lemmas.Bool.{cases_lt, cases_eq, eq-eqb, ne_eqb}
use Rattle.std.proofs.lemmas.List.Sums.{sum_by-cons}
use Rattle.orders.specs.Meaning.{IsNumber}
use Rattle.orders.specs.Making.{times_on, CardFits}
use Rattle.orders.specs.Rounds.{entry_at, round_due}
use Rattle.orders.specs.Factors.{none_shared_with_one}
use Rattle.orders.specs.RoundsLemmas.{dues_below}

times_cons : (x : ℕ) (xs : List ℕ) (n : ℕ) → times_on (x ∷ xs) n ≡ cond (eqb x n) 1 0 + times_on xs n
times_cons x xs n = sum_by-cons (λ y. cond (eqb y n) 1 0) x xs

-- what stands on a card stands at some index
pub stands_at : (card : List ℕ) (n : ℕ) → 1 ≤ times_on card n → (k : ℕ) × (k < length card) × (get_or card k 0 ≡ n)
stands_at [] n h = absurd (omega arith)
stands_at (x ∷ xs) n h = elim (cases_eq x n) [
  | inl e ↦ (0, omega arith, e)
  | inr ne ↦
      let r = stands_at xs n (omega (arith, times_cons x xs n, ap {B = ℕ} (λ b. cond b 1 0) (ne_eqb x n ne))) in
      (suc r.0, omega (arith, r.1), r.2)
]

-- the sum of f over 1 to m
sum_to : (ℕ → ℕ) → ℕ → ℕ
sum_to f zero = 0
sum_to f (suc m) = f (suc m) + sum_to f m

hits : ℕ → ℕ → ℕ
unfolding sum_to
hits x m = sum_to (λ n. cond (eqb x n) 1 0) m

sum_split : (f g : ℕ → ℕ) (m : ℕ) → sum_to (λ n. f n + g n) m ≡ sum_to f m + sum_to g m
unfolding sum_to
sum_split f g zero = refl
sum_split f g (suc m) = omega (arith, sum_split f g m)

-- one entry more on a card
sum_cons : (m x : ℕ) (xs : List ℕ) → sum_to (times_on (x ∷ xs)) m ≡ hits x m + sum_to (times_on xs) m
unfolding hits
sum_cons m x xs = ap (λ f. sum_to f m) (λ i n. times_cons x xs n i) ∙ sum_split (λ n. cond (eqb x n) 1 0) (times_on xs) m

sum_zero : (m : ℕ) → sum_to (λ n. 0) m ≡ 0
unfolding sum_to
sum_zero zero = refl
sum_zero (suc m) = omega (arith, sum_zero m)

sum_ones : (f : ℕ → ℕ) (m : ℕ) → ((n : ℕ) → IsNumber m n → f n ≡ 1) → sum_to f m ≡ m
unfolding sum_to
sum_ones f zero h = refl
sum_ones f (suc m) h = omega (arith, h (suc m) (omega arith, omega arith), sum_ones f m (λ n l. h n (l.0, omega arith)))

hits_none : (x m : ℕ) → ((1 ≤ x) → m < x) → hits x m ≡ 0
unfolding sum_to hits
hits_none x zero h = refl
hits_none x (suc m) h =
    let ne : eqb x (suc m) ≡ _ = ne_eqb x (suc m) (λ e. omega (arith, h (omega arith))) in
    omega (arith, ap {B = ℕ} (λ b. cond b 1 0) ne, hits_none x m (λ l. omega (arith, h l)))

hits_at_most_one : (x m : ℕ) → hits x m ≤ 1
unfolding sum_to hits
hits_at_most_one x zero = omega arith
hits_at_most_one x (suc m) = elim (cases_eq x (suc m)) [
  | inl e ↦ omega (arith, ap {B = ℕ} (λ b. cond b 1 0) (eq-eqb x (suc m) e), hits_none x m (λ _. omega arith))
  | inr ne ↦ omega (arith, ap {B = ℕ} (λ b. cond b 1 0) (ne_eqb x (suc m) ne), hits_at_most_one x m)
]

-- the numbers 1 to m together stand on a card at most as often as it has entries
all_times : (m : ℕ) (card : List ℕ) → sum_to (times_on card) m ≤ length card
all_times m [] = omega (arith, sum_zero m)
all_times m (x ∷ xs) = omega (arith, sum_cons m x xs, hits_at_most_one x m, all_times m xs)

-- and less often where some entry is none of them
some_outside : (m : ℕ) (card : List ℕ) (k : ℕ) → k < length card → ((1 ≤ get_or card k 0) → m < get_or card k 0) → sum_to (times_on card) m < length card
some_outside m [] k h out = absurd (omega arith)
some_outside m (x ∷ xs) zero h out = omega (arith, sum_cons m x xs, hits_none x m out, all_times m xs)
some_outside m (x ∷ xs) (suc k) h out = omega (arith, sum_cons m x xs, hits_at_most_one x m, some_outside m xs k (omega arith) out)

module _ (m : ℕ) (card : List ℕ) (fits : CardFits m card) where
  index_is_number : (k : ℕ) → k < m → IsNumber m (get_or card k 0)
  index_is_number k h = elim (cases_lt (get_or card k 0) 1) [
    | inl l ↦ absurd (omega (arith, some_outside m card k (omega (arith, fits.entries)) (λ z. absurd (omega arith)), sum_ones (times_on card) m fits.once, fits.entries))
    | inr l ↦ elim (cases_lt m (get_or card k 0)) [
      | inl over ↦ absurd (omega (arith, some_outside m card k (omega (arith, fits.entries)) (λ z. over), sum_ones (times_on card) m fits.once, fits.entries))
      | inr high ↦ (l, high)
    ]
  ]

  pub entry_is_number : (i : ℕ) → IsNumber m i → IsNumber m (entry_at card i)
  entry_is_number i hi = index_is_number (i - 1) (omega arith)

  pub number_stands : (n : ℕ) → IsNumber m n → (i : ℕ) × IsNumber m i × (entry_at card i ≡ n)
  number_stands n hn =
      let r = stands_at card n (omega (arith, fits.once n hn)) in
      (r.0 + 1, (omega arith, omega (arith, r.1, fits.entries)), ap (λ k. get_or card k 0) (let e : r.0 + 1 - 1 ≡ r.0 = omega arith in e) ∙ r.2)

  -- on a card every number is due within one round
  pub card_dues_below : 1 ≤ m → (q n : ℕ) → IsNumber m q → IsNumber m n → round_due (entry_at card) m 1 q n < m
  card_dues_below some = dues_below (entry_at card) m 1 some (omega arith) (none_shared_with_one m) number_stands entry_is_number
