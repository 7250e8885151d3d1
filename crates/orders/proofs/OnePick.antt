-- Where each number has a due of its own, a pick that keeps the meaning is known from the dues before it.
use Rattle.std.proofs.Common.{◌≡◌, ℕ, zero, suc, ◌+◌, ◌<◌, ◌≤◌, ◌≢◌, ◌⊎◌, true, false, ◌||◌, eqb, List, [], ◌∷◌, length, sym, refl, ap, ◌∙◌, subst, inl, inr, arith}
use Rattle.std.specs.List.{AllByRecursion, IsDistinct, list_any}
use Rattle.std.proofs.lemmas.Bool.{cases_eq, cases_lt, ne_eqb, true≢false}
use Rattle.std.proofs.lemmas.Map.Steps.{length-le_from_distinct_below}
use Rattle.orders.specs.Before.{before_at}
use Rattle.orders.specs.Limits.{IsParty}
use Rattle.orders.specs.Making.{NoSharedFactor}
use Rattle.orders.specs.Meaning.{IsNumber, Answered, PickedInTurn, none, then}
use Rattle.orders.specs.Factors.{none_shared_with_one}
use Rattle.orders.specs.declared.stride.Stride.{Stride}
use Rattle.orders.specs.declared.card.Card.{Card}
use Rattle.orders.specs.OnePick.{EachItsOwn, MovesOn, LeavesOnePick, StridesLeaveOnePick, CardsLeaveOnePick, StridesAnswerAlong, CardsAnswerAlong}
use Rattle.orders.specs.CardsLemmas.{card_dues_below, number_stands, entry_is_number}
use Rattle.orders.specs.RoundsLemmas.{dues_below, due_sooner, next_is_place}
use Rattle.orders.specs.Rounds.{place_after, place_of, next_place, round_due, entry_at, answers_from}
use Rattle.orders.specs.declared.order.Order.{Ghosts as OrderMeaning}
use Rattle.orders.specs.contracts.stride.StrideOrder.TheImpl as stride
use Rattle.orders.specs.contracts.card.CardOrder.TheImpl as card

-- f of the numbers 1 to m
values : (ℕ → ℕ) → ℕ → List ℕ
values f zero = []
values f (suc m) = f (suc m) ∷ values f m

as_many : (f : ℕ → ℕ) (m : ℕ) → length (values f m) ≡ m
unfolding values
as_many f zero = refl
as_many f (suc m) = ap suc (as_many f m)

all_of : (P : ℕ → Type 0) (f : ℕ → ℕ) (m : ℕ) → ((n : ℕ) → IsNumber m n → P (f n)) → AllByRecursion P (values f m)
unfolding values
all_of P f zero h = tt
all_of P f (suc m) h = (h (suc m) (omega arith, omega arith), all_of P f m (λ n i. h n (i.0, omega (arith, i.1))))

distinct : (f : ℕ → ℕ) (m : ℕ) → ((n k : ℕ) → IsNumber m n → IsNumber m k → f n ≡ f k → n ≡ k) → IsDistinct eqb (values f m)
unfolding values IsDistinct
distinct f zero h = tt
distinct f (suc m) h = (
  all_of (λ y. eqb (f (suc m)) y ≡ false) f m (λ n i. ne_eqb (f (suc m)) (f n) (λ e. omega (arith, i.1, h (suc m) n (omega arith, omega arith) (i.0, omega (arith, i.1)) e))),
  distinct f m (λ n k i j. h n k (i.0, omega (arith, i.1)) (j.0, omega (arith, j.1))),
)

-- a number on a list is its first or one of the rest
rest : (q x : ℕ) (xs : List ℕ) → (q ≢ x) → list_any (eqb q) (x ∷ xs) ≡ true → list_any (eqb q) xs ≡ true
rest q x xs ne h = sym (ap (λ b. b || list_any (eqb q) xs) (ne_eqb q x ne)) ∙ h

all_below : (f : ℕ → ℕ) (m k q : ℕ) → ((n : ℕ) → IsNumber m n → f n < k) → list_any (eqb q) (values f m) ≡ true → q < k
unfolding values
all_below f zero k q h any = absurd (true≢false (sym any))
all_below f (suc m) k q h any = elim (cases_eq q (f (suc m))) [
  | inl e ↦ omega (arith, e, h (suc m) (omega arith, omega arith))
  | inr ne ↦ all_below f m k q (λ n i. h n (i.0, omega (arith, i.1))) (rest q (f (suc m)) (values f m) ne any)
]

found : (f : ℕ → ℕ) (m v : ℕ) → ((n : ℕ) × IsNumber m n × (f n ≡ v)) ⊎ ((n : ℕ) → IsNumber m n → f n ≢ v)
found f zero v = inr (λ n i. absurd (omega (arith, i.0, i.1)))
found f (suc m) v = elim (cases_eq (f (suc m)) v) [
  | inl e ↦ inl (suc m, (omega arith, omega arith), e)
  | inr ne ↦ elim (found f m v) [
    | inl r ↦ inl (r.0, (r.1.0, omega (arith, r.1.1)), r.2)
    | inr missing ↦ inr (λ n i. elim (cases_eq n (suc m)) [
      | inl e ↦ subst (λ k. f k ≢ v) (sym e) ne
      | inr d ↦ missing n (i.0, omega (arith, i.1, d))
    ])
  ]
]

-- as many numbers as dues, so each due is some number's
onto : (f : ℕ → ℕ) (m : ℕ) → EachItsOwn m f → (v : ℕ) → v < m → (n : ℕ) × IsNumber m n × (f n ≡ v)
unfolding IsDistinct
onto f m each v low = elim (found f m v) [
  | inl r ↦ r
  | inr missing ↦ absurd (
      let l : length (v ∷ values f m) ≤ m =
      length-le_from_distinct_below (v ∷ values f m) m
      (all_of (λ y. eqb v y ≡ false) f m (λ n i. ne_eqb v (f n) (λ e. missing n i (sym e))), distinct f m each.apart)
      (λ q any. elim (cases_eq q v) [
        | inl e ↦ omega (arith, e, low)
        | inr ne ↦ all_below f m m q each.below (rest q v (values f m) ne any)
      ]) in
      omega (arith, l, as_many f m)
      )
]

module _ (m : ℕ) (before after : ℕ → ℕ) (x : ℕ) (old : EachItsOwn m before) (new : EachItsOwn m after) (a : Answered m before after x) where
  at_once : before x ≡ 0
  at_once =
      let z = onto before m old 0 (omega (arith, a.number.0, a.number.1)) in
      elim (cases_eq z.0 x) [
        | inl e ↦ subst (λ n. before n ≡ 0) e z.2
        | inr ne ↦ absurd (omega (arith, a.sooner z.0 z.1 ne, z.2))
      ]

  -- the number that was due one pick later than n is now, is due just then
  other_due : (n : ℕ) → after n + 1 < m → (k : ℕ) × IsNumber m k × (before k ≡ after n + 1) × (k ≢ x)
  other_due n low =
      let r = onto before m old (after n + 1) low in
      (r.0, r.1, r.2, λ e. (let P : ℕ → Type 0 = λ k. before k ≡ after n + 1 in omega (arith, at_once, subst P e r.2)))

  by_one : (k n : ℕ) → IsNumber m n → (n ≢ x) → before n ≤ k → after n + 1 ≡ before n
  by_one zero n i ne le = absurd (omega (arith, a.sooner n i ne, le))
  by_one (suc k) n i ne le = elim (cases_lt (after n + 1) (before n)) [
    | inl l ↦
        let r = other_due n (omega (arith, l, old.below n i)) in
        let e : after r.0 + 1 ≡ before r.0 = by_one k r.0 r.1 r.3 (omega (arith, r.2, l, le)) in
        let same : r.0 ≡ n = new.apart r.0 n r.1 i (omega (arith, e, r.2)) in
        absurd (omega (arith, l, r.2, ap before same))
    | inr ge ↦ omega (arith, ge, a.sooner n i ne)
  ]

  last : after x + 1 ≡ m
  last = elim (cases_lt (after x + 1) m) [
    | inl l ↦
        let r = other_due x l in
        let e : after r.0 + 1 ≡ before r.0 = by_one (before r.0) r.0 r.1 r.3 (omega arith) in
        absurd (r.3 (new.apart r.0 x r.1 a.number (omega (arith, e, r.2))))
    | inr ge ↦ omega (arith, ge, new.below x a.number)
  ]

  pub moves_on : MovesOn m before after x
  moves_on = record { at_once = at_once; others = λ n i ne. by_one (before n) n i ne (omega arith); last = last }

leaves_one : {O : Type 0} (o : OrderMeaning O) → ((s : O) (p : ℕ) → IsParty p → EachItsOwn (o.numbers s) (o.due s p)) → LeavesOnePick o
leaves_one o each old new p x is picked =
    moves_on (o.numbers old) (o.due old p) (o.due new p) x (each old p is)
    (subst (λ m. EachItsOwn m (o.due new p)) picked.numbers_stay (each new p is)) (picked.answers is)

-- dues along a round are each number's own, where all are within the round
round_each : (shown : ℕ → ℕ) (m by q : ℕ) → ((n : ℕ) → IsNumber m n → round_due shown m by q n < m) → EachItsOwn m (round_due shown m by q)
round_each shown m by q low =
    let w : ℕ → ℕ = λ k. shown (place_after m by q k) in
    record { below = low; apart = λ n k i j e. sym (before_at w n m (low n i)) ∙ ap w e ∙ before_at w k m (low k j) }

-- picks in a row go along the round, where each number stands at some place and every place shows a number
module _ (shown : ℕ → ℕ) (m by : ℕ) (hm : 1 ≤ m) (hs : 1 ≤ by) (apart : NoSharedFactor by m)
    (stands : (n : ℕ) → IsNumber m n → (i : ℕ) × IsNumber m i × (shown i ≡ n)) (shows : (i : ℕ) → IsNumber m i → IsNumber m (shown i)) where
  each_at : (q : ℕ) → IsNumber m q → EachItsOwn m (round_due shown m by q)
  each_at q hq = round_each shown m by q (λ n i. dues_below shown m by hm hs apart stands shows q n hq i)

  -- the round's own move is such a pick
  round_moves : (q : ℕ) → IsNumber m q → MovesOn m (round_due shown m by q) (round_due shown m by (next_place m by q)) (shown (next_place m by q))
  round_moves q hq =
      let z = next_is_place m by q hm in
      moves_on m (round_due shown m by q) (round_due shown m by (next_place m by q)) (shown (next_place m by q)) (each_at q hq) (each_at (next_place m by q) z)
      (record { number = shows (next_place m by q) z; sooner = λ n i ne. (let s = stands n i in due_sooner shown m by q hm hs apart hq n s.0 s.1 s.2 ne) })

  module _ {O : Type 0} (o : OrderMeaning O) (p : ℕ) (is : IsParty p) (each : (s : O) → EachItsOwn (o.numbers s) (o.due s p)) where
    along : {old new : O} {answers : List ℕ} → PickedInTurn o.numbers o.horizon o.due p old answers new → (q : ℕ) → IsNumber m q → o.numbers old ≡ m
        → ((n : ℕ) → IsNumber m n → o.due old p n ≡ round_due shown m by q n) → answers ≡ answers_from shown m by q (length answers)
    along none q hq sized dues = refl
    along (then {o = old} {between} {answer = x} {answers} picked later) q hq sized dues =
        let P : ℕ → Type 0 = λ k. MovesOn k (o.due old p) (o.due between p) x in
        let mine : MovesOn m (o.due old p) (o.due between p) x =
        subst P sized (moves_on (o.numbers old) (o.due old p) (o.due between p) x (each old)
        (subst (λ k. EachItsOwn k (o.due between p)) picked.numbers_stay (each between)) (picked.answers is)) in
        let round : MovesOn m (round_due shown m by q) (round_due shown m by (next_place m by q)) (shown (next_place m by q)) = round_moves q hq in
        let number : IsNumber m x = subst (λ k. IsNumber k x) sized (picked.answers is).number in
        let next : IsNumber m (shown (next_place m by q)) = shows (next_place m by q) (next_is_place m by q hm) in
        let same : x ≡ shown (next_place m by q) = (each_at q hq).apart x (shown (next_place m by q)) number next (sym (dues x number) ∙ mine.at_once ∙ sym round.at_once) in
        let after : (n : ℕ) → IsNumber m n → o.due between p n ≡ round_due shown m by (next_place m by q) n = λ n i. elim (cases_eq n x) [
          | inl e ↦ (let f : n ≡ shown (next_place m by q) = e ∙ same in omega (arith, mine.last, round.last, ap (o.due between p) e, ap (round_due shown m by (next_place m by q)) f))
          | inr ne ↦ omega (arith, mine.others n i ne, round.others n i (λ f. ne (f ∙ sym same)), dues n i)
        ] in
        let rest-is = along later (next_place m by q) (next_is_place m by q hm) (picked.numbers_stay ∙ sized) after in
        λ z. same z ∷ rest-is z

stride_each : (s : Stride) (p : ℕ) → IsParty p → EachItsOwn s.round.size ((stride.ghosts).due s p)
stride_each s p is = round_each (λ q. q) s.round.size s.stride (place_of s.round.places p) (λ n i.
    dues_below (λ q. q) s.round.size s.stride s.round.size_fits.low s.fits.low s.fits.apart (λ i h. (i, h, refl)) (λ i h. h) (place_of s.round.places p) n (s.round.placed p is) i)

card_each : (s : Card) (p : ℕ) → IsParty p → EachItsOwn s.round.size ((card.ghosts).due s p)
card_each s p is = round_each (entry_at s.entries.items) s.round.size 1 (place_of s.round.places p) (λ n i.
    card_dues_below s.round.size s.entries.items s.fits s.round.size_fits.low (place_of s.round.places p) n (s.round.placed p is) i)

pub strides_leave_one_pick : StridesLeaveOnePick
strides_leave_one_pick = leaves_one (stride.ghosts) stride_each

pub cards_leave_one_pick : CardsLeaveOnePick
cards_leave_one_pick = leaves_one (card.ghosts) card_each

pub strides_answer_along : StridesAnswerAlong
strides_answer_along old new p answers is picks =
    along (λ q. q) old.round.size old.stride old.round.size_fits.low old.fits.low old.fits.apart (λ i h. (i, h, refl)) (λ i h. h) (stride.ghosts) p is
    (λ s. stride_each s p is) picks (place_of old.round.places p) (old.round.placed p is) refl (λ n _. refl)

pub cards_answer_along : CardsAnswerAlong
cards_answer_along old new p answers is picks =
    along (entry_at old.entries.items) old.round.size 1 old.round.size_fits.low (omega arith) (none_shared_with_one old.round.size) (number_stands old.round.size old.entries.items old.fits) (entry_is_number old.round.size old.entries.items old.fits)
    (card.ghosts) p is (λ s. card_each s p is) picks (place_of old.round.places p) (old.round.placed p is) refl (λ n _. refl)
