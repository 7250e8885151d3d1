-- A round whose stride shares no factor with its size shows every number within one round, and each move
-- brings the others nearer. What stands at a place is left open, so one argument serves every order on a round.
use Rattle.std.specs.Prelude.{◌≡◌, ℕ, suc, ◌+◌, ◌-◌, ◌*◌, ◌/◌, ◌%◌, ◌<◌, ◌≤◌, ◌⊎◌, List, length, ◌≢◌, slice_set}
use Rattle.std.proofs.Common.{sym, ap, subst, ◌∙◌, inl, inr, arith, get_or-set_same, get_or-set_other, mul-add, add-mul, mul_comm, mul_assoc, mul-one, one-mul, mod-eq_of_lt, mod-lt}
use Rattle.std.proofs.Math.Nat.{div-add-mod, add-mul-mod_self_left, mod-add-mod}
use Rattle.std.proofs.lemmas.List.{get_or_past}
use Rattle.std.proofs.lemmas.Bool.{cases_lt}
use Rattle.orders.specs.Limits.{IsParty, last_party}
use Rattle.orders.specs.Meaning.{IsNumber, Answered, Picked}
use Rattle.orders.specs.Making.{NoSharedFactor}
use Rattle.orders.specs.Rounds.{place_after, next_place, place_of, round_due}
use Rattle.orders.specs.Before.{before_le, before_sooner}
use Rattle.orders.specs.Factors.{one_apart}

-- the move at which the round from q comes to the place n
comes : (m stride q n x y : ℕ) → 1 ≤ m → stride * x ≡ m * y + 1 → IsNumber m q → IsNumber m n → (k : ℕ) × (k < m) × ((q - 1 + (k + 1) * stride) % m ≡ n - 1)
comes m stride q n x y hm e hq hn =
    let D : ℕ = n + m - q in
    let j : ℕ = x * D in
    let k : ℕ = (j + (m - 1)) % m in
    let c : ℕ = (j + (m - 1)) / m in
    let whole : m * c + k ≡ j + (m - 1) = div-add-mod (j + (m - 1)) m in
    let times : (m * c + (k + 1)) * stride ≡ (j + m) * stride = ap (λ a. a * stride) (omega (arith, whole)) in
    let parts = add-mul (m * c) (k + 1) stride in
    let parts' = add-mul j m stride in
    let js : j * stride ≡ m * (y * D) + D =
    mul_comm j stride ∙ sym (mul_assoc stride x D) ∙ ap (λ a. a * D) e ∙ add-mul (m * y) 1 D ∙ omega (arith, mul_assoc m y D, one-mul D) in
    let W : ℕ = 1 + y * D + stride in
    let mW : m * W ≡ m + m * (y * D) + m * stride = omega (arith, mul-add m (1 + y * D) stride, mul-add m 1 (y * D), mul-one m) in
    let same : (q - 1 + (k + 1) * stride) + m * (c * stride) ≡ (n - 1) + m * W = omega (arith, times, parts, parts', js, mW, mul_assoc m c stride) in
    let small : n - 1 < m = omega arith in
    (k, mod-lt (j + (m - 1)) hm, sym (add-mul-mod_self_left (q - 1 + (k + 1) * stride) m (c * stride)) ∙ ap (λ a. a % m) same ∙ add-mul-mod_self_left (n - 1) m W ∙ mod-eq_of_lt small)

pub next_is_place : (m stride q : ℕ) → 1 ≤ m → IsNumber m (next_place m stride q)
next_is_place m stride q hm = (omega arith, omega (arith, mod-lt (q - 1 + stride) hm))

moved_once : (m stride q : ℕ) → place_after m stride q 0 ≡ next_place m stride q
unfolding place_after
moved_once m stride q = ap (λ a. (q - 1 + a) % m + 1) (one-mul stride)

moved_on : (m stride q k : ℕ) → place_after m stride (next_place m stride q) k ≡ place_after m stride q (suc k)
unfolding place_after
moved_on m stride q k =
    let e : (q - 1 + stride) % m + 1 - 1 ≡ (q - 1 + stride) % m = omega arith in
    let e' : q - 1 + stride + (k + 1) * stride ≡ q - 1 + (suc k + 1) * stride = omega (arith, add-mul 1 (k + 1) stride, one-mul stride, ap (λ a. a * stride) (let z : suc k + 1 ≡ 1 + (k + 1) = omega arith in z)) in
    ap (λ a. (a + (k + 1) * stride) % m + 1) e ∙ ap (λ a. a + 1) (mod-add-mod (q - 1 + stride) m ((k + 1) * stride) ∙ ap (λ a. a % m) e')

module _ (shown : ℕ → ℕ) (m stride q : ℕ) (hm : 1 ≤ m) (hs : 1 ≤ stride) (apart : NoSharedFactor stride m) (hq : IsNumber m q) where
  -- what stands at some place comes within one round
  pub due_below : (n i : ℕ) → IsNumber m i → shown i ≡ n → round_due shown m stride q n < m
  unfolding place_after
  due_below n i hi e =
      let b = one_apart (stride + m) stride m (omega arith) hs hm apart in
      let r = comes m stride q i b.0 b.1 hm b.2 hq hi in
      let at : place_after m stride q r.0 ≡ i = omega (arith, r.2) in
      let l = before_le (λ k. shown (place_after m stride q k)) n m r.0 r.1 (ap shown at ∙ e) in
      omega (arith, l, r.1)

  -- a move brings every number nearer but the one that it shows
  pub due_sooner : (n i : ℕ) → IsNumber m i → shown i ≡ n → (n ≢ shown (next_place m stride q))
      → round_due shown m stride (next_place m stride q) n < round_due shown m stride q n
  due_sooner n i hi e other =
      before_sooner (λ k. shown (place_after m stride q k)) (λ k. shown (place_after m stride (next_place m stride q) k)) n m
      (λ k. ap shown (moved_on m stride q k))
      (λ z. other (z ∙ ap shown (moved_once m stride q)))
      (due_below n i hi e)

party_or_not : (p : ℕ) → IsParty p ⊎ (IsParty p → ⊥)
party_or_not p = elim (cases_lt p 1) [
  | inl low ↦ inr (λ is. omega (arith, is))
  | inr l ↦ elim (cases_lt last_party p) [
    | inl over ↦ inr (λ is. omega (arith, is))
    | inr h ↦ inl (l, h)
  ]
]

-- One move on a round is a pick of any order whose dues are the round's, where each number stands at some place and
-- every place shows a number.
module _ (shown : ℕ → ℕ) (m stride : ℕ) (hm : 1 ≤ m) (hs : 1 ≤ stride) (apart : NoSharedFactor stride m)
    (stands : (n : ℕ) → IsNumber m n → (i : ℕ) × IsNumber m i × (shown i ≡ n)) (shows : (i : ℕ) → IsNumber m i → IsNumber m (shown i)) where
  pub dues_below : (q n : ℕ) → IsNumber m q → IsNumber m n → round_due shown m stride q n < m
  dues_below q n hq hn = let s = stands n hn in due_below shown m stride q hm hs apart hq n s.0 s.1 s.2

  module _ {O : Type 0} (numbers horizon : O → ℕ) (due : O → ℕ → ℕ → ℕ) (old new : O) (p answer : ℕ) (places places' : List ℕ)
      (placed : (q : ℕ) → IsParty q → IsNumber m (place_of places q))
      (size_is : numbers old ≡ m) (size_stays : numbers new ≡ numbers old) (span_stays : horizon new ≡ horizon old)
      (due_is : (q n : ℕ) → due old q n ≡ round_due shown m stride (place_of places q) n)
      (due_is' : (q n : ℕ) → due new q n ≡ round_due shown m stride (place_of places' q) n)
      (moved : IsParty p → places' ≡ slice_set places (p - 1) (next_place m stride (place_of places p)))
      (answered : IsParty p → answer ≡ shown (next_place m stride (place_of places p))) where
    others : IsParty p → (q n : ℕ) → IsParty q → (q ≢ p) → due new q n ≡ due old q n
    others is q n isq other =
        let other' : q - 1 ≡ p - 1 → ⊥ = λ e. other (omega (arith, is, isq)) in
        let kept : place_of places' q ≡ place_of places q =
        ap (λ l. place_of l q) (moved is) ∙ get_or-set_other places (p - 1) (q - 1) (next_place m stride (place_of places p)) 0 other' in
        due_is' q n ∙ ap (λ a. round_due shown m stride a n) kept ∙ sym (due_is q n)

    own : (is : IsParty p) → place_of places' p ≡ next_place m stride (place_of places p)
    own is = elim (cases_lt (p - 1) (length places)) [
      | inl l ↦ ap (λ l'. place_of l' p) (moved is) ∙ get_or-set_same places (p - 1) (next_place m stride (place_of places p)) 0 l
      | inr past ↦ absurd (omega (arith, placed p is, get_or_past places (p - 1) 0 past))
    ]

    answers : (is : IsParty p) → Answered (numbers old) (due old p) (due new p) answer
    answers is =
        let q : ℕ = place_of places p in
        let fits : IsNumber m answer = let P : ℕ → Type 0 = IsNumber m in subst P (sym (answered is)) (shows (next_place m stride q) (next_is_place m stride q hm)) in
        record {
          number = (fits.0, omega (arith, fits.1, size_is));
          sooner = λ n hn other.
              let s = stands n (hn.0, omega (arith, hn.1, size_is)) in
              let l = due_sooner shown m stride q hm hs apart (placed p is) n s.0 s.1 s.2 (λ e. other (e ∙ sym (answered is))) in
              omega (arith, l, due_is p n, due_is' p n, ap (λ a. round_due shown m stride a n) (own is));
        }

    pub move_is_pick : ((IsParty p → ⊥) → (answer ≡ 0) × (new ≡ old)) → Picked numbers horizon due old new p answer
    move_is_pick refused = record {
      numbers_stay = size_stays;
      span_stays = span_stays;
      others_stay = λ q n isq other _. elim (party_or_not p) [
        | inl is ↦ others is q n isq other
        | inr not ↦ ap (λ o. due o q n) (refused not).1
      ];
      answers = answers;
      refuses = refused;
    }
