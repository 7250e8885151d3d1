-- Picks of one party, one after another.
use Rattle.std.proofs.Common.{◌≡◌, ap, subst, ℕ, ◌<◌, ◌≤◌, List, [], ◌∷◌, ◌++◌, length, sym, inl, inr, arith}
use Rattle.std.proofs.lemmas.Bool.{cases_eq}
use Rattle.orders.specs.Limits.{IsParty}
use Rattle.orders.specs.Meaning.{Picked, PickedInTurn, none, then, IsNumber, Among, EachComes}

module _ {O : Type 0} (numbers horizon : O → ℕ) (due : O → ℕ → ℕ → ℕ) (p : ℕ) where
  pub none_yet : (o : O) (answers : List ℕ) → answers ≡ [] → PickedInTurn numbers horizon due p o answers o
  none_yet o [] e = none
  none_yet o (x ∷ xs) e = absurd (omega (arith, ap length e))

  pushed : (o between o' : O) (answers : List ℕ) (answer : ℕ) → PickedInTurn numbers horizon due p o answers between
      → Picked numbers horizon due between o' p answer → PickedInTurn numbers horizon due p o (answers ++ answer ∷ []) o'
  pushed o _ o' _ answer none picked = then picked none
  pushed o between o' _ answer (then first rest) picked = then first (pushed _ between o' _ answer rest picked)

  pub one_more : (o between o' : O) (answers more : List ℕ) (answer : ℕ) → PickedInTurn numbers horizon due p o answers between
      → Picked numbers horizon due between o' p answer → more ≡ answers ++ answer ∷ [] → PickedInTurn numbers horizon due p o more o'
  one_more o between o' answers more answer run picked e =
      let P : List ℕ → Type 0 = λ l. PickedInTurn numbers horizon due p o l o' in
      subst P (sym e) (pushed o between o' answers answer run picked)

  comes_when_due : (o o' : O) (answers : List ℕ) → IsParty p → PickedInTurn numbers horizon due p o answers o'
      → (n : ℕ) → IsNumber (numbers o) n → due o p n < length answers → Among n answers
  comes_when_due o _ _ is none n number d = absurd (omega arith)
  comes_when_due o o' _ is (then {answer = r} picked rest) n number d = elim (cases_eq n r) [
    | inl e ↦ inl (sym e)
    | inr other ↦
        let sooner = (picked.answers is).sooner n number other in
        inr (comes_when_due _ o' _ is rest n (number.0, omega (arith, number.1, picked.numbers_stay)) (omega arith))
  ]

  -- in as many picks as the span says, every number comes
  pub each_comes : ((o : O) (q n : ℕ) → IsParty q → IsNumber (numbers o) n → due o q n < horizon o)
      → (o o' : O) (answers : List ℕ) → IsParty p → PickedInTurn numbers horizon due p o answers o' → horizon o ≤ length answers
      → EachComes (numbers o) answers
  each_comes below o o' answers is run long n number = comes_when_due o o' answers is run n number (omega (arith, below o p n is number))
