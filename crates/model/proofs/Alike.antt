-- Systems that differ only in what no move shows: in what the orders' meaning does not say, and in worths at which no mark
-- stands.
use Rattle.std.proofs.Common.{◌≡◌, ℕ, ◌+◌, Bool, true, false, sym, refl, ◌∙◌, subst, inl, inr, arith, true≢false}
use Rattle.std.proofs.lemmas.Bool.{cases_eq}
use Rattle.orders.specs.Limits.{IsParty}
use Rattle.orders.specs.Meaning.{IsNumber, Picked}
use Rattle.orders.specs.OnePick.{MovesOn}
use Rattle.model.specs.Setting.{Meaning, Setting}
use Rattle.model.specs.Walks.{Notes}
use Rattle.model.specs.Runs.{System, Asks}

-- the same marks, and the same worths where a mark stands
pub record AlikeNotes {W : Type 0} (a b : Notes W) : Type 0 where
  pub marks : a.marks ≡ b.marks
  pub worths : (n : ℕ) → a.marks n ≡ true → a.worths n ≡ b.worths n

-- as many numbers, and the same dues
pub record AlikeOrders {O : Type 0} (m : Meaning O) (a b : O) : Type 0 where
  pub numbers : m.numbers a ≡ m.numbers b
  pub dues : (p n : ℕ) → IsParty p → IsNumber (m.numbers a) n → m.due a p n ≡ m.due b p n

pub record Alike {D W A B : Type 0} (X : Setting D W A B) (F G : System D W A B) : Type 0 where
  pub store : F.store ≡ G.store
  pub info : F.info ≡ G.info
  pub notes : (q : ℕ) → AlikeNotes (F.notes q) (G.notes q)
  pub nodes : AlikeOrders X.node_order F.node_order G.node_order
  pub parties : AlikeOrders X.party_order F.party_order G.party_order

-- whatever pick keeps the meaning, the dues before it leave one answer and one way on
abbrev pub OnePick : {O : Type 0} → Meaning O → Type 0
OnePick {O} m = (old new : O) (p x : ℕ) → IsParty p → Picked m.numbers m.horizon m.due old new p x → MovesOn (m.numbers old) (m.due old p) (m.due new p) x

module _ {O : Type 0} (m : Meaning O) (one : OnePick m) (a b a' b' : O) (p x y : ℕ) (is : IsParty p) (h : AlikeOrders m a b)
    (f : Picked m.numbers m.horizon m.due a a' p x) (g : Picked m.numbers m.horizon m.due b b' p y) where
  first : MovesOn (m.numbers a) (m.due a p) (m.due a' p) x
  first = one a a' p x is f

  other : MovesOn (m.numbers b) (m.due b p) (m.due b' p) y
  other = one b b' p y is g

  answer_of_both : IsNumber (m.numbers a) y
  answer_of_both = subst (λ k. IsNumber k y) (sym h.numbers) (g.answers is).number

  -- both answer the number that is due at once
  same_answer : x ≡ y
  same_answer = elim (cases_eq x y) [
    | inl e ↦ e
    | inr ne ↦ absurd (omega (arith, first.others y answer_of_both (λ e. ne (sym e)), h.dues p y is answer_of_both, other.at_once))
  ]

  own_dues : (n : ℕ) → IsNumber (m.numbers a) n → m.due a' p n ≡ m.due b' p n
  own_dues n i = elim (cases_eq n x) [
    | inl e ↦
        let P : ℕ → Type 0 = λ k. m.due a' p k ≡ m.due b' p k in
        let last : m.due b' p x + 1 ≡ m.numbers b = subst (λ k. m.due b' p k + 1 ≡ m.numbers b) (sym same_answer) other.last in
        subst P (sym e) (omega (arith, first.last, last, h.numbers))
    | inr ne ↦
        omega (arith, first.others n i ne, h.dues p n is i, other.others n (subst (λ k. IsNumber k n) h.numbers i) (λ e. ne (e ∙ sym same_answer)))
  ]

  dues_after : (q n : ℕ) → IsParty q → IsNumber (m.numbers a) n → m.due a' q n ≡ m.due b' q n
  dues_after q n k i = elim (cases_eq q p) [
    | inl e ↦ subst (λ r. m.due a' r n ≡ m.due b' r n) (sym e) (own_dues n i)
    | inr ne ↦ f.others_stay q n k ne i ∙ h.dues q n k i ∙ sym (g.others_stay q n k ne (subst (λ j. IsNumber j n) h.numbers i))
  ]

  pub alike_picks : AlikeOrders m a' b' × (x ≡ y)
  alike_picks = (
    record { numbers = f.numbers_stay ∙ h.numbers ∙ sym g.numbers_stay; dues = λ q n k i. dues_after q n k (subst (λ j. IsNumber j n) f.numbers_stay i) },
    same_answer,
  )

-- alike orders that are asked are alike afterwards, and answer the same; those that are not asked stay
pub alike_asked : {O : Type 0} (m : Meaning O) → OnePick m → (asked : Bool) (a b a' b' : O) (p x y : ℕ) → IsParty p → AlikeOrders m a b → Asks m asked a a' p x → Asks m asked b b' p y
    → AlikeOrders m a' b' × (asked ≡ true → x ≡ y)
alike_asked m one true a b a' b' p x y is h f g = let z = alike_picks m one a b a' b' p x y is h (f.picks refl) (g.picks refl) in (z.0, λ _. z.1)
alike_asked m one false a b a' b' p x y is h f g = (
  subst (λ o. AlikeOrders m o b') (sym (f.rests refl)) (subst (λ o. AlikeOrders m a o) (sym (g.rests refl)) h),
  λ e. absurd (true≢false (sym e)),
)
