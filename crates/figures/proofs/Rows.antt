-- Each bench figure holds of the definitions.
use Rattle.std.proofs.Common.{◌≡◌, ℕ, zero, suc, ◌<◌, List, [], ◌∷◌, length, map, ℤ, pos, sym, refl, ap, ◌∙◌, inl, inr, mod-eq_of_lt, arith}
use Rattle.refusals.specs.Numbers.{number_of}
use Rattle.refusals.specs.declared.Refusal.TheVariants.{BadOrder}
use Rattle.orders.specs.Limits.{IsParty}
use Rattle.orders.specs.Making.{SizeFits, StrideFits, CardFits, Made, NoSharedFactor, times_on}
use Rattle.orders.specs.Meaning.{IsNumber, PickedInTurn}
use Rattle.orders.specs.Rounds.{start_place, place_of, entry_at, answers_from}
use Rattle.orders.specs.declared.stride.Stride.{Stride}
use Rattle.orders.specs.declared.card.Card.{Card}
use Rattle.orders.specs.contracts.stride.StrideOrder.TheImpl as stride
use Rattle.orders.specs.contracts.card.CardOrder.TheImpl as card_order
use Rattle.orders.proofs.OnePick.{strides_answer_along, cards_answer_along}
use Rattle.orders.specs.Factors.{none_shared_with_one}
use Rattle.kinds.specs.declared.gearbox.Range.TheVariants.{Low}
use Rattle.kinds.specs.declared.gearbox.Situation.{Situation}
use Rattle.figures.specs.Figures.{EachHolds, figures, refusing, card}

-- some situation
mild : Situation
mild = record { range = Low; gear = 1; temperature = pos 20; geared = (omega arith, omega arith); warm = refl }

-- a shared factor of 4 is 2 or 4, and neither divides 9
four_nine : NoSharedFactor 4 9
four_nine zero h e f = omega arith
four_nine (suc zero) h e f = omega arith
four_nine (suc (suc zero)) h e f = omega arith
four_nine (suc (suc (suc zero))) h e f = omega arith
four_nine (suc (suc (suc (suc zero)))) h e f = omega arith
four_nine (suc (suc (suc (suc (suc d))))) h e f = let small : 4 < suc (suc (suc (suc (suc d)))) = omega arith in omega (arith, mod-eq_of_lt small)

stride_four : StrideFits 9 4
stride_four = record { low = omega arith; high = omega arith; apart = four_nine }

stride_one : StrideFits 1 1
stride_one = record { low = omega arith; high = omega arith; apart = none_shared_with_one 1 }

-- 3 divides 9 and 3
stride_three : StrideFits 9 3 → ⊥
stride_three fits = fits.apart 3 (omega arith) refl refl

nine : SizeFits 9
nine = record { low = omega arith; high = omega arith }

card_once : (n : ℕ) → IsNumber 3 n → times_on card n ≡ 1
card_once zero is = omega arith
card_once (suc zero) is = refl
card_once (suc (suc zero)) is = refl
card_once (suc (suc (suc zero))) is = refl
card_once (suc (suc (suc (suc n)))) is = omega arith

-- the answers of picks in a row are the figure's
stride_meant : (m by party count : ℕ) (given : List ℤ) → IsParty party → given ≡ map pos (answers_from (λ q. q) m by (start_place m party) count)
    → (old new : Stride) (answers : List ℕ) → Made m (StrideFits m by) old.round.size old.round.places × (old.stride ≡ by) → PickedInTurn (stride.ghosts).numbers (stride.ghosts).horizon (stride.ghosts).due party old answers new → length answers ≡ count → map pos answers ≡ given
stride_meant m by party count given is along old new answers made picks long =
    ap (map pos) (strides_answer_along old new party answers is picks
    ∙ ap (λ k. answers_from (λ q. q) old.round.size old.stride (place_of old.round.places party) k) long
    ∙ ap (λ k. answers_from (λ q. q) k old.stride (place_of old.round.places party) count) made.0.sized
    ∙ ap (λ k. answers_from (λ q. q) m k (place_of old.round.places party) count) made.1
    ∙ ap (λ q. answers_from (λ q. q) m by q count) (made.0.started party is)) ∙ sym along

card_meant : (m : ℕ) (entries : List ℕ) (party count : ℕ) (given : List ℤ) → IsParty party → given ≡ map pos (answers_from (entry_at entries) m 1 (start_place m party) count)
    → (old new : Card) (answers : List ℕ) → Made m (CardFits m entries) old.round.size old.round.places × (old.entries.items ≡ entries) → PickedInTurn (card_order.ghosts).numbers (card_order.ghosts).horizon (card_order.ghosts).due party old answers new → length answers ≡ count → map pos answers ≡ given
card_meant m entries party count given is along old new answers made picks long =
    ap (map pos) (cards_answer_along old new party answers is picks
    ∙ ap (λ k. answers_from (entry_at old.entries.items) old.round.size 1 (place_of old.round.places party) k) long
    ∙ ap (λ k. answers_from (entry_at old.entries.items) k 1 (place_of old.round.places party) count) made.0.sized
    ∙ ap (λ l. answers_from (entry_at l) m 1 (place_of old.round.places party) count) made.1
    ∙ ap (λ q. answers_from (entry_at entries) m 1 q count) (made.0.started party is)) ∙ sym along

one_is_party : IsParty 1
one_is_party = (omega arith, omega arith)

refused_as_two : (other : List ℤ) → refusing 9 3 other → other ≡ pos 2 ∷ []
refused_as_two other (e, inl outside, is) = absurd (outside.1 nine)
refused_as_two other (e, inr bad, is) = is ∙ ap (λ r. pos (number_of r) ∷ []) bad.0

pub each_holds : EachHolds figures
each_holds = (
  (record { size_fits = nine; fits = stride_four; along = refl; by_meaning = stride_meant 9 4 1 4 _ one_is_party refl }, λ other given. given.along),
  (
    ((BadOrder, inr (refl, nine, stride_three), refl), refused_as_two),
    (
      (record { size_fits = record { low = omega arith; high = omega arith }; fits = stride_one; along = refl; by_meaning = stride_meant 1 1 1 1 _ one_is_party refl }, λ other given. given.along),
      (
        (record { size_fits = record { low = omega arith; high = omega arith }; fits = record { entries = refl; once = card_once }; along = refl; by_meaning = card_meant 3 card 1 3 _ one_is_party refl }, λ other given. given.along),
        (
          ((λ s. refl), λ other given. given mild),
          (
            ((λ s. refl), λ other given. given mild),
            (
              ((λ s. refl), λ other given. given mild),
              (
                ((λ s. refl), λ other given. given mild),
                (
                  (refl, λ other given. given),
                  (((λ s. refl), λ other given. given mild), tt),
                ),
              ),
            ),
          ),
        ),
      ),
    ),
  ),
)
