use Rattle.std.proofs.Common.{◌≡◌, ◌≢◌, ℕ, ◌≤◌, Bool, true, false, List, length, MatchBool, arith, rules, tests}
use Rattle.orders.specs.Making.{times_on, CardFits}
use Rattle.orders.proofs.Ranges.{cases_of_all}
use Rattle.orders.proofs.card.fits.Goals as goal

fits_or_not : (m : ℕ) (card : List ℕ) (r : Bool) → length card ≡ m
    → MatchBool r ((n : ℕ) → 1 ≤ n → n ≤ m → times_on card n ≡ 1) ((n : ℕ) × (1 ≤ n) × (n ≤ m) × (times_on card n ≢ 1))
    → MatchBool r (CardFits m card) (CardFits m card → ⊥)
fits_or_not m card true long h = record { entries = long; once = λ n number. h n number.0 number.1 }
fits_or_not m card false long h = λ fits. h.3 (fits.once h.0 (h.1, h.2))

pub returns-then-entries-m : goal.returns-then-entries-m
returns-then-entries-m c =
    let card = c.args.entries.now in
    let found = cases_of_all _ _ (λ x r q k. search (rules, tests)) _ 1 c.args.m (cc) (cc) (cc)
    (λ n. times_on card n ≡ 1) (λ n. times_on card n ≢ 1) (λ n k. search (rules, tests)) (λ n k. search (rules, tests)) c.all.result c.all.ensures.runs in
    fits_or_not c.args.m card c.all.result (omega (arith, c.if-entries-m.true)) found
