use Rattle.std.proofs.Common.{◌≡◌, ◌≢◌, ℕ, ◌%◌, ◌≤◌, Bool, true, false, MatchBool, rules, tests}
use Rattle.orders.specs.Making.{NoSharedFactor}
use Rattle.orders.specs.Factors.{none_up_to}
use Rattle.orders.proofs.Ranges.{cases_of_any}
use Rattle.orders.proofs.stride.shares_factor.Goals as goal

shared_or_not : (a b : ℕ) (r : Bool) → 1 ≤ b
    → MatchBool r ((d : ℕ) × (2 ≤ d) × (d ≤ b) × ((a % d ≡ 0) × (b % d ≡ 0))) ((d : ℕ) → 2 ≤ d → d ≤ b → a % d ≡ 0 → b % d ≢ 0)
    → MatchBool r (NoSharedFactor a b → ⊥) (NoSharedFactor a b)
shared_or_not a b true some h = λ none. none h.0 h.1 h.3.0 h.3.1
shared_or_not a b false some h = none_up_to a b some h

pub returns : goal.returns
returns c =
    let a = c.args.a in
    let b = c.args.b in
    shared_or_not a b c.any.result c.requires
    (cases_of_any _ _ (λ x r q k. search (rules, tests)) _ 2 b (cc) (cc) (cc) (λ d. (a % d ≡ 0) × (b % d ≡ 0)) (λ d. a % d ≡ 0 → b % d ≢ 0)
    (λ d k. search (rules, tests)) (λ d k. search (rules, tests)) c.any.result c.any.ensures.runs)
