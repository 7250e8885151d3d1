-- What `all` and `any` over low..=high tell of the numbers from low to high.
use Rattle.std.proofs.Common.{◌≡◌, ℕ, ◌+◌, ◌-◌, ◌≤◌, Bool, true, false, [], Option, None, Some, MatchBool, subst, ap, ◌∙◌, arith}
use Rattle.std.specs.Fn.{Called, Mut}
use Rattle.std.specs.Option.{IfSome, IsSomeAnd, option_map}
use Rattle.std.specs.Range.{range_inclusive_start, range_inclusive_end, range_inclusive_exhausted}
use Rattle.std.specs.Iterator.Runs.{Run, SomeRun, AllItemsGive, AnyItemGives, CallKeepsClosure}
use Rattle.std.proofs.iter.runs.Sources.{nat_range_inclusive_steps, inclusive_listed}
use Rattle.std.proofs.lemmas.Option.{none-some, same_Some}

item_is : (o : Option ℕ) (P : ℕ → Type 0) (k : ℕ) → option_map (λ y. y) o ≡ Some k → IfSome o P → P k
item_is None P k e h = absurd (none-some k e)
item_is (Some x) P k e h = subst P (same_Some x k e) h

item_found : (o : Option ℕ) (P Q : ℕ → Type 0) → IfSome o P → IsSomeAnd o Q → (x : ℕ) × P x × Q x
item_found None P Q h q = absurd q
item_found (Some x) P Q h q = (x, h, q)

module _ {F : Type 0} (g : Mut F (ℕ × Unit {0}) Bool) (f : F) (keeps : CallKeepsClosure g f)
    (s : _) (low high : ℕ) (starts : range_inclusive_start s ≡ low) (ends : range_inclusive_end s ≡ high) (fresh : range_inclusive_exhausted s ≡ false)
    (Yes No : ℕ → Type 0) (yes : (n : ℕ) → Called g f (n, tt) true f → Yes n) (no : (n : ℕ) → Called g f (n, tt) false f → No n) where
  module _ (p : Run nat_range_inclusive_steps) (from : p.from ≡ s) (b : Bool) (P : ℕ → Type 0) (says : (n : ℕ) → Called g f (n, tt) b f → P n) where
    each : p.whole ≡ true → AllItemsGive p g f b → (n : ℕ) → low ≤ n → n ≤ high → P n
    each whole all n above below =
        let l = inclusive_listed p p.seen in
        let up = l.4 (ap range_inclusive_exhausted from ∙ fresh) in
        let a : l.0 ≡ low = l.2 ∙ ap range_inclusive_start from ∙ starts in
        let z : l.1 ≡ high + 1 = omega (arith, l.3, ap range_inclusive_end from, ends) in
        says n (item_is (p.at (n - l.0)) (λ x. Called g f (x, tt) b f) n (up.1 [] n 0 (omega arith) (omega (arith, up.0.1 whole))).1 (all keeps (n - l.0)))

    one : AnyItemGives p g f b → (n : ℕ) × (low ≤ n) × (n ≤ high) × P n
    one any =
        let l = inclusive_listed p p.seen in
        let up = l.4 (ap range_inclusive_exhausted from ∙ fresh) in
        let a : l.0 ≡ low = l.2 ∙ ap range_inclusive_start from ∙ starts in
        let z : l.1 ≡ high + 1 = omega (arith, l.3, ap range_inclusive_end from, ends) in
        let w = any keeps in
        let x = item_found (p.at w.0) _ (λ x. Called g f (x, tt) b f) (up.0.2 w.0) w.2 in
        (x.0, omega (arith, x.1), omega (arith, x.1), says x.0 x.2)

  pub cases_of_all : (r : Bool) → SomeRun nat_range_inclusive_steps s (λ p. MatchBool r ((p.whole ≡ true) × AllItemsGive p g f true) (AnyItemGives p g f false))
      → MatchBool r ((n : ℕ) → low ≤ n → n ≤ high → Yes n) ((n : ℕ) × (low ≤ n) × (n ≤ high) × No n)
  cases_of_all true (p, from, h) = each p from true Yes yes h.0 h.1
  cases_of_all false (p, from, h) = one p from false No no h

  pub cases_of_any : (r : Bool) → SomeRun nat_range_inclusive_steps s (λ p. MatchBool r (AnyItemGives p g f true) ((p.whole ≡ true) × AllItemsGive p g f false))
      → MatchBool r ((n : ℕ) × (low ≤ n) × (n ≤ high) × Yes n) ((n : ℕ) → low ≤ n → n ≤ high → No n)
  cases_of_any true (p, from, h) = one p from true Yes yes h
  cases_of_any false (p, from, h) = each p from false No no h.0 h.1
