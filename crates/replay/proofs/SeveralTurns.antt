-- Several turns of alike systems: as many, telling the same, and leaving alike systems.
use Rattle.std.proofs.Common.{◌≡◌, ℕ, ◌≤◌, ◌<◌, cond, Ok, inl, inr, sym, ap, ◌∙◌, subst, arith, true≢false}
use Rattle.std.proofs.lemmas.Bool.{cases_order, cases_lt}
use Rattle.model.specs.declared.calls.Event.TheVariants.{Turns, WalkTurns}
use Rattle.model.specs.declared.outcomes.Progress.TheVariants.{StillRunning}
use Rattle.model.specs.Types.{Outcome}
use Rattle.model.specs.Checks.{is_walking}
use Rattle.model.specs.Runs.{System, Moves, Log}
use Rattle.model.specs.Setting.{Setting, InLimits}
use Rattle.model.proofs.Alike.{Alike, OnePick}
use Rattle.model.proofs.AlikeMoves.{alike_moves}
use Rattle.replay.specs.Turns.{Turned, once, again, TurnsUpTo, is_running_on, next_turn, all_entries}

module _ {D W A B : Type 0} (X : Setting D W A B) (p : ℕ) where
  at_least_once : {F G : System D W A B} {k : ℕ} {es : Log X} {o : Outcome D W} → Turned X p F k es o G → 1 ≤ k
  at_least_once (once m e) = omega arith
  at_least_once (again t m e) = omega arith

  -- fewer of these turns, after which the call runs
  fewer : {F H : System D W A B} {n : ℕ} {later : Log X} {o : Outcome D W} → Turned X p F n later o H → (k : ℕ) → 1 ≤ k → k < n → (es : Log X) × (G : System D W A B) × Turned X p F k es (Ok StillRunning) G
  fewer (once m e) k a b = absurd (omega (arith, a, b))
  fewer {F} (again {k = j} {es = es} {G = G} t m e) k a b = elim (cases_lt k j) [
    | inl l ↦ fewer t k a l
    | inr ge ↦ let is : j ≡ k = omega (arith, ge, b) in (es, G, subst (λ n. Turned X p F n es (Ok StillRunning) G) is t)
  ]

  -- turns do not stop where the call runs and more are asked for
  go_on : {F G : System D W A B} {es : Log X} {o : Outcome D W} {more most : ℕ} (t : TurnsUpTo X p most F es o G) → t.count < more → more ≤ most → o ≡ Ok StillRunning → ⊥
  go_on t l h r = elim t.stops [ inl e ↦ omega (arith, e, l, h) | inr n ↦ true≢false (sym (ap is_running_on r) ∙ n) ]

  module _ (limits : InLimits X.nodes X.parties) (one_node : OnePick X.node_order) (one_party : OnePick X.party_order) where
    one_turn : {F G F' G' : System D W A B} {o o' : Outcome D W} → Alike X F G → Moves X F (next_turn X p F) o F' → Moves X G (next_turn X p G) o' G' → (o ≡ o') × Alike X F' G'
    one_turn {F} {G} {F'} {G'} {o} {o'} h m n =
        let same : next_turn X p F ≡ next_turn X p G = λ z. cond (is_walking ((h.store z).run p)) (WalkTurns p (all_entries X.nodes)) (Turns p (all_entries X.nodes)) in
        alike_moves X limits one_node one_party F G h m (subst (λ e. Moves X G e o' G') (sym same) n)

    as_many : {F G F' G' : System D W A B} {k : ℕ} {es es' : Log X} {o o' : Outcome D W} → Alike X F G → Turned X p F k es o F' → Turned X p G k es' o' G' → (o ≡ o') × Alike X F' G'
    as_many h (once m e) (once n f) = one_turn h m n
    as_many h (again t m e) (again u n f) = one_turn (as_many h t u).1 m n
    as_many h (once m e) (again u n f) = absurd (let a = at_least_once u in omega (arith, a))
    as_many h (again t m e) (once n f) = absurd (let a = at_least_once t in omega (arith, a))

    pub alike_up_to : {F G F' G' : System D W A B} {most : ℕ} {es es' : Log X} {o o' : Outcome D W} → Alike X F G → TurnsUpTo X p most F es o F' → TurnsUpTo X p most G es' o' G' → (o ≡ o') × Alike X F' G'
    alike_up_to {F} {G} {F'} {G'} {most} {es} {es'} {o} {o'} h t u = elim (cases_order t.count u.count) [
      | inl e ↦ as_many h t.turned (subst (λ k. Turned X p G k es' o' G') (sym e) u.turned)
      | inr (inl l) ↦ absurd (let f = fewer u.turned t.count (at_least_once t.turned) l in go_on t l u.at_most (as_many h t.turned f.2).0)
      | inr (inr l) ↦ absurd (let f = fewer t.turned u.count (at_least_once u.turned) l in go_on u l t.at_most (sym (as_many h f.2 u.turned).0))
    ]
