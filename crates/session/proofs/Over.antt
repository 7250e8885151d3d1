-- A move over other lists and lengths that its checks find alike.
use Rattle.std.proofs.Common.{◌≡◌, ℕ, None, sym, ap, ◌∙◌, subst}
use Rattle.model.specs.declared.calls.Asked.{Asked}
use Rattle.model.specs.declared.calls.Event.TheVariants.{Begins, Turns, WalkTurns}
use Rattle.model.specs.declared.calls.Lengths.{Lengths}
use Rattle.model.specs.Types.{Outcome}
use Rattle.model.specs.Begins.{started, started_walk}
use Rattle.model.specs.Checks.{turn_fault, walk_turn_fault}
use Rattle.model.specs.Runs.{System, Moves, Steps, begin_refused, call_begun, walk_begun, turn_refused, turn, walk_turn_refused, walk_turn, begin_fault_of, with_store, with_walk}
use Rattle.model.specs.Setting.{Setting}

same_steps : {D W A B : Type 0} {X : Setting D W A B} {F F' G G' : System D W A B} {p : ℕ} {o : Outcome D W} → (F ≡ F') × (G ≡ G') → Steps X F p o G → Steps X F' p o G'
same_steps {X = X} {F' = F'} {G = G} {p = p} {o = o} u S = subst (λ H. Steps X F' p o H) u.1 (subst (λ H. Steps X H p o G) u.0 S)

-- F' and G' are F and G with other lists: where the move is refused they stay, and else they are the same
module _ {D W A B : Type 0} {X : Setting D W A B} {F F' G G' : System D W A B} {p : ℕ} {l l' : Lengths} {o : Outcome D W} (still : G ≡ F → G' ≡ F') where
  pub begins_over : {a : Asked D} → begin_fault_of X F' p a l' ≡ begin_fault_of X F p a l → (begin_fault_of X F p a l ≡ None → (F ≡ F') × (G ≡ G'))
      → Moves X F (Begins p a l) o G → Moves X F' (Begins p a l') o G'
  begins_over same whole (begin_refused e f t g) = begin_refused e (same ∙ f) t (still g)
  begins_over same whole (call_begun {c = c} f t g) = let u = whole f in call_begun (same ∙ f) t (sym u.1 ∙ g ∙ ap (λ H. with_store X H (started c H.store p)) u.0)
  begins_over same whole (walk_begun {w = w} s ws f d t g) = let u = whole f in walk_begun s ws (same ∙ f) d t (sym u.1 ∙ g ∙ ap (λ H. with_walk X H (started_walk w.slot s H.store p) p ws) u.0)

  pub turns_over : turn_fault X.parties X.nodes p l' (F'.store.run p) ≡ turn_fault X.parties X.nodes p l (F.store.run p)
      → (turn_fault X.parties X.nodes p l (F.store.run p) ≡ None → (F ≡ F') × (G ≡ G')) → Moves X F (Turns p l) o G → Moves X F' (Turns p l') o G'
  turns_over same whole (turn_refused e f t g) = turn_refused e (same ∙ f) t (still g)
  turns_over same whole (turn f S) = turn (same ∙ f) (same_steps (whole f) S)

  pub walk_turns_over : walk_turn_fault X.parties X.nodes p l' (F'.store.run p) ≡ walk_turn_fault X.parties X.nodes p l (F.store.run p)
      → (walk_turn_fault X.parties X.nodes p l (F.store.run p) ≡ None → (F ≡ F') × (G ≡ G')) → Moves X F (WalkTurns p l) o G → Moves X F' (WalkTurns p l') o G'
  walk_turns_over same whole (walk_turn_refused e f t g) = walk_turn_refused e (same ∙ f) t (still g)
  walk_turns_over same whole (walk_turn f S) = walk_turn (same ∙ f) (same_steps (whole f) S)
