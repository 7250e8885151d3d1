-- What any Begin or Turn of another party leaves to a party.
use Rattle.std.proofs.Common.{◌≡◌, ℕ, ◌≢◌, sym, refl, subst}
use Rattle.model.specs.Types.{Event, Outcome}
use Rattle.model.specs.Setting.{Setting}
use Rattle.model.specs.Runs.{System, Moves, begin_refused, call_begun, walk_begun, turn_refused, turn, walk_turn_refused, walk_turn}
use Rattle.model.proofs.Accepted.{turn_passed, walk_turn_passed}
use Rattle.model.proofs.Kept.{Kept}
use Rattle.model.proofs.FitsAlways.{step_is}
use Rattle.model.proofs.Others.{party_of}
use Rattle.model.proofs.Apart.{Apart, apart_begun, apart_walk_begun, apart_steps}

module _ {D W A B : Type 0} (X : Setting D W A B) where
  apart_same : (F G : System D W A B) (p : ℕ) → G ≡ F → Apart X F G p
  apart_same F G p g = subst (λ H. Apart X F H p) (sym g) (record { kept = λ n _. (refl, refl); own_info = λ v _ _ _ _. refl; slot = refl; trail = refl; run = refl; notes = refl })

  pub apart_moves : {F G : System D W A B} {e : Event D} {o : Outcome D W} → Kept X F → (p : ℕ) → p ≢ party_of e → Moves X F e o G → Apart X F G p
  apart_moves {F} {G} K p ne (begin_refused r h t g) = apart_same F G p g
  apart_moves {F} K p ne (call_begun {p = q} {c} h t g) = subst (λ H. Apart X F H p) (sym g) (apart_begun X F q p ne c)
  apart_moves {F} K p ne (walk_begun {p = q} {w} t worths h d o g) = subst (λ H. Apart X F H p) (sym g) (apart_walk_begun X F q p ne w.slot t worths)
  apart_moves {F} {G} K p ne (turn_refused r h t g) = apart_same F G p g
  apart_moves {F} {G} {o = o} K p ne (turn {p = q} {l} h T) =
      let u = turn_passed X.parties X.nodes q l (F.store.run q) h in
      apart_steps X F q p ne K.sound u.0 u.1 o G T (step_is X F G K q o u.0 u.1 T u.2)
  apart_moves {F} {G} K p ne (walk_turn_refused r h t g) = apart_same F G p g
  apart_moves {F} {G} {o = o} K p ne (walk_turn {p = q} {l} h T) =
      let u = walk_turn_passed X.parties X.nodes q l (F.store.run q) h in
      apart_steps X F q p ne K.sound u.0 u.1 o G T (step_is X F G K q o u.0 u.1 T u.2)
