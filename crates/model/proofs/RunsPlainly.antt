-- The plain store follows every Begin and every Turn, so every run.
use Rattle.std.proofs.Common.{◌≡◌, ℕ, false, cond, [], ◌∷◌, sym, subst}
use Rattle.refusals.specs.declared.Refusal.{Refusal}
use Rattle.model.specs.Types.{Event, Err, Outcome}
use Rattle.model.specs.Setting.{Setting}
use Rattle.model.specs.Plain.{Plain, Ask, PlainRun, ends}
use Rattle.model.specs.Runs.{System, Moves, begin_refused, call_begun, walk_begun, turn_refused, turn, walk_turn_refused, walk_turn, Log, Run, still, more, ends_call, is_end, history}
use Rattle.model.specs.Opened.{Opened}
use Rattle.model.specs.Law.{RunsAsPlain}
use Rattle.model.proofs.Accepted.{turn_passed, turn_walks_not, walk_turn_passed, walk_turn_walks}
use Rattle.model.proofs.RefusedTurns.{turn_refusal, walk_turn_refusal}
use Rattle.model.proofs.OpenedNext.{run_then}
use Rattle.model.proofs.BeginsPlainly.{After, begin_refused_plainly, call_begun_plainly, walk_begun_plainly}
use Rattle.model.proofs.TurnsPlainly.{turn_plainly, walk_turn_plainly}

module _ {D W A B : Type 0} (X : Setting D W A B) where
  -- a refused Turn stands nowhere and changes nothing
  refused_turn : (F G : System D W A B) (t : Plain D) (asked : ℕ → Ask D) (k : Ask D) → Opened X F t asked → (e : Refusal) (o : Outcome D W) → ends_call e ≡ false → o ≡ Err e → G ≡ F
      → (u : Plain D) × PlainRun X t (cond (is_end o) ((k, o) ∷ []) []) u × Opened X G u asked
  refused_turn F G t asked k O e o h eo eG =
      (t, subst (λ v. PlainRun X t (cond (is_end v) ((k, v) ∷ []) []) t) (sym eo) (subst (λ v. PlainRun X t (cond v ((k, Err e) ∷ []) []) t) (sym h) ends), subst (λ H. Opened X H t asked) (sym eG) O)

  -- one Begin or Turn
  pub moves_plainly : {F G : System D W A B} (t : Plain D) (asked : ℕ → Ask D) {e : Event D} {o : Outcome D W} → Opened X F t asked → Moves X F e o G → After X t asked e o G
  moves_plainly {F} {G} t asked {o = o} O (begin_refused {p} {a = c} {l} r h eo g) = begin_refused_plainly X F t asked O p l c r o G h eo g
  moves_plainly {F} {G} t asked {o = o} O (call_begun {p} {c} {l} h eo g) = call_begun_plainly X F t asked O p l c o G h eo g
  moves_plainly {F} {G} t asked {o = o} O (walk_begun {p} {w} {l} y worths h d eo g) = walk_begun_plainly X F t asked O p l w y worths o G h d eo g
  moves_plainly {F} {G} t asked {o = o} O (turn_refused {p} {l} r h eo g) = refused_turn F G t asked (asked p) O r o (turn_refusal X.parties X.nodes p l (F.store.run p) r h) eo g
  moves_plainly {F} {G} t asked {o = o} O (turn {p} {l} h T) =
      let u = turn_passed X.parties X.nodes p l (F.store.run p) h in
      turn_plainly X F t asked O p u.0 u.1 u.2 o G T l h (turn_walks_not X.parties X.nodes p l (F.store.run p) h)
  moves_plainly {F} {G} t asked {o = o} O (walk_turn_refused {p} {l} r h eo g) = refused_turn F G t asked (asked p) O r o (walk_turn_refusal X.parties X.nodes p l (F.store.run p) r h) eo g
  moves_plainly {F} {G} t asked {o = o} O (walk_turn {p} {l} h T) =
      let u = walk_turn_passed X.parties X.nodes p l (F.store.run p) h in
      walk_turn_plainly X F t asked O p u.0 u.1 u.2 o G T (walk_turn_walks X.parties X.nodes p l (F.store.run p) h) l h

  -- every run: the plain store runs through the calls as they stand, and both are opened at the end
  pub runs_plainly : {F G : System D W A B} (t : Plain D) (asked : ℕ → Ask D) {es : Log X} → Opened X F t asked → Run X F es G
      → (u : Plain D) × PlainRun X t (history asked es) u × ((later : ℕ → Ask D) × Opened X G u later)
  runs_plainly t asked O still = (t, ends, (asked, O))
  runs_plainly t asked O (more m r) =
      let h = moves_plainly t asked O m in
      let i = runs_plainly h.0 _ h.2 r in
      (i.0, run_then X h.1 i.1, i.2)

  -- the law's part: from any opened pair
  pub runs_as_plain : (F : System D W A B) (s : Plain D) (asked : ℕ → Ask D) → Opened X F s asked → (es : Log X) (G : System D W A B) → Run X F es G → RunsAsPlain X s asked es G
  runs_as_plain F s asked O es G r = let h = runs_plainly s asked O r in (h.0, h.1, h.2.1.agrees)
