-- Turns one after another.
use Rattle.std.proofs.Common.{◌≡◌, ◌∙◌, ℕ, suc, ◌+◌, true, ◌∷◌, ◌++◌, [], Ok, Err, refl, sym, subst, arith}
use Rattle.std.proofs.lemmas.Bool.{true≢false}
use Rattle.model.specs.declared.outcomes.Progress.TheVariants.{Begun, StillRunning, Ended}
use Rattle.model.specs.Types.{Outcome}
use Rattle.model.specs.Runs.{System, Moves, Log}
use Rattle.model.specs.Setting.{Setting}
use Rattle.kinds.specs.declared.kind.Kind.{Ghosts as KindMeaning}
use Rattle.orders.specs.declared.stride.Stride.{Stride}
use Rattle.orders.specs.contracts.stride.StrideOrder.TheImpl as stride
use Rattle.cells.specs.View.{SameSizes}
use Rattle.session.specs.declared.session.Session.{Session}
use Rattle.session.specs.Sessions.{setting_of, system_in}
use Rattle.replay.specs.Turns.{Turned, again, is_running_on, next_turn, once}

pub still_is : {D W : Type 0} (o : Outcome D W) → is_running_on o ≡ true → o ≡ Ok StillRunning
still_is (Err e) h = absurd (true≢false (sym h))
still_is (Ok Begun) h = absurd (true≢false (sym h))
still_is (Ok StillRunning) h = refl
still_is (Ok (Ended x)) h = absurd (true≢false (sym h))

-- so many turns, whatever they told
abbrev pub HasTurned : {D W A B : Type 0} (X : Setting D W A B) (p : ℕ) → System D W A B → ℕ → Outcome D W → System D W A B → Type 0
HasTurned X p F k o G = (es : Log X) × Turned X p F k es o G

pub turned_first : {D W A B : Type 0} (X : Setting D W A B) (p : ℕ) (F G : System D W A B) (o : Outcome D W) → Moves X F (next_turn X p F) o G → HasTurned X p F 1 o G
turned_first X p F G o m = (_, once m refl)

-- one turn more, where the one before left the call running
pub turned_again : {D W A B : Type 0} (X : Setting D W A B) (p : ℕ) {F G H : System D W A B} {k : ℕ} {es : Log X} {o o' : Outcome D W} → Turned X p F k es o G → is_running_on o ≡ true → Moves X G (next_turn X p G) o' H
    → Turned X p F (k + 1) (es ++ (next_turn X p G, o') ∷ []) o' H
turned_again X p {F} {G} {H} {k} {es} {o} {o'} t h m =
    let e : suc k ≡ k + 1 = omega arith in
    subst (λ n. Turned X p F n (es ++ (next_turn X p G, o') ∷ []) o' H) e (again (subst (λ r. Turned X p F k es r G) (still_is o h) t) m refl)

module _ {K D W : Type 0} (kind : KindMeaning K D W) where
  abbrev S : Type 0
  S = Session K Stride Stride D W kind (stride.ghosts) (stride.ghosts)

  pub turned_further : (first s s' : S) (p k : ℕ) (o o' : Outcome D W) → SameSizes first.store.cells s.store.cells → HasTurned (setting_of first) p (system_in first) k o (system_in s) → is_running_on o ≡ true
      → Moves (setting_of s) (system_in s) (next_turn (setting_of s) p (system_in s)) o' (system_in s') → HasTurned (setting_of first) p (system_in first) (k + 1) o' (system_in s')
  turned_further first s s' p k o o' z t on m =
      let X = setting_of first in
      let m' : Moves X (system_in s) (next_turn X p (system_in s)) o' (system_in s') = rw (sym z.parties, sym z.nodes) m in
      (_, turned_again X p t.1 on m')

  pub sizes_further : (first s s' : S) → SameSizes first.store.cells s.store.cells → SameSizes s.store.cells s'.store.cells → SameSizes first.store.cells s'.store.cells
  sizes_further first s s' z z' = record { parties = z'.parties ∙ z.parties; nodes = z'.nodes ∙ z.nodes }
