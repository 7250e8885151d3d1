-- What an accepted Turn does, and which refusals a Turn has.
use Rattle.std.proofs.Common.{◌≡◌, ℕ, ◌≤◌, true, false, eqb, ◌⊎◌, sym, refl, ap, ◌∙◌, subst, inl, inr}
use Rattle.model.specs.Types.{Ok, Place, OpenTray, Plan, Job, Makes, Running, Works, Outcome, StillRunning, Ended, Told, Tells, Settles, Decision}
use Rattle.model.specs.State.{Store, last}
use Rattle.model.specs.Steps.{decision, stepped, loaded, looks_at, written, changed}
use Rattle.model.specs.Checks.{is_idle}
use Rattle.model.specs.Setting.{Setting}
use Rattle.model.specs.Runs.{System, asks_nodes, asks_parties, moved_as, Steps, is_end}
use Rattle.model.proofs.Explicit.{place_step, turn_at}
use Rattle.model.proofs.Sums.{upd_same}
use Rattle.model.proofs.Tells.{TellsAtOnce, IsFourth, tells_at_once}
use Rattle.model.proofs.Kept.{Kept}
use Rattle.model.proofs.FitsAlways.{step_is}
use Rattle.model.proofs.Rank.{asks_at, waits}
use Rattle.model.proofs.RankBeside.{Calm}
use Rattle.model.proofs.RankCalm.{NoJob, no_job_waits, calm_settled, calm_turn_at}
use Rattle.model.proofs.MakeTells.{goes, ends, make_tells}

-- Which order a place asks.

pub asks_nodes_at : {D : Type 0} (j : Job D) (c : Place) → asks_nodes (Works j c) ≡ eqb (asks_at c) 1
asks_nodes_at j c = elim c as (λ v. asks_nodes (Works j v) ≡ eqb (asks_at v) 1) [ OpenTray ↦ refl | _ ↦ refl ]

pub asks_parties_at : {D : Type 0} (j : Job D) (c : Place) → asks_parties (Works j c) ≡ eqb (asks_at c) 2
asks_parties_at j c = elim c as (λ v. asks_parties (Works j v) ≡ eqb (asks_at v) 2) [ OpenTray ↦ refl | _ ↦ refl ]

pub no_nodes_asked : {D : Type 0} (r : Running D) → NoJob r → asks_nodes r ≡ false
no_nodes_asked (Works j c) h = absurd h
no_nodes_asked _ h = refl

pub no_parties_asked : {D : Type 0} (r : Running D) → NoJob r → asks_parties r ≡ false
no_parties_asked (Works j c) h = absurd h
no_parties_asked _ h = refl

module _ {D W A B : Type 0} (X : Setting D W A B) where
  -- What an accepted Turn does.

  module _ (F G : System D W A B) (K : Kept X F) (q : ℕ) (o : Outcome D W) (a : 1 ≤ q) (b : q ≤ X.parties) (runs : is_idle (F.store.run q) ≡ false) (T : Steps X F q o G) where
    abbrev here : Decision D W
    here = decision X.parties X.nodes F.store F.info q T.pick

    abbrev stepped_here : Store D
    stepped_here = stepped X.parties X.nodes F.store F.info q T.pick here

    told_at_once : (t : Told D W) → TellsAtOnce t → (moved_as X F q T.pick here t).store ≡ stepped_here
    told_at_once (Tells o') h = refl
    told_at_once (Settles n) h = absurd h

    -- a step of a Make or Sweep is the explicit one
    pub job_step : (j : Job D) (c : Place) → F.store.run q ≡ Works j c → G.store ≡ place_step c j F.store q T.pick
    job_step j c e =
        T.store_is
        ∙ told_at_once here.told (tells_at_once W (F.store.run q) (loaded F.store F.info (looks_at X.parties X.nodes F.store q T.pick)) q T.pick (F.store.slot q) (last F.store q) (subst (λ r. IsFourth r → ⊥) (sym e) (λ z. z)))
        ∙ step_is X F G K q o a b T runs ∙ ap (λ r. turn_at r F.store F.info q T.pick) e

    told_outcome : (o' : Outcome D W) → here.told ≡ Tells o' → o ≡ o'
    told_outcome o' e = T.tells ∙ ap (λ t. (moved_as X F q T.pick here t).outcome) e

    -- a step of a call that is no Make and no Sweep
    calm_told : (t : Told D W) → waits F.store.count (F.store.run q) ≡ 1 → Calm F.store stepped_here q → Calm F.store (moved_as X F q T.pick here t).store q
    calm_told (Tells o') w c = c
    calm_told (Settles n) w c = calm_settled F.store q w X.worth X.blank (F.notes q) n.situation n.kids

    pub calm_step : NoJob (F.store.run q) → Calm F.store G.store q
    calm_step h = subst (λ t. Calm F.store t q) (sym T.store_is)
        (calm_told here.told (no_job_waits F.store.count (F.store.run q) h)
        (subst (λ t. Calm F.store t q) (sym (step_is X F G K q o a b T runs)) (calm_turn_at X.parties X.nodes F.store K.sound F.info q a b T.pick (F.store.run q) refl h)))

    abbrev before : Store D
    before = changed (written F.store (looks_at X.parties X.nodes F.store q T.pick) here.word) q here.change

    next_here : (u : Outcome D W) → here.told ≡ Tells u → is_idle (G.store.run q) ≡ is_idle here.next
    next_here u t = ap (λ s. is_idle (s.run q)) (T.store_is ∙ ap (λ t. (moved_as X F q T.pick here t).store) t) ∙ ap is_idle (upd_same before.run q here.next)

    -- a Make runs on, or has ended
    pub making_tells : (plan : Plan D) (c : Place) → F.store.run q ≡ Works (Makes plan) c → ((o ≡ Ok StillRunning) × (is_idle (G.store.run q) ≡ false)) ⊎ ((is_end o ≡ true) × (is_idle (G.store.run q) ≡ true))
    making_tells plan c e = elim (make_tells W X.parties X.nodes F.store F.info plan q T.pick c e) [
      | goes t i ↦ inl (told_outcome (Ok StillRunning) t, next_here (Ok StillRunning) t ∙ i)
      | ends x t i ↦ inr (ap is_end (told_outcome (Ok (Ended x)) t), next_here (Ok (Ended x)) t ∙ i)
    ]
