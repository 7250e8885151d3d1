-- What follows from a store and a plain store that are opened, and when they are so again after a Begin or Turn.
use Rattle.std.proofs.Common.{◌≡◌, ℕ, ◌≤◌, true, false, List, ◌++◌, sym, refl, ap, ◌∙◌, subst}
use Rattle.model.specs.Types.{Event, Place, Plan, Makes, Works, Make, Asked, AsksCall, Outcome}
use Rattle.model.specs.Checks.{begin_fault, given_by}
use Rattle.model.specs.Setting.{Setting}
use Rattle.model.specs.Plain.{Plain, Ask, Happens, enters, Takes, accepted, PlainRun, ends, next}
use Rattle.model.specs.Runs.{System, Moves, is_end}
use Rattle.model.specs.Opened.{Agrees, WrittenSoFar, AskedFor, Underway, Opened}
use Rattle.model.proofs.Begins.{make_passed, accepted as passed}
use Rattle.model.proofs.Fitting.{Fits, fits_moves}
use Rattle.model.proofs.FitsAlways.{step_is}
use Rattle.model.proofs.Kept.{Kept, moves_keep}
use Rattle.model.proofs.Seekers.{seekers_stay_open}

module _ {D W A B : Type 0} (X : Setting D W A B) where
  -- what happens ends a call
  pub happens_ends : {t : Plain D} {p : ℕ} {c : Asked D} {o : Outcome D W} {u : Plain D} → Happens X t p c o u → is_end o ≡ true
  happens_ends enters = refl
  happens_ends _ = refl

  -- what was asked for happens
  pub takes : (t u : Plain D) (p : ℕ) (k : Ask D) (c : Asked D) (o : Outcome D W) → AskedFor X t p k c → Happens X t p c o u → Takes X t k o u
  takes t u p k c o h y =
      accepted (ap (λ v. begin_fault X.suits X.parties X.nodes false v k.asked k.lengths (t.slot v) (t.trail v)) h.0 ∙ ap (λ v. begin_fault X.suits X.parties X.nodes false p v k.lengths (t.slot p) (t.trail p)) h.1 ∙ h.2)
      (subst (λ v. Happens X t v k.asked o u) (sym h.0) (subst (λ v. Happens X t p v o u) (sym h.1) y))

  -- one run after another
  pub run_then : {s t u : Plain D} {xs ys : List (Ask D × Outcome D W)} → PlainRun X s xs t → PlainRun X t ys u → PlainRun X s (xs ++ ys) u
  run_then ends r = r
  run_then (next h q) r = next h (run_then q r)

  module _ (F : System D W A B) (t : Plain D) (asked : ℕ → Ask D) (O : Opened X F t asked) where
    pub opened_kept : Kept X F
    opened_kept = record { limits = O.limits; sound = O.sound; sized = O.sized }

    -- a Make's plan fits, as the plain store would accept it
    plan_fits : (q : ℕ) → 1 ≤ q → q ≤ X.parties → (plan : Plan D) (c : Place) → F.store.run q ≡ Works (Makes plan) c → (X.suits plan.given (given_by plan.kids) ≡ true) × WrittenSoFar F.info plan c
    plan_fits q a b plan c e =
        let h : Underway X F t q (asked q) (Works (Makes plan) c) = subst (Underway X F t q (asked q)) e (O.underway q a b) in
        let k = asked q in
        let u = (passed X.suits X.parties X.nodes false q (AsksCall (Make plan)) k.lengths (t.slot q) (t.trail q) h.0.2).faultless in
        ((make_passed X.suits (t.slot q) (t.trail q) plan u).data_suits, h.1)

    pub opened_fits : Fits X F
    opened_fits = record { reached = O.fits; plans = plan_fits }

    -- opened again, if the plain store agrees and what is under way is so
    pub opened_next : (e : Event D) (o : Outcome D W) (G : System D W A B) → Moves X F e o G → (u : Plain D) (asked' : ℕ → Ask D) → Agrees X G u
        → ((q : ℕ) → 1 ≤ q → q ≤ X.parties → Underway X G u q (asked' q) (G.store.run q)) → Opened X G u asked'
    opened_next e o G m u asked' S h =
        let K = moves_keep X opened_kept m in
        record {
          limits = K.limits;
          sound = K.sound;
          seeking = seekers_stay_open X opened_kept O.seeking m;
          sized = K.sized;
          agrees = S;
          fits = (fits_moves X F O.sound opened_fits e o G (λ p a b i T. step_is X F G opened_kept p o a b T i) m).reached;
          underway = h;
        }
