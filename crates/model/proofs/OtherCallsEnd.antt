-- A call that is neither Make nor walk, along a run: each turn of its own leaves fewer to it, and nobody else's changes it.
use Rattle.std.proofs.Common.{◌≡◌, ℕ, ◌<◌, ◌≤◌, true, false, eqb, ◌⊎◌, ◌∷◌, sym, refl, ap, ◌∙◌, subst, inl, inr, arith}
use Rattle.std.proofs.lemmas.Bool.{cases_eq, eq-eqb, ne_eqb, and_from, true≢false}
use Rattle.model.specs.Types.{Event, Turns, Running, Idle, WalkReads, WalkGoesDown, AsksCall, AsksWalk, Outcome, Told, Tells, Settles, Decision}
use Rattle.model.specs.State.{last}
use Rattle.model.specs.Steps.{loaded, looks_at, decision}
use Rattle.model.specs.Checks.{is_walking}
use Rattle.model.specs.Setting.{Setting}
use Rattle.model.specs.Runs.{System, Moves, begin_refused, call_begun, walk_begun, turn_refused, turn, walk_turn_refused, walk_turn, Steps, Log, Run, still, more, moved_as, is_accepted, is_end, is_turn_of, turns_of, ends_of}
use Rattle.model.specs.Law.{is_brief, OtherCallsEnd}
use Rattle.model.proofs.Accepted.{walk_turn_walks}
use Rattle.model.proofs.Begins.{accepted_idle}
use Rattle.model.proofs.RefusedTurns.{turn_refusal, walk_turn_refusal}
use Rattle.model.proofs.BriefCalls.{left, EndsBy, nearer, some_left}
use Rattle.model.proofs.Logs.{ends_not_now, ends_not_later, counts_one, counts_none}
use Rattle.model.proofs.Kept.{Kept, moves_keep}
use Rattle.model.proofs.Others.{stepped_own, others_run_on}
use Rattle.model.proofs.Stepped.{fit_of}
use Rattle.model.proofs.Tells.{TellsAtOnce, IsFourth, tells_at_once}

brief_not_fourth : {D : Type 0} (r : Running D) → is_brief r ≡ true → IsFourth r → ⊥
brief_not_fourth (WalkReads t g) h f = true≢false (sym h)
brief_not_fourth _ h f = f

brief_not_walking : {D : Type 0} (r : Running D) → is_brief r ≡ true → is_walking r ≡ true → ⊥
brief_not_walking Idle h w = true≢false (sym h)
brief_not_walking (WalkReads t g) h w = true≢false (sym h)
brief_not_walking (WalkGoesDown t k) h w = true≢false (sym h)
brief_not_walking _ h w = true≢false (sym w)

module _ {D W A B : Type 0} (X : Setting D W A B) where
  module _ (F : System D W A B) (p x : ℕ) (d : Decision D W) where
    runs_next : (T : Told D W) → TellsAtOnce T → (moved_as X F p x d T).store.run p ≡ d.next
    runs_next (Tells o) h = stepped_own X.parties X.nodes F.store F.info p x d
    runs_next (Settles n) h = absurd h

    ends_by : (T : Told D W) → EndsBy T → is_end (moved_as X F p x d T).outcome ≡ true
    ends_by (Tells o) h = h
    ends_by (Settles n) h = absurd h

  -- an own turn ends the call, or leaves fewer to it
  own_turn : (F G : System D W A B) (p : ℕ) (o : Outcome D W) → Kept X F → 1 ≤ p → p ≤ X.parties → is_brief (F.store.run p) ≡ true → Steps X F p o G
      → (is_end o ≡ true) ⊎ ((is_brief (G.store.run p) ≡ true) × (left (G.store.run p) < left (F.store.run p)))
  own_turn F G p o K a b h m =
      let r = F.store.run p in
      let d = decision {W = W} X.parties X.nodes F.store F.info p m.pick in
      let once = tells_at_once W r (loaded F.store F.info (looks_at X.parties X.nodes F.store p m.pick)) p m.pick (F.store.slot p) (last F.store p) (brief_not_fourth r h) in
      let is : G.store.run p ≡ d.next = ap (λ s. s.run p) m.store_is ∙ runs_next F p m.pick d d.told once in
      elim (nearer W X.parties X.nodes F.store F.info p m.pick r h (fit_of X.parties X.nodes F.store K.sound p a b r refl)) [
        | inl e ↦ inl (ap is_end m.tells ∙ ends_by F p m.pick d d.told e)
        | inr g ↦ inr (ap is_brief is ∙ g.0, omega (arith, ap left is, g.1))
      ]

  module _ (p : ℕ) (a : 1 ≤ p) (b : p ≤ X.parties) where
    -- what holds of the rest of a run
    abbrev Rest : System D W A B → Log X → Type 0
    Rest G es = Kept X G → is_brief (G.store.run p) ≡ true → ends_of p es ≡ 0 → turns_of p es < left (G.store.run p)

    -- the run goes on with what p runs unchanged
    goes_on : {F G : System D W A B} {e : Event D} {o : Outcome D W} (es : Log X) → Kept X F → is_brief (F.store.run p) ≡ true → Moves X F e o G → Rest G es → ends_of p ((e, o) ∷ es) ≡ 0
        → G.store.run p ≡ F.store.run p → (is_turn_of p e ≡ false) ⊎ (is_accepted o ≡ false) → turns_of p ((e, o) ∷ es) < left (F.store.run p)
    goes_on {F} {G} {e} {o} es K h m r z same none =
        let rest = r (moves_keep X K m) (ap is_brief same ∙ h) (ends_not_later e o es p z) in
        omega (arith, rest, ap left same, counts_none e o es p none)

    -- one Begin or Turn
    head : {F G : System D W A B} {e : Event D} {o : Outcome D W} (es : Log X) → Kept X F → is_brief (F.store.run p) ≡ true → Moves X F e o G → Rest G es → ends_of p ((e, o) ∷ es) ≡ 0
        → turns_of p ((e, o) ∷ es) < left (F.store.run p)
    head es K h (begin_refused {p = q} {a = k} {l} r' f t g) r z = goes_on es K h (begin_refused {p = q} {a = k} {l = l} r' f t g) r z (ap (λ S. S.store.run p) g) (inl refl)
    head {F} es K h (call_begun {p = q} {c} {l} f t g) r z = elim (cases_eq p q) [
      | inl e ↦ absurd (true≢false (sym (ap is_brief (sym (ap F.store.run e ∙ accepted_idle X.suits X.parties X.nodes F.store q (AsksCall c) l f)) ∙ h)))
      | inr d ↦ goes_on es K h (call_begun {l = l} f t g) r z (others_run_on X p (call_begun {l = l} f t g) d) (inl refl)
    ]
    head {F} es K h (walk_begun {p = q} {w} {l} t worths f i o' g) r z = elim (cases_eq p q) [
      | inl e ↦ absurd (true≢false (sym (ap is_brief (sym (ap F.store.run e ∙ accepted_idle X.suits X.parties X.nodes F.store q (AsksWalk w) l f)) ∙ h)))
      | inr d ↦ goes_on es K h (walk_begun {l = l} t worths f i o' g) r z (others_run_on X p (walk_begun {l = l} t worths f i o' g) d) (inl refl)
    ]
    head {F} es K h (turn_refused {p = q} {l} r' f t g) r z = goes_on es K h (turn_refused {p = q} {l = l} r' f t g) r z (ap (λ S. S.store.run p) g) (inr (ap is_accepted t ∙ turn_refusal X.parties X.nodes q l (F.store.run q) r' f))
    head {F} {G} {e} {o} es K h (turn {p = q} {l} f m) r z = elim (cases_eq p q) [
      | inl is ↦
          (let m' : Steps X F p o G = subst (λ v. Steps X F v o G) (sym is) m in
          let his : eqb p q ≡ true = eq-eqb p q is in
          elim (own_turn F G p o K a b h m') [
            | inl end ↦ absurd (true≢false (sym (and_from (eqb p q) (is_end o) his end) ∙ ends_not_now (Turns q l) o es p z))
            | inr on ↦ (let rest = r (moves_keep X K (turn {p = q} {l = l} f m)) on.0 (ends_not_later (Turns q l) o es p z) in omega (arith, rest, on.1, counts_one (Turns q l) o es p))
          ])
      | inr d ↦ goes_on es K h (turn {p = q} {l = l} f m) r z (others_run_on X p (turn {p = q} {l = l} f m) d) (inl (ne_eqb p q d))
    ]
    head {F} es K h (walk_turn_refused {p = q} {l} r' f t g) r z = goes_on es K h (walk_turn_refused {p = q} {l = l} r' f t g) r z (ap (λ S. S.store.run p) g) (inr (ap is_accepted t ∙ walk_turn_refusal X.parties X.nodes q l (F.store.run q) r' f))
    head {F} es K h (walk_turn {p = q} {l} f m) r z = elim (cases_eq p q) [
      | inl is ↦ absurd (brief_not_walking (F.store.run p) h (ap (λ v. is_walking (F.store.run v)) is ∙ walk_turn_walks X.parties X.nodes q l (F.store.run q) f))
      | inr d ↦ goes_on es K h (walk_turn {p = q} {l = l} f m) r z (others_run_on X p (walk_turn {p = q} {l = l} f m) d) (inl (ne_eqb p q d))
    ]

    brief_run : {F H : System D W A B} {es : Log X} → Kept X F → is_brief (F.store.run p) ≡ true → Run X F es H → ends_of p es ≡ 0 → turns_of p es < left (F.store.run p)
    brief_run {F} K h still z = omega (arith, (some_left X.parties (F.store.run p) h (fit_of X.parties X.nodes F.store K.sound p a b (F.store.run p) refl)).0)
    brief_run K h (more {es = es} m r) z = head es K h m (λ K' h' z'. brief_run K' h' r z') z

  pub other_calls_end : (G : System D W A B) → Kept X G → OtherCallsEnd X G
  other_calls_end G K p a b h later H r z =
      omega (arith, brief_run p a b K h r z, (some_left X.parties (G.store.run p) h (fit_of X.parties X.nodes G.store K.sound p a b (G.store.run p) refl)).1)
