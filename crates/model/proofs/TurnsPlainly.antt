-- The plain store follows every Turn.
use Rattle.std.proofs.Common.{◌≡◌, ℕ, ◌≤◌, Bool, true, false, cond, eqb, ◌≢◌, [], ◌∷◌, Some, None, sym, refl, ap, ◌∙◌, subst, inl, inr, true≢false}
use Rattle.std.proofs.lemmas.Bool.{cases_eq, cond-true, cond_both}
use Rattle.model.specs.Types.{Lengths, Event, Turns, WalkTurns, Kids, ReadNothing, Running, WalkReads, WalkGoesDown, AsksWalk, Outcome, Told, Tells, Settles, Decision, Situation}
use Rattle.model.specs.State.{kid_at, no_trail, longer, Store, set_trail, set_run, last}
use Rattle.model.specs.Steps.{decision, data_after}
use Rattle.model.specs.Checks.{is_idle, is_walking, turn_fault, walk_turn_fault}
use Rattle.model.specs.Walks.{Notes, first_unmarked, gone_up, settled_store}
use Rattle.model.specs.Setting.{Setting}
use Rattle.model.specs.Plain.{Plain, Ask, PlainRun, ends as none_left, next}
use Rattle.model.specs.Runs.{System, moved_as, moved, Steps, Moves, turn, walk_turn, is_end}
use Rattle.model.specs.Opened.{Agrees, Underway, Opened}
use Rattle.model.proofs.Explicit.{turn_at}
use Rattle.model.proofs.Stepped.{fit_of}
use Rattle.model.proofs.Fitting.{StepIs, data_at, data_after_lem}
use Rattle.model.proofs.FitsAlways.{picked, step_is}
use Rattle.model.proofs.ToldAt.{told_at, told_is}
use Rattle.model.proofs.Follow.{shown, having, agrees_on}
use Rattle.model.proofs.OwnTurns.{Own, goes, ends, own_turn, own_along}
use Rattle.model.proofs.WalkTurn.{place_walks, underway_walk, walk_underway, walk_turn_right}
use Rattle.model.proofs.WalkRun.{walk_happens}
use Rattle.model.proofs.Apart.{Apart, apart_steps, underway_stays}
use Rattle.model.proofs.OpenedNext.{happens_ends, takes, opened_kept, opened_next}

module _ {D W A B : Type 0} (X : Setting D W A B) where
  module _ (F : System D W A B) (t : Plain D) (asked : ℕ → Ask D) (O : Opened X F t asked) (p : ℕ) (a : 1 ≤ p) (b : p ≤ X.parties) (running : is_idle (F.store.run p) ≡ false) (o : Outcome D W) (G : System D W A B) (T : Steps X F p o G) where
    explicit : StepIs X F p T.pick
    explicit = step_is X F G (opened_kept X F t asked O) p o a b T running

    others : (q : ℕ) → q ≢ p → Apart X F G q
    others q d = apart_steps X F p q d O.sound a b o G T explicit

    -- what the turn puts into the order of calls, and what is opened then
    abbrev pub Turned : Type 0
    Turned = (u : Plain D) × PlainRun X t (cond (is_end o) ((asked p, o) ∷ []) []) u × Opened X G u asked

    turned : (e : Event D) → Moves X F e o G → (w : Bool) → Own X w G t p (asked p) o → Turned
    turned e m w (goes eo v S h) = (
      t,
      subst (λ x. PlainRun X t (cond (is_end x) ((asked p, x) ∷ []) []) t) (sym eo) none_left,
      opened_next X F t asked O e o G m t asked S
          (λ q x y. elim (cases_eq q p) [
            | inl z ↦ subst (λ k. Underway X G t k (asked k) (G.store.run k)) (sym z) h
            | inr z ↦ underway_stays X F G O.sound q x y (others q z) t t O.agrees S (asked q) (O.underway q x y)
          ]),
    )
    turned e m w (ends i c h u hp S) = (
      u,
      subst (λ v. PlainRun X t (cond v ((asked p, o) ∷ []) []) u) (sym (happens_ends X hp)) (next (takes X t u p (asked p) c o h hp) none_left),
      opened_next X F t asked O e o G m u asked S
          (λ q x y. elim (cases_eq q p) [
            | inl z ↦ subst (λ k. Underway X G u k (asked k) (G.store.run k)) (sym z) (subst (Underway X G u p (asked p)) (sym i) tt)
            | inr z ↦ underway_stays X F G O.sound q x y (others q z) t u O.agrees S (asked q) (O.underway q x y)
          ]),
    )

    abbrev here : Decision D W
    here = decision {W = W} X.parties X.nodes F.store F.info p T.pick

    -- a turn of a call that is no walk
    call_turned : is_walking (F.store.run p) ≡ false → Own X false G t p (asked p) o
    call_turned w =
        let N = X.parties in
        let M = X.nodes in
        let s = F.store in
        let x = T.pick in
        let K = opened_kept X F t asked O in
        let pk = picked X F G K p o a b T (s.run p) refl in
        let et : here.told ≡ Tells (told_at (s.run p) s p x) = told_is W N M s F.info p x (s.run p) refl running w (fit_of N M s O.sound p a b (s.run p) refl) pk in
        let H = having X F (turn_at (s.run p) s F.info p x) (data_at (s.run p) F.info) in
        let es : G.store ≡ H.store = T.store_is ∙ ap (λ v. (moved_as X F p x here v).store) et ∙ explicit in
        let ei : G.info ≡ H.info = T.info_is ∙ ap (λ v. (moved_as X F p x here v).info) et ∙ data_after_lem W N M s F.info p x in
        let eo : o ≡ told_at (s.run p) s p x = T.tells ∙ ap (λ v. (moved_as X F p x here v).outcome) et in
        subst (Own X false G t p (asked p)) (sym eo)
        (own_along X H G t p (asked p) (told_at (s.run p) s p x) (sym es) (sym ei) (own_turn X F t O.agrees O.sound p a b (asked p) x (s.run p) refl w running pk (O.underway p a b)))

    pub turn_plainly : (l : Lengths) → turn_fault X.parties X.nodes p l (F.store.run p) ≡ None → is_walking (F.store.run p) ≡ false → Turned
    turn_plainly l h w = turned (Turns p l) (turn h T) false (call_turned w)

    -- a walk's turn writes no shared word
    record Untouched (s : Store D) (info : ℕ → D) : Type 0 where
      kids : s.kids ≡ F.store.kids
      slots : s.slot ≡ F.store.slot
      boxes : s.inbox ≡ F.store.inbox
      same : info ≡ F.info

    on_run : (r : Running D) → Untouched (set_run F.store p r) F.info
    on_run r = record { kids = refl; slots = refl; boxes = refl; same = refl }

    walk_step : (r : Running D) → is_walking r ≡ true → Untouched (turn_at r F.store F.info p T.pick) (data_at r F.info)
    walk_step (WalkReads u g) w = record { kids = refl; slots = refl; boxes = refl; same = refl }
    walk_step (WalkGoesDown u k) w =
        let n = kid_at (F.store.kids (last F.store p)) k in
        cond_both (eqb n 0) F.store (set_trail F.store p (longer (F.store.trail p) n)) (λ s. Untouched (set_run s p (WalkReads u ReadNothing)) F.info) (λ _. on_run (WalkReads u ReadNothing))
        (λ _. record { kids = refl; slots = refl; boxes = refl; same = refl })
    walk_step _ w = absurd (true≢false (sym w))

    settled_untouched : (notes : Notes W) (u : Situation) (ks : Kids) → Untouched (settled_store X.worth X.blank F.store notes p u ks) F.info
    settled_untouched notes u ks =
        elim (first_unmarked notes ks) as (λ v. Untouched (elim v [ Some k ↦ set_run F.store p (WalkGoesDown u k) | None ↦ gone_up X.worth X.blank F.store p u ]) F.info) [
          | Some k ↦ on_run (WalkGoesDown u k)
          | None ↦ record { kids = refl; slots = refl; boxes = refl; same = refl }
        ]

    moved_untouched : is_walking (F.store.run p) ≡ true → (V : Told D W) → Untouched (moved_as X F p T.pick here V).store (moved_as X F p T.pick here V).info
    moved_untouched w (Tells v) =
        subst (λ s. Untouched s (data_after X.parties X.nodes F.store F.info p T.pick here)) (sym explicit)
        (subst (Untouched (turn_at (F.store.run p) F.store F.info p T.pick)) (sym (data_after_lem W X.parties X.nodes F.store F.info p T.pick)) (walk_step (F.store.run p) w))
    moved_untouched w (Settles n) = settled_untouched (F.notes p) n.situation n.kids

    -- a walk's turn
    module _ (w : is_walking (F.store.run p) ≡ true) where
      untouched : Untouched G.store G.info
      untouched = subst (λ s. Untouched s G.info) (sym T.store_is) (subst (Untouched (moved X F p T.pick).store) (sym T.info_is) (moved_untouched w here.told))

      -- the plain store shows no trail of a walk, and none after it
      walk_agrees : shown (G.store.run p) (G.store.trail p) ≡ no_trail → Agrees X G t
      walk_agrees e =
          let V = untouched in
          agrees_on X F t O.agrees G V.slots V.boxes
          (λ q. elim (cases_eq q p) [
            | inl d ↦ subst (λ v. shown (G.store.run v) (G.store.trail v) ≡ shown (F.store.run v) (F.store.trail v)) (sym d) (e ∙ sym (cond-true (is_walking (F.store.run p)) no_trail (F.store.trail p) w))
            | inr d ↦ (let Q = others q d in ap (λ r. shown r (G.store.trail q)) Q.run ∙ ap (shown (F.store.run q)) Q.trail)
          ])
          (λ n _. (ap (λ f. f n) V.kids, ap (λ f. f n) V.same))

      -- it goes on and all that it has set down is still right, or it ends with the plain store's answer
      walk_own : Own X true G t p (asked p) o
      walk_own =
          let u = walk_underway X F t p (asked p) (F.store.run p) w (O.underway p a b) in
          let k = u.1 in
          elim (walk_turn_right X u.0 F G O.sound p a b k.0.slot o k.3 u.2 T) [
            | inl z ↦ (let on = place_walks X G p u.0 (last G.store p) (G.store.run p) z.2 in
                goes z.0 on (walk_agrees (cond-true (is_walking (G.store.run p)) no_trail (G.store.trail p) on)) (underway_walk X G t p (asked p) u.0 (G.store.run p) (k.0, k.1, k.2, z.1) z.2))
            | inr z ↦ ends z.idle (AsksWalk k.0) k.1 t (walk_happens X F G O.sound p a b u.0 k.0 t o O.agrees k.3 k.2 z)
                (walk_agrees (ap (λ v. shown v (G.store.trail p)) z.idle ∙ z.left))
          ]

      pub walk_turn_plainly : (l : Lengths) → walk_turn_fault X.parties X.nodes p l (F.store.run p) ≡ None → Turned
      walk_turn_plainly l h = turned (WalkTurns p l) (walk_turn h T) true walk_own
