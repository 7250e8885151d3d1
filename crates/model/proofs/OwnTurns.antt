-- A turn of a call that is no walk: the call goes on, and the plain store stays as it is; or it ends, and the plain store does it.
use Rattle.std.proofs.Common.{◌≡◌, ℕ, ◌+◌, ◌-◌, ◌≤◌, Bool, false, cond, eqb, sym, refl, ap, ◌∙◌, subst, inl, inr, true≢false, arith}
use Rattle.std.proofs.lemmas.Bool.{cases_eq, eqb-true, cond-false}
use Rattle.refusals.specs.declared.Refusal.TheVariants.{InboxEmpty}
use Rattle.model.specs.Fun.{upd}
use Rattle.model.specs.Types.{Ok, Err, Place, Job, Makes, Sweeps, ReadNothing, ReadData, ReadFirst, ReadSecond, Running, Idle, Reads, GoesDown, Keeps, Drops, Hands, Fetches, TakesOut, Works, WalkReads, WalkGoesDown, Read, Down, Keep, Drop, Hand, Fetch, Asked, AsksCall, Outcome, StillRunning}
use Rattle.model.specs.State.{kid_at, no_trail, Store, set_inbox, set_slot, set_run, last}
use Rattle.model.specs.Checks.{is_idle, is_walking}
use Rattle.model.specs.Begins.{kid_of}
use Rattle.model.specs.Inv.{Good}
use Rattle.model.specs.Sound.{on_trail, Sound}
use Rattle.model.specs.Setting.{Setting}
use Rattle.model.specs.Plain.{Plain, Ask, Happens}
use Rattle.model.specs.Runs.{System}
use Rattle.model.specs.Opened.{Agrees, ReadSoFar, WrittenSoFar, AskedFor, Underway}
use Rattle.model.proofs.Explicit.{down_to, place_step, turn_at}
use Rattle.model.proofs.Sums.{upd_same, upd_other}
use Rattle.model.proofs.Stays.{Stands, Frame, turn_frame}
use Rattle.model.proofs.Trails.{last_reached}
use Rattle.model.proofs.Stepped.{PickedAt, Picked}
use Rattle.model.proofs.Fitting.{data_at, unseen}
use Rattle.model.proofs.ToldAt.{told_place, told_at}
use Rattle.model.proofs.Follow.{shown, having, agrees_along, agrees_on, follow_read, follow_down, follow_keep, follow_drop, follow_hand, follow_take, follow_no_fetch}
use Rattle.model.proofs.FollowMake.{call_of, Wrote, by_bool, place_deed, goes_on, ends_so}

module _ {D W A B : Type 0} (X : Setting D W A B) where
  -- p's own turn, with which the system G is left and o is told; walks says whether p walks then
  pub data Own (walks : Bool) (G : System D W A B) (t : Plain D) (p : ℕ) (k : Ask D) (o : Outcome D W) : Type 0 where
    goes : o ≡ Ok StillRunning → is_walking (G.store.run p) ≡ walks → Agrees X G t → Underway X G t p k (G.store.run p) → Own walks G t p k o
    ends : G.store.run p ≡ Idle → (c : Asked D) → AskedFor X t p k c → (u : Plain D) → Happens X t p c o u → Agrees X G u → Own walks G t p k o

  module _ (F : System D W A B) (t : Plain D) (S : Agrees X F t) (U : Sound X.parties X.nodes F.store) (p : ℕ) (a : 1 ≤ p) (b : p ≤ X.parties) (k : Ask D) where
    abbrev leaves : Store D → System D W A B
    leaves s = having X F s F.info

    idle_here : (s : Store D) → upd s.run p Idle p ≡ Idle
    idle_here s = upd_same s.run p Idle

    -- p runs another call that is no walk, and all else is as it was
    pub agrees_run : (r : Running D) → is_walking (F.store.run p) ≡ false → is_walking r ≡ false → Agrees X (leaves (set_run F.store p r)) t
    agrees_run r w v = agrees_on X F t S (leaves (set_run F.store p r)) refl refl
        (λ q. elim (cases_eq q p) [
          | inl d ↦ subst (λ i. shown (upd F.store.run p r i) (F.store.trail i) ≡ shown (F.store.run i) (F.store.trail i)) (sym d)
              (cond-false (is_walking (upd F.store.run p r p)) no_trail (F.store.trail p) (ap is_walking (upd_same F.store.run p r) ∙ v) ∙ sym (cond-false (is_walking (F.store.run p)) no_trail (F.store.trail p) w))
          | inr d ↦ ap (λ i. shown i (F.store.trail q)) (upd_other F.store.run p q r d)
        ])
        (λ n _. (refl, refl))

    steps : (r : Running D) → is_walking (F.store.run p) ≡ false → is_walking r ≡ false → Underway X (leaves (set_run F.store p r)) t p k r → Own false (leaves (set_run F.store p r)) t p k (Ok StillRunning)
    steps r w v h = goes refl (ap is_walking (upd_same F.store.run p r) ∙ v) (agrees_run r w v) (subst (Underway X (leaves (set_run F.store p r)) t p k) (sym (upd_same F.store.run p r)) h)

    job_underway : (G : System D W A B) (j : Job D) (d : Place) → AskedFor X t p k (AsksCall (call_of j)) → Wrote G.info j d → Underway X G t p k (Works j d)
    job_underway G (Makes y) d h v = (h, v)
    job_underway G Sweeps d h v = h

    own_job : (x : ℕ) (j : Job D) (c : Place) → F.store.run p ≡ Works j c → PickedAt X.parties X.nodes x c → AskedFor X t p k (AsksCall (call_of j)) → Wrote F.info j c
        → Own false (having X F (place_step c j F.store p x) (data_at (Works j c) F.info)) t p k (told_place c j F.store p x)
    own_job x j c e h asked wrote =
        let N = X.parties in
        let M = X.nodes in
        let s = F.store in
        let new = place_step c j s p x in
        let G = having X F new (data_at (Works j c) F.info) in
        let w : is_walking (s.run p) ≡ false = ap is_walking e in
        let R : Frame N M s new p = subst (λ r. Stands r → Frame N M s (turn_at r s F.info p x) p) e (turn_frame N M s U.inv p a b (U.into p a b) F.info x) tt in
        let V = unseen X.suits N M s U F.info p a b (Works j c) e in
        elim (place_deed X F t S U p a b w x c j e h wrote) [
          | goes_on d er wr eo es eb ↦ (let v : is_walking (new.run p) ≡ false = ap is_walking er in
              goes eo v
              (agrees_on X F t S G es eb
              (λ q. elim (cases_eq q p) [
                | inl z ↦ subst (λ i. shown (new.run i) (new.trail i) ≡ shown (s.run i) (s.trail i)) (sym z)
                    (cond-false (is_walking (new.run p)) no_trail (new.trail p) v ∙ ap (λ f. f p) R.trails ∙ sym (cond-false (is_walking (s.run p)) no_trail (s.trail p) w))
                | inr z ↦ ap (λ r. shown r (new.trail q)) (R.runs q z) ∙ ap (λ f. shown (s.run q) (f q)) R.trails
              ])
              (λ n r. (R.kept n r, V.seen n r)))
              (subst (Underway X G t p k) (sym er) (job_underway G j d asked wr)))
          | ends_so ei d ↦ ends ei (AsksCall (call_of j)) asked d.0 d.1 d.2
        ]

    -- the explicit step of a call that is no walk
    pub own_turn : (x : ℕ) (r : Running D) → F.store.run p ≡ r → is_walking r ≡ false → is_idle r ≡ false → Picked X.parties X.nodes x r → Underway X F t p k r
        → Own false (having X F (turn_at r F.store F.info p x) (data_at r F.info)) t p k (told_at r F.store p x)
    own_turn x Idle e w i pk h = absurd (true≢false i)
    own_turn x (WalkReads u g) e w i pk h = absurd (true≢false w)
    own_turn x (WalkGoesDown u g) e w i pk h = absurd (true≢false w)
    own_turn x (Reads ReadNothing) e w i pk h = steps (Reads (ReadData (F.info (last F.store p)))) (ap is_walking e) refl (h.0, refl)
    own_turn x (Reads (ReadData d)) e w i pk h = steps (Reads (ReadFirst d (F.store.kids (last F.store p)).first)) (ap is_walking e) refl (h.0, (h.1, refl))
    own_turn x (Reads (ReadFirst d y)) e w i pk h = steps (Reads (ReadSecond d y (F.store.kids (last F.store p)).second)) (ap is_walking e) refl (h.0, (h.1.0, h.1.1, refl))
    own_turn x (Reads (ReadSecond d y z)) e w i pk h =
        let u = follow_read X F t S U p a b (ap is_walking e) d y z (last_reached X.parties X.nodes F.store U p a b (ap on_trail e)) h.1.0 h.1.1 h.1.2 in
        ends (idle_here F.store) (AsksCall Read) h.0 u.0 u.1 u.2
    own_turn x (GoesDown j) e w i pk h =
        let s = F.store in
        let u = follow_down X F t S U p a b (ap is_walking e) h.0 (last_reached X.parties X.nodes s U p a b (ap on_trail e)) in
        subst (λ v. Own false (leaves (turn_at (GoesDown v) s F.info p x)) t p k (told_at (GoesDown v) s p x)) h.2
        (ends (idle_here (down_to s p (kid_at (s.kids (last s p)) (kid_of h.0)))) (AsksCall (Down h.0)) h.1 u.0 u.1 u.2)
    own_turn x (Works (Makes y) c) e w i pk h = own_job x (Makes y) c e pk h.0 h.1
    own_turn x (Works Sweeps c) e w i pk h = own_job x Sweeps c e pk h tt
    own_turn x (Keeps j) e w i pk h =
        let u = follow_keep X F t S U p a b (ap is_walking e) j (F.store.count (last F.store p) + 1) (last_reached X.parties X.nodes F.store U p a b (ap on_trail e)) in
        ends (idle_here F.store) (AsksCall (Keep j)) h u.0 u.1 u.2
    own_turn x (Drops j) e w i pk h =
        let u = follow_drop X F t S U p a b (ap is_walking e) j (F.store.count (F.store.slot p j) - 1) in
        ends (idle_here F.store) (AsksCall (Drop j)) h u.0 u.1 u.2
    own_turn x (Fetches j) e w i pk h =
        by_bool (eqb (F.store.inbox p) 0) (λ v. Own false (leaves (cond v (set_run F.store p Idle) (set_run F.store p (TakesOut j (F.store.inbox p))))) t p k (cond v (Err InboxEmpty) (Ok StillRunning)))
        (λ z. (let u = follow_no_fetch X F t S U p a b (ap is_walking e) j (eqb-true (F.store.inbox p) 0 z) in ends (idle_here F.store) (AsksCall (Fetch j)) h u.0 u.1 u.2))
        (λ z. steps (TakesOut j (F.store.inbox p)) (ap is_walking e) refl h)
    own_turn x (Hands j q) e w i pk h =
        let s = F.store in
        let g : Good X.parties X.nodes s p (Hands j q) = subst (Good X.parties X.nodes s p) e (U.inv.parties p a b) in
        let low : 1 ≤ j = g.2.0 in
        let u = follow_hand X F t S U p a b (ap is_walking e) j q low (g.1.source_is (omega arith)).0 in
        ends (by_bool (eqb (s.inbox q) 0) (λ v. (cond v (set_run (set_slot (set_inbox s q (s.slot p j)) p j 0) p Idle) (set_run s p Idle)).run p ≡ Idle) (λ _. idle_here s) (λ _. idle_here s))
        (AsksCall (Hand j q)) h u.0 u.1 u.2
    own_turn x (TakesOut j v) e w i pk h =
        let g : Good X.parties X.nodes F.store p (TakesOut j v) = subst (Good X.parties X.nodes F.store p) e (U.inv.parties p a b) in
        let low : 1 ≤ v = g.2.1 in
        let u = follow_take X F t S U p a b (ap is_walking e) j v (g.1.boxed_is (omega arith)) (omega arith) in
        ends (idle_here F.store) (AsksCall (Fetch j)) h u.0 u.1 u.2

  -- what a call that is no walk has under way speaks of the store and the data alone
  underway_along : (H G : System D W A B) (t : Plain D) (p : ℕ) (k : Ask D) → H.store ≡ G.store → H.info ≡ G.info → (r : Running D) → is_walking r ≡ false → Underway X H t p k r → Underway X G t p k r
  underway_along H G t p k e d Idle w h = tt
  underway_along H G t p k e d (Reads g) w h = (h.0, subst (λ s. ReadSoFar (G.info (last s p)) (s.kids (last s p)) g) e (subst (λ f. ReadSoFar (f (last H.store p)) (H.store.kids (last H.store p)) g) d h.1))
  underway_along H G t p k e d (WalkReads u g) w h = absurd (true≢false w)
  underway_along H G t p k e d (WalkGoesDown u g) w h = absurd (true≢false w)
  underway_along H G t p k e d (Works (Makes x) c) w h = (h.0, subst (λ f. WrittenSoFar f x c) d h.1)
  underway_along H G t p k e d _ w h = h

  pub own_along : (H G : System D W A B) (t : Plain D) (p : ℕ) (k : Ask D) (o : Outcome D W) → H.store ≡ G.store → H.info ≡ G.info → Own false H t p k o → Own false G t p k o
  own_along H G t p k o e d (goes eo w S h) =
      goes eo (ap (λ s. is_walking (s.run p)) (sym e) ∙ w) (agrees_along X H G t (sym e) (sym d) S) (subst (Underway X G t p k) (ap (λ s. s.run p) e) (underway_along H G t p k e d (H.store.run p) w h))
  own_along H G t p k o e d (ends i c asked u hp S) = ends (ap (λ s. s.run p) (sym e) ∙ i) c asked u hp (agrees_along X H G u (sym e) (sym d) S)
