-- The plain store follows: the ends of Read, Down, Keep, Drop, Hand and Fetch, and every turn that ends nothing.
use Rattle.std.proofs.Common.{◌≡◌, ℕ, ◌≤◌, Bool, false, cond, eqb, ◌≢◌, sym, refl, ap, ◌∙◌, subst, inl, inr}
use Rattle.std.proofs.lemmas.Bool.{cases_eq, eq-eqb, ne_eqb, cond-false}
use Rattle.refusals.specs.declared.Refusal.TheVariants.{NoKid, InboxFull, InboxEmpty}
use Rattle.model.specs.Fun.{upd}
use Rattle.model.specs.Types.{Ok, Err, Kids, Running, Idle, Hands, TakesOut, Read, Down, Keep, Drop, Hand, Fetch, Asked, AsksCall, AtNode, Contents, Outcome, Ended}
use Rattle.model.specs.State.{kid_at, Trail, no_trail, last_of, longer, Store, set_count, set_inbox, set_slot, set_trail, set_run, last}
use Rattle.model.specs.Checks.{last_slot, is_walking}
use Rattle.model.specs.Begins.{kid_of}
use Rattle.model.specs.Reach.{by_slot, by_box, Reached}
use Rattle.model.specs.Sound.{Sound}
use Rattle.model.specs.Setting.{Setting}
use Rattle.model.specs.Plain.{Plain, Happens, reads, goes_down, no_kid_there, keeps, drops, hands, inbox_full, fetches, inbox_empty, put_slot, put_inbox, put_trail, last_at}
use Rattle.model.specs.Runs.{System}
use Rattle.model.specs.Opened.{Agrees}
use Rattle.model.proofs.Explicit.{down_to, turn_at}
use Rattle.model.proofs.Sums.{upd_same, upd_other}
use Rattle.model.proofs.Fitting.{reach_into, slot_reached, box_reached}

-- a walking party's trail is not the plain store's
abbrev pub shown : {D : Type 0} → Running D → Trail → Trail
shown r T = cond (is_walking r) no_trail T

module _ {D W A B : Type 0} (X : Setting D W A B) where
  -- the same system with another store and other data
  abbrev pub having : System D W A B → Store D → (ℕ → D) → System D W A B
  having F s info = record F { store = s; info = info }

  -- agreeing speaks of the store and the data alone
  pub agrees_along : (F G : System D W A B) (t : Plain D) → G.store ≡ F.store → G.info ≡ F.info → Agrees X F t → Agrees X G t
  agrees_along F G t e h S = record {
    slots = S.slots ∙ ap (λ s. s.slot) (sym e);
    inboxes = S.inboxes ∙ ap (λ s. s.inbox) (sym e);
    trails = λ q. S.trails q ∙ ap (λ s. shown (s.run q) (s.trail q)) (sym e);
    terms = λ n r. (let u = S.terms n (subst (λ s. Reached X.parties s n) e r) in (u.0 ∙ ap (λ s. s.kids n) (sym e), u.1 ∙ ap (λ f. f n) (sym h)));
  }

  -- slots and inboxes of the second store hold what the first reaches, and what that reaches is kept
  pub record Within (F G : System D W A B) : Type 0 where
    pub slots : (q i : ℕ) → 1 ≤ q → q ≤ X.parties → 1 ≤ i → i ≤ last_slot → G.store.slot q i ≢ 0 → Reached X.parties F.store (G.store.slot q i)
    pub boxes : (q : ℕ) → 1 ≤ q → q ≤ X.parties → G.store.inbox q ≢ 0 → Reached X.parties F.store (G.store.inbox q)
    pub kept : (n : ℕ) → Reached X.parties F.store n → (G.store.kids n ≡ F.store.kids n) × (G.info n ≡ F.info n)

  module _ (F : System D W A B) (t : Plain D) (S : Agrees X F t) where
    pub agrees_by : (G : System D W A B) (u : Plain D) → u.kids ≡ t.kids → u.info ≡ t.info → u.slot ≡ G.store.slot → u.inbox ≡ G.store.inbox
        → ((q : ℕ) → u.trail q ≡ shown (G.store.run q) (G.store.trail q)) → Within F G → Agrees X G u
    agrees_by G u ek ei es eb T V = record {
      slots = es;
      inboxes = eb;
      trails = T;
      terms = λ n r.
          let o = reach_into X.parties F.store G.store V.slots V.boxes (λ m y. (V.kept m y).0) r in
          let x = S.terms n o in
          let y = V.kept n o in
          (ap (λ f. f n) ek ∙ x.0 ∙ sym y.0, ap (λ f. f n) ei ∙ x.1 ∙ sym y.1);
    }

    -- slots and inboxes are as they were
    pub within_same : (G : System D W A B) → G.store.slot ≡ F.store.slot → G.store.inbox ≡ F.store.inbox → ((n : ℕ) → Reached X.parties F.store n → (G.store.kids n ≡ F.store.kids n) × (G.info n ≡ F.info n)) → Within F G
    within_same G es eb k = record {
      slots = λ q i h1 h2 h3 h4 z. subst (λ f. f q i ≢ 0 → Reached X.parties F.store (f q i)) (sym es) (λ y. by_slot q i h1 h2 h3 h4 refl y) z;
      boxes = λ q h1 h2 z. subst (λ f. f q ≢ 0 → Reached X.parties F.store (f q)) (sym eb) (λ y. by_box q h1 h2 refl y) z;
      kept = k;
    }

    -- a turn that ends nothing
    pub agrees_on : (G : System D W A B) → G.store.slot ≡ F.store.slot → G.store.inbox ≡ F.store.inbox → ((q : ℕ) → shown (G.store.run q) (G.store.trail q) ≡ shown (F.store.run q) (F.store.trail q))
        → ((n : ℕ) → Reached X.parties F.store n → (G.store.kids n ≡ F.store.kids n) × (G.info n ≡ F.info n)) → Agrees X G t
    agrees_on G es eb T k = agrees_by G t refl refl (S.slots ∙ sym es) (S.inboxes ∙ sym eb) (λ q. S.trails q ∙ sym (T q)) (within_same G es eb k)

    module _ (U : Sound X.parties X.nodes F.store) (p : ℕ) (a : 1 ≤ p) (b : p ≤ X.parties) (w : is_walking (F.store.run p) ≡ false) where
      pub trail_here : t.trail p ≡ F.store.trail p
      trail_here = S.trails p ∙ cond-false (is_walking (F.store.run p)) no_trail (F.store.trail p) w

      pub last_here : last_at t p ≡ last F.store p
      last_here = ap last_of trail_here

      -- p runs another call that is no walk, trails as they are
      pub trails_stay : (run : ℕ → Running D) → is_walking (run p) ≡ false → ((q : ℕ) → q ≢ p → run q ≡ F.store.run q) → (q : ℕ) → t.trail q ≡ shown (run q) (F.store.trail q)
      trails_stay run h others q = elim (cases_eq q p) [
        | inl d ↦ subst (λ k. t.trail k ≡ shown (run k) (F.store.trail k)) (sym d) (trail_here ∙ sym (cond-false (is_walking (run p)) no_trail (F.store.trail p) h))
        | inr d ↦ S.trails q ∙ ap (λ r. shown r (F.store.trail q)) (sym (others q d))
      ]

      -- and with p's trail changed alike
      pub trails_put : (T V : Trail) (run : ℕ → Running D) → T ≡ V → is_walking (run p) ≡ false → ((q : ℕ) → q ≢ p → run q ≡ F.store.run q) → (q : ℕ) → upd t.trail p T q ≡ shown (run q) (upd F.store.trail p V q)
      trails_put T V run e h others q = elim (cases_eq q p) [
        | inl d ↦ subst (λ k. upd t.trail p T k ≡ shown (run k) (upd F.store.trail p V k)) (sym d)
            (upd_same t.trail p T ∙ e ∙ sym (upd_same F.store.trail p V) ∙ sym (cond-false (is_walking (run p)) no_trail (upd F.store.trail p V p) h))
        | inr d ↦ upd_other t.trail p q T d ∙ S.trails q ∙ ap (λ r. shown r (F.store.trail q)) (sym (others q d)) ∙ ap (shown (run q)) (sym (upd_other F.store.trail p q V d))
      ]

      idle_now : is_walking (upd F.store.run p Idle p) ≡ false
      idle_now = ap is_walking (upd_same F.store.run p Idle)

      others_run : (q : ℕ) → q ≢ p → upd F.store.run p Idle q ≡ F.store.run q
      others_run q d = upd_other F.store.run p q Idle d

      pub idle_trails : (q : ℕ) → t.trail q ≡ shown (upd F.store.run p Idle q) (F.store.trail q)
      idle_trails = trails_stay (upd F.store.run p Idle) idle_now others_run

      -- a call that ends and changes nothing
      pub ends_still : Agrees X (having F (set_run F.store p Idle) F.info) t
      ends_still = let G = having F (set_run F.store p Idle) F.info in agrees_by G t refl refl S.slots S.inboxes idle_trails (within_same G refl refl (λ n r. (refl, refl)))

      -- the plain store does what is asked, tells this, and agrees with the store that is left
      abbrev pub Does : Asked D → Outcome D W → System D W A B → Type 0
      Does c o G = (u : Plain D) × Happens X t p c o u × Agrees X G u

      abbrev leaves : Store D → System D W A B
      leaves s = having F s F.info

      pub follow_read : (d : D) (i j : ℕ) → Reached X.parties F.store (last F.store p) → d ≡ F.info (last F.store p) → i ≡ (F.store.kids (last F.store p)).first → j ≡ (F.store.kids (last F.store p)).second
          → Does (AsksCall Read) (Ok (Ended (Contents (last F.store p) d (record { first = i; second = j; third = (F.store.kids (last F.store p)).third })))) (leaves (set_run F.store p Idle))
      follow_read d i j r ed ei ej =
          let n = last F.store p in
          let u = S.terms n r in
          let ks : Kids = record { first = i; second = j; third = (F.store.kids n).third } in
          let ek : F.store.kids n ≡ ks = (λ z. record { first = sym ei z; second = sym ej z; third = (F.store.kids n).third }) in (
            t,
            subst (λ m. Happens X t p (AsksCall Read) (Ok (Ended (Contents m d ks))) t) last_here
                (subst (λ v. Happens X t p (AsksCall Read) (Ok (Ended (Contents (last_at t p) v ks))) t) (ap t.info last_here ∙ u.1 ∙ sym ed)
                (subst (λ v. Happens X t p (AsksCall Read) (Ok (Ended (Contents (last_at t p) (t.info (last_at t p)) v))) t) (ap t.kids last_here ∙ u.0 ∙ ek) reads)),
            ends_still,
          )

      pub follow_down : (i : ℕ) → Reached X.parties F.store (last F.store p)
          → Does (AsksCall (Down i)) (cond (eqb (kid_at (F.store.kids (last F.store p)) (kid_of i)) 0) (Err NoKid) (Ok (Ended (AtNode (kid_at (F.store.kids (last F.store p)) (kid_of i))))))
          (leaves (set_run (down_to F.store p (kid_at (F.store.kids (last F.store p)) (kid_of i))) p Idle))
      follow_down i r =
          let n = kid_at (F.store.kids (last F.store p)) (kid_of i) in
          let en : n ≡ kid_at (t.kids (last_at t p)) (kid_of i) = sym (ap (λ v. kid_at (t.kids v) (kid_of i)) last_here ∙ ap (λ v. kid_at v (kid_of i)) (S.terms (last F.store p) r).0) in
          let T : Trail = longer (F.store.trail p) n in
          let V : Trail = longer (t.trail p) n in
          let u : Plain D = put_trail t p V in
          let G = leaves (set_run (set_trail F.store p T) p Idle) in
          let P : Bool → Type 0 = λ v. Does (AsksCall (Down i)) (cond v (Err NoKid) (Ok (Ended (AtNode n)))) (leaves (set_run (cond v F.store (set_trail F.store p T)) p Idle)) in
          elim (cases_eq n 0) [
            | inl z ↦ subst P (sym (eq-eqb n 0 z)) (t, no_kid_there (sym en ∙ z), ends_still)
            | inr z ↦ subst P (sym (ne_eqb n 0 z))
                (u, goes_down en z, agrees_by G u refl refl S.slots S.inboxes (trails_put V T (upd F.store.run p Idle) (ap (λ v. longer v n) trail_here) idle_now others_run) (within_same G refl refl (λ n r. (refl, refl))))
          ]

      abbrev Shares : Store D → Type 0
      Shares s = Within F (leaves s)

      fills : (j v : ℕ) (s : Store D) → (v ≢ 0 → Reached X.parties F.store v) → s.slot ≡ upd F.store.slot p (upd (F.store.slot p) j v)
          → ((q : ℕ) → 1 ≤ q → q ≤ X.parties → s.inbox q ≢ 0 → Reached X.parties F.store (s.inbox q)) → s.kids ≡ F.store.kids → Shares s
      fills j v s h e g k = record {
        slots = λ q i h1 h2 h3 h4 z. subst (λ f. f q i ≢ 0 → Reached X.parties F.store (f q i)) (sym e) (slot_reached X.suits X.parties X.nodes F.store U F.info p a b j v h q i h1 h2 h3 h4) z;
        boxes = g;
        kept = λ n r. (ap (λ f. f n) k, refl);
      }

      boxes_stay : (q : ℕ) → 1 ≤ q → q ≤ X.parties → F.store.inbox q ≢ 0 → Reached X.parties F.store (F.store.inbox q)
      boxes_stay q h1 h2 z = by_box q h1 h2 refl z

      pub follow_keep : (i n : ℕ) → Reached X.parties F.store (last F.store p)
          → Does (AsksCall (Keep i)) (Ok (Ended (AtNode (last F.store p)))) (leaves (set_run (set_slot (set_count F.store (last F.store p) n) p i (last F.store p)) p Idle))
      follow_keep i n r =
          let v = last F.store p in
          let m = last_at t p in
          let s = set_run (set_slot (set_count F.store v n) p i v) p Idle in (
            put_slot t p i m,
            subst (λ k. Happens X t p (AsksCall (Keep i)) (Ok (Ended (AtNode k))) (put_slot t p i m)) last_here keeps,
            agrees_by (leaves s) (put_slot t p i m) refl refl (ap (λ f. upd f p (upd (f p) i m)) S.slots ∙ ap (λ k. upd F.store.slot p (upd (F.store.slot p) i k)) last_here) S.inboxes idle_trails
                (fills i v s (λ _. r) refl boxes_stay refl),
          )

      pub follow_drop : (i n : ℕ) → Does (AsksCall (Drop i)) (Ok (Ended (AtNode (F.store.slot p i)))) (leaves (set_run (set_slot (set_count F.store (F.store.slot p i) n) p i 0) p Idle))
      follow_drop i n =
          let s = set_run (set_slot (set_count F.store (F.store.slot p i) n) p i 0) p Idle in (
            put_slot t p i 0,
            subst (λ f. Happens X t p (AsksCall (Drop i)) (Ok (Ended (AtNode (f p i)))) (put_slot t p i 0)) S.slots drops,
            agrees_by (leaves s) (put_slot t p i 0) refl refl (ap (λ f. upd f p (upd (f p) i 0)) S.slots) S.inboxes idle_trails (fills i 0 s (λ z. absurd (z refl)) refl boxes_stay refl),
          )

      pub follow_hand : (i q : ℕ) → 1 ≤ i → i ≤ last_slot → Does (AsksCall (Hand i q)) (cond (eqb (F.store.inbox q) 0) (Ok (Ended (AtNode (F.store.slot p i)))) (Err InboxFull)) (leaves (turn_at (Hands i q) F.store F.info p 0))
      follow_hand i q low high =
          let v = F.store.slot p i in
          let s = set_run (set_slot (set_inbox F.store q v) p i 0) p Idle in
          let u = put_slot (put_inbox t q (t.slot p i)) p i 0 in
          let P : Bool → Type 0 = λ c. Does (AsksCall (Hand i q)) (cond c (Ok (Ended (AtNode v))) (Err InboxFull)) (leaves (cond c s (set_run F.store p Idle))) in
          elim (cases_eq (F.store.inbox q) 0) [
            | inl z ↦ subst P (sym (eq-eqb (F.store.inbox q) 0 z)) (
              u,
              subst (λ f. Happens X t p (AsksCall (Hand i q)) (Ok (Ended (AtNode (f p i)))) u) S.slots (hands (ap (λ f. f q) S.inboxes ∙ z)),
              agrees_by (leaves s) u refl refl (ap (λ f. upd f p (upd (f p) i 0)) S.slots) (ap (λ f. upd t.inbox q (f p i)) S.slots ∙ ap (λ f. upd f q v) S.inboxes) idle_trails
                  (fills i 0 s (λ y. absurd (y refl)) refl (box_reached X.suits X.parties X.nodes F.store U F.info p a b q v (λ y. by_slot p i a b low high refl y)) refl),
            )
            | inr z ↦ subst P (sym (ne_eqb (F.store.inbox q) 0 z)) (t, inbox_full (λ y. z (ap (λ f. f q) (sym S.inboxes) ∙ y)), ends_still)
          ]

      pub follow_take : (i v : ℕ) → F.store.inbox p ≡ v → v ≢ 0 → Does (AsksCall (Fetch i)) (Ok (Ended (AtNode v))) (leaves (turn_at (TakesOut i v) F.store F.info p 0))
      follow_take i v e z =
          let s = set_run (set_slot (set_inbox F.store p 0) p i v) p Idle in
          let et : t.inbox p ≡ v = ap (λ f. f p) S.inboxes ∙ e in
          let u = put_slot (put_inbox t p 0) p i (t.inbox p) in (
            u,
            subst (λ m. Happens X t p (AsksCall (Fetch i)) (Ok (Ended (AtNode m))) u) et (fetches (λ y. z (sym et ∙ y))),
            agrees_by (leaves s) u refl refl (ap (λ f. upd f p (upd (f p) i (t.inbox p))) S.slots ∙ ap (λ m. upd F.store.slot p (upd (F.store.slot p) i m)) et) (ap (λ f. upd f p 0) S.inboxes) idle_trails
                (fills i v s (λ _. by_box p a b e z) refl (box_reached X.suits X.parties X.nodes F.store U F.info p a b p 0 (λ y. absurd (y refl))) refl),
          )

      -- Fetch's first step at an empty inbox
      pub follow_no_fetch : (i : ℕ) → F.store.inbox p ≡ 0 → Does (AsksCall (Fetch i)) (Err InboxEmpty) (leaves (set_run F.store p Idle))
      follow_no_fetch i e = (t, inbox_empty (ap (λ f. f p) S.inboxes ∙ e), ends_still)
