-- Make's bound along a run, from any moment of the Make.
use Rattle.std.proofs.Common.{◌≡◌, ℕ, zero, suc, ◌+◌, ◌-◌, ◌*◌, ◌<◌, ◌≤◌, Bool, true, false, ◌&&◌, eqb, ◌≢◌, ◌∷◌, sym, refl, ap, ◌∙◌, subst, inl, inr, true≢false, mul_assoc, arith}
use Rattle.std.proofs.lemmas.Bool.{cases_eq, eq-eqb, ne_eqb, cond-true, cond-false, and_left, and_right, and_from}
use Rattle.orders.specs.Limits.{IsParty}
use Rattle.orders.specs.Meaning.{IsNumber}
use Rattle.model.specs.Types.{Event, Turns, WalkTurns, Place, Plan, Job, Makes, Running, Idle, Works, Outcome, AsksCall, AsksWalk}
use Rattle.model.specs.Checks.{is_idle}
use Rattle.model.specs.Reach.{Free}
use Rattle.model.specs.Sound.{opens, SeekersOpen}
use Rattle.model.specs.Setting.{Meaning, Setting}
use Rattle.model.specs.Runs.{System, asks_nodes, asks_parties, Steps, Moves, begin_refused, call_begun, walk_begun, turn_refused, turn, walk_turn_refused, walk_turn, Log, Run, still, more, AtEachMoment, is_turn_of, is_accepted, is_end, turns_of, ends_of}
use Rattle.model.specs.Law.{is_making, SomeFree, make_bound, MakesEnd}
use Rattle.model.specs.Existing.{CanExist}
use Rattle.model.proofs.Explicit.{place_step, turn_at}
use Rattle.model.proofs.Begins.{accepted_idle}
use Rattle.model.proofs.Accepted.{turn_passed, walk_turn_passed}
use Rattle.model.proofs.Stays.{Frame, Stands, turn_frame}
use Rattle.model.proofs.Logs.{ends_not_now, ends_not_later}
use Rattle.model.proofs.Kept.{asked_or_not, Kept, moves_keep, existing_kept}
use Rattle.model.proofs.Rank.{asks_at, waits}
use Rattle.model.proofs.RankSteps.{PlaceRank, RunRank, rank_pos, Turned, own_turn}
use Rattle.model.proofs.RankBeside.{Calm, calm_turn, beside_turn}
use Rattle.model.proofs.RankCalm.{job_or_none, calm_started, calm_started_walk}
use Rattle.model.proofs.RankBound.{rank_bounded}
use Rattle.model.proofs.RefusedTurns.{turn_refusal, walk_turn_refusal}
use Rattle.model.proofs.TurnSteps.{asks_nodes_at, asks_parties_at, no_nodes_asked, no_parties_asked, job_step, calm_step, making_tells}
use Rattle.model.proofs.Seekers.{existing_seekers_open}

-- an order's dues are below its span
abbrev pub DuesBelowSpan : {O : Type 0} → Meaning O → Type 0
DuesBelowSpan {O} m = (o : O) (q n : ℕ) → IsParty q → IsNumber (m.numbers o) n → m.due o q n < m.horizon o

module _ {D W A B : Type 0} (X : Setting D W A B) where
  -- The spans stay.

  record Alike (F G : System D W A B) : Type 0 where
    node_span : X.node_order.horizon G.node_order ≡ X.node_order.horizon F.node_order
    party_span : X.party_order.horizon G.party_order ≡ X.party_order.horizon F.party_order

  alike_same : (F G : System D W A B) → G.node_order ≡ F.node_order → G.party_order ≡ F.party_order → Alike F G
  alike_same F G e d = record { node_span = ap X.node_order.horizon e; party_span = ap X.party_order.horizon d }

  alike_steps : (F G : System D W A B) (q : ℕ) (o : Outcome D W) → Steps X F q o G → Alike F G
  alike_steps F G q o T = record {
    node_span = asked_or_not X.node_order X.node_order.horizon (asks_nodes (F.store.run q)) F.node_order G.node_order q T.pick (λ u. u.span_stays) T.node_picks;
    party_span = asked_or_not X.party_order X.party_order.horizon (asks_parties (F.store.run q)) F.party_order G.party_order q T.pick (λ u. u.span_stays) T.party_picks;
  }

  free_now : {F G : System D W A B} {es : Log X} (r : Run X F es G) → AtEachMoment X (SomeFree X) r → SomeFree X F
  free_now still h = h
  free_now (more m r) h = h.0

  module _ (node-low : DuesBelowSpan X.node_order) (party_low : DuesBelowSpan X.party_order) (p : ℕ) (pa : 1 ≤ p) (pb : p ≤ X.parties) (S P whole : ℕ) where
    abbrev Rank : System D W A B → ℕ → Place → Type 0
    Rank F r d = PlaceRank X.parties X.nodes S P F.store (X.party_order.due F.party_order) (X.node_order.due F.node_order p) p r d

    -- p is in a Make, has had c turns, and has at most the budget to go
    record Making (F : System D W A B) (c : ℕ) : Type 0 where
      kept : Kept X F
      node_span : X.node_order.horizon F.node_order ≡ suc S
      party_span : X.party_order.horizon F.party_order ≡ P
      plan : Plan D
      place : Place
      runs : F.store.run p ≡ Works (Makes plan) place
      budget : ℕ
      sum : c + budget ≡ whole
      rank : Rank F budget place

    abbrev counts : Event D → Outcome D W → Bool
    counts e o = is_turn_of p e && is_accepted o

    data Goes (G : System D W A B) (c : ℕ) (e : Event D) (o : Outcome D W) : Type 0 where
      beside : Making G c → counts e o ≡ false → Goes G c e o
      onward : Making G (suc c) → counts e o ≡ true → Goes G c e o
      over : is_turn_of p e && is_end o ≡ true → Goes G c e o

    party_is : (F : System D W A B) → Kept X F → (k : ℕ) → 1 ≤ k → k ≤ X.parties → IsParty k
    party_is F K k ga gb = (ga, omega (arith, gb, K.limits.few_parties))

    node_number : (F : System D W A B) → Kept X F → (n : ℕ) → 1 ≤ n → n ≤ X.nodes → IsNumber (X.node_order.numbers F.node_order) n
    node_number F K n ga gb = (ga, omega (arith, gb, K.sized.nodes))

    party_number : (F : System D W A B) → Kept X F → (k : ℕ) → 1 ≤ k → k ≤ X.parties → IsNumber (X.party_order.numbers F.party_order) k
    party_number F K k ga gb = (ga, omega (arith, gb, K.sized.parties))

    low_nodes : (F : System D W A B) → Kept X F → X.node_order.horizon F.node_order ≡ suc S → (n : ℕ) → 1 ≤ n → n ≤ X.nodes → X.node_order.due F.node_order p n < suc S
    low_nodes F K e n ga gb = let u = node-low F.node_order p n (party_is F K p pa pb) (node_number F K n ga gb) in omega arith

    low_parties : (F : System D W A B) → Kept X F → X.party_order.horizon F.party_order ≡ P → (k : ℕ) → 1 ≤ k → k ≤ X.parties → X.party_order.due F.party_order k p < P
    low_parties F K e k ga gb = let u = party_low F.party_order k p (party_is F K k ga gb) (party_number F K p pa pb) in omega arith

    -- an accepted Turn of q at a place of a Make or Sweep, and the orders
    module _ (F G : System D W A B) (K : Kept X F) (q : ℕ) (o : Outcome D W) (a : 1 ≤ q) (b : q ≤ X.parties) (T : Steps X F q o G) (j : Job D) (c : Place) (e : F.store.run q ≡ Works j c) where
      parties_rest : asks_at c ≢ 2 → G.party_order ≡ F.party_order
      parties_rest h = T.party_picks.rests (ap asks_parties e ∙ asks_parties_at j c ∙ ne_eqb (asks_at c) 2 h)

      nodes_rest : asks_at c ≢ 1 → G.node_order ≡ F.node_order
      nodes_rest h = T.node_picks.rests (ap asks_nodes e ∙ asks_nodes_at j c ∙ ne_eqb (asks_at c) 1 h)

      party_picked : asks_at c ≡ 2 → asks_parties (F.store.run q) ≡ true
      party_picked h = ap asks_parties e ∙ asks_parties_at j c ∙ eq-eqb (asks_at c) 2 h

      node_picked : asks_at c ≡ 1 → asks_nodes (F.store.run q) ≡ true
      node_picked h = ap asks_nodes e ∙ asks_nodes_at j c ∙ eq-eqb (asks_at c) 1 h

      turned : Turned X.parties (X.party_order.due F.party_order) (X.party_order.due G.party_order) q T.pick p c
      turned = record {
        others = λ k ka kb d. elim (cases_eq (asks_at c) 2) [
          | inl h ↦ (T.party_picks.picks (party_picked h)).others_stay k p (party_is F K k ka kb) d (party_number F K p pa pb)
          | inr h ↦ ap (λ v. X.party_order.due v k p) (parties_rest h)
        ];
        picked = λ h d. (let u = ((T.party_picks.picks (party_picked h)).answers (party_is F K q a b)).sooner p (party_number F K p pa pb) (λ z. d (sym z)) in omega arith);
        unasked = λ h. ap (λ v. X.party_order.due v q p) (parties_rest h);
      }

      -- p's node dues, where q is another
      dues_stay : p ≢ q → (n : ℕ) → 1 ≤ n → n ≤ X.nodes → X.node_order.due G.node_order p n ≡ X.node_order.due F.node_order p n
      dues_stay ne n ga gb = elim (cases_eq (asks_at c) 1) [
        | inl h ↦ (T.node_picks.picks (node_picked h)).others_stay p n (party_is F K p pa pb) ne (node_number F K n ga gb)
        | inr h ↦ ap (λ v. X.node_order.due v p n) (nodes_rest h)
      ]

      framed : (k : ℕ) → k ≢ q → (place_step c j F.store q T.pick).run k ≡ F.store.run k
      framed k d =
          let R : Frame X.parties X.nodes F.store (place_step c j F.store q T.pick) q =
          subst (λ r. Stands r → Frame X.parties X.nodes F.store (turn_at r F.store F.info q T.pick) q) e (turn_frame X.parties X.nodes F.store K.sound.inv q a b (K.sound.into q a b) F.info T.pick) tt in
          R.runs k d

    -- a step that leaves p's place
    after : (F G : System D W A B) (c : ℕ) (w : Making F c) → Kept X G → Alike F G → G.store.run p ≡ F.store.run p → Rank G w.budget w.place → Making G c
    after F G c w f L e h = record { kept = f; node_span = L.node_span ∙ w.node_span; party_span = L.party_span ∙ w.party_span; plan = w.plan; place = w.place; runs = e ∙ w.runs; budget = w.budget; sum = w.sum; rank = h }

    calm_after : (F G : System D W A B) (c : ℕ) (w : Making F c) → Kept X G → (q : ℕ) → p ≢ q → Calm F.store G.store q → G.node_order ≡ F.node_order → G.party_order ≡ F.party_order → Making G c
    calm_after F G c w f q ne C en ep = after F G c w f (alike_same F G en ep) (C.runs p ne)
        (subst (λ v. PlaceRank X.parties X.nodes S P G.store (X.party_order.due v) (X.node_order.due G.node_order p) p w.budget w.place) (sym ep)
        (subst (λ v. PlaceRank X.parties X.nodes S P G.store (X.party_order.due F.party_order) (X.node_order.due v p) p w.budget w.place) (sym en)
        (calm_turn X.parties X.nodes S P F.store G.store q C (X.party_order.due F.party_order) (X.node_order.due F.node_order p) p pa pb ne w.budget w.plan w.place w.runs w.rank)))

    -- another's turn
    module _ (F G : System D W A B) (c : ℕ) (w : Making F c) (f : Kept X G) (free : SomeFree X G) (q : ℕ) (o : Outcome D W) (a : 1 ≤ q) (b : q ≤ X.parties) (i : is_idle (F.store.run q) ≡ false) (T : Steps X F q o G) (ne : p ≢ q) where
      job_after : (j : Job D) (d : Place) → F.store.run q ≡ Works j d → Making G c
      job_after j d e =
          let eg = job_step X F G w.kept q o a b i T j d e in
          let runs = framed F G w.kept q o a b T j d e in
          after F G c w f (alike_steps F G q o T) (ap (λ u. u.run p) eg ∙ runs p ne)
          (subst (λ u. PlaceRank X.parties X.nodes S P u (X.party_order.due G.party_order) (X.node_order.due G.node_order p) p w.budget w.place) (sym eg)
          (beside_turn X.parties X.nodes S P F.store w.kept.sound.inv q a b T.pick d j e (X.party_order.due F.party_order) (X.party_order.due G.party_order) (X.node_order.due F.node_order p) (X.node_order.due G.node_order p) p pa pb ne w.budget
          (turned F G w.kept q o a b T j d e) (dues_stay F G w.kept q o a b T j d e ne) runs (low_nodes F w.kept w.node_span) (subst (λ u. (n : ℕ) × Free X.nodes u n) eg free) w.plan w.place w.runs w.rank))

      other_turn : Making G c
      other_turn = elim (job_or_none (F.store.run q)) [
        | inl h ↦ job_after h.0 h.1.0 h.1.1
        | inr h ↦ calm_after F G c w f q ne (calm_step X F G w.kept q o a b i T h) (T.node_picks.rests (no_nodes_asked (F.store.run q) h)) (T.party_picks.rests (no_parties_asked (F.store.run q) h))
      ]

    -- what the rank says of p's place
    shape : (G : System D W A B) (r : ℕ) (ρ : Running D) → is_idle ρ ≡ false → RunRank X.parties X.nodes S P G.store (X.party_order.due G.party_order) (X.node_order.due G.node_order p) p r ρ
        → (y : Plan D) × ((d : Place) × ((ρ ≡ Works (Makes y) d) × Rank G r d))
    shape G r Idle i h = absurd (true≢false i)
    shape G r (Works (Makes y) d) i h = (y, (d, (refl, h)))
    shape G r _ i h = absurd h

    -- p's own turn
    module _ (F G : System D W A B) (c : ℕ) (w : Making F c) (f : Kept X G) (free : SomeFree X G) (o : Outcome D W) (i : is_idle (F.store.run p) ≡ false) (T : Steps X F p o G) where
      own_rank : (r : ℕ) → Rank F (suc r) w.place → RunRank X.parties X.nodes S P G.store (X.party_order.due G.party_order) (X.node_order.due G.node_order p) p r (G.store.run p)
      own_rank r h =
          let K = w.kept in
          let j : Job D = Makes w.plan in
          let d = w.place in
          let e = w.runs in
          let L = alike_steps F G p o T in
          let eg = job_step X F G K p o pa pb i T j d e in
          subst (λ u. RunRank X.parties X.nodes S P u (X.party_order.due G.party_order) (X.node_order.due G.node_order p) p r (u.run p)) (sym eg)
          (own_turn X.parties X.nodes S P F.store K.sound.inv p pa pb T.pick w.plan (X.node_order.due F.node_order p) (X.node_order.due G.node_order p) r d (X.party_order.due F.party_order) (X.party_order.due G.party_order) e
          (record {
            turned = turned F G K p o pa pb T j d e;
            same = λ z. ap X.party_order.due (parties_rest F G K p o pa pb T j d e z);
            asked = λ z n ga gb k. (let u = ((T.node_picks.picks (node_picked F G K p o pa pb T j d e z)).answers (party_is F K p pa pb)).sooner n (node_number F K n ga gb) k in omega arith);
            unasked = λ z n ga gb. ap (λ v. X.node_order.due v p n) (nodes_rest F G K p o pa pb T j d e z);
            runs = framed F G K p o pa pb T j d e;
            low = low_nodes F K w.node_span;
            low' = low_nodes G f (L.node_span ∙ w.node_span);
            near = low_parties G f (L.party_span ∙ w.party_span);
            free = subst (λ u. (n : ℕ) × Free X.nodes u n) eg free;
          }) h)

      own : (e : Event D) → is_turn_of p e ≡ true → Goes G c e o
      own e t = spend w.budget w.sum w.rank
        where
          spend : (b : ℕ) → c + b ≡ whole → Rank F b w.place → Goes G c e o
          spend zero s h = absurd (let u = rank_pos X.parties X.nodes S P F.store (X.party_order.due F.party_order) (X.node_order.due F.node_order p) p 0 w.plan w.place h in omega arith)
          spend (suc b) s h = elim (making_tells X F G w.kept p o pa pb i T w.plan w.place w.runs) [
            | inl k ↦
                let z = shape G b (G.store.run p) k.1 (own_rank b h) in
                let L = alike_steps F G p o T in
                onward (record { kept = f; node_span = L.node_span ∙ w.node_span; party_span = L.party_span ∙ w.party_span; plan = z.0; place = z.1.0; runs = z.1.1.0; budget = b; sum = omega arith; rank = z.1.1.1 })
                (and_from (is_turn_of p e) (is_accepted o) t (ap is_accepted k.0))
            | inr k ↦ over (and_from (is_turn_of p e) (is_end o) t k.0)
          ]

    -- any accepted Turn
    turn_goes : {F G : System D W A B} (c : ℕ) (e : Event D) {o : Outcome D W} → Making F c → Kept X G → SomeFree X G → (q : ℕ) → is_turn_of p e ≡ eqb p q → 1 ≤ q → q ≤ X.parties → is_idle (F.store.run q) ≡ false → Steps X F q o G → Goes G c e o
    turn_goes {F} {G} c e {o} w f free q t a b i T = elim (cases_eq p q) [
      | inr ne ↦ beside (other_turn F G c w f free q o a b i T ne) (and_left (is_turn_of p e) (is_accepted o) (t ∙ ne_eqb p q ne))
      | inl d ↦ subst (λ k. is_idle (F.store.run k) ≡ false → Steps X F k o G → Goes G c e o) d (λ i T. own F G c w f free o i T e (t ∙ eq-eqb p q d)) i T
    ]

    -- one Begin or Turn
    make_move : {F G : System D W A B} (c : ℕ) {e : Event D} {o : Outcome D W} → Making F c → SomeFree X G → Moves X F e o G → Goes G c e o
    make_move c w free (begin_refused r h t g) = beside (subst (λ H. Making H c) (sym g) w) refl
    make_move {F} {G} c w free (call_begun {p = q} {c = d} {l = l} h t g) =
        let idle = accepted_idle X.suits X.parties X.nodes F.store q (AsksCall d) l h in
        let ne : p ≢ q = λ z. true≢false (ap is_idle (sym idle ∙ ap F.store.run (sym z) ∙ w.runs)) in
        beside (calm_after F G c w (moves_keep X w.kept (call_begun {l = l} h t g)) q ne
        (subst (λ v. Calm F.store v q) (sym (ap (λ H. H.store) g)) (calm_started F.store q (ap (waits F.store.count) idle) d)) (ap (λ H. H.node_order) g) (ap (λ H. H.party_order) g)) refl
    make_move {F} {G} c w free (walk_begun {p = q} {w = d} {l = l} s worths h y t g) =
        let idle = accepted_idle X.suits X.parties X.nodes F.store q (AsksWalk d) l h in
        let ne : p ≢ q = λ z. true≢false (ap is_idle (sym idle ∙ ap F.store.run (sym z) ∙ w.runs)) in
        beside (calm_after F G c w (moves_keep X w.kept (walk_begun {l = l} s worths h y t g)) q ne
        (subst (λ v. Calm F.store v q) (sym (ap (λ H. H.store) g)) (calm_started_walk F.store q (ap (waits F.store.count) idle) d.slot s)) (ap (λ H. H.node_order) g) (ap (λ H. H.party_order) g)) refl
    make_move {F} {G} c {o = o} w free (turn_refused {p = q} {l = l} r h t g) =
        beside (subst (λ H. Making H c) (sym g) w) (and_right (eqb p q) (is_accepted o) (ap is_accepted t ∙ turn_refusal X.parties X.nodes q l (F.store.run q) r h))
    make_move {F} {G} c w free (turn {p = q} {l = l} h T) =
        let u = turn_passed X.parties X.nodes q l (F.store.run q) h in
        turn_goes c (Turns q l) w (moves_keep X w.kept (turn {l = l} h T)) free q refl u.0 u.1 u.2 T
    make_move {F} {G} c {o = o} w free (walk_turn_refused {p = q} {l = l} r h t g) =
        beside (subst (λ H. Making H c) (sym g) w) (and_right (eqb p q) (is_accepted o) (ap is_accepted t ∙ walk_turn_refusal X.parties X.nodes q l (F.store.run q) r h))
    make_move {F} {G} c w free (walk_turn {p = q} {l = l} h T) =
        let u = walk_turn_passed X.parties X.nodes q l (F.store.run q) h in
        turn_goes c (WalkTurns q l) w (moves_keep X w.kept (walk_turn {l = l} h T)) free q refl u.0 u.1 u.2 T

    -- a whole run
    make_run : {F G : System D W A B} (c : ℕ) {es : Log X} → Making F c → (r : Run X F es G) → AtEachMoment X (SomeFree X) r → ends_of p es ≡ 0 → Making G (turns_of p es + c)
    make_run {F} c w still fed z = subst (Making F) (let u : c ≡ 0 + c = omega arith in u) w
    make_run {G = H} c w (more {G = G} {e = e} {o = o} {es = es} m r) fed z =
        came (make_move c w (free_now r fed.1) m) (λ c' w'. make_run c' w' r fed.1 (ends_not_later e o es p z))
      where
        came : Goes G c e o → ((c' : ℕ) → Making G c' → Making H (turns_of p es + c')) → Making H (turns_of p ((e, o) ∷ es) + c)
        came (beside w' k) go = subst (Making H) ((let u : turns_of p es + c ≡ 0 + turns_of p es + c = omega arith in u) ∙ ap (λ n. n + turns_of p es + c) (sym (cond-false (counts e o) 1 0 k))) (go c w')
        came (onward w' k) go = subst (Making H) ((let u : turns_of p es + suc c ≡ 1 + turns_of p es + c = omega arith in u) ∙ ap (λ n. n + turns_of p es + c) (sym (cond-true (counts e o) 1 0 k))) (go (suc c) w')
        came (over k) go = absurd (true≢false (sym k ∙ ends_not_now e o es p z))

-- a Make is under way
is_making_lem : {D : Type 0} (r : Running D) → is_making r ≡ true → (plan : Plan D) × ((c : Place) × (r ≡ Works (Makes plan) c))
is_making_lem (Works (Makes plan) c) h = (plan, (c, refl))
is_making_lem _ h = absurd (true≢false (sym h))

-- so many accepted turns end a Make, from any moment of it
pub makes_end : {D W A B : Type 0} (X : Setting D W A B) → DuesBelowSpan X.node_order → DuesBelowSpan X.party_order
    → (G : System D W A B) → Kept X G → SeekersOpen X.parties G.store → MakesEnd X G
makes_end {D} X node-low party_low G K O p pa pb mk later H r fed z =
    let m = is_making_lem (G.store.run p) mk in
    let free = free_now X r fed in
    let N = X.parties in
    let P = X.party_order.horizon G.party_order in
    let T = X.node_order.horizon G.node_order in
    let S = T - 1 in
    let whole = make_bound X G in
    let below = node-low G.node_order p free.0 (pa, omega (arith, pb, K.limits.few_parties)) (free.1.0, omega (arith, free.1.1, K.sized.nodes)) in
    let span : T ≡ suc S = omega arith in
    let large : 18 * (suc S * (N * P + 1)) + 28 ≤ whole = subst (λ k. 18 * (k * (N * P + 1)) + 28 ≤ whole) span (let v = mul_assoc 18 T (N * P + 1) in omega arith) in
    let rank = rank_bounded N X.nodes S P G.store (X.party_order.due G.party_order) (X.node_order.due G.node_order p) p whole
    (low_parties X node-low party_low p pa pb S P whole G K refl) (low_nodes X node-low party_low p pa pb S P whole G K span) free large m.1.0 (λ h. O p pa pb (ap opens m.1.1 ∙ h)) in
    let w = make_run X node-low party_low p pa pb S P whole 0
    (record { kept = K; node_span = span; party_span = refl; plan = m.0; place = m.1.0; runs = m.1.1; budget = whole; sum = omega arith; rank = rank }) r fed z in
    let v = rank_pos N X.nodes S P H.store (X.party_order.due H.party_order) (X.node_order.due H.node_order p) p w.budget w.plan w.place w.rank in
    let s = w.sum in omega arith

-- and so in every store that can exist
pub existing_makes_end : {D W A B : Type 0} (X : Setting D W A B) → DuesBelowSpan X.node_order → DuesBelowSpan X.party_order → (G : System D W A B) → CanExist X G → MakesEnd X G
existing_makes_end X node-low party_low G c = makes_end X node-low party_low G (existing_kept X G c) (existing_seekers_open X G c)
