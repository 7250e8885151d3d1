-- A walk's turn over a term: what is marked stays right, and each turn is counted.
use Rattle.std.proofs.Common.{◌≡◌, ℕ, suc, ◌+◌, ◌*◌, ◌<◌, ◌≤◌, Bool, true, false, cond, not, ◌&&◌, eqb, ◌≢◌, List, [], ◌∷◌, length, Some, None, Option, sym, refl, ap, ◌∙◌, subst, inl, inr, true≢false, arith}
use Rattle.std.proofs.lemmas.Bool.{and_parts, and_cases, eqb-true, eqb-false, not-true, not-false, cases_eq, cases_Bool, eq-eqb, ne_eqb, cond-true, cond-false}
use Rattle.std.specs.List.{AllByRecursion}
use Rattle.model.specs.Fun.{upd}
use Rattle.model.specs.Types.{Ok, Kid, First, Second, Third, Kids, Running, Idle, WalkReads, WalkGoesDown, ReadNothing, ReadData, ReadFirst, ReadSecond, Outcome, StillRunning, Ended, WorthIs, Situation}
use Rattle.model.specs.State.{kid_at, Trail, no_trail, along, last_of, longer, shorter}
use Rattle.model.specs.Checks.{is_idle}
use Rattle.model.specs.Reach.{Below, kid, deeper, InTerm, Chain}
use Rattle.model.specs.Sound.{Ranked}
use Rattle.model.specs.Walks.{Notes, marked, resumes, unmarked, first_unmarked, kid_worth, noted}
use Rattle.model.specs.Plain.{WorksOut, missing, worked, TermHas}
use Rattle.model.specs.Opened.{ReadSoFar}
use Rattle.model.specs.Existing.{trail_length}
use Rattle.model.proofs.Sums.{upd_same, upd_other, sum_to_none}
use Rattle.model.proofs.Refs.{sum_upd}
use Rattle.model.proofs.Frames.{upd_all}
use Rattle.model.proofs.Paths.{every_zip, chain_in, chain_all_in, chain_distinct, pigeon}
use Rattle.model.proofs.Worths.{SameTerm, term_there, worth_there}

pub none_marked : (M : ℕ) → marked M (λ n. false) ≡ 0
none_marked M = sum_to_none M (λ n. 0) (λ n a b. refl)

one_more : (M : ℕ) (marks : ℕ → Bool) (n : ℕ) → 1 ≤ n → n ≤ M → marks n ≡ false → marked M (upd marks n true) ≡ marked M marks + 1
one_more M marks n a b e =
    let u = sum_upd M (λ v. cond v 1 0) marks n true a b in
    let w = cond-false {A = ℕ} (marks n) 1 0 e in
    omega arith

still_marked : (marks : ℕ → Bool) (n x : ℕ) → marks x ≡ true → upd marks n true x ≡ true
still_marked marks n x h = upd_all (λ k b. b ≡ true) marks n true refl x (λ _. h)

-- a kid that is to be gone down to, or is not
is_unmarked : (n : ℕ) (b : Bool) → not (eqb n 0) && not b ≡ true → (n ≢ 0) × (b ≡ false)
is_unmarked n b e = let u = and_parts (not (eqb n 0)) (not b) e in (eqb-false n 0 (not-true (eqb n 0) u.0), not-true b u.1)

is_marked : (n : ℕ) (b : Bool) → not (eqb n 0) && not b ≡ false → n ≢ 0 → b ≡ true
is_marked n b e z = elim (and_cases (not (eqb n 0)) (not b) e) [ inl u ↦ absurd (z (eqb-true n 0 (not-false (eqb n 0) u))) | inr u ↦ not-false b u ]

-- the first unmarked kid is one; where there is none, every kid is marked
abbrev FirstUnmarkedIs : {W : Type 0} → Notes W → Kids → Option Kid → Type 0
FirstUnmarkedIs notes ks (Some k) = (kid_at ks k ≢ 0) × (notes.marks (kid_at ks k) ≡ false)
FirstUnmarkedIs notes ks None = (k : Kid) → kid_at ks k ≢ 0 → notes.marks (kid_at ks k) ≡ true

first_unmarked_lem : {W : Type 0} (notes : Notes W) (ks : Kids) → FirstUnmarkedIs notes ks (first_unmarked notes ks)
first_unmarked_lem notes ks = choose (unmarked notes ks.first) (unmarked notes ks.second) (unmarked notes ks.third) refl refl refl
  where
    choose : (a b c : Bool) → unmarked notes ks.first ≡ a → unmarked notes ks.second ≡ b → unmarked notes ks.third ≡ c
        → FirstUnmarkedIs notes ks (cond a (Some First) (cond b (Some Second) (cond c (Some Third) None)))
    choose true b c x y z = is_unmarked ks.first (notes.marks ks.first) x
    choose false true c x y z = is_unmarked ks.second (notes.marks ks.second) y
    choose false false true x y z = is_unmarked ks.third (notes.marks ks.third) z
    choose false false false x y z = λ k. elim k as (λ k. kid_at ks k ≢ 0 → notes.marks (kid_at ks k) ≡ true) [
      | First ↦ is_marked ks.first (notes.marks ks.first) x
      | Second ↦ is_marked ks.second (notes.marks ks.second) y
      | Third ↦ is_marked ks.third (notes.marks ks.third) z
    ]

-- how far a walk is at its node: so many of four readings, or before a Down
abbrev pub stage : {D : Type 0} → Running D → ℕ
stage (WalkReads t (ReadData d)) = 1
stage (WalkReads t (ReadFirst d i)) = 2
stage (WalkReads t (ReadSecond d i j)) = 3
stage (WalkGoesDown t k) = 4
stage _ = 0

-- all that a walk looks at: the root is the node of its slot
pub record View (D W : Type 0) : Type 0 where
  pub kids : ℕ → Kids
  pub info : ℕ → D
  pub root : ℕ
  pub trail : Trail
  pub run : Running D
  pub notes : Notes W

module _ {D W : Type 0} where
  abbrev pub with_run : View D W → Running D → View D W
  with_run v r = record v { run = r }

  abbrev pub with_down : View D W → ℕ → Running D → View D W
  with_down v n r = record v { trail = longer v.trail n; run = r }

  abbrev pub with_up : View D W → Situation → Notes W → View D W
  with_up v u notes = record v { trail = shorter v.trail; run = resumes u (shorter v.trail); notes = notes }

  -- so many turns, plus 5, has a walk had
  abbrev pub spent : ℕ → View D W → ℕ
  spent M v = 9 * marked M v.notes.marks + 5 * trail_length v.trail + stage v.run

module _ {D W : Type 0} (worth : D → Situation → W → W → W → W) (blank : W) (M : ℕ) (t : Situation) where
  -- what is marked is of the term, with its kids, and its worth is right
  pub record MarkedRight (kids : ℕ → Kids) (info : ℕ → D) (r : ℕ) (notes : Notes W) : Type 0 where
    pub of_term : (n : ℕ) → notes.marks n ≡ true → InTerm kids r n
    pub with_kids : (n : ℕ) (k : Kid) → notes.marks n ≡ true → kid_at (kids n) k ≢ 0 → notes.marks (kid_at (kids n) k) ≡ true
    pub right : (n : ℕ) → notes.marks n ≡ true → WorksOut worth blank kids info t n (notes.worths n)

  -- what is known at a walk's place: n is the last node
  abbrev pub PlaceRight : (ℕ → Kids) → (ℕ → D) → (ℕ → Bool) → ℕ → Running D → Type 0
  PlaceRight kids info marks n (WalkReads u g) = (u ≡ t) × ReadSoFar (info n) (kids n) g
  PlaceRight kids info marks n (WalkGoesDown u k) = (u ≡ t) × (kid_at (kids n) k ≢ 0) × (marks (kid_at (kids n) k) ≡ false)
  PlaceRight kids info marks n _ = ⊥

  -- a walk under way, entered at the slot i
  pub record Standing (i : ℕ) (v : View D W) : Type 0 where
    pub at : ℕ
    pub before : List ℕ
    pub entered : v.trail ≡ along i at before
    pub chain : Chain v.kids v.root at before
    pub to_come : AllByRecursion (λ n. v.notes.marks n ≡ false) (at ∷ before)
    pub rightly : MarkedRight v.kids v.info v.root v.notes
    pub place : PlaceRight v.kids v.info v.notes.marks at v.run

  -- what is so far is so for another view of the same term
  pub standing_there : (i : ℕ) (v : View D W) (kids' : ℕ → Kids) (info' : ℕ → D) → SameTerm v.kids v.info kids' info' v.root → Standing i v
      → Standing i (record { kids = kids'; info = info'; root = v.root; trail = v.trail; run = v.run; notes = v.notes })
  standing_there i v kids' info' A S = record {
    at = S.at;
    before = S.before;
    entered = S.entered;
    chain = chain_there S.at S.before S.chain;
    to_come = S.to_come;
    rightly = record {
      of_term = λ n m. term_there v.kids v.info kids' info' v.root A n (S.rightly.of_term n m);
      with_kids = λ n k m z. (let e = ap (λ u. kid_at u k) (A n (S.rightly.of_term n m)).0 in ap v.notes.marks e ∙ S.rightly.with_kids n k m (λ y. z (e ∙ y)));
      right = λ n m. worth_there v.kids v.info kids' info' v.root A worth blank t (λ _. S.rightly.of_term n m) (S.rightly.right n m);
    };
    place = place_there S.at v.run (A S.at (chain_in v.kids v.root S.at S.before S.chain)) S.place;
  }
    where
      chain_there : (n : ℕ) (ns : List ℕ) → Chain v.kids v.root n ns → Chain kids' v.root n ns
      chain_there n [] c = c
      chain_there n (m ∷ ns) c = ((c.0.0, ap (λ u. kid_at u c.0.0) (A m (chain_in v.kids v.root m ns c.1)).0 ∙ c.0.1, c.0.2), chain_there m ns c.1)

      place_there : (n : ℕ) (r : Running D) → (kids' n ≡ v.kids n) × (info' n ≡ v.info n) → PlaceRight v.kids v.info v.notes.marks n r → PlaceRight kids' info' v.notes.marks n r
      place_there n (WalkReads u g) e h = (h.0, subst (λ d. ReadSoFar d (kids' n) g) (sym e.1) (subst (λ ks. ReadSoFar (v.info n) ks g) (sym e.0) h.1))
      place_there n (WalkGoesDown u k) e h = let d : kid_at (kids' n) k ≡ kid_at (v.kids n) k = ap (λ ks. kid_at ks k) e.0 in (h.0, (λ z. h.1 (sym d ∙ z)), ap v.notes.marks d ∙ h.2)
      place_there n _ e h = h

  module _ (v : View D W) where
    abbrev kids_read : ℕ → ℕ → Kids
    kids_read a b = record { first = a; second = b; third = (v.kids (last_of v.trail)).third }

    -- the notes with the worth of the last node
    abbrev noted_here : Situation → D → Kids → Notes W
    noted_here u d ks = noted v.notes (last_of v.trail) (worth d u (kid_worth v.notes blank ks.first) (kid_worth v.notes blank ks.second) (kid_worth v.notes blank ks.third))

    abbrev pub settled_as : Situation → D → Kids → Option Kid → View D W
    settled_as u d ks o = elim o [ Some k ↦ with_run v (WalkGoesDown u k) | None ↦ with_up v u (noted_here u d ks) ]

    -- what a walk's turn makes of it, and what it tells
    abbrev pub after_turn : Running D → View D W
    after_turn (WalkReads u ReadNothing) = with_run v (WalkReads u (ReadData (v.info (last_of v.trail))))
    after_turn (WalkReads u (ReadData d)) = with_run v (WalkReads u (ReadFirst d (v.kids (last_of v.trail)).first))
    after_turn (WalkReads u (ReadFirst d a)) = with_run v (WalkReads u (ReadSecond d a (v.kids (last_of v.trail)).second))
    after_turn (WalkReads u (ReadSecond d a b)) = settled_as u d (kids_read a b) (first_unmarked v.notes (kids_read a b))
    after_turn (WalkGoesDown u k) = with_down v (kid_at (v.kids (last_of v.trail)) k) (WalkReads u ReadNothing)
    after_turn _ = v

    abbrev pub tells_of : View D W → Outcome D W
    tells_of v' = cond (is_idle v'.run) (Ok (Ended (WorthIs (v'.notes.worths (last_of v.trail)) (marked M v'.notes.marks)))) (Ok StillRunning)

    -- a walk's turn goes on, or is its last
    pub data Turned (i : ℕ) (v' : View D W) : Outcome D W → Type 0 where
      goes_on : {o : Outcome D W} → o ≡ Ok StillRunning → Standing i v' → spent M v' ≡ spent M v + 1 → Turned i v' o
      ends : {o : Outcome D W} (w : W) (m : ℕ) → o ≡ Ok (Ended (WorthIs w m)) → WorksOut worth blank v.kids v.info t v.root w → TermHas M v.kids v.root m
          → v'.run ≡ Idle → v'.trail ≡ no_trail → spent M v + 1 ≡ 9 * m → Turned i v' o

  -- once the root is marked, just its term is
  module _ (kids : ℕ → Kids) (info : ℕ → D) (r : ℕ) (notes : Notes W) (V : MarkedRight kids info r notes) where
    below_marked : notes.marks r ≡ true → {x : ℕ} → Below kids r x → notes.marks x ≡ true
    below_marked h (kid k e z) = subst (λ y. notes.marks y ≡ true) e (V.with_kids r k h (λ y. z (sym e ∙ y)))
    below_marked h (deeper l k b e z) = subst (λ y. notes.marks y ≡ true) e (V.with_kids l k (below_marked h b) (λ y. z (sym e ∙ y)))

    term_marked : notes.marks r ≡ true → (x : ℕ) → InTerm kids r x → notes.marks x ≡ true
    term_marked h x (inl e) = ap notes.marks e ∙ h
    term_marked h x (inr b) = below_marked h b

    term_has_marked : notes.marks r ≡ true → TermHas M kids r (marked M notes.marks)
    term_has_marked h = record {
      counts = λ n. cond (notes.marks n) 1 0;
      total = refl;
      each = λ x a b. elim (cases_Bool (notes.marks x)) [
        | inl e ↦ inl (cond-true {A = ℕ} (notes.marks x) 1 0 e, V.of_term x e)
        | inr e ↦ inr (cond-false {A = ℕ} (notes.marks x) 1 0 e, λ i. true≢false (sym (term_marked h x i) ∙ e))
      ];
    }

    -- a node whose kids are marked is marked with its worth
    marked_up : (n : ℕ) (d : D) (u : Situation) (ks : Kids) → InTerm kids r n → n ≢ 0
        → ((k : Kid) → kid_at (kids n) k ≢ 0 → notes.marks (kid_at (kids n) k) ≡ true) → d ≡ info n → u ≡ t → ks ≡ kids n
        → MarkedRight kids info r (noted notes n (worth d u (kid_worth notes blank ks.first) (kid_worth notes blank ks.second) (kid_worth notes blank ks.third)))
    marked_up n d u ks i nz done ed eu ek =
        let w = worth d u (kid_worth notes blank ks.first) (kid_worth notes blank ks.second) (kid_worth notes blank ks.third) in
        let of-kid : (k : Kid) → WorksOut worth blank kids info t (kid_at (kids n) k) (kid_worth notes blank (kid_at (kids n) k)) = λ k.
        elim (cases_eq (kid_at (kids n) k) 0) [
          | inl e ↦ missing e (cond-true (eqb (kid_at (kids n) k) 0) blank (notes.worths (kid_at (kids n) k)) (eq-eqb (kid_at (kids n) k) 0 e))
          | inr z ↦ subst (WorksOut worth blank kids info t (kid_at (kids n) k)) (sym (cond-false (eqb (kid_at (kids n) k) 0) blank (notes.worths (kid_at (kids n) k)) (ne_eqb (kid_at (kids n) k) 0 z))) (V.right (kid_at (kids n) k) (done k z))
        ] in
        let we : w ≡ worth (info n) t (kid_worth notes blank (kids n).first) (kid_worth notes blank (kids n).second) (kid_worth notes blank (kids n).third) = cc in
        let here : WorksOut worth blank kids info t n w = worked nz (of-kid First) (of-kid Second) (of-kid Third) we in
        let old : (x : ℕ) → x ≢ n → upd notes.marks n true x ≡ true → notes.marks x ≡ true = λ x z h. sym (upd_other notes.marks n x true z) ∙ h in
        record {
          of_term = λ x h. elim (cases_eq x n) [ inl e ↦ subst (InTerm kids r) (sym e) i | inr z ↦ V.of_term x (old x z h) ];
          with_kids = λ x k h kz. elim (cases_eq x n) [
            | inl e ↦ still_marked notes.marks n (kid_at (kids x) k) (subst (λ y. kid_at (kids y) k ≢ 0 → notes.marks (kid_at (kids y) k) ≡ true) (sym e) (done k) kz)
            | inr z ↦ still_marked notes.marks n (kid_at (kids x) k) (V.with_kids x k (old x z h) kz)
          ];
          right = λ x h. elim (cases_eq x n) [
            | inl e ↦ subst (λ y. WorksOut worth blank kids info t y (upd notes.worths n w y)) (sym e) (subst (WorksOut worth blank kids info t n) (sym (upd_same notes.worths n w)) here)
            | inr z ↦ subst (WorksOut worth blank kids info t x) (sym (upd_other notes.worths n x w z)) (V.right x (old x z h))
          ];
        }

    -- marked nodes and those of the trail are different nodes of the term
    path_fits : Ranked kids → ((x : ℕ) → InTerm kids r x → (1 ≤ x) × (x ≤ M)) → (m top : ℕ) (rest : List ℕ) → TermHas M kids r m → Chain kids r top rest
        → AllByRecursion (λ x. notes.marks x ≡ false) (top ∷ rest) → marked M notes.marks + length (top ∷ rest) ≤ m
    path_fits R low m top rest S ch fr =
        let one : (x : ℕ) → InTerm kids r x → 1 ≤ S.counts x = λ x i. (let l = low x i in elim (S.each x l.0 l.1) [ inl h ↦ (let e = h.0 in omega arith) | inr h ↦ absurd (h.1 i) ]) in
        let u = pigeon M (top ∷ rest) (λ n. cond (notes.marks n) 1 0) S.counts (chain_distinct kids R r top rest ch)
        (λ n a b. elim (cases_Bool (notes.marks n)) [
          | inl e ↦ (let h = one n (V.of_term n e) in let g = cond-true {A = ℕ} (notes.marks n) 1 0 e in omega arith)
          | inr e ↦ (let g = cond-false {A = ℕ} (notes.marks n) 1 0 e in omega arith)
        ])
        (every_zip (λ x. notes.marks x ≡ false) (InTerm kids r) (λ x. (1 ≤ x) × (x ≤ M) × (◌≡◌ {A = ℕ} (cond (notes.marks x) 1 0) 0) × (1 ≤ S.counts x))
        (λ x e i. ((low x i).0, (low x i).1, cond-false {A = ℕ} (notes.marks x) 1 0 e, one x i)) (top ∷ rest) fr (chain_all_in kids r top rest ch)) in
        let e = S.total in omega arith

  -- a walk that begins
  pub standing_begun : (i : ℕ) (kids : ℕ → Kids) (info : ℕ → D) (r : ℕ) (worths : ℕ → W)
      → Standing i (record { kids = kids; info = info; root = r; trail = along i r []; run = WalkReads t ReadNothing; notes = record { marks = λ n. false; worths = worths } })
  standing_begun i kids info r worths = record {
    at = r;
    before = [];
    entered = refl;
    chain = refl;
    to_come = (refl, tt);
    rightly = record { of_term = λ x e. absurd (true≢false (sym e)); with_kids = λ x k e. absurd (true≢false (sym e)); right = λ x e. absurd (true≢false (sym e)) };
    place = (refl, tt);
  }

  module _ (i : ℕ) (v : View D W) (R : Ranked v.kids) (low : (x : ℕ) → InTerm v.kids v.root x → (1 ≤ x) × (x ≤ M)) (S : Standing i v) where
    last_is : last_of v.trail ≡ S.at
    last_is = ap last_of S.entered

    length_is : trail_length v.trail ≡ length (S.at ∷ S.before)
    length_is = ap trail_length S.entered

    -- while it runs
    pub spent_bound : (m : ℕ) → TermHas M v.kids v.root m → spent M v < 9 * m
    spent_bound m T = bound v.run S.place
      where
        here : marked M v.notes.marks + trail_length v.trail ≤ m
        here = let h = path_fits v.kids v.info v.root v.notes S.rightly R low m S.at S.before T S.chain S.to_come in let e = length_is in omega arith

        bound : (r : Running D) → PlaceRight v.kids v.info v.notes.marks S.at r → 9 * marked M v.notes.marks + 5 * trail_length v.trail + stage r < 9 * m
        bound (WalkReads u ReadNothing) h = let g = here in let e = length_is in omega arith
        bound (WalkReads u (ReadData d)) h = let g = here in let e = length_is in omega arith
        bound (WalkReads u (ReadFirst d a)) h = let g = here in let e = length_is in omega arith
        bound (WalkReads u (ReadSecond d a b)) h = let g = here in let e = length_is in omega arith
        bound (WalkGoesDown u k) h =
            let n = kid_at (v.kids S.at) k in
            let g = path_fits v.kids v.info v.root v.notes S.rightly R low m n (S.at ∷ S.before) T ((k, refl, h.1), S.chain) (h.2, S.to_come) in
            let e = length_is in omega arith
        bound _ h = absurd h

    -- the call moves on at the node
    moves_on : (r r' : Running D) → v.run ≡ r → PlaceRight v.kids v.info v.notes.marks S.at r' → stage r' ≡ stage r + 1 → is_idle r' ≡ false → Turned v i (with_run v r') (tells_of v (with_run v r'))
    moves_on r r' e h k z = goes_on (cond-false (is_idle r') _ (Ok StillRunning) z)
        (record { at = S.at; before = S.before; entered = S.entered; chain = S.chain; to_come = S.to_come; rightly = S.rightly; place = h })
        (let q : stage v.run ≡ stage r = ap stage e in omega arith)

    -- a Down to an unmarked kid
    goes_down : (u : Situation) (k : Kid) → v.run ≡ WalkGoesDown u k → Turned v i (after_turn v (WalkGoesDown u k)) (tells_of v (after_turn v (WalkGoesDown u k)))
    goes_down u k e =
        let h : PlaceRight v.kids v.info v.notes.marks S.at (WalkGoesDown u k) = subst (PlaceRight v.kids v.info v.notes.marks S.at) e S.place in
        let n = kid_at (v.kids (last_of v.trail)) k in
        let en : n ≡ kid_at (v.kids S.at) k = ap (λ x. kid_at (v.kids x) k) last_is in
        let q : stage v.run ≡ 4 = ap stage e in
        let l : trail_length (longer v.trail n) ≡ suc (length (S.at ∷ S.before)) = ap (λ T. trail_length (longer T n)) S.entered in
        let le = length_is in
        goes_on refl (record {
          at = n;
          before = S.at ∷ S.before;
          entered = ap (λ T. longer T n) S.entered;
          chain = ((k, sym en, λ z. h.1 (sym en ∙ z)), S.chain);
          to_come = (ap v.notes.marks en ∙ h.2, S.to_come);
          rightly = S.rightly;
          place = (h.0, tt);
        }) (omega arith)

    -- the last node's kids are marked: its worth, its mark and up
    goes_up : (u : Situation) (d : D) (ks : Kids) → stage v.run ≡ 3 → u ≡ t → d ≡ v.info S.at → ks ≡ v.kids S.at
        → ((k : Kid) → kid_at (v.kids S.at) k ≢ 0 → v.notes.marks (kid_at (v.kids S.at) k) ≡ true)
        → Turned v i (with_up v u (noted_here v u d ks)) (tells_of v (with_up v u (noted_here v u d ks)))
    goes_up u d ks q eu ed ek done = up S.before S.entered S.chain S.to_come
      where
        inside : InTerm v.kids v.root S.at
        inside = chain_in v.kids v.root S.at S.before S.chain

        w : W
        w = worth d u (kid_worth v.notes blank ks.first) (kid_worth v.notes blank ks.second) (kid_worth v.notes blank ks.third)

        noted_is : noted_here v u d ks ≡ noted v.notes S.at (worth d u (kid_worth v.notes blank ks.first) (kid_worth v.notes blank ks.second) (kid_worth v.notes blank ks.third))
        noted_is = ap (λ n. noted v.notes n (worth d u (kid_worth v.notes blank ks.first) (kid_worth v.notes blank ks.second) (kid_worth v.notes blank ks.third))) last_is

        now : MarkedRight v.kids v.info v.root (noted_here v u d ks)
        now = subst (MarkedRight v.kids v.info v.root) (sym noted_is)
            (marked_up v.kids v.info v.root v.notes S.rightly S.at d u ks inside (λ z. (let h = (low S.at inside).0 in omega arith)) done ed eu ek)

        more : marked M (noted_here v u d ks).marks ≡ marked M v.notes.marks + 1
        more = ap (λ n. marked M n.marks) noted_is ∙ one_more M v.notes.marks S.at (low S.at inside).0 (low S.at inside).1 S.to_come.0

        up : (ns : List ℕ) → v.trail ≡ along i S.at ns → Chain v.kids v.root S.at ns → AllByRecursion (λ n. v.notes.marks n ≡ false) (S.at ∷ ns)
            → Turned v i (with_up v u (noted_here v u d ks)) (tells_of v (with_up v u (noted_here v u d ks)))
        up [] et ch fr =
            let short : shorter v.trail ≡ no_trail = ap shorter et in
            let len : trail_length v.trail ≡ 1 = ap trail_length et in
            let root : last_of v.trail ≡ v.root = last_is ∙ ch in
            let is-noted : (noted_here v u d ks).marks v.root ≡ true = ap (noted_here v u d ks).marks (sym root) ∙ upd_same v.notes.marks (last_of v.trail) true in
            let still : resumes {D = D} u (shorter v.trail) ≡ Idle = ap (resumes u) short in
            ends ((noted_here v u d ks).worths (last_of v.trail)) (marked M (noted_here v u d ks).marks)
            (cond-true (is_idle (resumes {D = D} u (shorter v.trail))) _ (Ok StillRunning) (ap is_idle still))
            (subst (λ n. WorksOut worth blank v.kids v.info t v.root ((noted_here v u d ks).worths n)) (sym root) (now.right v.root is-noted))
            (term_has_marked v.kids v.info v.root (noted_here v u d ks) now is-noted)
            still short
            (let m = more in omega arith)
        up (m ∷ ms) et ch fr =
            let short : shorter v.trail ≡ along i m ms = ap shorter et in
            let len : trail_length v.trail ≡ length (S.at ∷ m ∷ ms) = ap trail_length et in
            let len' : trail_length (shorter v.trail) ≡ length (m ∷ ms) = ap trail_length short in
            let on : resumes {D = D} u (shorter v.trail) ≡ WalkReads u ReadNothing = ap (resumes u) short in
            let stage' : stage (resumes {D = D} u (shorter v.trail)) ≡ 0 = ap stage on in
            let ds = chain_distinct v.kids R v.root S.at (m ∷ ms) ch in
            goes_on (cond-false (is_idle (resumes {D = D} u (shorter v.trail))) _ (Ok StillRunning) (ap is_idle on))
            (record {
              at = m;
              before = ms;
              entered = short;
              chain = ch.1;
              to_come = subst (λ n. AllByRecursion (λ y. n.marks y ≡ false) (m ∷ ms)) (sym noted_is)
                  (every_zip (λ y. y ≢ S.at) (λ y. v.notes.marks y ≡ false) (λ y. upd v.notes.marks S.at true y ≡ false) (λ y z e. upd_other v.notes.marks S.at y true z ∙ e) (m ∷ ms) ds.0 fr.1);
              rightly = now;
              place = subst (PlaceRight v.kids v.info (noted_here v u d ks).marks m) (sym on) (eu, tt);
            })
            (let n = more in omega arith)

    -- the fourth reading
    has_read : (u : Situation) (d : D) (a b : ℕ) → v.run ≡ WalkReads u (ReadSecond d a b) → Turned v i (after_turn v (WalkReads u (ReadSecond d a b))) (tells_of v (after_turn v (WalkReads u (ReadSecond d a b))))
    has_read u d a b e = settles (first_unmarked v.notes (kids_read v a b)) (first_unmarked_lem v.notes (kids_read v a b))
      where
        h : (u ≡ t) × (d ≡ v.info S.at) × (a ≡ (v.kids S.at).first) × (b ≡ (v.kids S.at).second)
        h = let g : PlaceRight v.kids v.info v.notes.marks S.at (WalkReads u (ReadSecond d a b)) = subst (PlaceRight v.kids v.info v.notes.marks S.at) e S.place in (g.0, g.1.0, g.1.1, g.1.2)

        third_is : (v.kids (last_of v.trail)).third ≡ (v.kids S.at).third
        third_is = ap (λ n. (v.kids n).third) last_is

        read_is : kids_read v a b ≡ v.kids S.at
        read_is = λ z. record { first = h.2 z; second = h.3 z; third = third_is z }

        settles : (o : Option Kid) → FirstUnmarkedIs v.notes (kids_read v a b) o → Turned v i (settled_as v u d (kids_read v a b) o) (tells_of v (settled_as v u d (kids_read v a b) o))
        settles (Some k) f = moves_on (WalkReads u (ReadSecond d a b)) (WalkGoesDown u k) e
            (h.0, (subst (λ ks. (kid_at ks k ≢ 0) × (v.notes.marks (kid_at ks k) ≡ false)) read_is f).0, (subst (λ ks. (kid_at ks k ≢ 0) × (v.notes.marks (kid_at ks k) ≡ false)) read_is f).1) refl refl
        settles None f = goes_up u d (kids_read v a b) (ap stage e) h.0 h.1 read_is (subst (λ ks. (k : Kid) → kid_at ks k ≢ 0 → v.notes.marks (kid_at ks k) ≡ true) read_is f)

    turned_at : (r : Running D) → v.run ≡ r → PlaceRight v.kids v.info v.notes.marks S.at r → Turned v i (after_turn v r) (tells_of v (after_turn v r))
    turned_at (WalkReads u ReadNothing) e h = moves_on (WalkReads u ReadNothing) (WalkReads u (ReadData (v.info (last_of v.trail)))) e (h.0, ap v.info last_is) refl refl
    turned_at (WalkReads u (ReadData d)) e h = moves_on (WalkReads u (ReadData d)) (WalkReads u (ReadFirst d (v.kids (last_of v.trail)).first)) e (h.0, (h.1, ap (λ n. (v.kids n).first) last_is)) refl refl
    turned_at (WalkReads u (ReadFirst d a)) e h = moves_on (WalkReads u (ReadFirst d a)) (WalkReads u (ReadSecond d a (v.kids (last_of v.trail)).second)) e (h.0, (h.1.0, h.1.1, ap (λ n. (v.kids n).second) last_is)) refl refl
    turned_at (WalkReads u (ReadSecond d a b)) e h = has_read u d a b e
    turned_at (WalkGoesDown u k) e h = goes_down u k e
    turned_at _ e h = absurd h

    -- a walk's turn
    pub turned : Turned v i (after_turn v v.run) (tells_of v (after_turn v v.run))
    turned = turned_at v.run refl S.place
