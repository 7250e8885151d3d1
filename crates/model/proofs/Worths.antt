-- A node's worth: there is one, and only one; a term's number of nodes is one number; both are the same where the term is.
use Rattle.std.proofs.Common.{◌≡◌, ℕ, zero, suc, ◌<◌, ◌≢◌, sym, refl, ap, ◌∙◌, subst, inl, inr, arith}
use Rattle.std.proofs.lemmas.Bool.{cases_eq}
use Rattle.model.specs.Types.{Kid, First, Second, Third, Kids, Situation}
use Rattle.model.specs.State.{kid_at}
use Rattle.model.specs.Reach.{Below, kid, deeper, InTerm}
use Rattle.model.specs.Sound.{Ranked}
use Rattle.model.specs.Plain.{WorksOut, missing, worked, TermHas}
use Rattle.model.proofs.Sums.{sum_to_same}
use Rattle.model.proofs.Paths.{term_kid}

module _ {D W : Type 0} (worth : D → Situation → W → W → W → W) (blank : W) (t : Situation) where
  -- a node works out to one worth only
  pub worth_unique : (kids : ℕ → Kids) (info : ℕ → D) {n : ℕ} {v w : W} → WorksOut worth blank kids info t n v → WorksOut worth blank kids info t n w → v ≡ w
  worth_unique kids info (missing e f) (missing g h) = f ∙ sym h
  worth_unique kids info (missing e f) (worked z a b c g) = absurd (z e)
  worth_unique kids info (worked z a b c g) (missing e f) = absurd (z e)
  worth_unique kids info (worked z a b c g) (worked y a' b' c' g') =
      let u = worth_unique kids info a a' in
      let v = worth_unique kids info b b' in
      let w = worth_unique kids info c c' in
      cc

  worth_below : (kids : ℕ → Kids) (info : ℕ → D) (R : Ranked kids) (fuel n : ℕ) → R.rank n < fuel → (w : W) × WorksOut worth blank kids info t n w
  worth_below kids info R zero n h = absurd (omega arith)
  worth_below kids info R (suc fuel) n h =
      let of-kid : (k : Kid) → (w : W) × WorksOut worth blank kids info t (kid_at (kids n) k) w = λ k.
      elim (cases_eq (kid_at (kids n) k) 0) [
        | inl e ↦ (blank, missing e refl)
        | inr z ↦ (let f = R.falls n k z in worth_below kids info R fuel (kid_at (kids n) k) (omega arith))
      ] in
      elim (cases_eq n 0) [
        | inl e ↦ (blank, missing e refl)
        | inr z ↦ (let x = of-kid First in let y = of-kid Second in let v = of-kid Third in (worth (info n) t x.0 y.0 v.0, worked z x.1 y.1 v.1 refl))
      ]

  -- every node of a store with heights works out to a worth
  pub worth_exists : (kids : ℕ → Kids) (info : ℕ → D) → Ranked kids → (n : ℕ) → (w : W) × WorksOut worth blank kids info t n w
  worth_exists kids info R n = worth_below kids info R (suc (R.rank n)) n (omega arith)

-- kids and data of r's term in the first are the same in the second
abbrev pub SameTerm : {D : Type 0} → (ℕ → Kids) → (ℕ → D) → (ℕ → Kids) → (ℕ → D) → ℕ → Type 0
SameTerm kids info kids' info' r = (x : ℕ) → InTerm kids r x → (kids' x ≡ kids x) × (info' x ≡ info x)

module _ {D : Type 0} (kids : ℕ → Kids) (info : ℕ → D) (kids' : ℕ → Kids) (info' : ℕ → D) (r : ℕ) (A : SameTerm kids info kids' info' r) where
  pub below_there : {x : ℕ} → Below kids r x → Below kids' r x
  below_there {x} (kid k e z) = kid k (ap (λ u. kid_at u k) (A r (inl refl)).0 ∙ e) z
  below_there {x} (deeper l k b e z) = deeper l k (below_there b) (ap (λ u. kid_at u k) (A l (inr b)).0 ∙ e) z

  pub below_back : {x : ℕ} → Below kids' r x → Below kids r x
  below_back {x} (kid k e z) = kid k (ap (λ u. kid_at u k) (sym (A r (inl refl)).0) ∙ e) z
  below_back {x} (deeper l k b e z) = let o = below_back b in deeper l k o (ap (λ u. kid_at u k) (sym (A l (inr o)).0) ∙ e) z

  pub term_there : (x : ℕ) → InTerm kids r x → InTerm kids' r x
  term_there x (inl e) = inl e
  term_there x (inr b) = inr (below_there b)

  pub term_back : (x : ℕ) → InTerm kids' r x → InTerm kids r x
  term_back x (inl e) = inl e
  term_back x (inr b) = inr (below_back b)

  pub same_back : SameTerm kids' info' kids info r
  same_back x h = let u = A x (term_back x h) in (sym u.0, sym u.1)

  pub worth_there : {W : Type 0} (worth : D → Situation → W → W → W → W) (blank : W) (t : Situation) {n : ℕ} {w : W} → (n ≢ 0 → InTerm kids r n) → WorksOut worth blank kids info t n w → WorksOut worth blank kids' info' t n w
  worth_there worth blank t o (missing e f) = missing e f
  worth_there {W} worth blank t {n} {w} o (worked {x = x} {y = y} {z = v} z a b c e) =
      let i = o z in
      let q = A n i in
      let go : (k : Kid) → kid_at (kids n) k ≢ 0 → InTerm kids r (kid_at (kids n) k) = λ k y. term_kid kids r n (kid_at (kids n) k) i (k, refl, y) in
      worked z
      (subst (λ u. WorksOut worth blank kids' info' t u.first x) (sym q.0) (worth_there worth blank t (go First) a))
      (subst (λ u. WorksOut worth blank kids' info' t u.second y) (sym q.0) (worth_there worth blank t (go Second) b))
      (subst (λ u. WorksOut worth blank kids' info' t u.third v) (sym q.0) (worth_there worth blank t (go Third) c))
      (e ∙ ap (λ d. worth d t x y v) (sym q.1))

  pub term_has_there : (M m : ℕ) → TermHas M kids r m → TermHas M kids' r m
  term_has_there M m S = record {
    counts = S.counts;
    total = S.total;
    each = λ x a b. elim (S.each x a b) [
      | inl h ↦ inl (h.0, term_there x h.1)
      | inr h ↦ inr (h.0, λ i. h.1 (term_back x i))
    ];
  }

-- a term has one number of nodes only
pub term_has_unique : (M : ℕ) (kids : ℕ → Kids) (r m m' : ℕ) → TermHas M kids r m → TermHas M kids r m' → m ≡ m'
term_has_unique M kids r m m' S T = S.total ∙ sum_to_same M S.counts T.counts (λ x a b.
    elim (S.each x a b) [
      | inl h ↦ elim (T.each x a b) [ inl g ↦ h.0 ∙ sym g.0 | inr g ↦ absurd (g.1 h.1) ]
      | inr h ↦ elim (T.each x a b) [ inl g ↦ absurd (h.1 g.1) | inr g ↦ h.0 ∙ sym g.0 ]
    ]) ∙ sym T.total
