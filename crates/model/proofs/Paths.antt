-- Paths along kids: their nodes are different, and at most M.
use Rattle.std.proofs.Common.{◌≡◌, ℕ, ◌+◌, ◌<◌, ◌≤◌, ◌≢◌, List, [], ◌∷◌, length, sym, refl, ap, ◌∙◌, subst, inl, inr, arith}
use Rattle.std.proofs.lemmas.List.Elements.{All-weaker, All-from_recursion, recursion_from_All}
use Rattle.std.specs.List.{AllByRecursion}
use Rattle.model.specs.Fun.{upd, sum_to}
use Rattle.model.specs.Types.{Kids}
use Rattle.model.specs.Reach.{Below, kid, deeper, InTerm, IsKid, Chain}
use Rattle.model.specs.Sound.{Ranked}
use Rattle.model.proofs.Sums.{upd_same, upd_other, sum_to_one, sum_le, sum_at_most}
use Rattle.model.proofs.Frames.{upd_all}

pub every_map : (P Q : ℕ → Type 0) → ((n : ℕ) → P n → Q n) → (xs : List ℕ) → AllByRecursion P xs → AllByRecursion Q xs
every_map P Q f xs h = recursion_from_All Q xs (All-weaker P Q f xs (All-from_recursion P xs h))

pub every_zip : (P Q R : ℕ → Type 0) → ((n : ℕ) → P n → Q n → R n) → (xs : List ℕ) → AllByRecursion P xs → AllByRecursion Q xs → AllByRecursion R xs
every_zip P Q R f [] h g = tt
every_zip P Q R f (x ∷ xs) h g = (f x h.0 g.0, every_zip P Q R f xs h.1 g.1)

abbrev pub Distinct : List ℕ → Type 0
Distinct [] = Unit {0}
Distinct (x ∷ xs) = AllByRecursion (λ y. y ≢ x) xs × Distinct xs

pub term_kid : (kids : ℕ → Kids) (r m n : ℕ) → InTerm kids r m → IsKid kids m n → InTerm kids r n
term_kid kids r m n (inl e) k = inr (subst (λ t. Below kids t n) e (kid k.0 k.1 k.2))
term_kid kids r m n (inr b) k = inr (deeper m k.0 b k.1 k.2)

pub chain_in : (kids : ℕ → Kids) (r n : ℕ) (ns : List ℕ) → Chain kids r n ns → InTerm kids r n
chain_in kids r n [] c = inl c
chain_in kids r n (m ∷ ns) c = term_kid kids r m n (chain_in kids r m ns c.1) c.0

pub chain_all_in : (kids : ℕ → Kids) (r n : ℕ) (ns : List ℕ) → Chain kids r n ns → AllByRecursion (InTerm kids r) (n ∷ ns)
chain_all_in kids r n [] c = (inl c, tt)
chain_all_in kids r n (m ∷ ns) c = (chain_in kids r n (m ∷ ns) c, chain_all_in kids r m ns c.1)

module _ (kids : ℕ → Kids) (R : Ranked kids) where
  pub kid_falls : (m n : ℕ) → IsKid kids m n → R.rank n < R.rank m
  kid_falls m n k = subst (λ t. R.rank t < R.rank m) k.1 (R.falls m k.0 (λ y. k.2 (sym k.1 ∙ y)))

  chain_rises : (r n : ℕ) (ns : List ℕ) → Chain kids r n ns → AllByRecursion (λ m. R.rank n < R.rank m) ns
  chain_rises r n [] c = tt
  chain_rises r n (m ∷ ns) c =
      let u = kid_falls m n c.0 in
      (u, every_map (λ x. R.rank m < R.rank x) (λ x. R.rank n < R.rank x) (λ x h. omega arith) ns (chain_rises r m ns c.1))

  pub chain_distinct : (r n : ℕ) (ns : List ℕ) → Chain kids r n ns → Distinct (n ∷ ns)
  chain_distinct r n [] c = (tt, tt)
  chain_distinct r n (m ∷ ns) c = (
    every_map (λ x. R.rank n < R.rank x) (λ x. x ≢ n) (λ x h e. (let u : R.rank x ≡ R.rank n = ap R.rank e in omega arith)) (m ∷ ns) (chain_rises r n (m ∷ ns) c),
    chain_distinct r m ns c.1,
  )

-- different numbers where f is 0 and g is not
pub pigeon : (M : ℕ) (xs : List ℕ) (f g : ℕ → ℕ) → Distinct xs → ((n : ℕ) → 1 ≤ n → n ≤ M → f n ≤ g n)
    → AllByRecursion (λ x. (1 ≤ x) × (x ≤ M) × (f x ≡ 0) × (1 ≤ g x)) xs → sum_to M f + length xs ≤ sum_to M g
pigeon M [] f g d le h = let u = sum_le M f g le in omega arith
pigeon M (x ∷ xs) f g d le h =
    let h0 = h.0 in
    let i = pigeon M xs (upd f x 1) g d.1 (λ n a b. upd_all (λ k v. v ≤ g k) f x 1 h0.3 n (λ _. le n a b))
    (every_zip (λ y. y ≢ x) (λ y. (1 ≤ y) × (y ≤ M) × (f y ≡ 0) × (1 ≤ g y)) (λ y. (1 ≤ y) × (y ≤ M) × (upd f x 1 y ≡ 0) × (1 ≤ g y))
    (λ y z w. (w.0, w.1, upd_other f x y 1 z ∙ w.2, w.3)) xs d.0 h.1) in
    let e = sum_to_one M f (upd f x 1) x h0.0 h0.1 (λ k z. upd_other f x k 1 z) in
    let s : upd f x 1 x ≡ 1 = upd_same f x 1 in
    omega arith

-- a list of different numbers of 1 .. M has at most M entries
pub pigeonhole : (M : ℕ) (xs : List ℕ) → Distinct xs → AllByRecursion (λ x. (1 ≤ x) × (x ≤ M)) xs → length xs ≤ M
pigeonhole M xs d h =
    let u = pigeon M xs (λ n. 0) (λ n. 1) d (λ n a b. omega arith) (every_map (λ x. (1 ≤ x) × (x ≤ M)) (λ x. (1 ≤ x) × (x ≤ M) × (◌≡◌ {A = ℕ} 0 0) × (1 ≤ 1)) (λ x y. (y.0, y.1, refl, omega arith)) xs h) in
    let v = sum_at_most 1 M (λ n. 1) (λ n a b. omega arith) in omega arith

pub chain_short : (kids : ℕ → Kids) → Ranked kids → (M r n : ℕ) (ns : List ℕ) → Chain kids r n ns → ((x : ℕ) → InTerm kids r x → (1 ≤ x) × (x ≤ M)) → length (n ∷ ns) ≤ M
chain_short kids R M r n ns c low = pigeonhole M (n ∷ ns) (chain_distinct kids R r n ns c) (every_map (InTerm kids r) (λ x. (1 ≤ x) × (x ≤ M)) low (n ∷ ns) (chain_all_in kids r n ns c))
