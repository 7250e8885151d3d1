-- Reached nodes have references, and are nobody's to change; heights; some node is free if one is out of reach.
use Rattle.std.proofs.Common.{◌≡◌, ℕ, zero, suc, ◌+◌, ◌<◌, ◌≤◌, ◌≢◌, sym, ap, ◌∙◌, subst, inl, inr, arith}
use Rattle.std.proofs.lemmas.Bool.{cases_eq, cases_lt}
use Rattle.model.specs.Fun.{upd, sum_to, is}
use Rattle.model.specs.Types.{Kid, First, Second, Third, Kids, Closed, Idle}
use Rattle.model.specs.State.{position, kid_at, put_kid, Store}
use Rattle.model.specs.Reach.{by_slot, by_box, by_kid, Reached, Free, Below, kid, deeper, Acyclic}
use Rattle.model.specs.Inv.{none, reliance, tray_node, occ, carry, in_slots, in_boxes, in_trays, carried, in_kids, Inv}
use Rattle.model.specs.Sound.{Ranked}
use Rattle.model.proofs.Sums.{upd_same, upd_other, is_other, is_cases, sum_to_at, sum_to_some, sum_to_none}
use Rattle.model.proofs.Refs.{carried_at, carry_one, slots_at, boxes_at, kids_at}
use Rattle.model.proofs.Make.{position_same, put_same, put_other, carry_is}

pub record Held {D : Type 0} (N M : ℕ) (s : Store D) (n : ℕ) : Type 0 where
  pub pos : 1 ≤ n
  pub low : n ≤ M
  pub has : 1 ≤ in_slots N s.slot n + in_boxes N s.inbox n + in_kids M s.kids n

module _ {D : Type 0} (N M : ℕ) (s : Store D) (I : Inv N M s) where
  held : (n : ℕ) → n ≢ 0 → 1 ≤ in_slots N s.slot n + in_boxes N s.inbox n + in_kids M s.kids n → Held N M s n
  held n z h =
      let c = I.counts n (omega arith) in
      record { pos = omega arith; has = h; low = elim (cases_lt M n) [ inl y ↦ absurd (let u = I.beyond n y in omega arith) | inr y ↦ y ] }

  pub reached_held : {n : ℕ} → Reached N s n → Held N M s n
  reached_held {n} (by_slot q i a b c d e z) = held n z (let h = slots_at N M n s.slot q i a b c d e in omega arith)
  reached_held {n} (by_box q a b e z) = held n z (let h = boxes_at N M n s.inbox q a b e in omega arith)
  reached_held {n} (by_kid m k r e z) =
      let g = reached_held r in
      held n z (let h = kids_at N M n s.kids m k g.pos g.low e in omega arith)

  -- a reached node has a count, and no party holds it as empty or as its own, nor does a tray
  pub reached_counts : (n : ℕ) → Reached N s n → 1 ≤ s.count n
  reached_counts n r = let g = reached_held r in let c = I.counts n g.pos in let h = g.has in omega arith

  pub reached_not_empty : (n q : ℕ) → Reached N s n → 1 ≤ q → q ≤ N → (reliance (s.run q)).empty ≢ n
  reached_not_empty n q r a b e =
      let g = reached_held r in
      let c = reached_counts n r in
      let h : s.count (reliance (s.run q)).empty ≡ 0 = (I.parties q a b).0.empty_is (let p = g.pos in omega arith) in
      let k : s.count n ≡ 0 = subst (λ m. s.count m ≡ 0) e h in omega arith

  pub reached_not_one : (n q : ℕ) → Reached N s n → 1 ≤ q → q ≤ N → (reliance (s.run q)).one ≢ n
  reached_not_one n q r a b e =
      let g = reached_held r in
      let f = g.has in
      let c = I.counts n g.pos in
      let h : s.count (reliance (s.run q)).one ≡ 1 = (I.parties q a b).0.one_is (let p = g.pos in omega arith) in
      let k : s.count n ≡ 1 = subst (λ m. s.count m ≡ 1) e h in
      omega (arith, carried_at N M n s.run q a b, carry_one N M n (reliance (s.run q)) e)

-- heights
pub below_falls : (kids : ℕ → Kids) (R : Ranked kids) {m n : ℕ} → Below kids m n → R.rank n < R.rank m
below_falls kids R (kid {m} {n} k e z) = let h = R.falls m k (λ y. z (sym e ∙ y)) in let g : R.rank (kid_at (kids m) k) ≡ R.rank n = ap R.rank e in omega arith
below_falls kids R (deeper {m} {n} l k p e z) = let i = below_falls kids R p in let h = R.falls l k (λ y. z (sym e ∙ y)) in let g : R.rank (kid_at (kids l) k) ≡ R.rank n = ap R.rank e in omega arith

pub no_circle : (kids : ℕ → Kids) → Ranked kids → Acyclic kids
no_circle kids R n p = let h = below_falls kids R p in omega arith

-- Kids takes a kid away
pub rank_clear : (kids : ℕ → Kids) (v : ℕ) (k : Kid) → Ranked kids → Ranked (upd kids v (put_kid (kids v) k 0))
rank_clear kids v k R = record {
  rank = R.rank;
  falls = λ m i z.
      elim (cases_eq m v) [
        | inr d ↦ (let e : kid_at (upd kids v (put_kid (kids v) k 0) m) i ≡ kid_at (kids m) i = ap (λ t. kid_at t i) (upd_other kids v m (put_kid (kids v) k 0) d) in
            subst (λ t. R.rank t < R.rank m) (sym e) (R.falls m i (λ y. z (e ∙ y))))
        | inl d ↦ (let u : kid_at (upd kids v (put_kid (kids v) k 0) m) i ≡ kid_at (put_kid (kids v) k 0) i = ap (λ t. kid_at (upd kids v (put_kid (kids v) k 0) t) i) d ∙ ap (λ t. kid_at t i) (upd_same kids v (put_kid (kids v) k 0)) in
            elim (cases_eq (position i) (position k)) [
              | inl c ↦ absurd (z (u ∙ position_same (λ t. kid_at (put_kid (kids v) k 0) t ≡ 0) i k c (put_same (kids v) k 0)))
              | inr c ↦ (let e = u ∙ put_other (kids v) i k 0 c in
                  let h : R.rank (kid_at (kids v) i) < R.rank v = R.falls v i (λ y. z (e ∙ y)) in
                  let g : R.rank v ≡ R.rank m = ap R.rank (sym d) in
                  subst (λ t. R.rank t < R.rank m) (sym e) (omega arith))
            ])
      ];
}

-- GivenKids gives a kid to a node that is no kid itself
pub rank_give : (kids : ℕ → Kids) (v : ℕ) (k : Kid) (w : ℕ) → v ≢ w → ((m : ℕ) (i : Kid) → kid_at (kids m) i ≢ v) → Ranked kids → Ranked (upd kids v (put_kid (kids v) k w))
rank_give kids v k w ne lone R =
    let r : ℕ → ℕ = upd R.rank v (suc (R.rank v + R.rank w)) in
    record {
      rank = r;
      falls = λ m i z.
          let at-v : r v ≡ suc (R.rank v + R.rank w) = upd_same R.rank v (suc (R.rank v + R.rank w)) in
          elim (cases_eq m v) [
            | inr d ↦ (let e : kid_at (upd kids v (put_kid (kids v) k w) m) i ≡ kid_at (kids m) i = ap (λ t. kid_at t i) (upd_other kids v m (put_kid (kids v) k w) d) in
                let h = R.falls m i (λ y. z (e ∙ y)) in
                let r1 : r (kid_at (kids m) i) ≡ R.rank (kid_at (kids m) i) = upd_other R.rank v (kid_at (kids m) i) (suc (R.rank v + R.rank w)) (lone m i) in
                let r2 : r m ≡ R.rank m = upd_other R.rank v m (suc (R.rank v + R.rank w)) d in
                subst (λ t. r t < r m) (sym e) (omega arith))
            | inl d ↦ (let u : kid_at (upd kids v (put_kid (kids v) k w) m) i ≡ kid_at (put_kid (kids v) k w) i = ap (λ t. kid_at (upd kids v (put_kid (kids v) k w) t) i) d ∙ ap (λ t. kid_at t i) (upd_same kids v (put_kid (kids v) k w)) in
                let rm : r m ≡ suc (R.rank v + R.rank w) = ap r d ∙ at-v in
                elim (cases_eq (position i) (position k)) [
                  | inl c ↦ (let e : kid_at (upd kids v (put_kid (kids v) k w) m) i ≡ w = u ∙ position_same (λ t. kid_at (put_kid (kids v) k w) t ≡ w) i k c (put_same (kids v) k w) in
                      let r1 : r w ≡ R.rank w = upd_other R.rank v w (suc (R.rank v + R.rank w)) (λ y. ne (sym y)) in
                      subst (λ t. r t < r m) (sym e) (omega arith))
                  | inr c ↦ (let e = u ∙ put_other (kids v) i k w c in
                      let h : R.rank (kid_at (kids v) i) < R.rank v = R.falls v i (λ y. z (e ∙ y)) in
                      let r1 : r (kid_at (kids v) i) ≡ R.rank (kid_at (kids v) i) = upd_other R.rank v (kid_at (kids v) i) (suc (R.rank v + R.rank w)) (lone v i) in
                      subst (λ t. r t < r m) (sym e) (omega arith))
                ])
          ];
    }

-- nothing runs, and the trays are closed
pub record Resting {D : Type 0} (N : ℕ) (s : Store D) : Type 0 where
  pub idle_all : (q : ℕ) → 1 ≤ q → q ≤ N → s.run q ≡ Idle
  pub closed_all : (q : ℕ) → 1 ≤ q → q ≤ N → s.tray q ≡ Closed

module _ {D : Type 0} (N M : ℕ) (s : Store D) (I : Inv N M s) (Q : Resting N s) (R : Ranked s.kids) where
  resting_carried : (n : ℕ) → 1 ≤ n → carried N s.run n ≡ 0
  unfolding carried
  resting_carried n h = sum_to_none N (λ q. carry (reliance (s.run q)) n) (λ q a b. ap (λ r. carry (reliance r) n) (Q.idle_all q a b) ∙ carry_is none n ∙ (let z = is_other 0 n (omega arith) in omega arith))

  resting_trays : (n : ℕ) → 1 ≤ n → in_trays N s.tray n ≡ 0
  unfolding in_trays
  resting_trays n h = sum_to_none N (λ q. is (tray_node (s.tray q)) n) (λ q a b. ap (λ t. is (tray_node t) n) (Q.closed_all q a b) ∙ is_other 0 n (omega arith))

  resting_unlocked : (n : ℕ) → 1 ≤ n → s.lock n ≡ 0
  resting_unlocked n h = elim (cases_eq (s.lock n) 0) [
    | inl e ↦ e
    | inr z ↦ (let g = I.locks n z in
        let k : 0 ≡ n = sym (ap (λ r. (reliance r).locked) (Q.idle_all (s.lock n) g.0 g.1)) ∙ g.2 in absurd (omega arith))
  ]

  slots_none : (n : ℕ) → n ≢ 0 → (Reached N s n → ⊥) → in_slots N s.slot n ≡ 0
  unfolding in_slots
  slots_none n z out = sum_to_none N (λ q. sum_to 8 (λ i. is (s.slot q i) n)) (λ q a b. sum_to_none 8 (λ i. is (s.slot q i) n) (λ i c d.
      elim (is_cases (s.slot q i) n) [ inl e ↦ absurd (out (by_slot q i a b c d e.1 z)) | inr e ↦ e.0 ]))

  boxes_none : (n : ℕ) → n ≢ 0 → (Reached N s n → ⊥) → in_boxes N s.inbox n ≡ 0
  unfolding in_boxes
  boxes_none n z out = sum_to_none N (λ q. is (s.inbox q) n) (λ q a b. elim (is_cases (s.inbox q) n) [ inl e ↦ absurd (out (by_box q a b e.1 z)) | inr e ↦ e.0 ])

  kid_with : (ks : Kids) (n : ℕ) → 1 ≤ occ ks n → (k : Kid) × (kid_at ks k ≡ n)
  unfolding occ
  kid_with ks n h = elim (is_cases ks.first n) [ inl e ↦ (First, e.1) | inr e ↦ elim (is_cases ks.second n) [ inl f ↦ (Second, f.1) | inr f ↦ elim (is_cases ks.third n) [ inl g ↦ (Third, g.1) | inr g ↦ absurd (let x = e.0 in let y = f.0 in let z = g.0 in omega arith) ] ] ]

  parent : (n : ℕ) → 1 ≤ in_kids M s.kids n → (m : ℕ) × (1 ≤ m) × (m ≤ M) × ((k : Kid) × (kid_at (s.kids m) k ≡ n))
  unfolding in_kids
  parent n h = let r = sum_to_some M (λ m. occ (s.kids m) n) h in (r.0, r.1, r.2, kid_with (s.kids r.0) n r.3)

  climb : (fuel n : ℕ) → 1 ≤ n → n ≤ M → (Reached N s n → ⊥) → sum_to M R.rank < fuel + R.rank n → (m : ℕ) × Free M s m
  climb zero n a b out h = absurd (let u = sum_to_at M R.rank n a b in omega arith)
  climb (suc fuel) n a b out h =
      elim (cases_eq (s.count n) 0) [
        | inl e ↦ (n, (a, b, e, resting_unlocked n a))
        | inr z ↦ (let c = I.counts n a in
            let x1 = resting_carried n a in let x2 = resting_trays n a in
            let x3 = slots_none n (omega arith) out in let x4 = boxes_none n (omega arith) out in
            let p = parent n (omega arith) in
            let Up = R.falls p.0 p.3.0 (λ y. (let q = p.3.1 in omega arith)) in
            let same : R.rank (kid_at (s.kids p.0) p.3.0) ≡ R.rank n = ap R.rank p.3.1 in
            climb fuel p.0 p.1 p.2 (λ r. out (by_kid p.0 p.3.0 r p.3.1 (omega arith))) (omega arith))
      ]

  pub free_from_lost : (n : ℕ) → 1 ≤ n → n ≤ M → (Reached N s n → ⊥) → (m : ℕ) × Free M s m
  free_from_lost n a b out = climb (suc (sum_to M R.rank)) n a b out (omega arith)

  pub lost_from_free : (n : ℕ) → Free M s n → Reached N s n → ⊥
  lost_from_free n f r = let c = reached_counts N M s I n r in let z = f.2 in omega arith
