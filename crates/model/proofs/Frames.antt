-- What one party does leaves the others' claims standing.
use Rattle.std.proofs.Common.{◌≡◌, ℕ, ◌+◌, ◌<◌, ◌≤◌, ◌≢◌, ◌⊎◌, sym, refl, ap, ◌∙◌, subst, inl, inr, arith}
use Rattle.std.proofs.lemmas.Bool.{cases_eq}
use Rattle.model.specs.Fun.{upd, is}
use Rattle.model.specs.Types.{Kid, Tray, Open, Holding, Place, LockNode, Recheck, UnlockAndGoBack, ReadKid, ClearKid, UncountKid, Claim, Unlock, Offer, KeepForOneself, GiveBack, WriteData, CountKid, LinkKid, Running, Works}
use Rattle.model.specs.State.{kid_at, put_kid, Store, set_count, set_lock, set_kid, set_inbox, set_tray, set_slot, set_run}
use Rattle.model.specs.Inv.{Reliance, reliance_at, reliance, needs_of, tray_node, carry, in_slots, in_boxes, in_kids, refs, Local, Own, LocalOf, Good, Bare, Inv}
use Rattle.model.proofs.Sums.{upd_same, upd_other}
use Rattle.model.proofs.Refs.{carried_upd, kids_upd, trays_upd, carried_at, carried_two, trays_at, carry_one}

-- what holds at the changed point and at every other holds at all
pub upd_all : {A : Type 0} (P : ℕ → A → Type 0) (f : ℕ → A) (p : ℕ) (v : A) → P p v → (q : ℕ) → (q ≢ p → P q (f q)) → P q (upd f p v q)
upd_all P f p v here q there =
    elim (cases_eq q p) [
      | inl e ↦ subst (λ k. P k (upd f p v k)) (sym e) (subst (P p) (sym (upd_same f p v)) here)
      | inr z ↦ subst (P q) (sym (upd_other f p q v z)) (there z)
    ]

-- a place that says something of a node's kids has the node for itself
abbrev Tied : Reliance → Type 0
Tied c = (c.empty ≡ c.node) ⊎ ((c.one ≡ c.node) ⊎ ((c.hi ≡ 0) × (c.pend ≡ 0) × (c.up ≡ 0)))

tied_place : (c : Place) → Tied (reliance_at c)
tied_place (LockNode n) = inr (inr (refl, refl, refl))
tied_place (Recheck n) = inr (inr (refl, refl, refl))
tied_place (UnlockAndGoBack n) = inr (inr (refl, refl, refl))
tied_place (Unlock n) = inr (inl refl)
tied_place (Offer n) = inr (inl refl)
tied_place (KeepForOneself n) = inr (inl refl)
tied_place (GiveBack n) = inr (inl refl)
tied_place (WriteData n) = inr (inl refl)
tied_place (CountKid v k) = inr (inl refl)
tied_place (LinkKid v k w) = inr (inl refl)
tied_place _ = inl refl

-- a node that is held empty is locked
abbrev Shut : Reliance → Type 0
Shut c = (c.empty ≡ 0) ⊎ (c.locked ≡ c.empty)

shut_place : (c : Place) → Shut (reliance_at c)
shut_place (ReadKid n k) = inr refl
shut_place (ClearKid n k w) = inr refl
shut_place (UncountKid n k w) = inr refl
shut_place (Claim n) = inr refl
shut_place _ = inl refl

module _ {D : Type 0} where
  tied : (r : Running D) → Tied (reliance r)
  tied (Works j c) = tied_place c
  tied _ = inl refl

  shut : (r : Running D) → Shut (reliance r)
  shut (Works j c) = shut_place c
  shut _ = inl refl

-- nobody but p relies on the count or the kids of n
pub record Alone {D : Type 0} (N : ℕ) (s : Store D) (p n : ℕ) : Type 0 where
  pub no_empty : (q : ℕ) → 1 ≤ q → q ≤ N → q ≢ p → (reliance (s.run q)).empty ≢ n
  pub no_one : (q : ℕ) → 1 ≤ q → q ≤ N → q ≢ p → (reliance (s.run q)).one ≢ n
  pub no_tray : (q : ℕ) → 1 ≤ q → q ≤ N → tray_node (s.tray q) ≢ n

module _ {D : Type 0} (N M : ℕ) (s : Store D) (I : Inv N M s) where
  -- the holder of an empty, locked node
  pub alone_locked : (p n : ℕ) → 1 ≤ n → s.lock n ≡ p → s.count n ≡ 0 → Alone N s p n
  alone_locked p n a l z = record {
    no_empty = λ q x y d e.
        let L = (I.parties q x y).0 in
        elim (shut (s.run q)) [
          | inl f ↦ omega arith
          | inr f ↦ let g : s.lock (reliance (s.run q)).locked ≡ q = L.lock_is (omega arith) in
              let h : s.lock n ≡ q = subst (λ k. s.lock k ≡ q) (f ∙ e) g in omega arith
        ];
    no_one = λ q x y d e.
        let g : s.count (reliance (s.run q)).one ≡ 1 = (I.parties q x y).0.one_is (omega arith) in
        let h : s.count n ≡ 1 = subst (λ k. s.count k ≡ 1) e g in omega arith;
    no_tray = λ q x y e.
        let g : s.count (tray_node (s.tray q)) ≡ 1 = (I.trays q x y (omega arith)).is_one in
        let h : s.count n ≡ 1 = subst (λ k. s.count k ≡ 1) e g in omega arith;
  }

  -- who has a reference that is no tray's and no other's burden
  pub alone_refs : (p n : ℕ) → 1 ≤ p → p ≤ N → 1 ≤ n → 1 ≤ in_slots N s.slot n + in_boxes N s.inbox n + in_kids M s.kids n + carry (reliance (s.run p)) n → Alone N s p n
  alone_refs p n a b c r =
      let k = I.counts n c in
      let u = carried_at N M n s.run p a b in
      record {
        no_empty = λ q x y d e.
            let g : s.count (reliance (s.run q)).empty ≡ 0 = (I.parties q x y).0.empty_is (omega arith) in
            let h : s.count n ≡ 0 = subst (λ k. s.count k ≡ 0) e g in omega arith;
        no_one = λ q x y d e.
            let g : s.count (reliance (s.run q)).one ≡ 1 = (I.parties q x y).0.one_is (omega arith) in
            let h : s.count n ≡ 1 = subst (λ k. s.count k ≡ 1) e g in
            let v = carried_two N M n s.run p q a b x y (λ z. d (sym z)) in
            let w = carry_one N M n (reliance (s.run q)) e in omega arith;
        no_tray = λ q x y e.
            let g : s.count (tray_node (s.tray q)) ≡ 1 = (I.trays q x y (omega arith)).is_one in
            let h : s.count n ≡ 1 = subst (λ k. s.count k ≡ 1) e g in
            let w = trays_at N M n s.tray q x y e in omega arith;
      }

  -- the claims of the others, word by word
  pub local_count : (p n v : ℕ) → Alone N s p n → (q : ℕ) → 1 ≤ q → q ≤ N → q ≢ p → (w : Kid → ℕ) → LocalOf M s q (reliance (s.run q)) w → LocalOf M (set_count s n v) q (reliance (s.run q)) w
  local_count p n v A q x y d w L = record {
    within = L.within;
    lock_is = L.lock_is;
    bare = L.bare;
    pend_is = L.pend_is;
    put_is = L.put_is;
    held_is = L.held_is;
    none_given = L.none_given;
    given = L.given;
    empty_is = λ z. upd_other s.count n (reliance (s.run q)).empty v (A.no_empty q x y d) ∙ L.empty_is z;
    one_is = λ z. upd_other s.count n (reliance (s.run q)).one v (A.no_one q x y d) ∙ L.one_is z;
  }

  pub local_kid : (p n : ℕ) (j : Kid) (v : ℕ) → Alone N s p n → (q : ℕ) → 1 ≤ q → q ≤ N → q ≢ p → (w : Kid → ℕ) → LocalOf M s q (reliance (s.run q)) w → LocalOf M (set_kid s n j v) q (reliance (s.run q)) w
  local_kid p n j v A q x y d w L =
      let c = reliance (s.run q) in
      elim (cases_eq c.node n) [
        | inr z ↦ let e : upd s.kids n (put_kid (s.kids n) j v) c.node ≡ s.kids c.node = upd_other s.kids n c.node (put_kid (s.kids n) j v) z in
            record {
              within = L.within;
              lock_is = L.lock_is;
              held_is = L.held_is;
              empty_is = L.empty_is;
              one_is = L.one_is;
              bare = λ k a b. ap (λ t. kid_at t k) e ∙ L.bare k a b;
              pend_is = λ a. ap (λ t. kid_at t c.at) e ∙ L.pend_is a;
              put_is = L.put_is;
              none_given = λ k a b. ap (λ t. kid_at t k) e ∙ L.none_given k a b;
              given = λ k a b. ap (λ t. kid_at t k) e ∙ L.given k a b;
            }
        | inl e ↦ elim (tied (s.run q)) [
          | inl f ↦ absurd (A.no_empty q x y d (f ∙ e))
          | inr g ↦ elim g [
            | inl f ↦ absurd (A.no_one q x y d (f ∙ e))
            | inr t ↦ record {
              within = L.within;
              lock_is = L.lock_is;
              held_is = L.held_is;
              empty_is = L.empty_is;
              one_is = L.one_is;
              bare = λ k a b. absurd (let h = t.0 in omega arith);
              pend_is = λ a. absurd (a t.1);
              put_is = L.put_is;
              none_given = λ k a b. absurd (let h = t.2 in omega arith);
              given = λ k a b. absurd (let h = t.2 in omega arith);
            }
          ]
        ]
      ]

  pub bare_count : (p n v : ℕ) → Alone N s p n → (q : ℕ) → 1 ≤ q → q ≤ N → Bare s.count s.kids (tray_node (s.tray q)) → Bare (upd s.count n v) s.kids (tray_node (s.tray q))
  bare_count p n v A q x y B = record {
    is_one = upd_other s.count n (tray_node (s.tray q)) v (A.no_tray q x y) ∙ B.is_one;
    no_kids = B.no_kids;
  }

  pub bare_kid : (p n : ℕ) (j : Kid) (v : ℕ) → Alone N s p n → (q : ℕ) → 1 ≤ q → q ≤ N → Bare s.count s.kids (tray_node (s.tray q)) → Bare s.count (upd s.kids n (put_kid (s.kids n) j v)) (tray_node (s.tray q))
  bare_kid p n j v A q x y B =
      let e = upd_other s.kids n (tray_node (s.tray q)) (put_kid (s.kids n) j v) (A.no_tray q x y) in
      record { is_one = B.is_one; no_kids = λ k. ap (λ t. kid_at t k) e ∙ B.no_kids k }

  -- the locks, where the party's own lock stays
  pub locks_keep : (p : ℕ) (r : Running D) → (reliance r).locked ≡ (reliance (s.run p)).locked → (n : ℕ) → s.lock n ≢ 0 → (1 ≤ s.lock n) × (s.lock n ≤ N) × ((reliance (upd s.run p r (s.lock n))).locked ≡ n)
  locks_keep p r e n z =
      let g = I.locks n z in (
        g.0,
        g.1,
        elim (cases_eq (s.lock n) p) [
          | inl f ↦ ap (λ t. (reliance t).locked) (ap (upd s.run p r) f ∙ upd_same s.run p r) ∙ e ∙ ap (λ t. (reliance (s.run t)).locked) (sym f) ∙ g.2
          | inr h ↦ ap (λ t. (reliance t).locked) (upd_other s.run p (s.lock n) r h) ∙ g.2
        ],
      )

  -- a step that changes one count, of a node that is p's alone
  pub count_step : (p n v : ℕ) (r : Running D) → 1 ≤ p → p ≤ N → n ≤ M → Alone N s p n → (reliance r).locked ≡ (reliance (s.run p)).locked
      → ((m : ℕ) → 1 ≤ m → upd s.count n v m + carry (reliance (s.run p)) m ≡ s.count m + carry (reliance r) m)
      → Good N M (set_count s n v) p r → Inv N M (set_run (set_count s n v) p r)
  count_step p n v r a b m A l c G = record {
    counts = λ k x. omega (arith, I.counts k x, c k x, carried_upd N M k s.run p r a b);
    beyond = λ k x. upd_other s.count n k v (λ e. omega arith) ∙ I.beyond k x;
    nowhere = I.nowhere;
    filled = I.filled;
    locks = locks_keep p r l;
    parties = λ q x y. upd_all (λ k t. Good N M (set_count s n v) k t) s.run p r G q (λ d.
        let g = I.parties q x y in
        (local_count p n v A q x y d (needs_of (s.run q)).wants g.0, g.1, g.2));
    trays = λ q x y z. bare_count p n v A q x y (I.trays q x y z);
  }

  -- what the others claim, word by word
  abbrev Others : (p : ℕ) → Store D → Type 0
  Others p t = (q : ℕ) → 1 ≤ q → q ≤ N → q ≢ p → Good N M t q (s.run q)

  pub others_count : (p n v : ℕ) → Alone N s p n → Others p (set_count s n v)
  others_count p n v A q x y d = let g = I.parties q x y in (local_count p n v A q x y d (needs_of (s.run q)).wants g.0, g.1, g.2)

  pub others_kid : (p n : ℕ) (j : Kid) (v : ℕ) → Alone N s p n → Others p (set_kid s n j v)
  others_kid p n j v A q x y d = let g = I.parties q x y in (local_kid p n j v A q x y d (needs_of (s.run q)).wants g.0, g.1, g.2)

  pub others_lock : (p n v : ℕ) → 1 ≤ n → (s.lock n ≡ 0) ⊎ (s.lock n ≡ p) → Others p (set_lock s n v)
  others_lock p n v a h q x y d =
      let g = I.parties q x y in
      let L = g.0 in (
        record {
          within = L.within;
          empty_is = L.empty_is;
          one_is = L.one_is;
          bare = L.bare;
          pend_is = L.pend_is;
          put_is = L.put_is;
          held_is = L.held_is;
          none_given = L.none_given;
          given = L.given;
          lock_is = λ z. upd_other s.lock n (reliance (s.run q)).locked v (λ e.
              let f : s.lock (reliance (s.run q)).locked ≡ q = L.lock_is z in
              let k : s.lock n ≡ q = subst (λ m. s.lock m ≡ q) e f in
              elim h [ inl u ↦ omega arith | inr u ↦ d (sym k ∙ u) ]) ∙ L.lock_is z;
        },
        g.1,
        g.2,
      )

  pub others_tray : (p q₀ : ℕ) (t : Tray) → (q₀ ≡ p) ⊎ (s.tray q₀ ≡ Open) → Others p (set_tray s q₀ t)
  others_tray p q₀ t h q x y d =
      let g = I.parties q x y in
      let L = g.0 in (
        record {
          within = L.within;
          lock_is = L.lock_is;
          empty_is = L.empty_is;
          one_is = L.one_is;
          bare = L.bare;
          pend_is = L.pend_is;
          put_is = L.put_is;
          none_given = L.none_given;
          given = L.given;
          held_is = λ z. upd_other s.tray q₀ q t (λ e. elim h [
            | inl u ↦ d (e ∙ u)
            | inr u ↦ let o : Holding (reliance (s.run q)).held ≡ Open = sym (L.held_is z) ∙ ap s.tray e ∙ u in
                let f : ◌≡◌ {A = ℕ} 0 1 = cc in omega arith
          ]) ∙ L.held_is z;
        },
        g.1,
        g.2,
      )

  -- p's own slots are nobody else's
  pub others_slot : (p i v : ℕ) (t : Store D) → (t.slot ≡ s.slot) → Others p t → Others p (set_slot t p i v)
  others_slot p i v t e O q x y d =
      let g = O q x y d in
      let f : upd t.slot p (upd (t.slot p) i v) q ≡ t.slot q = upd_other t.slot p q (upd (t.slot p) i v) d in
      let P : (ℕ → ℕ) → Type 0 = λ h. Local M t.count t.lock t.kids (t.tray q) h q (reliance (s.run q)) (needs_of (s.run q)).wants in
      let Q : (ℕ → ℕ) → Type 0 = λ h. Own h (t.inbox q) (needs_of (s.run q)) in
      (subst P (sym f) g.0, subst Q (sym f) g.1, g.2)

  pub assemble : (t : Store D) (p : ℕ) (r : Running D) → t.run ≡ s.run → t.lock ≡ s.lock
      → ((n : ℕ) → 1 ≤ n → t.count n ≡ refs N M (set_run t p r) n)
      → ((n : ℕ) → M < n → t.count n ≡ 0)
      → (reliance r).locked ≡ (reliance (s.run p)).locked
      → Good N M t p r → Others p t
      → ((q : ℕ) → 1 ≤ q → q ≤ N → tray_node (t.tray q) ≢ 0 → Bare t.count t.kids (tray_node (t.tray q)))
      → ((q v : ℕ) → t.tray q ≡ Holding v → 1 ≤ v)
      → Inv N M (set_run t p r)
  assemble t p r er el c b l G O T F = record {
    counts = c;
    beyond = b;
    trays = T;
    filled = F;
    nowhere = ap (λ f. f 0) el ∙ I.nowhere;
    locks = λ n z. subst (λ f. (1 ≤ f n) × (f n ≤ N) × ((reliance (upd t.run p r (f n))).locked ≡ n)) (sym el)
        (subst (λ f. (1 ≤ s.lock n) × (s.lock n ≤ N) × ((reliance (upd f p r (s.lock n))).locked ≡ n)) (sym er) (locks_keep p r l n (subst (λ f. f n ≢ 0) el z)));
    parties = λ q x y. upd_all (λ k f. Good N M t k f) t.run p r G q (λ d. subst (λ f. Good N M t q (f q)) (sym er) (O q x y d));
  }

  -- nothing shared changes
  pub quiet_step : (p : ℕ) (r : Running D) → 1 ≤ p → p ≤ N → (reliance r).locked ≡ (reliance (s.run p)).locked
      → ((m : ℕ) → 1 ≤ m → carry (reliance (s.run p)) m ≡ carry (reliance r) m) → Good N M s p r → Inv N M (set_run s p r)
  quiet_step p r a b l c G =
      assemble s p r refl refl (λ k x. omega (arith, I.counts k x, c k x, carried_upd N M k s.run p r a b)) I.beyond l G
      (λ q x y d. I.parties q x y) I.trays I.filled

  pub kid_step : (p n : ℕ) (j : Kid) (v : ℕ) (r : Running D) → 1 ≤ p → p ≤ N → 1 ≤ n → n ≤ M → Alone N s p n → (reliance r).locked ≡ (reliance (s.run p)).locked
      → ((m : ℕ) → 1 ≤ m → is v m + carry (reliance r) m ≡ is (kid_at (s.kids n) j) m + carry (reliance (s.run p)) m)
      → Good N M (set_kid s n j v) p r → Inv N M (set_run (set_kid s n j v) p r)
  kid_step p n j v r a b c d A l h G =
      assemble (set_kid s n j v) p r refl refl
      (λ k x. omega (arith, I.counts k x, h k x, carried_upd N M k s.run p r a b, kids_upd N M k s.kids n j v c d))
      I.beyond l G (others_kid p n j v A) (λ q x y z. bare_kid p n j v A q x y (I.trays q x y z)) I.filled

  pub tray_step : (p q₀ : ℕ) (t : Tray) (r : Running D) → 1 ≤ p → p ≤ N → 1 ≤ q₀ → q₀ ≤ N → (q₀ ≡ p) ⊎ (s.tray q₀ ≡ Open) → (reliance r).locked ≡ (reliance (s.run p)).locked
      → ((m : ℕ) → 1 ≤ m → is (tray_node t) m + carry (reliance r) m ≡ is (tray_node (s.tray q₀)) m + carry (reliance (s.run p)) m)
      → (tray_node t ≢ 0 → Bare s.count s.kids (tray_node t)) → ((v : ℕ) → t ≡ Holding v → 1 ≤ v)
      → Good N M (set_tray s q₀ t) p r → Inv N M (set_run (set_tray s q₀ t) p r)
  tray_step p q₀ t r a b c d e l h B F G =
      assemble (set_tray s q₀ t) p r refl refl
      (λ k x. omega (arith, I.counts k x, h k x, carried_upd N M k s.run p r a b, trays_upd N M k s.tray q₀ t c d))
      I.beyond l G (others_tray p q₀ t e)
      (λ q x y z. upd_all (λ k f. tray_node f ≢ 0 → Bare s.count s.kids (tray_node f)) s.tray q₀ t B q (λ d. I.trays q x y) z)
      (λ q v z. upd_all (λ k f. f ≡ Holding v → 1 ≤ v) s.tray q₀ t (F v) q (λ d. I.filled q v) z)

  -- the lock of a node is taken, or given back
  pub take_step : (p n : ℕ) (r : Running D) → 1 ≤ p → p ≤ N → 1 ≤ n → s.lock n ≡ 0 → (reliance r).locked ≡ n → (reliance (s.run p)).locked ≡ 0
      → ((m : ℕ) → 1 ≤ m → carry (reliance (s.run p)) m ≡ carry (reliance r) m) → Good N M (set_lock s n p) p r → Inv N M (set_run (set_lock s n p) p r)
  take_step p n r a b f z l k c G = record {
    counts = λ k x. omega (arith, I.counts k x, c k x, carried_upd N M k s.run p r a b);
    beyond = I.beyond;
    trays = I.trays;
    filled = I.filled;
    nowhere = upd_other s.lock n 0 p (λ e. omega arith) ∙ I.nowhere;
    locks = λ m y. upd_all (λ i v. v ≢ 0 → (1 ≤ v) × (v ≤ N) × ((reliance (upd s.run p r v)).locked ≡ i)) s.lock n p
        (λ _. (a, b, ap (λ t. (reliance t).locked) (upd_same s.run p r) ∙ l)) m
        (λ d w. let g = I.locks m w in (
          g.0,
          g.1,
          ap (λ t. (reliance t).locked) (upd_other s.run p (s.lock m) r (λ e.
              let h : (reliance (s.run p)).locked ≡ m = ap (λ t. (reliance (s.run t)).locked) (sym e) ∙ g.2 in
              let o : m ≡ 0 = sym h ∙ k in
              let u : (reliance (s.run (s.lock m))).locked ≡ 0 = g.2 ∙ o in
              absurd (no_zero m o w))) ∙ g.2,
        )) y;
    parties = λ q x y. upd_all (λ k f. Good N M (set_lock s n p) k f) s.run p r G q (others_lock p n p f (inl z) q x y);
  }
    where
      no_zero : (m : ℕ) → m ≡ 0 → s.lock m ≢ 0 → ⊥
      no_zero m e w = w (ap s.lock e ∙ I.nowhere)

  pub free_step : (p n : ℕ) (r : Running D) → 1 ≤ p → p ≤ N → 1 ≤ n → (reliance (s.run p)).locked ≡ n → (reliance r).locked ≡ 0
      → ((m : ℕ) → 1 ≤ m → carry (reliance (s.run p)) m ≡ carry (reliance r) m) → Good N M (set_lock s n 0) p r → Inv N M (set_run (set_lock s n 0) p r)
  free_step p n r a b f k l c G = record {
    counts = λ k x. omega (arith, I.counts k x, c k x, carried_upd N M k s.run p r a b);
    beyond = I.beyond;
    trays = I.trays;
    filled = I.filled;
    nowhere = upd_other s.lock n 0 0 (λ e. omega arith) ∙ I.nowhere;
    locks = λ m y. upd_all (λ i v. v ≢ 0 → (1 ≤ v) × (v ≤ N) × ((reliance (upd s.run p r v)).locked ≡ i)) s.lock n 0
        (λ w. absurd (w refl)) m
        (λ d w. let g = I.locks m w in (
          g.0,
          g.1,
          ap (λ t. (reliance t).locked) (upd_other s.run p (s.lock m) r (λ e.
              d (sym g.2 ∙ ap (λ t. (reliance (s.run t)).locked) e ∙ k))) ∙ g.2,
        )) y;
    parties = λ q x y. upd_all (λ k f. Good N M (set_lock s n 0) k f) s.run p r G q
        (others_lock p n 0 f (inr (ap s.lock (sym k) ∙ (I.parties p a b).0.lock_is (λ z. omega arith))) q x y);
  }

  -- an inbox that is p's own, or empty
  pub others_box : (p q₀ v : ℕ) → (q₀ ≡ p) ⊎ (s.inbox q₀ ≡ 0) → Others p (set_inbox s q₀ v)
  others_box p q₀ v h q x y d =
      let g = I.parties q x y in
      let O = g.1 in (
        g.0,
        record {
          into_is = O.into_is;
          source_is = O.source_is;
          wants_is = O.wants_is;
          boxed_is = λ z. upd_other s.inbox q₀ q v (λ e. elim h [
            | inl u ↦ d (e ∙ u)
            | inr u ↦ z (sym (O.boxed_is z) ∙ ap s.inbox e ∙ u)
          ]) ∙ O.boxed_is z;
        },
        g.2,
      )
