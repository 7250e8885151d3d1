-- The steps that fill or empty a slot: the end of Make, Drop, Hand, Fetch; and GivenKids.
use Rattle.std.proofs.Common.{◌≡◌, ℕ, suc, ◌+◌, ◌-◌, ◌<◌, ◌≤◌, ◌≢◌, sym, refl, ap, ◌∙◌, subst, inl, inr, arith}
use Rattle.std.proofs.lemmas.Bool.{cases_eq}
use Rattle.model.specs.Fun.{upd, is}
use Rattle.model.specs.Types.{Kid, Holding, WriteData, CountKid, LinkKid, Plan, Makes, Idle, Drops, Works}
use Rattle.model.specs.State.{position, kid_at, put_kid, Store, set_count, set_kid, set_slot, set_run}
use Rattle.model.specs.Inv.{none, reliance_at, reliance, needs_job, tray_node, carry, in_slots, in_boxes, in_trays, carried, in_kids, Own, Good, Bare, Inv}
use Rattle.model.proofs.Gives.{first_by, after_by}
use Rattle.model.proofs.Explicit.{made, give_first, give_after, place_step, turn_at}
use Rattle.model.proofs.Sums.{upd_same, upd_other, is_same, is_other}
use Rattle.model.proofs.Refs.{carried_at, carry_one, carried_upd, slots_upd, slots_at, kids_upd}
use Rattle.model.proofs.Frames.{upd_all, alone_refs, others_count, others_kid, others_slot, bare_count, bare_kid, assemble, count_step}
use Rattle.model.proofs.Make.{carry_is, idle_claim, good, below, position_same, put_same, put_other, position_pos, position_low}

-- p has built v up to the kid h: t is the store with v's words written, where p's run is not yet moved on
pub record Built {D : Type 0} (N M : ℕ) (s t : Store D) (p : ℕ) (x : Plan D) (v h : ℕ) : Type 0 where
  pub same_run : t.run ≡ s.run
  pub same_lock : t.lock ≡ s.lock
  pub same_slot : t.slot ≡ s.slot
  pub node : (1 ≤ v) × (v ≤ M)
  pub one : t.count v ≡ 1
  pub bare : (k : Kid) → h ≤ position k → kid_at (t.kids v) k ≡ 0
  pub none_given : (k : Kid) → position k < h → kid_at x.kids k ≡ 0 → kid_at (t.kids v) k ≡ 0
  pub given : (k : Kid) → position k < h → kid_at x.kids k ≢ 0 → kid_at (t.kids v) k ≡ t.slot p (kid_at x.kids k)
  pub counts : (n : ℕ) → 1 ≤ n → t.count n + carry (reliance (s.run p)) n ≡ in_slots N t.slot n + in_boxes N t.inbox n + in_trays N t.tray n + carried N s.run n + in_kids M t.kids n + is v n
  pub beyond : (n : ℕ) → M < n → t.count n ≡ 0
  pub others : (q : ℕ) → 1 ≤ q → q ≤ N → q ≢ p → Good N M t q (s.run q)
  pub trays : (q : ℕ) → 1 ≤ q → q ≤ N → tray_node (t.tray q) ≢ 0 → Bare t.count t.kids (tray_node (t.tray q))
  pub filled : (q u : ℕ) → t.tray q ≡ Holding u → 1 ≤ u
  pub own : Own (t.slot p) (t.inbox p) (needs_job (Makes x))
  pub unlocked : (reliance (s.run p)).locked ≡ 0
  pub into : 1 ≤ x.slot

module _ {D : Type 0} (N M : ℕ) (s : Store D) (I : Inv N M s) (p : ℕ) (a : 1 ≤ p) (b : p ≤ N) where
  none_is : (n : ℕ) → 1 ≤ n → carry none n ≡ 0
  none_is n h = omega (arith, carry_is none n, is_other 0 n (omega arith))

  module _ (t : Store D) (x : Plan D) (v : ℕ) where
    -- one kid more that is not wanted
    skip : (k : Kid) → Built N M s t p x v (position k) → kid_at x.kids k ≡ 0 → Built N M s t p x v (suc (position k))
    skip k B z = record {
      same_run = B.same_run;
      same_lock = B.same_lock;
      same_slot = B.same_slot;
      node = B.node;
      one = B.one;
      counts = B.counts;
      beyond = B.beyond;
      others = B.others;
      trays = B.trays;
      filled = B.filled;
      own = B.own;
      unlocked = B.unlocked;
      into = B.into;
      bare = λ i h. B.bare i (omega arith);
      none_given = λ i h y. elim (cases_eq (position i) (position k)) [ inl d ↦ position_same (λ g. kid_at (t.kids v) g ≡ 0) i k d (B.bare k (omega arith)) | inr d ↦ B.none_given i (omega arith) y ];
      given = λ i h y. elim (cases_eq (position i) (position k)) [ inl d ↦ absurd (y (position_same (λ g. kid_at x.kids g ≡ 0) i k d z)) | inr d ↦ B.given i (omega arith) y ];
    }

    to_more : (k : Kid) → Built N M s t p x v (position k) → kid_at x.kids k ≢ 0 → Inv N M (set_run t p (Works (Makes x) (CountKid v k)))
    to_more k B z =
        assemble N M s I t p (Works (Makes x) (CountKid v k)) B.same_run B.same_lock
        (λ n h. let er : carried N (upd t.run p (Works (Makes x) (CountKid v k))) n ≡ carried N (upd s.run p (Works (Makes x) (CountKid v k))) n = ap (λ f. carried N (upd f p (Works (Makes x) (CountKid v k))) n) B.same_run in
        omega (arith, er, B.counts n h, carried_upd N M n s.run p (Works (Makes x) (CountKid v k)) a b, carry_is (reliance_at (CountKid v k)) n, is_other 0 n (omega arith)))
        B.beyond (sym B.unlocked)
        (record { within = B.node.1; lock_is = λ z. absurd (z refl); empty_is = λ z. absurd (z refl); one_is = λ _. B.one; bare = λ i h _. B.bare i h; pend_is = λ z. absurd (z refl); put_is = λ z. absurd (z refl); held_is = λ z. absurd (z refl); none_given = B.none_given; given = B.given }, B.own, (B.node.0, z))
        B.others B.trays B.filled

    to_made : Built N M s t p x v 4 → Inv N M (made x t p v)
    to_made B =
        let o = B.own.into_is (let h = B.into in omega arith) in
        let t' = set_slot t p x.slot v in
        assemble N M s I t' p Idle B.same_run B.same_lock
        (λ n h. let er : carried N (upd t.run p Idle) n ≡ carried N (upd s.run p Idle) n = ap (λ f. carried N (upd f p Idle) n) B.same_run in
        omega (arith, er, B.counts n h, carried_upd N M n s.run p Idle a b, none_is n h, slots_upd N M n t.slot p x.slot v a b B.into o.0, ap (λ k. is k n) o.1, is_other 0 n (omega arith)))
        B.beyond (sym B.unlocked)
        (idle_claim N M s I p a b t' (λ k. 0), record { into_is = λ z. absurd (z refl); source_is = λ z. absurd (z refl); wants_is = λ k z. absurd (z refl); boxed_is = λ z. absurd (z refl) }, tt)
        (others_slot N M s I p x.slot v t B.same_slot B.others) B.trays B.filled

    from_first_lem : Built N M s t p x v 1 → Inv N M (give_first x t p v)
    from_first_lem = first_by (Inv N M) x t p v (Built N M s t p x v) to_made to_more skip

    from_after : (k : Kid) → Built N M s t p x v (suc (position k)) → Inv N M (give_after x t p v k)
    from_after = after_by (Inv N M) x t p v (Built N M s t p x v) to_made to_more skip

  pub at_WriteData : (x : Plan D) (v y : ℕ) → s.run p ≡ Works (Makes x) (WriteData v) → 1 ≤ x.slot → Inv N M (place_step (WriteData v) (Makes x) s p y)
  at_WriteData x v y e i =
      let g = good N M s I p a b (Makes x) (WriteData v) e in
      from_first_lem s x v (record {
        same_run = refl;
        same_lock = refl;
        same_slot = refl;
        node = (g.2.0, g.0.within);
        one = g.0.one_is (let h = g.2.0 in omega arith);
        bare = λ k h. g.0.bare k h (position_low k);
        none_given = λ k h. absurd (let u = position_pos k in omega arith);
        given = λ k h. absurd (let u = position_pos k in omega arith);
        counts = λ n h. omega (arith, I.counts n h, ap (λ r. carry (reliance r) n) e, carry_is (reliance_at (WriteData v)) n, is_other 0 n (omega arith));
        beyond = I.beyond;
        others = λ q x y d. I.parties q x y;
        trays = I.trays;
        filled = I.filled;
        own = g.1;
        unlocked = ap (λ r. (reliance r).locked) e;
        into = i;
      })

  pub at_CountKid : (x : Plan D) (v : ℕ) (k : Kid) (y : ℕ) → s.run p ≡ Works (Makes x) (CountKid v k) → Inv N M (place_step (CountKid v k) (Makes x) s p y)
  at_CountKid x v k y e =
      let g = good N M s I p a b (Makes x) (CountKid v k) e in
      let kz = g.2.1 in
      let w = s.slot p (kid_at x.kids k) in
      let h8 = g.1.wants_is k kz in
      let w1 : 1 ≤ w = (let u : w ≢ 0 = h8.1 in omega arith) in
      let sl = slots_at N M w s.slot p (kid_at x.kids k) a b (omega arith) h8.0 refl in
      let c1 = I.counts w w1 in
      let vz : v ≢ 0 = (let u = g.2.0 in omega arith) in
      let v1 : s.count v ≡ 1 = g.0.one_is vz in
      let cv : 1 ≤ carry (reliance (s.run p)) v = subst (λ r. 1 ≤ carry (reliance r) v) (sym e) (carry_one N M v (reliance_at (CountKid v k)) refl) in
      let ne : v ≢ w = λ q. (let c2 : s.count v ≡ s.count w = ap s.count q in let c3 = I.counts v g.2.0 in let c4 = carried_at N M v s.run p a b in let c5 : in_slots N s.slot v ≡ in_slots N s.slot w = ap (in_slots N s.slot) q in omega arith) in
      count_step N M s I p w (s.count w + 1) (Works (Makes x) (LinkKid v k w)) a b (below N M s I p a b w w1 (omega arith)) (alone_refs N M s I p w a b w1 (omega arith))
      (sym (ap (λ r. (reliance r).locked) e))
      (λ m h. upd_all (λ i u. 1 ≤ i → u + carry (reliance (s.run p)) i ≡ s.count i + carry (reliance_at (LinkKid v k w)) i) s.count w (s.count w + 1)
      (λ _. omega (arith, carry_is (reliance_at (LinkKid v k w)) w, ap (λ r. carry (reliance r) w) e, carry_is (reliance_at (CountKid v k)) w, is_same w w refl, is_other 0 w (omega arith)))
      m (λ d _. omega (arith, carry_is (reliance_at (LinkKid v k w)) m, ap (λ r. carry (reliance r) m) e, carry_is (reliance_at (CountKid v k)) m, is_other w m (λ y. d (sym y)), is_other 0 m (omega arith))) h)
      (record { within = g.0.within; lock_is = λ z. absurd (z refl); empty_is = λ z. absurd (z refl); one_is = λ z. upd_other s.count w v (s.count w + 1) ne ∙ v1; bare = g.0.bare; pend_is = λ z. absurd (z refl); put_is = λ _. refl; held_is = λ z. absurd (z refl); none_given = g.0.none_given; given = g.0.given }, g.1, ((g.2.0, w1), kz))

  pub at_LinkKid : (x : Plan D) (v : ℕ) (k : Kid) (w y : ℕ) → s.run p ≡ Works (Makes x) (LinkKid v k w) → 1 ≤ x.slot → Inv N M (place_step (LinkKid v k w) (Makes x) s p y)
  at_LinkKid x v k w y e i =
      let g = good N M s I p a b (Makes x) (LinkKid v k w) e in
      let v1 : 1 ≤ v = g.2.0.0 in
      let wz : w ≢ 0 = (let h = g.2.0.1 in omega arith) in
      let cv : 1 ≤ carry (reliance (s.run p)) v = subst (λ r. 1 ≤ carry (reliance r) v) (sym e) (carry_one N M v (reliance_at (LinkKid v k w)) refl) in
      let A = alone_refs N M s I p v a b v1 (omega arith) in
      let u = upd_same s.kids v (put_kid (s.kids v) k w) in
      let old : kid_at (s.kids v) k ≡ 0 = g.0.bare k (omega arith) (position_low k) in
      from_after (set_kid s v k w) x v k (record {
        same_run = refl;
        same_lock = refl;
        same_slot = refl;
        node = (v1, g.0.within);
        one = g.0.one_is (omega arith);
        bare = λ i h. ap (λ t. kid_at t i) u ∙ put_other (s.kids v) i k w (λ q. omega arith) ∙ g.0.bare i (omega arith) (position_low i);
        none_given = λ i h z. elim (cases_eq (position i) (position k)) [
          | inl d ↦ absurd (g.2.1 (position_same (λ q. kid_at x.kids q ≡ 0) k i (sym d) z))
          | inr d ↦ ap (λ t. kid_at t i) u ∙ put_other (s.kids v) i k w d ∙ g.0.none_given i (omega arith) z
        ];
        given = λ i h z. elim (cases_eq (position i) (position k)) [
          | inl d ↦ position_same (λ q. kid_at (upd s.kids v (put_kid (s.kids v) k w) v) q ≡ s.slot p (kid_at x.kids q)) i k d (ap (λ t. kid_at t k) u ∙ put_same (s.kids v) k w ∙ sym (g.0.put_is wz))
          | inr d ↦ ap (λ t. kid_at t i) u ∙ put_other (s.kids v) i k w d ∙ g.0.given i (omega arith) z
        ];
        counts = λ n h. omega (arith, I.counts n h, ap (λ r. carry (reliance r) n) e, carry_is (reliance_at (LinkKid v k w)) n, kids_upd N M n s.kids v k w v1 g.0.within, ap (λ q. is q n) old, is_other 0 n (omega arith));
        beyond = I.beyond;
        others = others_kid N M s I p v k w A;
        trays = λ q x y z. bare_kid N M s I p v k w A q x y (I.trays q x y z);
        filled = I.filled;
        own = g.1;
        unlocked = ap (λ r. (reliance r).locked) e;
        into = i;
      })

  pub no_needs : (t : Store D) → Good N M t p Idle
  no_needs t = (idle_claim N M s I p a b t (λ k. 0), record { into_is = λ z. absurd (z refl); source_is = λ z. absurd (z refl); wants_is = λ k z. absurd (z refl); boxed_is = λ z. absurd (z refl) }, tt)

  pub at_drop : (info : ℕ → D) (i y : ℕ) → s.run p ≡ Drops i → Inv N M (turn_at (Drops i) s info p y)
  at_drop info i y e =
      let g : Good N M s p (Drops i) = subst (Good N M s p) e (I.parties p a b) in
      let i1 : 1 ≤ i = g.2 in
      let h = g.1.source_is (omega arith) in
      let w = s.slot p i in
      let w1 : 1 ≤ w = (let z : w ≢ 0 = h.1 in omega arith) in
      let sl = slots_at N M w s.slot p i a b i1 h.0 refl in
      let c1 = I.counts w w1 in
      let A = alone_refs N M s I p w a b w1 (omega arith) in
      let ce : reliance (s.run p) ≡ none = ap reliance e in
      let t = set_slot (set_count s w (s.count w - 1)) p i 0 in
      assemble N M s I t p Idle refl refl
      (λ n x. upd_all (λ m v. 1 ≤ m → v ≡ in_slots N (upd s.slot p (upd (s.slot p) i 0)) m + in_boxes N s.inbox m + in_trays N s.tray m + carried N (upd s.run p Idle) m + in_kids M s.kids m) s.count w (s.count w - 1)
      (λ _. omega (arith, slots_upd N M w s.slot p i 0 a b i1 h.0, is_same w w refl, is_other 0 w (omega arith), carried_upd N M w s.run p Idle a b, ap (λ c. carry c w) ce))
      n (λ d _. omega (arith, I.counts n x, slots_upd N M n s.slot p i 0 a b i1 h.0, is_other w n (λ q. d (sym q)), is_other 0 n (omega arith), carried_upd N M n s.run p Idle a b, ap (λ c. carry c n) ce)) x)
      (λ n x. upd_other s.count w n (s.count w - 1) (λ q. (let z = below N M s I p a b w w1 (omega arith) in omega arith)) ∙ I.beyond n x)
      (sym (ap (λ c. c.locked) ce)) (no_needs t)
      (others_slot N M s I p i 0 (set_count s w (s.count w - 1)) refl (others_count N M s I p w (s.count w - 1) A))
      (λ q x y z. bare_count N M s I p w (s.count w - 1) A q x y (I.trays q x y z)) I.filled
