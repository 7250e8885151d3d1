-- A trail stays a path from the node of its slot along kids; so every turn of a call keeps the store sound.
use Rattle.std.proofs.Common.{◌≡◌, ℕ, ◌≤◌, true, false, eqb, ◌≢◌, List, [], ◌∷◌, sym, refl, ap, ◌∙◌, subst, inl, inr, true≢false, arith}
use Rattle.std.proofs.lemmas.Bool.{cases_eq, cond_both, eqb-false}
use Rattle.model.specs.Types.{Kid, Kids, Closed, OpenTray, LookForNode, Offer, Job, Makes, Sweeps, ReadNothing, ReadData, ReadFirst, ReadSecond, Running, Idle, Reads, Keeps, Drops, Hands, Fetches, TakesOut, Works}
use Rattle.model.specs.State.{kid_at, Trail, no_trail, along, last_of, longer, shorter, Store, set_trail, set_run, last}
use Rattle.model.specs.Checks.{is_none}
use Rattle.model.specs.Reach.{Reached, by_slot, by_kid, Below, kid, deeper, InTerm, Chain}
use Rattle.model.specs.Inv.{none, reliance, needs_of, tray_node, Good, Inv}
use Rattle.model.specs.Sound.{Into, on_trail, opens, TrailAt, Sound}
use Rattle.model.specs.Existing.{trail_length}
use Rattle.model.proofs.Explicit.{turn_at, down_to}
use Rattle.model.proofs.Sums.{upd_same}
use Rattle.model.proofs.Frames.{upd_all}
use Rattle.model.proofs.Fill.{no_needs}
use Rattle.model.proofs.Reached.{reached_held}
use Rattle.model.proofs.Turn.{Given, w_job, w_keep, w_drop, w_fetch, w_hand, w_fill, keeps_at, at_rest}
use Rattle.model.proofs.Paths.{chain_short}
use Rattle.model.proofs.Stays.{Stands, Frame, turn_frame}
use Rattle.model.proofs.Trays.{Shuts, turn_shuts}

module _ {D : Type 0} (N : ℕ) (s : Store D) where
  pub chain_reached : (r : ℕ) → Reached N s r → (n : ℕ) (ns : List ℕ) → Chain s.kids r n ns → Reached N s n
  chain_reached r R n [] c = subst (Reached N s) (sym c) R
  chain_reached r R n (m ∷ ns) c = by_kid m c.0.0 (chain_reached r R m ns c.1) c.0.1 c.0.2

  chain_kept : (kids' : ℕ → Kids) → ((n : ℕ) → Reached N s n → kids' n ≡ s.kids n) → (r : ℕ) → Reached N s r → (n : ℕ) (ns : List ℕ) → Chain s.kids r n ns → Chain kids' r n ns
  chain_kept kids' h r R n [] c = c
  chain_kept kids' h r R n (m ∷ ns) c = ((c.0.0, ap (λ t. kid_at t c.0.0) (h m (chain_reached r R m ns c.1)) ∙ c.0.1, c.0.2), chain_kept kids' h r R m ns c.1)

  -- what others do, and what the party does besides, leaves a trail standing
  pub trail_kept : (q : ℕ) → 1 ≤ q → q ≤ N → (kids' : ℕ → Kids) (slots' : ℕ → ℕ) (source source' : ℕ) → ((n : ℕ) → Reached N s n → kids' n ≡ s.kids n)
      → ((i : ℕ) → s.slot q i ≢ 0 → source ≢ i → slots' i ≡ s.slot q i) → ((i : ℕ) → 1 ≤ i → source ≢ i → source' ≢ i)
      → (T : Trail) → TrailAt s.kids (s.slot q) source T → TrailAt kids' slots' source' T
  trail_kept q a b kids' slots' source source' h g k no_trail t = tt
  trail_kept q a b kids' slots' source source' h g k (along i n ns) t =
      let e = g i t.3 t.4 in
      (subst (λ r. Chain kids' r n ns) (sym e) (chain_kept kids' h (s.slot q i) (by_slot q i a b t.1 t.2 refl t.3) n ns t.0), t.1, t.2, (λ z. t.3 (sym e ∙ z)), k i t.1 t.4)

  pub trail_reached : (q : ℕ) → 1 ≤ q → q ≤ N → (source : ℕ) (T : Trail) → TrailAt s.kids (s.slot q) source T → is_none T ≡ false → Reached N s (last_of T)
  trail_reached q a b source no_trail t z = absurd (true≢false z)
  trail_reached q a b source (along i n ns) t z = chain_reached (s.slot q i) (by_slot q i a b t.1 t.2 refl t.3) n ns t.0

  pub term_reached : (r : ℕ) → Reached N s r → {x : ℕ} → Below s.kids r x → Reached N s x
  term_reached r R (kid k e z) = by_kid r k R e z
  term_reached r R (deeper l k b e z) = by_kid l k (term_reached r R b) e z

module _ {D : Type 0} (N M : ℕ) (s : Store D) (S : Sound N M s) where
  -- all of a reached node's term is within 1 to M
  pub term_low : (r : ℕ) → Reached N s r → (x : ℕ) → InTerm s.kids r x → (1 ≤ x) × (x ≤ M)
  term_low r R x (inl e) = let h = reached_held N M s S.inv (subst (Reached N s) (sym e) R) in (h.pos, h.low)
  term_low r R x (inr b) = let h = reached_held N M s S.inv (term_reached N s r R b) in (h.pos, h.low)

  trail_within : (q : ℕ) → 1 ≤ q → q ≤ N → (source : ℕ) (T : Trail) → TrailAt s.kids (s.slot q) source T → trail_length T ≤ M
  trail_within q a b source no_trail t = omega arith
  trail_within q a b source (along i n ns) t = chain_short s.kids S.ranked M (s.slot q i) n ns t.0 (term_low (s.slot q i) (by_slot q i a b t.1 t.2 refl t.3))

  -- no trail outgrows M
  pub trail_fits : (q : ℕ) → 1 ≤ q → q ≤ N → trail_length (s.trail q) ≤ M
  trail_fits q a b = trail_within q a b (needs_of (s.run q)).source (s.trail q) (S.trails q a b)

  module _ (p : ℕ) (a : 1 ≤ p) (b : p ≤ N) where
    pub last_reached : on_trail (s.run p) ≡ true → Reached N s (last s p)
    last_reached h = trail_reached N s p a b (needs_of (s.run p)).source (s.trail p) (S.trails p a b) (S.standing p a b h)

    -- a step by p with a frame
    pub sound_frame : (t : Store D) → Inv N M t → Frame N M s t p → Shuts s t p → Sound N M t
    sound_frame t I F H = record {
      inv = I;
      ranked = F.ranked S.outside S.ranked;
      outside = F.outside S.outside;
      into = λ q x y. elim (cases_eq q p) [ inl e ↦ subst (λ k. Into (t.run k)) (sym e) F.into | inr d ↦ subst Into (sym (F.runs q d)) (S.into q x y) ];
      shut = λ q x y o. elim (cases_eq q p) [
        | inl e ↦ subst (λ k. t.tray k ≡ Closed) (sym e) (H.own (ap (λ k. opens (t.run k)) (sym e) ∙ o) (S.shut p a b))
        | inr d ↦ H.others q d (S.shut q x y (ap opens (sym (F.runs q d)) ∙ o))
      ];
      trails = λ q x y. subst (λ f. TrailAt t.kids (t.slot q) (needs_of (t.run q)).source (f q)) (sym F.trails)
          (trail_kept N s q x y t.kids (t.slot q) (needs_of (s.run q)).source (needs_of (t.run q)).source F.kept
          (λ i z d. elim (cases_eq q p) [
            | inl e ↦ subst (λ k. s.slot k i ≢ 0 → (needs_of (s.run k)).source ≢ i → t.slot k i ≡ s.slot k i) (sym e) (F.own_slots i) z d
            | inr g ↦ ap (λ f. f i) (F.slots q g)
          ])
          (λ i h d. elim (cases_eq q p) [
            | inl e ↦ (λ z. (let u : (needs_of (t.run q)).source ≡ 0 = ap (λ k. (needs_of (t.run k)).source) e ∙ F.no_source in omega arith))
            | inr g ↦ (λ z. d (ap (λ f. (needs_of f).source) (sym (F.runs q g)) ∙ z))
          ])
          (s.trail q) (S.trails q x y));
      standing = λ q x y o. subst (λ f. is_none (f q) ≡ false) (sym F.trails) (S.standing q x y (elim (cases_eq q p) [
        | inl e ↦ ap (λ k. on_trail (s.run k)) e ∙ F.on_trail_before (ap (λ k. on_trail (t.run k)) (sym e) ∙ o)
        | inr d ↦ ap on_trail (sym (F.runs q d)) ∙ o
      ]));
    }

    -- p moves on in its call, nothing shared changed
    pub sound_run : (r : Running D) → reliance (s.run p) ≡ none → reliance r ≡ none → opens (s.run p) ≡ false → Good N M s p r → Into r
        → TrailAt s.kids (s.slot p) (needs_of r).source (s.trail p) → (on_trail r ≡ true → is_none (s.trail p) ≡ false) → Sound N M (set_run s p r)
    sound_run r ce cr o G i T U = record {
      inv = at_rest N M s S.inv p a b r ce cr G;
      ranked = S.ranked;
      outside = S.outside;
      into = λ q x y. upd_all (λ k f. Into f) s.run p r i q (λ d. S.into q x y);
      shut = λ q x y. upd_all (λ k f. opens f ≡ false → s.tray k ≡ Closed) s.run p r (λ _. S.shut p a b o) q (λ d. S.shut q x y);
      trails = λ q x y. upd_all (λ k f. TrailAt s.kids (s.slot k) (needs_of f).source (s.trail k)) s.run p r T q (λ d. S.trails q x y);
      standing = λ q x y. upd_all (λ k f. on_trail f ≡ true → is_none (s.trail k) ≡ false) s.run p r U q (λ d. S.standing q x y);
    }

    -- p's trail changes
    pub sound_trail : (T : Trail) → TrailAt s.kids (s.slot p) (needs_of (s.run p)).source T → (on_trail (s.run p) ≡ true → is_none T ≡ false) → Sound N M (set_trail s p T)
    sound_trail T h u =
        let I = S.inv in
        record {
          inv = record { counts = I.counts; beyond = I.beyond; filled = I.filled; nowhere = I.nowhere; locks = I.locks; parties = I.parties; trays = I.trays };
          into = S.into;
          ranked = S.ranked;
          outside = S.outside;
          shut = S.shut;
          trails = λ q x y. upd_all (λ k f. TrailAt s.kids (s.slot k) (needs_of (s.run k)).source f) s.trail p T h q (λ d. S.trails q x y);
          standing = λ q x y. upd_all (λ k f. on_trail (s.run k) ≡ true → is_none f ≡ false) s.trail p T u q (λ d. S.standing q x y);
        }

-- a trail goes on to a kid, or back by one node, and stays one
trail_down : (kids : ℕ → Kids) (slots : ℕ → ℕ) (k : Kid) (source : ℕ) (T : Trail) → TrailAt kids slots source T → is_none T ≡ false → kid_at (kids (last_of T)) k ≢ 0
    → TrailAt kids slots source (longer T (kid_at (kids (last_of T)) k))
trail_down kids slots k source no_trail t z nz = absurd (true≢false z)
trail_down kids slots k source (along i n ns) t z nz = (((k, refl, nz), t.0), t.1, t.2, t.3, t.4)

trail_up : (kids : ℕ → Kids) (slots : ℕ → ℕ) (source : ℕ) (T : Trail) → TrailAt kids slots source T → TrailAt kids slots source (shorter T)
trail_up kids slots source no_trail t = tt
trail_up kids slots source (along i n []) t = tt
trail_up kids slots source (along i n (m ∷ ms)) t = (t.0.1, t.1, t.2, t.3, t.4)

still_some : (T : Trail) (n : ℕ) → is_none T ≡ false → is_none (longer T n) ≡ false
still_some no_trail n z = z
still_some (along i m ns) n z = refl

module _ {D : Type 0} (N M : ℕ) (s : Store D) (S : Sound N M s) (p : ℕ) (a : 1 ≤ p) (b : p ≤ N) where
  -- what is picked
  pub record Picks (x : ℕ) : Type 0 where
    pub node : (j : Job D) → s.run p ≡ Works j LookForNode → (1 ≤ x) × (x ≤ M)
    pub party : (j : Job D) (n : ℕ) → s.run p ≡ Works j (Offer n) → (1 ≤ x) × (x ≤ N)

  given : (x : ℕ) → Picks x → Given N M s S.inv p a b x
  given x g = record { node = g.node; party = g.party; shut = λ j e. ap tray_node (S.shut p a b (ap opens e ∙ begins_shut j)); trail = λ i e. last_reached N M s S p a b (ap on_trail e); slots = λ y c e. subst Into e (S.into p a b) }
    where
      begins_shut : (j : Job D) → opens (Works j OpenTray) ≡ false
      begins_shut (Makes y) = refl
      begins_shut Sweeps = refl

  inv_turn : (info : ℕ → D) (x : ℕ) → Picks x → (r : Running D) → Stands r → s.run p ≡ r → Inv N M (turn_at r s info p x)
  inv_turn info x g (Works j c) h e = keeps_at N M s S.inv p a b info x (given x g) (Works j c) w_job e
  inv_turn info x g (Keeps i) h e = keeps_at N M s S.inv p a b info x (given x g) (Keeps i) w_keep e
  inv_turn info x g (Drops i) h e = keeps_at N M s S.inv p a b info x (given x g) (Drops i) w_drop e
  inv_turn info x g (Fetches i) h e = keeps_at N M s S.inv p a b info x (given x g) (Fetches i) w_fetch e
  inv_turn info x g (Hands i q) h e = keeps_at N M s S.inv p a b info x (given x g) (Hands i q) w_hand e
  inv_turn info x g (TakesOut i v) h e = keeps_at N M s S.inv p a b info x (given x g) (TakesOut i v) w_fill e
  inv_turn info x g Idle h e = S.inv
  inv_turn info x g (Reads ReadNothing) h e = at_rest N M s S.inv p a b (Reads (ReadData (info (last s p)))) (ap reliance e) refl (no_needs N M s S.inv p a b s)
  inv_turn info x g (Reads (ReadData d)) h e = at_rest N M s S.inv p a b (Reads (ReadFirst d (s.kids (last s p)).first)) (ap reliance e) refl (no_needs N M s S.inv p a b s)
  inv_turn info x g (Reads (ReadFirst d i)) h e = at_rest N M s S.inv p a b (Reads (ReadSecond d i (s.kids (last s p)).second)) (ap reliance e) refl (no_needs N M s S.inv p a b s)
  inv_turn info x g (Reads (ReadSecond d i j)) h e = at_rest N M s S.inv p a b Idle (ap reliance e) refl (no_needs N M s S.inv p a b s)
  inv_turn info x g _ h e = absurd h

  -- any turn of a call that is no Down and no walk
  pub sound_turn : (info : ℕ → D) (x : ℕ) → Picks x → Stands (s.run p) → Sound N M (turn_at (s.run p) s info p x)
  sound_turn info x g h = sound_frame N M s S p a b (turn_at (s.run p) s info p x) (inv_turn info x g (s.run p) h refl)
      (turn_frame N M s S.inv p a b (S.into p a b) info x h) (turn_shuts N M s S.inv p a b info x h)

  pub up_trail : TrailAt s.kids (s.slot p) (needs_of (s.run p)).source (shorter (s.trail p))
  up_trail = trail_up s.kids (s.slot p) (needs_of (s.run p)).source (s.trail p) (S.trails p a b)

  -- a Down's step, of a call or of a walk
  pub sound_down : (k : Kid) (r : Running D) → on_trail (s.run p) ≡ true → reliance (s.run p) ≡ none → reliance r ≡ none → opens (s.run p) ≡ false → (needs_of (s.run p)).source ≡ 0 → Good N M s p r → Into r → (needs_of r).source ≡ 0
      → Sound N M (set_run (down_to s p (kid_at (s.kids (last s p)) k)) p r)
  sound_down k r on ce cr o sz G i rz =
      let n = kid_at (s.kids (last s p)) k in
      let T : Trail = longer (s.trail p) n in
      let es : (needs_of (s.run p)).source ≡ (needs_of r).source = sz ∙ sym rz in
      let run = sound_run N M s S p a b r ce cr o G i (subst (λ z. TrailAt s.kids (s.slot p) z (s.trail p)) es (S.trails p a b)) (λ _. S.standing p a b on) in
      cond_both (eqb n 0) s (set_trail s p T) (λ u. Sound N M (set_run u p r)) (λ _. run)
      (λ z. sound_trail N M (set_run s p r) run p a b T
      (subst (λ v. TrailAt s.kids (s.slot p) v T) (es ∙ ap (λ v. (needs_of v).source) (sym (upd_same s.run p r)))
      (trail_down s.kids (s.slot p) k (needs_of (s.run p)).source (s.trail p) (S.trails p a b) (S.standing p a b on) (eqb-false n 0 z)))
      (λ _. still_some (s.trail p) n (S.standing p a b on)))
