-- How the number of references to a node moves when one word changes.
use Rattle.std.proofs.Common.{◌≡◌, ℕ, ◌+◌, ◌≤◌, ap, arith}
use Rattle.model.specs.Fun.{upd, sum_to, is}
use Rattle.model.specs.Types.{Kid, First, Second, Third, Kids, Tray, Running}
use Rattle.model.specs.State.{kid_at, put_kid}
use Rattle.model.specs.Inv.{Reliance, reliance, tray_node, occ, carry, in_slots, in_boxes, in_trays, carried, in_kids}
use Rattle.model.proofs.Sums.{upd_same, upd_other, is_same, sum_to_one, sum_to_at, sum_to_two}

-- a sum over a function with one point changed, through any measure of a point
pub sum_upd : {A : Type 0} (N : ℕ) (h : A → ℕ) (f : ℕ → A) (q : ℕ) (v : A) → 1 ≤ q → q ≤ N → sum_to N (λ k. h (upd f q v k)) + h (f q) ≡ sum_to N (λ k. h (f k)) + h v
sum_upd N h f q v a b =
    let d = sum_to_one N (λ k. h (f k)) (λ k. h (upd f q v k)) q a b (λ k z. ap h (upd_other f q k v z)) in
    let e : h (upd f q v q) ≡ h v = ap h (upd_same f q v) in
    omega arith

module _ (N M n : ℕ) where
  pub boxes_upd : (f : ℕ → ℕ) (q v : ℕ) → 1 ≤ q → q ≤ N → in_boxes N (upd f q v) n + is (f q) n ≡ in_boxes N f n + is v n
  unfolding in_boxes
  boxes_upd f q v a b = sum_upd N (λ x. is x n) f q v a b

  pub trays_upd : (f : ℕ → Tray) (q : ℕ) (t : Tray) → 1 ≤ q → q ≤ N → in_trays N (upd f q t) n + is (tray_node (f q)) n ≡ in_trays N f n + is (tray_node t) n
  unfolding in_trays
  trays_upd f q t a b = sum_upd N (λ x. is (tray_node x) n) f q t a b

  pub carried_upd : {D : Type 0} (f : ℕ → Running D) (q : ℕ) (r : Running D) → 1 ≤ q → q ≤ N → carried N (upd f q r) n + carry (reliance (f q)) n ≡ carried N f n + carry (reliance r) n
  unfolding carried
  carried_upd f q r a b = sum_upd N (λ x. carry (reliance x) n) f q r a b

  occ_put : (ks : Kids) (k : Kid) (v : ℕ) → occ (put_kid ks k v) n + is (kid_at ks k) n ≡ occ ks n + is v n
  unfolding occ
  occ_put ks First v = omega arith
  occ_put ks Second v = omega arith
  occ_put ks Third v = omega arith

  pub kids_upd : (f : ℕ → Kids) (m : ℕ) (k : Kid) (v : ℕ) → 1 ≤ m → m ≤ M → in_kids M (upd f m (put_kid (f m) k v)) n + is (kid_at (f m) k) n ≡ in_kids M f n + is v n
  unfolding in_kids
  kids_upd f m k v a b =
      let d = sum_upd M (λ x. occ x n) f m (put_kid (f m) k v) a b in
      let e = occ_put (f m) k v in
      omega arith

  pub slots_upd : (f : ℕ → ℕ → ℕ) (q i v : ℕ) → 1 ≤ q → q ≤ N → 1 ≤ i → i ≤ 8 → in_slots N (upd f q (upd (f q) i v)) n + is (f q i) n ≡ in_slots N f n + is v n
  unfolding in_slots
  slots_upd f q i v a b c d =
      let x = sum_upd N (λ (g : ℕ → ℕ). sum_to 8 (λ j. is (g j) n)) f q (upd (f q) i v) a b in
      let y = sum_upd 8 (λ x. is x n) (f q) i v c d in
      omega arith

  pub carried_at : {D : Type 0} (f : ℕ → Running D) (q : ℕ) → 1 ≤ q → q ≤ N → carry (reliance (f q)) n ≤ carried N f n
  unfolding carried
  carried_at f q a b = sum_to_at N (λ k. carry (reliance (f k)) n) q a b

  pub carried_two : {D : Type 0} (f : ℕ → Running D) (p q : ℕ) → 1 ≤ p → p ≤ N → 1 ≤ q → q ≤ N → (p ≡ q → ⊥) → carry (reliance (f p)) n + carry (reliance (f q)) n ≤ carried N f n
  unfolding carried
  carried_two f p q a b c d h = sum_to_two N (λ k. carry (reliance (f k)) n) p q a b c d h

  pub trays_at : (f : ℕ → Tray) (q : ℕ) → 1 ≤ q → q ≤ N → tray_node (f q) ≡ n → 1 ≤ in_trays N f n
  unfolding in_trays
  trays_at f q a b e = omega (arith, sum_to_at N (λ k. is (tray_node (f k)) n) q a b, is_same (tray_node (f q)) n e)

  pub boxes_at : (f : ℕ → ℕ) (q : ℕ) → 1 ≤ q → q ≤ N → f q ≡ n → 1 ≤ in_boxes N f n
  unfolding in_boxes
  boxes_at f q a b e = omega (arith, sum_to_at N (λ k. is (f k) n) q a b, is_same (f q) n e)

  pub slots_at : (f : ℕ → ℕ → ℕ) (q i : ℕ) → 1 ≤ q → q ≤ N → 1 ≤ i → i ≤ 8 → f q i ≡ n → 1 ≤ in_slots N f n
  unfolding in_slots
  slots_at f q i a b c d e = omega (arith, sum_to_at N (λ k. sum_to 8 (λ j. is (f k j) n)) q a b, sum_to_at 8 (λ j. is (f q j) n) i c d, is_same (f q i) n e)

  at_occ : (ks : Kids) (k : Kid) → kid_at ks k ≡ n → 1 ≤ occ ks n
  unfolding occ
  at_occ ks First e = omega (arith, is_same ks.first n e)
  at_occ ks Second e = omega (arith, is_same ks.second n e)
  at_occ ks Third e = omega (arith, is_same ks.third n e)

  pub kids_at : (f : ℕ → Kids) (m : ℕ) (k : Kid) → 1 ≤ m → m ≤ M → kid_at (f m) k ≡ n → 1 ≤ in_kids M f n
  unfolding in_kids
  kids_at f m k a b e = omega (arith, sum_to_at M (λ j. occ (f j) n) m a b, at_occ (f m) k e)

  pub carry_one : (c : Reliance) → c.one ≡ n → 1 ≤ carry c n
  unfolding carry
  carry_one c e = omega (arith, is_same c.one n e)

  pub carry_other : (c : Reliance) → c.other ≡ n → 1 ≤ carry c n
  unfolding carry
  carry_other c e = omega (arith, is_same c.other n e)
