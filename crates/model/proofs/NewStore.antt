-- A new store is sound.
use Rattle.std.proofs.Common.{◌≡◌, ℕ, ◌+◌, ◌≤◌, sym, refl, ◌∙◌, true≢false, arith}
use Rattle.model.specs.Fun.{sum_to, is}
use Rattle.model.specs.Types.{Kid, First, Second, Third, Closed, Idle}
use Rattle.model.specs.State.{kid_at, empty_kids, new_store}
use Rattle.model.specs.Inv.{none, tray_node, occ, carry, in_slots, in_boxes, in_trays, carried, in_kids, Good, Inv}
use Rattle.model.specs.Sound.{Sound}
use Rattle.model.proofs.Sums.{is_other, sum_to_none}
use Rattle.model.proofs.Make.{carry_is}

module _ (D : Type 0) (N M : ℕ) where
  no_slots : (n : ℕ) → 1 ≤ n → in_slots N (new_store {D = D}).slot n ≡ 0
  unfolding in_slots
  no_slots n h = sum_to_none N (λ q. sum_to 8 (λ i. is 0 n)) (λ q a b. sum_to_none 8 (λ i. is 0 n) (λ i c d. is_other 0 n (omega arith)))

  no_boxes : (n : ℕ) → 1 ≤ n → in_boxes N (new_store {D = D}).inbox n ≡ 0
  unfolding in_boxes
  no_boxes n h = sum_to_none N (λ q. is 0 n) (λ q a b. is_other 0 n (omega arith))

  no_trays : (n : ℕ) → 1 ≤ n → in_trays N (new_store {D = D}).tray n ≡ 0
  unfolding in_trays
  no_trays n h = sum_to_none N (λ q. is (tray_node Closed) n) (λ q a b. is_other 0 n (omega arith))

  no_carriers : (n : ℕ) → 1 ≤ n → carried N (new_store {D = D}).run n ≡ 0
  unfolding carried
  no_carriers n h = sum_to_none N (λ q. carry none n) (λ q a b. carry_is none n ∙ (let z = is_other 0 n (omega arith) in omega arith))

  no_kids_named : (n : ℕ) → 1 ≤ n → in_kids M (new_store {D = D}).kids n ≡ 0
  unfolding in_kids occ
  no_kids_named n h = sum_to_none M (λ m. is 0 n + is 0 n + is 0 n) (λ m a b. let z = is_other 0 n (omega arith) in omega arith)

  idle_good : (q : ℕ) → Good N M (new_store {D = D}) q Idle
  idle_good q = (
    record {
      within = omega arith;
      lock_is = λ z. absurd (z refl);
      empty_is = λ z. absurd (z refl);
      one_is = λ z. absurd (z refl);
      bare = λ k x y. absurd (omega arith);
      pend_is = λ z. absurd (z refl);
      put_is = λ z. absurd (z refl);
      held_is = λ z. absurd (z refl);
      none_given = λ k x. absurd (omega arith);
      given = λ k x. absurd (omega arith);
    },
    record { into_is = λ z. absurd (z refl); source_is = λ z. absurd (z refl); wants_is = λ k z. absurd (z refl); boxed_is = λ z. absurd (z refl) },
    tt,
  )

  new_inv : Inv N M (new_store {D = D})
  new_inv = record {
    counts = λ n h. (let c1 = no_slots n h in let c2 = no_boxes n h in let c3 = no_trays n h in let c4 = no_carriers n h in let c5 = no_kids_named n h in omega arith);
    beyond = λ n h. refl;
    filled = λ q v e. (let w : ◌≡◌ {A = ℕ} 0 1 = cc in absurd (omega arith));
    nowhere = refl;
    locks = λ n z. absurd (z refl);
    parties = λ q a b. idle_good q;
    trays = λ q a b z. absurd (z refl);
  }

  pub new_sound : Sound N M (new_store {D = D})
  new_sound = record {
    inv = new_inv;
    into = λ q a b. tt;
    ranked = record { rank = λ n. 0; falls = λ m k z. absurd (z (kid_none k)) };
    outside = λ n k h. kid_none k;
    shut = λ q a b o. refl;
    trails = λ q a b. tt;
    standing = λ q a b o. absurd (true≢false (sym o));
  }
    where
      kid_none : (k : Kid) → kid_at empty_kids k ≡ 0
      kid_none First = refl
      kid_none Second = refl
      kid_none Third = refl
