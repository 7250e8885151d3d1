-- How many answers go before the first n.
use Rattle.std.specs.Prelude.{◌≡◌, ℕ, zero, suc, ◌<◌, ◌≤◌, ◌==◌, ◌≢◌, refl}
use Rattle.std.proofs.Common.{sym, subst, ◌∙◌, arith}
use Rattle.std.proofs.lemmas.Bool.{cond_both, eq-eqb, eqb-true}
use Rattle.orders.specs.Rounds.{before}

pub before_le : (w : ℕ → ℕ) (n m k : ℕ) → k < m → w k ≡ n → before w n m ≤ k
unfolding before
before_le w n zero k h e = omega arith
before_le w n (suc m) zero h e = rw (eq-eqb (w 0) n e) (omega arith)
before_le w n (suc m) (suc k) h e =
    cond_both (w 0 == n) 0 (suc (before (λ i. w (suc i)) n m)) (λ x. x ≤ suc k)
    (λ _. omega arith) (λ _. let l : before (λ i. w (suc i)) n m ≤ k = before_le (λ i. w (suc i)) n m k (omega arith) e in omega arith)

pub before_at : (w : ℕ → ℕ) (n m : ℕ) → before w n m < m → w (before w n m) ≡ n
unfolding before
before_at w n zero h = omega arith
before_at w n (suc m) h =
    cond_both (w 0 == n) 0 (suc (before (λ i. w (suc i)) n m)) (λ x. x < suc m → w x ≡ n)
    (λ e _. eqb-true (w 0) n e) (λ _ l. before_at (λ i. w (suc i)) n m (omega arith)) h

-- one answer on, every other number has fewer before it
pub before_sooner : (w v : ℕ → ℕ) (n m : ℕ) → ((k : ℕ) → v k ≡ w (suc k)) → (n ≢ w 0) → before w n m < m → before v n m < before w n m
before_sooner w v n m moved other within = go (before w n m) refl
  where
    go : (j : ℕ) → before w n m ≡ j → before v n m < before w n m
    go zero e = absurd (other (sym (let P : ℕ → Type 0 = λ x. w x ≡ n in subst P e (before_at w n m within))))
    go (suc i) e =
        let at : w (suc i) ≡ n = let P : ℕ → Type 0 = λ x. w x ≡ n in subst P e (before_at w n m within) in
        let l : before v n m ≤ i = before_le v n m i (omega arith) (moved i ∙ at) in
        omega arith
