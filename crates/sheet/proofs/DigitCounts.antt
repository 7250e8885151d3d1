-- A number of few digits is small.
use Rattle.std.proofs.Common.{ℕ, ◌^◌, ◌<◌, ◌≤◌, zero, arith}
use Rattle.std.proofs.Math.Nat.{pow-le-pow_right}

pub of_nine_digits : (n k : ℕ) → n < 10 ^ k → k ≤ 9 → n < 1000000000
of_nine_digits n k few h = let ten : zero < 10 = omega arith in let wide : 10 ^ k ≤ 10 ^ 9 = pow-le-pow_right ten h in omega arith

pub of_eight_digits : (n k : ℕ) → n < 10 ^ k → k ≤ 8 → n < 100000000
of_eight_digits n k few h = let ten : zero < 10 = omega arith in let wide : 10 ^ k ≤ 10 ^ 8 = pow-le-pow_right ten h in omega arith
