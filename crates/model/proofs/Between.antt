-- Numbers between two bounds.
use Rattle.std.proofs.Common.{◌≡◌, ℕ, ◌≤◌, true, leb}
use Rattle.std.proofs.lemmas.Bool.{and_parts, and_from, leb-true, le-leb}
use Rattle.model.specs.Steps.{between}

pub within : (low high n : ℕ) → between low high n ≡ true → (low ≤ n) × (n ≤ high)
within low high n h = let u = and_parts (leb low n) (leb n high) h in (leb-true low n u.0, leb-true n high u.1)

pub is_within : (low high n : ℕ) → low ≤ n → n ≤ high → between low high n ≡ true
is_within low high n h k = and_from (leb low n) (leb n high) (le-leb low n h) (le-leb n high k)
