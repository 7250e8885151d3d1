-- Some choice of kids is exactly the first n.
use Rattle.std.specs.Prelude.{◌≡◌, ℕ, Bool, true, nat_le}
use Rattle.std.specs.Cmp.{bool_eq_equiv}
use Rattle.std.proofs.lemmas.Bool.{and_from}
use Rattle.kinds.specs.Codes.{first_given}
use Rattle.kinds.specs.declared.kids.PerKid.{PerKid}

pub first_kids : ℕ → PerKid Bool
first_kids n = record { first = nat_le 1 n; second = nat_le 2 n; third = nat_le 3 n }

pub first_kids_given : (n : ℕ) → first_given n (first_kids n) ≡ true
unfolding first_kids
first_kids_given n = and_from _ _ (bool_eq_equiv.refl (nat_le 1 n)) (and_from _ _ (bool_eq_equiv.refl (nat_le 2 n)) (bool_eq_equiv.refl (nat_le 3 n)))
