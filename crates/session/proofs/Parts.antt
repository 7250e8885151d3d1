-- The first entries of a list that has an entry for each node, and what their change makes of the whole.
use Rattle.std.proofs.Common.{◌≡◌, ℕ, suc, ◌≤◌, Bool, true, false, ltb, min, List, ◌++◌, length, take, drop, sym, refl, ap, ◌∙◌, arith}
use Rattle.std.proofs.lemmas.List.{take_all, drop_all, length-take-le, take-append-drop, append-nil, ext_get_or}
use Rattle.std.proofs.lemmas.Bool.{ltb-false, ltb-true, lt-ltb, le-ltb}
use Rattle.model.specs.Entries.{nth}

-- a list that is cut to M entries is as much too short for M as it was
cut_short : (k M : ℕ) (b : Bool) → ltb k M ≡ b → ltb (min k M) M ≡ b
cut_short k M true e = let h = ltb-true k M e in lt-ltb (min k M) M (omega (arith, h))
cut_short k M false e = let h = ltb-false k M e in le-ltb (min k M) M (omega (arith, h))

-- lists of one length with the same entries
pub same_list : {T : Type 0} (d : T) (xs ys : List T) → length xs ≡ length ys → ((n : ℕ) → nth d xs n ≡ nth d ys n) → xs ≡ ys
same_list d xs ys l h = ext_get_or d xs ys l (λ i b. h (suc i))

-- so many as k says of the M entries of the list
module _ {T : Type 0} (k M n : ℕ) (xs : List T) (long : length xs ≡ M) (cut : n ≡ min k (length xs)) where
  low : n ≤ length xs
  low = omega (arith, cut)

  pub part_length : length (take n xs) ≡ n
  part_length = length-take-le n xs low

  pub part_short : ltb (length (take n xs)) M ≡ ltb k M
  part_short = ap (λ j. ltb j M) (part_length ∙ cut ∙ ap (min k) long) ∙ cut_short k M (ltb k M) refl

  all : ltb k M ≡ false → length xs ≤ n
  all e = let h = ltb-false k M e in omega (arith, cut, long, h)

  -- long enough, it is the whole
  pub part_whole : ltb k M ≡ false → take n xs ≡ xs
  part_whole e = take_all n xs (all e)

  pub change_whole : (new : List T) → ltb k M ≡ false → new ≡ new ++ drop n xs
  change_whole new e = sym (append-nil new) ∙ ap (λ r. new ++ r) (sym (drop_all n xs (all e)))

  -- unchanged, the whole is unchanged
  pub change_none : (new : List T) → new ≡ take n xs → new ++ drop n xs ≡ xs
  change_none new e = ap (λ r. r ++ drop n xs) e ∙ take-append-drop n xs
