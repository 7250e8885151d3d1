-- What reads and writes of the two lists are to a walk's notes.
use Rattle.std.proofs.Common.{◌≡◌, ℕ, zero, suc, ◌-◌, ◌≤◌, min, Bool, true, false, ◌&&◌, leb, List, length, get_or, set, take, count_by, refl, ap, ◌∙◌, inl, inr, arith}
use mathlib.Core.Path.{fun_ext}
use Rattle.std.proofs.lemmas.List.{get_or_past, take_all, take_min}
use Rattle.std.proofs.lemmas.List.Sums.{count_by_more_yes, count_by_more_no}
use Rattle.std.proofs.lemmas.Bool.{cases_Bool, cases_eq, cases_lt}
use Rattle.std.proofs.lemmas.Bool.Decides.{nat_tests}
use Rattle.model.specs.Entries.{nth}
use Rattle.model.specs.Fun.{upd, sum_to}
use Rattle.model.specs.Types.{Kids}
use Rattle.model.specs.Walks.{marked, first_unmarked, noted}
use Rattle.model.proofs.EntryLemmas.{nth_set}
use Rattle.walks.specs.Notes.{marks_of, notes_of, marks_alone, has_entries}

-- which kid is the first unmarked does not depend on the worths
pub marks_alone_tell : {W : Type 0} (blank : W) (M : ℕ) (marks : List Bool) (worths : List W) (ks : Kids) → first_unmarked (marks_alone M marks) ks ≡ first_unmarked (notes_of blank M marks worths) ks
marks_alone_tell blank M marks worths ks = refl

-- the marks of the first n nodes stand at the front of the list
marked_in_front : (M : ℕ) (marks : List Bool) (n : ℕ) → n ≤ M → count_by (λ b. b) (take n marks) ≡ marked n (marks_of M marks)
unfolding sum_to
marked_in_front M marks zero h = refl
marked_in_front M marks (suc n) h = elim (cases_lt n (length marks)) [
  | inl inside ↦ elim (cases_Bool (get_or marks n false)) [
    | inl on ↦ grind (arith, nat_tests, marked_in_front M marks n (omega arith), count_by_more_yes (λ b. b) marks n false inside on)
    | inr off ↦ grind (arith, nat_tests, marked_in_front M marks n (omega arith), count_by_more_no (λ b. b) marks n false inside off)
  ]
  | inr past ↦ grind (arith, nat_tests, marked_in_front M marks n (omega arith), get_or_past marks n false past, take_all n marks past, take_all (suc n) marks (omega arith))
]

pub marked_counted : (M : ℕ) (marks : List Bool) (r : ℕ) → r ≡ count_by (λ b. b) (take (min M (length marks)) marks) → r ≡ marked M (marks_of M marks)
marked_counted M marks r counted = counted ∙ rw (take_min M marks) (marked_in_front M marks M (omega arith))

mark_set : (M : ℕ) (marks marks' : List Bool) (n : ℕ) → n ≤ M → nth false marks' ≡ upd (nth false marks) n true → marks_of M marks' ≡ upd (marks_of M marks) n true
mark_set M marks marks' n high e = fun_ext (λ m. ap (λ f. leb m M && f m) e ∙ go m)
  where
    go : (m : ℕ) → leb m M && upd (nth false marks) n true m ≡ upd (marks_of M marks) n true m
    go m = elim (cases_eq m n) [ inl e ↦ grind (arith, nat_tests) | inr h ↦ grind (arith, nat_tests) ]

-- what the test for entries tells
entries_there : {W : Type 0} (M : ℕ) (marks : List Bool) (worths : List W) (n : ℕ) → has_entries M marks worths n ≡ true → (1 ≤ n) × (n ≤ M) × (M ≤ length marks) × (M ≤ length worths)
entries_there M marks worths n there = (grind (arith, nat_tests), grind (arith, nat_tests), grind (arith, nat_tests), grind (arith, nat_tests))

-- what is written where entry n stands is that of n
pub entry_written : {A : Type 0} (none : A) (l : List A) (n i : ℕ) (x : A) → 1 ≤ n → n ≤ length l → i ≡ n - 1 → nth none (set l i x) ≡ upd (nth none l) n x
entry_written none l n i x low high at = ap (λ j. nth none (set l j x)) at ∙ nth_set none l n x low high

-- where the mark and the worth of node n are written, the notes are those with n noted
pub noted_by : {W : Type 0} (blank : W) (M : ℕ) (marks marks' : List Bool) (worths worths' : List W) (n : ℕ) (w v : W) → has_entries M marks worths n ≡ true
    → nth false marks' ≡ upd (nth false marks) n true → nth blank worths' ≡ upd (nth blank worths) n w → w ≡ v → notes_of blank M marks' worths' ≡ noted (notes_of blank M marks worths) n v
noted_by blank M marks marks' worths worths' n w v there mark worth e =
    let h = entries_there M marks worths n there in
    let a : marks_of M marks' ≡ upd (marks_of M marks) n true = mark_set M marks marks' n h.1 mark in
    cc
