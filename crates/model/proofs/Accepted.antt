-- An accepted Turn is of a party that is running something.
use Rattle.std.proofs.Common.{◌≡◌, ℕ, ◌≤◌, true, false, not, ◌||◌, ltb, [], ◌∷◌, None, sym, refl, true≢false}
use Rattle.std.proofs.lemmas.Bool.{not-false}
use Rattle.refusals.specs.declared.Refusal.TheVariants.{NoSuchParty, ShortList, Busy, NothingToTurn}
use Rattle.model.specs.Types.{Lengths, Running, Idle}
use Rattle.model.specs.Steps.{between}
use Rattle.model.specs.Checks.{is_idle, is_walking, turn_fault, walk_turn_fault}
use Rattle.model.proofs.Begins.{passes, is_between}

-- a Turn or a walk's Turn that passes its checks is of a party that runs something
pub turn_passed : {D : Type 0} (N M p : ℕ) (l : Lengths) (r : Running D) → turn_fault N M p l r ≡ None → (1 ≤ p) × (p ≤ N) × (is_idle r ≡ false)
turn_passed N M p l r h =
    let u = passes (not (between 1 N p)) NoSuchParty ((ltb l.entries M, ShortList) ∷ (is_walking r, Busy) ∷ (is_idle r, NothingToTurn) ∷ []) h in
    let v = passes (ltb l.entries M) ShortList ((is_walking r, Busy) ∷ (is_idle r, NothingToTurn) ∷ []) u.1 in
    let w = passes (is_walking r) Busy ((is_idle r, NothingToTurn) ∷ []) v.1 in
    let i = is_between 1 N p u.0 in
    (i.0, i.1, (passes (is_idle r) NothingToTurn [] w.1).0)

pub walking_runs : {D : Type 0} (r : Running D) → is_walking r ≡ true → is_idle r ≡ false
walking_runs Idle h = absurd (true≢false (sym h))
walking_runs _ h = refl

-- a walk's Turn that passes its checks is of a party that walks
walk_turn_checks : {D : Type 0} (N M p : ℕ) (l : Lengths) (r : Running D) → walk_turn_fault N M p l r ≡ None → (1 ≤ p) × (p ≤ N) × (is_walking r ≡ true)
walk_turn_checks N M p l r h =
    let short = ltb l.entries M || (ltb l.marks M || ltb l.worths M) in
    let u = passes (not (between 1 N p)) NoSuchParty ((short, ShortList) ∷ (not (is_walking r), NothingToTurn) ∷ []) h in
    let v = passes short ShortList ((not (is_walking r), NothingToTurn) ∷ []) u.1 in
    let i = is_between 1 N p u.0 in
    (i.0, i.1, not-false (is_walking r) (passes (not (is_walking r)) NothingToTurn [] v.1).0)

pub walk_turn_walks : {D : Type 0} (N M p : ℕ) (l : Lengths) (r : Running D) → walk_turn_fault N M p l r ≡ None → is_walking r ≡ true
walk_turn_walks N M p l r h = (walk_turn_checks N M p l r h).2

pub walk_turn_passed : {D : Type 0} (N M p : ℕ) (l : Lengths) (r : Running D) → walk_turn_fault N M p l r ≡ None → (1 ≤ p) × (p ≤ N) × (is_idle r ≡ false)
walk_turn_passed N M p l r h = let u = walk_turn_checks N M p l r h in (u.0, u.1, walking_runs r u.2)

-- a Turn that is no walk's passes its checks only where no walk runs
pub turn_walks_not : {D : Type 0} (N M p : ℕ) (l : Lengths) (r : Running D) → turn_fault N M p l r ≡ None → is_walking r ≡ false
turn_walks_not N M p l r h =
    let u = passes (not (between 1 N p)) NoSuchParty ((ltb l.entries M, ShortList) ∷ (is_walking r, Busy) ∷ (is_idle r, NothingToTurn) ∷ []) h in
    let v = passes (ltb l.entries M) ShortList ((is_walking r, Busy) ∷ (is_idle r, NothingToTurn) ∷ []) u.1 in
    (passes (is_walking r) Busy ((is_idle r, NothingToTurn) ∷ []) v.1).0
