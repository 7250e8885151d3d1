-- A trail in its array: what lengthening makes of it, and its length.
use Rattle.std.proofs.Common.{◌≡◌, ℕ, zero, suc, ◌+◌, ◌<◌, ◌≤◌, List, length, set, refl, ap, ◌∙◌, arith}
use Rattle.std.proofs.lemmas.List.{get_or-set_same, get_or-set_other}
use Rattle.model.specs.declared.trail.Trail.{Trail as TrailRecord}
use Rattle.model.specs.State.{backwards, trail_of, longer}
use Rattle.model.specs.Existing.{trail_length}

abbrev laid : ℕ → ℕ → List ℕ → TrailRecord
laid e l ns = record { entered = e; length = l; nodes = ns }

-- a node written further on leaves the path before it
backwards_set : (ns : List ℕ) (i v k : ℕ) → k ≤ i → backwards (set ns i v) k ≡ backwards ns k
backwards_set ns i v zero h = refl
backwards_set ns i v (suc k) h =
    let e = get_or-set_other ns i k v 0 (λ z. omega arith) in
    let r = backwards_set ns i v k (omega arith) in
    cc

lengthened : (e k v : ℕ) (ns : List ℕ) → suc k < length ns → trail_of (laid e (suc (suc k)) (set ns (suc k) v)) ≡ longer (trail_of (laid e (suc k) ns)) v
lengthened e k v ns h =
    let a = get_or-set_same ns (suc k) v 0 h in
    let b = get_or-set_other ns (suc k) k v 0 (λ z. omega arith) in
    let r = backwards_set ns (suc k) v k (omega arith) in
    cc

pub longer_is : (e l v : ℕ) (ns : List ℕ) → 1 ≤ l → l < length ns → trail_of (laid e (l + 1) (set ns l v)) ≡ longer (trail_of (laid e l ns)) v
longer_is e zero v ns a h = absurd (omega arith)
longer_is e (suc k) v ns a h = ap (λ m. trail_of (laid e m (set ns (suc k) v))) (let u : suc k + 1 ≡ suc (suc k) = omega arith in u) ∙ lengthened e k v ns h

-- the record's length is the trail's
backwards_length : (ns : List ℕ) (k : ℕ) → length (backwards ns k) ≡ k
backwards_length ns zero = refl
backwards_length ns (suc k) = ap suc (backwards_length ns k)

pub length_is : (e l : ℕ) (ns : List ℕ) → trail_length (trail_of (laid e l ns)) ≡ l
length_is e zero ns = refl
length_is e (suc k) ns = ap suc (backwards_length ns k)
