-- What slots and inboxes reach, and what lies below a node.
use Rattle.std.specs.Prelude.{◌≡◌, ℕ, ◌≤◌, ◌≢◌, ◌⊎◌, List, [], ◌∷◌}
use Rattle.model.specs.Types.{Kid, Kids, Idle}
use Rattle.model.specs.State.{kid_at, Store}
use Rattle.model.specs.Checks.{last_slot}

-- reached: a slot or an inbox of one of N parties names it, or a reached node has it as kid
pub data Reach (N : ℕ) (slots : ℕ → ℕ → ℕ) (inbox : ℕ → ℕ) (kids : ℕ → Kids) : ℕ → Type 0 where
  by_slot : {n : ℕ} (q i : ℕ) → 1 ≤ q → q ≤ N → 1 ≤ i → i ≤ last_slot → slots q i ≡ n → n ≢ 0 → Reach N slots inbox kids n
  by_box : {n : ℕ} (q : ℕ) → 1 ≤ q → q ≤ N → inbox q ≡ n → n ≢ 0 → Reach N slots inbox kids n
  by_kid : {n : ℕ} (m : ℕ) (k : Kid) → Reach N slots inbox kids m → kid_at (kids m) k ≡ n → n ≢ 0 → Reach N slots inbox kids n

abbrev pub Reached : {D : Type 0} → ℕ → Store D → ℕ → Type 0
Reached N s n = Reach N s.slot s.inbox s.kids n

-- one of the nodes 1 to M that is out of reach
abbrev pub Unreached : ℕ → ℕ → (ℕ → ℕ → ℕ) → (ℕ → ℕ) → (ℕ → Kids) → ℕ → Type 0
Unreached N M slots inbox kids n = (1 ≤ n) × (n ≤ M) × (Reach N slots inbox kids n → ⊥)

abbrev pub Lost : {D : Type 0} → ℕ → ℕ → Store D → ℕ → Type 0
Lost N M s n = Unreached N M s.slot s.inbox s.kids n

abbrev pub Free : {D : Type 0} → ℕ → Store D → ℕ → Type 0
Free M s n = (1 ≤ n) × (n ≤ M) × (s.count n ≡ 0) × (s.lock n ≡ 0)

-- nothing is running
abbrev pub AtRest : {D : Type 0} → ℕ → Store D → Type 0
AtRest N s = (q : ℕ) → 1 ≤ q → q ≤ N → s.run q ≡ Idle

-- down from a node through kids, one step or more
pub data Below (kids : ℕ → Kids) : ℕ → ℕ → Type 0 where
  kid : {m n : ℕ} (k : Kid) → kid_at (kids m) k ≡ n → n ≢ 0 → Below kids m n
  deeper : {m n : ℕ} (l : ℕ) (k : Kid) → Below kids m l → kid_at (kids l) k ≡ n → n ≢ 0 → Below kids m n

-- the nodes of r's term
abbrev pub InTerm : (ℕ → Kids) → ℕ → ℕ → Type 0
InTerm kids r n = (n ≡ r) ⊎ Below kids r n

-- no node reaches itself through kids
abbrev pub Acyclic : (ℕ → Kids) → Type 0
Acyclic kids = (n : ℕ) → Below kids n n → ⊥

-- n is one of m's kids
abbrev pub IsKid : (ℕ → Kids) → ℕ → ℕ → Type 0
IsKid kids m n = (k : Kid) × (kid_at (kids m) k ≡ n) × (n ≢ 0)

-- from r along kids to n; ns are the nodes before n, the nearest first
abbrev pub Chain : (ℕ → Kids) → ℕ → ℕ → List ℕ → Type 0
Chain kids r n [] = n ≡ r
Chain kids r n (m ∷ ns) = IsKid kids m n × Chain kids r m ns
