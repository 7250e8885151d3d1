-- Whether all that a step needs is there: its party, the word that it looks at, a count that can move as it wants, the
-- slot that it fills, room on the trail. In a store that can exist it always is.
use Rattle.std.specs.Prelude.{◌≡◌, ℕ, Bool, true, cond, ◌&&◌, Some, None, Option, nat_lt}
use Rattle.orders.specs.Limits.{largest_size}
use Rattle.model.specs.declared.words.Address.{Address}
use Rattle.model.specs.declared.words.Change.{Change}
use Rattle.model.specs.declared.words.Decision.{Decision}
use Rattle.model.specs.declared.words.Told.{Told}
use Rattle.model.specs.declared.words.Address.TheVariants.{Nowhere, CountOf, LockOf, KidOf, DataOf, InboxOf, TrayOf}
use Rattle.model.specs.declared.words.Change.TheVariants.{Stays, Fills, Lengthens}
use Rattle.model.specs.State.{Trail, Store}
use Rattle.model.specs.Steps.{between, loaded, looks_at, decision, stepped, data_after}
use Rattle.model.specs.Checks.{last_slot}
use Rattle.model.specs.Existing.{trail_length}
use Rattle.step.specs.Counting.{movable}

-- the word is one of a store with N parties and M nodes, or an entry of a data list of so many
abbrev pub stands : ℕ → ℕ → ℕ → Address → Bool
stands N M entries a = elim a [ Nowhere ↦ true | CountOf n ↦ between 1 M n | LockOf n ↦ between 1 M n | KidOf n k ↦ between 1 M n | DataOf n ↦ between 1 entries n | InboxOf q ↦ between 1 N q | TrayOf q ↦ between 1 N q ]

-- the slot is one, and a trail never has more nodes than a store can have
abbrev pub has_room : Trail → Change → Bool
has_room t c = elim c [ Stays ↦ true | Fills i v ↦ between 1 last_slot i | Lengthens n ↦ nat_lt (trail_length t) largest_size ]

-- d is what the step decides
abbrev pub ready : {D W : Type 0} → ℕ → ℕ → ℕ → Store D → (ℕ → D) → ℕ → ℕ → Decision D W → Bool
ready N M entries s info p x d =
    between 1 N p && (stands N M entries (looks_at N M s p x) && (movable (s.run p) (loaded s info (looks_at N M s p x)) && has_room (s.trail p) d.change))

-- the step is taken where all is ready, and else nothing is told and nothing changes; t and later are the store and the data after it
pub record StepsIfReady {D W : Type 0} (N M entries : ℕ) (s t : Store D) (info later : ℕ → D) (p x : ℕ) (r : Option (Told D W)) : Type 0 where
  pub told : r ≡ cond (ready N M entries s info p x (decision {W = W} N M s info p x)) (Some (decision N M s info p x).told) None
  pub store_is : t ≡ cond (ready N M entries s info p x (decision {W = W} N M s info p x)) (stepped N M s info p x (decision {W = W} N M s info p x)) s
  pub info_is : later ≡ cond (ready N M entries s info p x (decision {W = W} N M s info p x)) (data_after N M s info p x (decision {W = W} N M s info p x)) info
