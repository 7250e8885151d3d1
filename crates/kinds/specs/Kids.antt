-- One thing for each of a node's three kids.
use Rattle.std.specs.Prelude.{◌≡◌, ℕ, ◌≤◌, Result, MatchResult}
use Rattle.refusals.specs.declared.Refusal.{Refusal}
use Rattle.refusals.specs.declared.Refusal.TheVariants.{NoSuchSlot}
use Rattle.kinds.specs.Limits.{last_kid}
use Rattle.kinds.specs.declared.kids.Kid.{Kid}
use Rattle.kinds.specs.declared.kids.Kid.TheVariants.{First, Second, Third}
use Rattle.kinds.specs.declared.kids.PerKid.{PerKid}

-- kids are counted from 1
abbrev pub position : Kid → ℕ
position First = 1
position Second = 2
position Third = 3

-- what a number is read as: the kid that has it, or the refusal where none has
abbrev pub KidNumbered : ℕ → Result Kid Refusal → Type 0
KidNumbered n r = MatchResult r (λ k. position k ≡ n) (λ e. ((1 ≤ n) × (n ≤ last_kid) → ⊥) × (e ≡ NoSuchSlot))

module _ {T : Type 0} where
  -- what stands at the kid
  abbrev pub kid_at : PerKid T → Kid → T
  kid_at ks First = ks.first
  kid_at ks Second = ks.second
  kid_at ks Third = ks.third

  -- the same with another thing at the kid
  abbrev pub put_kid : PerKid T → Kid → T → PerKid T
  put_kid ks First x = record { first = x; second = ks.second; third = ks.third }
  put_kid ks Second x = record { first = ks.first; second = x; third = ks.third }
  put_kid ks Third x = record { first = ks.first; second = ks.second; third = x }
