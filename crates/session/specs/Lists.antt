-- The lists that the walks of one party note in.
use Rattle.std.specs.Prelude.{◌≡◌, ℕ, vec_len}
use Rattle.session.specs.declared.lists.WalkLists.{WalkLists}

-- a mark and a worth for each of M nodes
pub record AnEntryEach {W : Type 0} (M : ℕ) (l : WalkLists W) : Type 0 where
  pub marks : vec_len l.marks ≡ M
  pub worths : vec_len l.worths ≡ M
