use mathlib.Core.HLevel.{⊥_prop}
use mathlib.Core.Logic.{∥∥₁_elim}
use Rattle.std.proofs.Common.{ℕ}
use Rattle.model.specs.Reach.{Acyclic}
use Rattle.model.specs.Sound.{Sound}
use Rattle.model.specs.State.{Store}
use Rattle.model.proofs.Reached.{no_circle}
use Rattle.cells.specs.View.{view_of, parties_of, nodes_of}
use Rattle.store.proofs.store.Store.kids.Goals as goal

acyclic : {D : Type 0} (N M : ℕ) (s : Store D) → ∥ Sound N M s ∥₁ → Acyclic s.kids
acyclic N M s sound n down = ∥∥₁_elim sound ⊥_prop (λ S. no_circle s.kids S.ranked n down)

pub returns-in-Some-clause-no_node_reaches_itself : goal.returns-in-Some-clause-no_node_reaches_itself
returns-in-Some-clause-no_node_reaches_itself g c = let s = c.args.self.now in acyclic (parties_of s.cells) (nodes_of s.cells) (view_of s.cells) s.sound

pub returns-in-None-clause-no_node_reaches_itself : goal.returns-in-None-clause-no_node_reaches_itself
returns-in-None-clause-no_node_reaches_itself g c = let s = c.args.self.now in acyclic (parties_of s.cells) (nodes_of s.cells) (view_of s.cells) s.sound
