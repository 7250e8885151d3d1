use mathlib.Core.Logic.{∥∥₁_elim}
use Rattle.std.proofs.Common.{◌≡◌, ℕ, ◌≤◌, ◌∙◌, ap}
use Rattle.std.proofs.Math.Nat.{ℕ_set}
use Rattle.model.specs.References.{references}
use Rattle.model.specs.Sound.{Sound}
use Rattle.model.specs.State.{Store}
use Rattle.model.proofs.Between.{within}
use Rattle.model.proofs.Carried.{refs_are_references}
use Rattle.cells.specs.View.{view_of, parties_of, nodes_of}
use Rattle.store.proofs.store.Store.count.Goals as goal

counted : {D : Type 0} (N M : ℕ) (s : Store D) (n : ℕ) → ∥ Sound N M s ∥₁ → 1 ≤ n → s.count n ≡ references N M s n
counted N M s n sound low = ∥∥₁_elim sound (ℕ_set (s.count n) (references N M s n)) (λ S. S.inv.counts n low ∙ refs_are_references N M s n low)

pub returns-in-Some-clause-references : goal.returns-in-Some-clause-references
returns-in-Some-clause-references g c h =
    let s = c.args.self.now in
    ap (λ w. w.count) c.in-Some.ensures.1 ∙ counted (parties_of s.cells) (nodes_of s.cells) (view_of s.cells) c.args.n s.sound (within 1 (nodes_of s.cells) c.args.n h).0
