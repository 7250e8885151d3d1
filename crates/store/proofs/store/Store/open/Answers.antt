use Rattle.std.proofs.Common.{◌≡◌, ℕ, sym, subst, arith}
use Rattle.model.specs.Sound.{Sound}
use Rattle.model.proofs.NewStore.{new_sound}
use Rattle.cells.specs.View.{parties_of, nodes_of}
use Rattle.store.proofs.store.Store.open.Goals as goal

pub invariant_of-result : goal.invariant_of-result
invariant_of-result g c =
    let cells = c.in_ok-cells.cells in
    let e = c.in_ok-cells.ensures in
    let N : ℕ = parties_of cells in
    let M : ℕ = nodes_of cells in
    let n : N ≡ c.in_ok-sizes.sizes.parties = e.sizes.1 in
    let m : M ≡ c.in_ok-sizes.sizes.nodes = e.sizes.0 in
    let l = c.in_ok-sizes.ensures in
    record {
      parties = (let a = l.0.some_party in let b = l.2 in omega arith, let a = l.0.few_parties in let b = l.2 in omega arith);
      nodes = (let a = l.0.some_node in let b = l.1 in omega arith, let a = l.0.few_nodes in let b = l.1 in omega arith);
      sound = ∣ subst (Sound N M) (sym e.view) (new_sound g.row.K-Data.Denot N M) ∣₁;
    }
