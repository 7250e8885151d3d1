use Rattle.std.proofs.Common.{◌*ℤ◌, w32, w64, SFits, rules}
use borrow.Author.Numbers.{signed_product}
use Rattle.std.proofs.lemmas.Int.{to_z-of_z}
use Rattle.kinds.proofs.maps.product.Goals as goal

pub returns : goal.returns
returns c =
    let a : SFits w32 c.args.a = c.ranges.a in
    let b : SFits w32 c.args.b = c.ranges.b in
    let a' : SFits w64 c.args.a = search rules in
    let b' : SFits w64 c.args.b = search rules in
    let p : SFits w64 (c.args.a *ℤ c.args.b) = simp to_z-of_z at (signed_product w64 w32 w32 c.args.a c.args.b a b tt) in
    simp to_z-of_z
