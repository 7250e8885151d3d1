use Rattle.std.proofs.Common.{rules, arith, ◌^◌, ◌≤◌, length}
use Rattle.std.proofs.lemmas.Iterator.{YieldsList-from_slice}
use Rattle.std.proofs.lemmas.Iterator.Adapters.{fits_from_length, at_most_from_yields_List}
use Rattle.walks.proofs.marks.count_marked.Goals as goal

-- each of the marks, of which there are 255 at most, adds one at most
pub sum-requires-clause-fits : goal.sum-requires-clause-fits
sum-requires-clause-fits c =
    let front = c.iter-noted.result.rest.now in
    let few : length front ≤ 255 = search rules in
    fits_from_length _ _ 255 (2 ^ 16) (at_most_from_yields_List (YieldsList-from_slice front cc) few) c.map.ensures.closure (omega arith) (λ x r q k. search rules)
