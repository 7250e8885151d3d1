use Rattle.std.proofs.Common.{sym, refl, ◌∙◌}
use Rattle.std.proofs.lemmas.Bool.{ltb-true}
use Rattle.orders.specs.Limits.{largest_size}
use Rattle.cells.proofs.Room.{room_is}
use Rattle.cells.proofs.one_step.settle.Goals as goal

pub returns-in-Lengthens : goal.returns-in-Lengthens
returns-in-Lengthens g c =
    let t = c.args.own.now.trail in
    let fits = ltb-true t.length largest_size (sym (room_is t c.in-Lengthens.n) ∙ rw c.in-Lengthens.is at c.requires) in
    rw c.in-Lengthens.is (record { inbox = refl; tray = refl; slots_are = refl; trail_is = c.lengthen.ensures.longer fits; running_is = refl })
