use Rattle.std.proofs.Common.{arith}
use Rattle.sheet.proofs.DigitCounts.{of_eight_digits, of_nine_digits}
use Rattle.sheet.proofs.values.magnitude.Goals as goal

pub overflow_mul-number : goal.overflow_mul-number
overflow_mul-number c =
    let small = of_eight_digits c.loop-digit.number c.loop-digit.digit-index c.loop-digit.invariant.1 (omega arith) in omega (arith, small)

pub overflow_add-number : goal.overflow_add-number
overflow_add-number c =
    let small = of_eight_digits c.loop-digit.number c.loop-digit.digit-index c.loop-digit.invariant.1 (omega arith) in omega (arith, small)

pub returns-clause-small : goal.returns-clause-small
returns-clause-small c =
    let small = of_nine_digits c.loop-digit.number c.loop-digit.digit-index c.loop-digit.invariant.1 (omega arith) in omega (arith, small)
