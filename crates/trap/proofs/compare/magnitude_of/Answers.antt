-- `trap::compare::magnitude_of` meets its contract, by the sign bit. Assumes nothing.
use native.Mathlib.Omega.{arith}
use Rattle.trap.proofs.{CompareLaws.left_over, CompareLaws.at_most_half, CompareLaws.as_it_is}
use Rattle.trap.proofs.compare.magnitude_of.Goals as goal

pub returns-then-number-bits-ne0 : goal.returns-then-number-bits-ne0
returns-then-number-bits-ne0 c =
    let a = c.args in
    let half = at_most_half a.bits a.number (omega arith) (omega arith) (omega arith) c.if-number-bits-ne0.true in
    left_over a.bits a.number (omega arith) (omega arith) c.if-number-bits-ne0.true (omega (arith, half, c.power.ensures))

pub returns-else-number-bits-ne0 : goal.returns-else-number-bits-ne0
returns-else-number-bits-ne0 c =
    let a = c.args in
    as_it_is a.bits a.number (omega arith) (omega arith) c.if-number-bits-ne0.false
