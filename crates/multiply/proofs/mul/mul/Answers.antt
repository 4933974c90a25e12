-- `multiply::mul::mul` meets its contract: the routines together, signed and not. Assumes nothing.
use native.Mathlib.{Nat.zero-mod, Omega.arith}
use Rattle.numbers.proofs.Widths.{some_bits, most_bits}
use Rattle.negate.specs.Views.{negate_of}
use Rattle.multiply.proofs.{MulLaws.preimul_few, MulLaws.preimul_fits, MulLaws.multiplied_few, MulLaws.lower_fits, MulLaws.unsigned_is, MulLaws.signed_is}
use Rattle.multiply.proofs.mul.mul.Goals as goal

pub returns-then-signed-clause-product : goal.returns-then-signed-clause-product
returns-then-signed-clause-product g c =
    let width = g.met.N.Number.is_8_or_16 in
    signed_is g.N.Number.BITS c.args.negate _ _ c.args.flags (some_bits _ width) (omega arith) (omega arith) (most_bits _ width) c.if-signed.true
    c.preimul-factors.ensures c.multiplied.ensures c.imulcof.ensures.product

pub returns-else-signed-clause-product : goal.returns-else-signed-clause-product
returns-else-signed-clause-product g c =
    let n = g.N.Number.BITS in
    unsigned_is n c.args.negate _ _ c.args.flags (some_bits n g.met.N.Number.is_8_or_16) (omega arith) (omega arith) _ c.if-signed.false
    (rw (c.cut.ensures, zero-mod) at c.multiplied-else-signed.ensures) c.mulcof.ensures.product

pub returns-then-signed-clause-lower : goal.returns-then-signed-clause-lower
returns-then-signed-clause-lower g c = rw c.imulcof.ensures.lower (lower_fits g.N.Number.BITS _ c.multiplied.ensures)

pub returns-else-signed-clause-lower : goal.returns-else-signed-clause-lower
returns-else-signed-clause-lower g c = rw c.mulcof.ensures.lower (lower_fits g.N.Number.BITS _ c.multiplied-else-signed.ensures)

pub multiplied-requires : goal.multiplied-requires
multiplied-requires g c = preimul_few g.N.Number.BITS _ _ _ c.preimul-factors.ensures

pub imulcof-requires : goal.imulcof-requires
imulcof-requires g c =
    let n = g.N.Number in
    let fits = preimul_fits n.BITS _ _ _ (omega arith) c.preimul-factors.ensures in
    omega (arith, multiplied_few n.BITS (negate_of n.value c.preimul-factors.result) c.multiplied.ensures fits (most_bits _ g.met.N.Number.is_8_or_16) (preimul_few n.BITS _ _ _ c.preimul-factors.ensures))

pub mulcof-requires : goal.mulcof-requires
mulcof-requires g c =
    omega (arith, multiplied_few g.N.Number.BITS _ c.multiplied-else-signed.ensures (omega arith) (most_bits _ g.met.N.Number.is_8_or_16) (omega arith))
