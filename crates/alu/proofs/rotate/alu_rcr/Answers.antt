-- `alu::rotate::alu_rcr` meets its contract: RCR is ROR of one bit more, C above the others. Assumes nothing.
use native.Mathlib.Omega.{arith}
use Rattle.numbers.proofs.Widths.{some_bits}
use Rattle.alu.proofs.WithC.{rcr-done}
use Rattle.alu.proofs.rotate.alu_rcr.Goals as goal

pub returns : goal.returns
returns g c =
    let law = g.met.N.Number in
    let a = c.args in
    rcr-done g.N.Number.BITS (some_bits _ law.is_8_or_16) a.count _ (omega arith) _ c.with_c_above.ensures.fits c.MAX.result (omega (arith, law.max_is)) a.carry _ (omega arith) _
    c.ror-turned.ensures c.with_c_above.ensures.value c.cut.ensures c.right_o.ensures
