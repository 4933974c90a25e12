-- `alu::shift::alu_shl` meets its contract: SHL of one bit more has C above the result. Assumes nothing.
use native.Mathlib.Omega.{arith}
use Rattle.numbers.proofs.Widths.{some_bits}
use Rattle.alu.proofs.WithC.{shl-done}
use Rattle.alu.proofs.shift.alu_shl.Goals as goal

pub returns : goal.returns
returns g c =
    let law = g.met.N.Number in
    shl-done g.N.Number.BITS (some_bits _ law.is_8_or_16) c.args.count _ (omega arith) _ (omega arith) c.MAX.result (omega (arith, law.max_is)) _ c.shl-moved.ensures c.wide.ensures.value
    c.cut.ensures c.left_o.ensures
