-- `alu::shift::alu_sar` meets its contract: SAR of one bit more has C below the result. Assumes nothing.
use native.Mathlib.Omega.{arith}
use Rattle.numbers.proofs.Widths.{some_bits}
use Rattle.alu.proofs.WithC.{sar-done}
use Rattle.alu.proofs.shift.alu_sar.Goals as goal

pub returns : goal.returns
returns g c =
    let n = g.N.Number in
    sar-done n.BITS (some_bits _ g.met.N.Number.is_8_or_16) c.args.count _ (omega arith) (n.value c.args.value) (omega arith) _ c.sar-moved.ensures (omega arith) c.cut.ensures
