-- `alu::rotate::alu_ror` meets its contract: the bit that last came round stands above the others. Assumes nothing.
use native.Mathlib.Omega.{arith}
use Rattle.numbers.proofs.Widths.{some_bits}
use Rattle.alu.proofs.WithC.{ror-done}
use Rattle.alu.proofs.rotate.alu_ror.Goals as goal

pub returns : goal.returns
returns g c =
    ror-done g.N.Number.BITS (some_bits _ g.met.N.Number.is_8_or_16) _ c.BITS.ensures _ _ c.wide.ensures.value (omega arith) c.args.count c.ror.ensures c.cut-result.ensures
    (rw c.top_set.ensures at c.of_last-carry.ensures) c.right_o.ensures
