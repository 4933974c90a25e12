-- `alu::rotate::alu_rol` meets its contract: the bit that last came round stands below the others. Assumes nothing.
use native.Mathlib.Omega.{arith}
use Rattle.numbers.proofs.Widths.{some_bits}
use Rattle.alu.proofs.WithC.{rol-done}
use Rattle.alu.proofs.rotate.alu_rol.Goals as goal

pub returns : goal.returns
returns g c =
    rol-done g.N.Number.BITS (some_bits _ g.met.N.Number.is_8_or_16) _ c.BITS.ensures _ _ c.wide.ensures.value (omega arith) c.args.count c.rol.ensures c.cut-result.ensures
    (rw c.wide-2.ensures.value at c.of_last-carry.ensures) c.left_o.ensures
