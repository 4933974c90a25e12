-- `alu::rotate::alu_rcl` meets its contract: RCL is ROL of one bit more, C above the others. Assumes nothing.
use native.Mathlib.Omega.{arith}
use Rattle.numbers.proofs.Widths.{some_bits}
use Rattle.alu.proofs.WithC.{rcl-made}
use Rattle.alu.proofs.rotate.alu_rcl.Goals as goal

pub returns : goal.returns
returns g c =
    let law = g.met.N.Number in
    let a = c.args in
    rcl-made g.N.Number.BITS (some_bits _ law.is_8_or_16) a.count _ (omega arith) _ c.with_c_above.ensures.fits c.MAX.result (omega (arith, law.max_is)) a.carry _ (omega arith) _
    c.rol-turned.ensures c.with_c_above.ensures.value c.cut.ensures c.left_o.ensures
