-- `alu::addition::alu_adc` meets its contract, by the law of addition over the width. Assumes nothing.
use native.Mathlib.Omega.{arith}
use Rattle.numbers.proofs.Widths.{some_bits, of_32, above_max}
use Rattle.alu.proofs.{SumLaws.adc_is}
use Rattle.alu.proofs.addition.alu_adc.Goals as goal

pub returns : goal.returns
returns g c =
    let n = g.N.Number in
    let law = g.met.N.Number in
    rw (c.wide-res.ensures.value, c.cut-result.ensures, c.wide-a.ensures.value, c.wide-b.ensures.value, c.MAX.ensures, c.TOP.ensures, law.top_is, above_max n.BITS n.MAX _ law.max_is)
    (adc_is n.BITS (some_bits n.BITS law.is_8_or_16) _ (of_32 n.BITS law.is_8_or_16) (n.value c.args.lhs) (n.value c.args.rhs) c.args.carry_in (omega arith) (omega arith))
