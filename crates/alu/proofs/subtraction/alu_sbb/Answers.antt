-- `alu::subtraction::alu_sbb` meets its contract, by the law of subtraction over the width. Assumes nothing.
use native.Mathlib.Omega.{arith}
use Rattle.numbers.proofs.Widths.{some_bits, of_32}
use Rattle.alu.proofs.{SumLaws.sbb_is}
use Rattle.alu.proofs.subtraction.alu_sbb.Goals as goal

pub returns : goal.returns
returns g c =
    let n = g.N.Number in
    let law = g.met.N.Number in
    rw (c.wide-res.ensures.value, c.cut-result.ensures, c.wide-a.ensures.value, c.wide-b.ensures.value, c.MAX.ensures, c.TOP.ensures, law.max_is, law.top_is)
    (sbb_is n.BITS (some_bits n.BITS law.is_8_or_16) _ (of_32 n.BITS law.is_8_or_16) (n.value c.args.lhs) (n.value c.args.rhs) c.args.carry_in (omega arith) (omega arith))
