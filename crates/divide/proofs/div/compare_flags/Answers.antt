-- `divide::div::compare_flags` meets its contract, by the law of the compare. Assumes nothing.
use Rattle.alu.specs.Views.{coa}
use Rattle.divide.proofs.{FlagLaws.compare_is}
use Rattle.divide.proofs.div.compare_flags.Goals as goal

pub returns : goal.returns
returns g c =
    let n = g.N.Number in
    compare_is n.BITS _ _ _ _ {compare = coa n.value c.alu_sub-compare.result} c.alu_sub-compare.ensures c.with_coa-named.ensures
    (rw c.wide.ensures.value at c.set_szp_flags_from_result.ensures)
