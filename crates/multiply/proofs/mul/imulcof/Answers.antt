-- `multiply::mul::imulcof` meets its contract. Assumes nothing.
use Rattle.corx.specs.Views.{halves}
use Rattle.multiply.proofs.{MulLaws.imulcof_is}
use Rattle.multiply.proofs.mul.imulcof.Goals as goal

pub returns-clause-product : goal.returns-clause-product
returns-clause-product g c =
    imulcof_is g.N.Number.BITS (halves g.N.Number.value c.args.from) c.args.flags c.sign_extended-upper.ensures
    (rw c.top_set.ensures at c.alu_adc-sum.ensures) c.with_coa-named.ensures c.set_szp_flags_from_result.ensures c.cof_tail.ensures.0
