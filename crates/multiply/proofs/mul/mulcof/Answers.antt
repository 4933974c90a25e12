-- `multiply::mul::mulcof` meets its contract. Assumes nothing.
use Rattle.corx.specs.Views.{halves}
use Rattle.multiply.proofs.{MulLaws.mulcof_is}
use Rattle.multiply.proofs.mul.mulcof.Goals as goal

pub returns-clause-product : goal.returns-clause-product
returns-clause-product g c =
    let upper = c.wide-carry.ensures.value in
    mulcof_is g.N.Number.BITS (halves g.N.Number.value c.args.from) c.args.flags (rw upper at c.with_co.ensures) (rw upper at c.cof_tail.ensures.0)
