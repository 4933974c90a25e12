-- `trap::compare::would_trap` meets its contract: the comparison of either sign rule says that the divide is not accepted. Assumes nothing.
use mathlib.Core.{Path.refl, Bool.true, Bool.false}
use native.Mathlib.Omega.{arith}
use Rattle.numbers.proofs.{Powers.top_twice, SignLaws.magnitude_lt}
use Rattle.trap.proofs.{CompareLaws.product-fits, CompareLaws.compares}
use Rattle.trap.proofs.compare.would_trap.Goals as goal

pub overflow_mul-result : goal.overflow_mul-result
overflow_mul-result c =
    let a = c.args in
    product-fits a.bits (omega arith) (omega (arith, c.power.ensures, top_twice a.bits (omega arith))) (magnitude_lt a.bits true a.divisor (omega arith) (omega arith) c.magnitude_of-divisor_magnitude.ensures)

pub overflow_mul-result-else-signed : goal.overflow_mul-result-else-signed
overflow_mul-result-else-signed c = product-fits c.args.bits (omega arith) (omega (arith, c.power-else-signed.ensures)) (omega arith)

pub returns-then-signed : goal.returns-then-signed
returns-then-signed c =
    let a = c.args in
    compares a.bits true a.dividend a.divisor (omega arith) (omega arith) (omega arith) c.if-signed.true c.power.ensures c.magnitude_of-divisor_magnitude.ensures c.magnitude_of-dividend_magnitude.ensures

pub returns-else-signed : goal.returns-else-signed
returns-else-signed c =
    let a = c.args in
    compares a.bits false a.dividend a.divisor (omega arith) (omega arith) (omega arith) c.if-signed.false c.power-else-signed.ensures refl refl
