-- `multiply::mul::multiplied` meets its contract: CORX, and NEGATE where the flag is set. Assumes nothing.
use native.Mathlib.Omega.{arith}
use Rattle.numbers.proofs.Widths.{most_bits}
use Rattle.negate.specs.Views.{negate_of}
use Rattle.multiply.proofs.{MulLaws.kept, MulLaws.turned, MulLaws.corx_few, MulLaws.negate_few}
use Rattle.multiply.proofs.mul.multiplied.Goals as goal

pub returns-then-factors : goal.returns-then-factors
returns-then-factors g c =
    turned g.N.Number.BITS (negate_of g.N.Number.value c.args.factors) c.corx-product.ensures c.cor_negate-negated.ensures c.if-factors.true

pub returns-else-factors : goal.returns-else-factors
returns-else-factors g c =
    kept g.N.Number.BITS (negate_of g.N.Number.value c.args.factors) c.corx-product.ensures c.if-factors.false

pub overflow_add-steps : goal.overflow_add-steps
overflow_add-steps g c =
    omega (arith, corx_few g.N.Number.BITS (negate_of g.N.Number.value c.args.factors) c.corx-product.ensures (omega arith) (most_bits _ g.met.N.Number.is_8_or_16) c.requires)

pub cor_negate-negated-requires : goal.cor_negate-negated-requires
cor_negate-negated-requires g c =
    omega (arith, corx_few g.N.Number.BITS (negate_of g.N.Number.value c.args.factors) c.corx-product.ensures (omega arith) (most_bits _ g.met.N.Number.is_8_or_16) c.requires)

pub overflow_add-result : goal.overflow_add-result
overflow_add-result g c =
    let factors = negate_of g.N.Number.value c.args.factors in
    omega (
      arith,
      corx_few g.N.Number.BITS factors c.corx-product.ensures (omega arith) (most_bits _ g.met.N.Number.is_8_or_16) c.requires,
      negate_few g.N.Number.BITS factors c.corx-product.ensures c.cor_negate-negated.ensures,
    )
