-- `negate::cor_negate` meets its contract: entered at its head, or past the pair. Assumes nothing.
use native.Mathlib.Omega.{arith}
use Rattle.negate.proofs.{NegateLaws.skipped, NegateLaws.run_through, NegateLaws.pair-steps}
use Rattle.negate.proofs.cor_negate.Goals as goal

pub make_positive-requires-else-skip : goal.make_positive-requires-else-skip
make_positive-requires-else-skip g c = omega (arith, pair-steps g.N.Number.BITS _ c.negate_pair.ensures)

pub returns-then-skip : goal.returns-then-skip
returns-then-skip g c = skipped g.N.Number.BITS _ _ c.if-skip.true c.make_positive.ensures

pub returns-else-skip : goal.returns-else-skip
returns-else-skip g c = run_through g.N.Number.BITS _ _ c.if-skip.false c.negate_pair.ensures c.make_positive-else-skip.ensures
