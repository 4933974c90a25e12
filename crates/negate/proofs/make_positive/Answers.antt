-- `negate::make_positive` meets its contract, by the top bit of the second operand. Assumes nothing.
use Rattle.negate.proofs.{NegateLaws.second-negative, NegateLaws.second_positive}
use Rattle.negate.proofs.make_positive.Goals as goal

pub returns-then-top_set : goal.returns-then-top_set
returns-then-top_set g c = second-negative g.N.Number.BITS _ _ c.top_set.ensures c.if-top_set.true c.alu_neg-positive.ensures

pub returns-else-top_set : goal.returns-else-top_set
returns-else-top_set g c = second_positive g.N.Number.BITS _ _ c.top_set.ensures c.if-top_set.false
