-- `idiv::with_sign` meets its contract. Assumes nothing.
use Rattle.idiv.proofs.{IdivLaws.with_minus, IdivLaws.with_plus}
use Rattle.idiv.proofs.with_sign.Goals as goal

pub returns-then-negative : goal.returns-then-negative
returns-then-negative g c = with_minus g.N.Number.BITS _ c.if-negative.true c.alu_neg.ensures

pub returns-else-negative : goal.returns-else-negative
returns-else-negative g c = with_plus g.N.Number.BITS _ c.if-negative.false
