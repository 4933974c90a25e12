-- `divide::div::div` meets its contract: REP changes nothing of an unsigned divide. Assumes nothing.
use Rattle.divide.proofs.{DivLaws.when_unsigned}
use Rattle.divide.proofs.div.div.Goals as goal

pub returns-else-signed : goal.returns-else-signed
returns-else-signed g c = when_unsigned g.N.Number.BITS _ _ _ _ c.if-signed.false c.unsigned_div.ensures
