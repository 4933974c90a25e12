-- `bcd::decimal::daa` meets its contract. Assumes nothing.
use Rattle.bcd.specs.Decimal.{daa_of}
use Rattle.bcd.proofs.decimal.daa.Goals as goal

pub returns : goal.returns
unfolding daa_of
returns c = rw (c.adjusted.ensures, c.tested-by.ensures, c.daa_overflow.ensures, c.ah.ensures, c.al-al.ensures)
