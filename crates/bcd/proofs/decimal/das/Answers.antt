-- `bcd::decimal::das` meets its contract. Assumes nothing.
use Rattle.bcd.specs.{Adjust.al_of, Decimal.das_of}
use Rattle.bcd.proofs.{AdjustLaws.moved_back}
use Rattle.bcd.proofs.decimal.das.Goals as goal

pub returns : goal.returns
unfolding das_of
returns c =
    rw (c.adjusted.ensures, c.tested-by.ensures, c.das_overflow-overflow.ensures, c.ah.ensures, c.al-al.ensures, moved_back (al_of c.args.ax) c.args.flags)
