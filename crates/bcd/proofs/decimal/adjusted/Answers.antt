-- `bcd::decimal::adjusted` meets its contract. Assumes nothing.
use Rattle.bcd.specs.Decimal.{decimal}
use Rattle.bcd.proofs.decimal.adjusted.Goals as goal

pub returns : goal.returns
unfolding decimal
returns c = rw (c.from_be_bytes.ensures, c.set_szp_flags_from_result.ensures)
