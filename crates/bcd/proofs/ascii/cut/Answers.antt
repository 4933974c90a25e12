-- `bcd::ascii::cut` meets its contract. Assumes nothing.
use Rattle.bcd.specs.Ascii.{ascii}
use Rattle.bcd.proofs.{AdjustLaws.steps_less}
use Rattle.bcd.proofs.ascii.cut.Goals as goal

pub returns : goal.returns
unfolding ascii
returns c = rw (c.parity.ensures, c.from_be_bytes.ensures, steps_less c.args.adjusted)
