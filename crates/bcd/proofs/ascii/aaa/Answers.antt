-- `bcd::ascii::aaa` meets its contract, by the law of its moves. Assumes nothing.
use Rattle.std.proofs.Common.{arith}
use Rattle.bcd.specs.Ascii.{aaa_of}
use Rattle.bcd.proofs.{AdjustLaws.moved_up}
use Rattle.bcd.proofs.ascii.aaa.Goals as goal

pub returns : goal.returns
unfolding aaa_of
returns c =
    rw (c.cut.ensures, c.aaa_overflow.ensures, c.aaa_sign.ensures, c.low_digit_adjusts-adjusts.ensures, c.ah.ensures, c.al-al.ensures)
    (moved_up _ _ _ _ (omega arith) (omega arith) _)
