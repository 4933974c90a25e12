-- `bcd::ascii::aas` meets its contract, by the law of its moves. Assumes nothing.
use Rattle.std.proofs.Common.{arith}
use Rattle.bcd.specs.Ascii.{aas_of}
use Rattle.bcd.proofs.{AdjustLaws.moved_down}
use Rattle.bcd.proofs.ascii.aas.Goals as goal

pub returns : goal.returns
unfolding aas_of
returns c =
    rw (c.cut.ensures, c.aas_overflow-overflow.ensures, c.aas_sign-sign.ensures, c.low_digit_adjusts-adjusts.ensures, c.ah.ensures, c.al-al.ensures)
    (moved_down _ _ _ _ (omega arith) (omega arith) _)
