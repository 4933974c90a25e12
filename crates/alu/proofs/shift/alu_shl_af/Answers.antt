-- `alu::shift::alu_shl_af` meets its contract: SHL, and A by the mask of bit 4. Assumes nothing.
use Rattle.alu.proofs.{StepLaws.with_a_lem}
use Rattle.alu.proofs.shift.alu_shl_af.Goals as goal

pub returns : goal.returns
returns g c =
    with_a_lem g.N.Number.BITS _ _ c.alu_shl-shifted.ensures (rw c.wide.ensures.value at c.of_last.ensures)
