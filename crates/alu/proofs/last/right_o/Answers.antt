-- `alu::last::right_o` meets its contract: the top bit against the bit below it. Assumes nothing.
use mathlib.Core.Bool.{xor}
use Prim.Native.Nat.{◌-◌}
use Rattle.numbers.proofs.{Masks.mask_bit, Widths.half_top}
use Rattle.alu.proofs.last.right_o.Goals as goal

pub returns : goal.returns
unfolding xor
returns g c =
    let bits = g.N.Number.BITS in
    let law = g.met.N.Number in
    rw (c.of_last.ensures, c.top_set.ensures, c.wide.ensures.value, c.TOP.ensures, law.top_is, half_top bits law.is_8_or_16, mask_bit (bits - 2) _)
