-- `negate::negate_pair` meets its contract, by the law of the pair over the width. Assumes nothing.
use native.Mathlib.{Nat.zero-mod, Omega.arith}
use Rattle.negate.proofs.{NegateLaws.pair_is}
use Rattle.negate.proofs.negate_pair.Goals as goal

pub returns : goal.returns
returns g c =
    pair_is g.N.Number.BITS _ (omega arith) (omega arith) c.alu_neg-lower.ensures (rw (c.cut.ensures, zero-mod) at c.alu_sbb-upper.ensures)
