-- `trap::compare::power` meets its contract: a one, shifted. Assumes nothing.
use mathlib.Core.Path.{◌∙◌}
use native.Mathlib.Omega.{arith}
use lib.{Dec.lit<, Pow.shl_exact}
use Rattle.trap.proofs.compare.power.Goals as goal

pub returns : goal.returns
returns c = shl_exact 1 c.args.bits 64 (lit< tt) (omega arith) ∙ omega arith
