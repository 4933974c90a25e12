-- `corx::corx_round` meets its contract: what is added fits, and the rest is the definition. Assumes nothing.
use Prim.Native.Nat.{◌%◌}
use native.Mathlib.Omega.{arith}
use Rattle.corx.proofs.{CorxLaws.once_le, CorxLaws.round_of}
use Rattle.corx.proofs.corx_round.Goals as goal

pub overflow_mul-result : goal.overflow_mul-result
overflow_mul-result c = omega (arith, once_le c.args.from.addend (c.args.from.multiplier % 2) (omega arith))

pub overflow_add-result : goal.overflow_add-result
overflow_add-result c = omega (arith, once_le c.args.from.addend (c.args.from.multiplier % 2) (omega arith))

pub returns : goal.returns
returns c = round_of _ (omega arith) (omega arith) (omega arith) (omega arith)
