-- `instructions::by_value::aaa` meets its contract, by the law of every adjust. Assumes nothing.
use Rattle.std.proofs.Common.{rules}
use native.Mathlib.Omega.{arith}
use Rattle.request.specs.declared.operation.Decimal.TheVariants.{Aaa}
use Rattle.instructions.proofs.NamedLaws.{over-adjust}
use Rattle.instructions.proofs.by_value.aaa.Goals as goal

pub returns : goal.returns
returns c = let a = c.args in over-adjust Aaa 0 a.regs (omega arith) (omega arith) (search rules)
