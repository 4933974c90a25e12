-- `instructions::by_value::aad` meets its contract, by the law of every adjust. Assumes nothing.
use Rattle.std.proofs.Common.{rules}
use native.Mathlib.Omega.{arith}
use Rattle.request.specs.declared.operation.Decimal.TheVariants.{Aad}
use Rattle.instructions.proofs.NamedLaws.{over-adjust}
use Rattle.instructions.proofs.by_value.aad.Goals as goal

pub returns : goal.returns
returns c = let a = c.args in over-adjust Aad a.imm8 a.regs (omega arith) (omega arith) (search rules)
