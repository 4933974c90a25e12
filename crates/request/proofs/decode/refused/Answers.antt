-- `request::decode::refused` meets its contract: the ranges of ops that are listed, and those between. Assumes nothing.
use mathlib.Core.Path.{refl}
use native.Mathlib.Omega.{arith}
use Rattle.std.specs.declared.result.Result.TheVariants.{Err}
use Rattle.request.specs.Operation.{ops, listed, operation_of}
use Rattle.request.specs.declared.decode.Undecoded.TheVariants.{Unlisted, WrongMode}
use Rattle.request.proofs.{RequestLaws.refuses, RequestLaws.refuses_above}
use Rattle.request.proofs.decode.refused.Goals as goal

pub returns-in-0-to-12 : goal.returns-in-0-to-12
unfolding operation_of listed ops
returns-in-0-to-12 c = refuses (Err WrongMode) 0x00 0x0D refl c.args.op (omega arith) (omega arith)

pub returns-in-16-to-17 : goal.returns-in-16-to-17
unfolding operation_of listed ops
returns-in-16-to-17 c = refuses (Err WrongMode) 0x10 0x02 refl c.args.op (omega arith) (omega arith)

pub returns-in-24-to-28 : goal.returns-in-24-to-28
unfolding operation_of listed ops
returns-in-24-to-28 c = refuses (Err WrongMode) 0x18 0x05 refl c.args.op (omega arith) (omega arith)

pub returns-in_default : goal.returns-in_default
unfolding operation_of listed ops
returns-in_default c = refuses (Err Unlisted) 0x0D 0x03 refl c.args.op (omega arith) (omega arith)

pub returns-in_default-2 : goal.returns-in_default-2
unfolding operation_of listed ops
returns-in_default-2 c = refuses (Err Unlisted) 0x12 0x06 refl c.args.op (omega arith) (omega arith)

pub returns-in_default-3 : goal.returns-in_default-3
unfolding operation_of listed ops
returns-in_default-3 c = refuses_above c.args.op (omega arith)
