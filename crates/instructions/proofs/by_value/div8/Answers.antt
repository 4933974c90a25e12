-- AX has room for both results of `instructions::by_value::div8`: they are bytes. Assumes nothing.
use native.Mathlib.Omega.{arith}
use Rattle.instructions.proofs.NamedLaws.{checked_bytes}
use Rattle.instructions.proofs.by_value.div8.Goals as goal

pub overflow_mul-a : goal.overflow_mul-a
overflow_mul-a c = let bytes = checked_bytes _ _ _ _ _ _ c.divided-a.ensures in omega (arith, bytes.1)

pub overflow_add-a : goal.overflow_add-a
overflow_add-a c = let bytes = checked_bytes _ _ _ _ _ _ c.divided-a.ensures in omega (arith, bytes.0, bytes.1)
