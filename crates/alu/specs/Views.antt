-- The answers of the code, whose numbers are of any type with a value, read as those of the definitions over n.
-- Assumes nothing.
use Rattle.std.specs.Prelude.{ℕ}
use Rattle.alu.specs.Result.{ResultC, ResultCo, ResultCoa}
use Rattle.alu.specs.Step.{Step}
use Rattle.alu.specs.declared.result.ResultC
use Rattle.alu.specs.declared.result.ResultCo
use Rattle.alu.specs.declared.result.ResultCoa
use Rattle.alu.specs.declared.step.Step

abbrev pub c : {N : Type 0} → (N → ℕ) → ResultC.ResultC N → ResultC
c value r = record { result = value r.result; carry = r.carry }

abbrev pub co : {N : Type 0} → (N → ℕ) → ResultCo.ResultCo N → ResultCo
co value r = record { result = value r.result; carry = r.carry; overflow = r.overflow }

abbrev pub coa : {N : Type 0} → (N → ℕ) → ResultCoa.ResultCoa N → ResultCoa
coa value r = record { result = value r.result; carry = r.carry; overflow = r.overflow; aux_carry = r.aux_carry }

abbrev pub stepped : {N : Type 0} → (N → ℕ) → Step.Step N → Step
stepped value s = record { value = value s.value; carry = s.carry }
