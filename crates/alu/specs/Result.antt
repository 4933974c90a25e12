-- What the operations answer, at either width: the result, and the flags that the operation names.
-- Assumes nothing.
use Rattle.std.specs.Prelude.{Bool, ℕ}

-- C alone: SHR and SAR
pub record ResultC : Type 0 where
  pub result : ℕ
  pub carry : Bool

-- C and O: SHL and the rotates
pub record ResultCo : Type 0 where
  pub result : ℕ
  pub carry : Bool
  pub overflow : Bool

-- C, O and A: sums, differences and op 0C
pub record ResultCoa : Type 0 where
  pub result : ℕ
  pub carry : Bool
  pub overflow : Bool
  pub aux_carry : Bool
