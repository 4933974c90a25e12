-- A single step of a shift or rotate of n bits, and the step repeated.
-- Assumes nothing.
use Rattle.std.specs.Prelude.{Bool, false, ℕ, zero, suc, ◌+◌, ◌*◌, ◌/◌, ◌%◌, ◌^◌}
use Rattle.numbers.specs.Numbers.{bit, is_set, top_set}

-- the seven that differ in how a bit moves and what enters
pub data Shift : Type 0 where
  Shl Shr Sar Rol Ror Rcl Rcr : Shift

-- a value and the bit that last left it, which is C
pub record Step : Type 0 where
  pub value : ℕ
  pub carry : Bool

-- leftward: a bit enters below, and the top bit leaves
unfoldable pub left : ℕ → Bool → ℕ → Step
left n enters x = record { value = (x * 2 + bit enters) % 2 ^ n; carry = top_set n x }

-- rightward: a bit enters above, and bit 0 leaves
unfoldable pub right : ℕ → Bool → ℕ → Step
right n enters x = record { value = (bit enters * 2 ^ n + x) / 2; carry = is_set 0 x }

-- what enters: nothing in SHL and SHR, the sign again in SAR, the bit that leaves in ROL and ROR, C in RCL and RCR
unfoldable pub step : ℕ → Shift → Step → Step
step n Shl s = left n false s.value
step n Shr s = right n false s.value
step n Sar s = right n (top_set n s.value) s.value
step n Rol s = left n (top_set n s.value) s.value
step n Ror s = right n (is_set 0 s.value) s.value
step n Rcl s = left n s.carry s.value
step n Rcr s = right n s.carry s.value

-- a value before the first step
abbrev pub before : ℕ → Bool → Step
before x c = record { value = x; carry = c }

-- the step made as often as the count says
unfoldable pub steps : ℕ → Shift → ℕ → Step → Step
steps n shift zero s = s
steps n shift (suc k) s = step n shift (steps n shift k s)
