-- Whether a divide given as numbers would trap: by the status that the divide itself is given. Assumes nothing.
use Rattle.std.specs.Prelude.{Bool, not, cond, ℕ, eqb, Result, Ok, Err}
use Rattle.numbers.specs.Numbers.{bit, between}
use Rattle.answer.specs.Asked.{status_of}
use Rattle.trap.specs.declared.Unasked.{Unasked}
use Rattle.trap.specs.declared.Unasked.TheVariants.{WrongMode, TooLarge}

-- a status, and 1 where the divide would trap, else 0
pub record WouldTrap : Type 0 where
  pub status : ℕ
  pub trap : ℕ

-- the two together
abbrev pub trap_told : ℕ → ℕ → WouldTrap
trap_told status trap = record { status = status; trap = trap }

-- of the divide's own status: 4 and 5 are told as they are, and any other as 0; and it would trap unless that status is 0
abbrev pub trap_by : ℕ → WouldTrap
trap_by k = trap_told (cond (between 4 5 k) k 0) (bit (not (eqb k 0)))

-- the divide is op 11, with no flag set; the law `told_of` has it for all that may be set
unfoldable pub would_trap : ℕ → ℕ → ℕ → WouldTrap
would_trap mode dividend divisor = trap_by (status_of 0x11 mode 0 dividend divisor)

-- what an answer comes to: whether the divide would trap, or that it cannot be asked, which is told as one that would
abbrev pub told_as : Result Bool Unasked → WouldTrap
told_as (Ok traps) = trap_told 0 (bit traps)
told_as (Err WrongMode) = trap_told 4 1
told_as (Err TooLarge) = trap_told 5 1
