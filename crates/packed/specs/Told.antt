-- What a program in another language is told: a number for the outcome, and the carry or borrow as 0 or 1. Assumes nothing.
use Rattle.std.specs.Prelude.{Bool, Ok, Err, List, ℕ}
use Rattle.numbers.specs.Numbers.{bit}
use Rattle.packed.specs.Sum.{Operation}
use Rattle.packed.specs.Judge.{refusal_status}
use Rattle.packed.specs.Packed.{Outcome, packed_by}

-- 0, or the number of the refusal
abbrev pub status_of : Outcome → ℕ
status_of (Ok carry) = 0
status_of (Err why) = refusal_status why

-- what the byte for the carry or borrow holds; a refusal leaves it as it was
abbrev pub carry_left : Outcome → ℕ → ℕ
carry_left (Ok carry) was = bit carry
carry_left (Err why) was = was

-- the status, and what is left in the buffer and in that byte
pub record Told : Type 0 where
  pub status : ℕ
  pub buffer : List ℕ
  pub carry : ℕ

-- the three together
abbrev pub told : ℕ → List ℕ → ℕ → Told
told status buffer carry = record { status = status; buffer = buffer; carry = carry }

-- of an operation on packed strings
abbrev pub told_by : Operation → List ℕ → List ℕ → Bool → List ℕ → ℕ → Told
told_by op x y c out was =
    let done = packed_by op x y c out in told (status_of done.outcome) done.buffer (carry_left done.outcome was)
