-- Sum and difference of numbers below m, with a carry or borrow in and out. Assumes nothing.
use Rattle.std.specs.Prelude.{Bool, true, false, ℕ, ◌+◌, ◌-◌, ◌%◌, leb, ltb}
use Rattle.numbers.specs.Numbers.{bit}

-- the number that comes out, and the carry or borrow
pub record Worked : Type 0 where
  pub number : ℕ
  pub carry : Bool

-- what takes m, two numbers below it and a carry or borrow
abbrev pub Operation : Type 0
Operation = ℕ → ℕ → ℕ → Bool → Worked

-- the sum mod m; the carry is that the sum is at least m
abbrev pub plus : Operation
plus m x y c = record { number = (x + y + bit c) % m; carry = leb m (x + y + bit c) }

-- the difference mod m; the borrow is that x is less than y plus the borrow taken in
abbrev pub minus : Operation
minus m x y c = record { number = (m + x - (y + bit c)) % m; carry = ltb x (y + bit c) }

-- subtraction, or where it is false addition
abbrev pub operation_of : Bool → Operation
operation_of false = plus
operation_of true = minus
