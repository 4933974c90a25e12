-- Hexadecimal digits: both letter cases are read; capitals are written. Assumes nothing.
use Rattle.std.specs.Prelude.{cond, List, Option, Some, None, ℕ, ◌+◌, ◌-◌, ltb}
use Rattle.numbers.specs.Numbers.{between}
use Rattle.numbers.specs.Table.{Holds}

-- the number that a byte stands for: 0 to 9, A to F, a to f; 16 where it is no digit
unfoldable pub digit_of : ℕ → ℕ
digit_of b = cond (between 0x30 0x39 b) (b - 0x30) (cond (between 0x41 0x46 b) (b - 0x37) (cond (between 0x61 0x66 b) (b - 0x57) 16))

-- the byte that stands for a number below 16
unfoldable pub capital_of : ℕ → ℕ
capital_of k = cond (ltb k 10) (0x30 + k) (0x37 + k)

-- the digits, at every byte
abbrev pub DigitTable : List ℕ → Type 0
DigitTable = Holds digit_of 256

-- the capitals, at every digit
abbrev pub CapitalTable : List ℕ → Type 0
CapitalTable = Holds capital_of 16

-- a number below a bound; none where it reaches it
abbrev pub below : ℕ → ℕ → Option ℕ
below bound n = cond (ltb n bound) (Some n) None
