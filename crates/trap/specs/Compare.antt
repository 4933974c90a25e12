-- Whether a divide is refused, from one comparison and with no quotient. Assumes nothing.
use Rattle.std.specs.Prelude.{Bool, true, false, ℕ, ◌-◌, ◌*◌, ◌^◌, leb}
use Rattle.divide.specs.Divide.{dividend_of, divisor_of}

-- how many times the divisor a dividend must not reach: 2 ^ (n - 1) times if signed, 2 ^ n times if not. It is 1 more than the largest quotient
abbrev pub times_of : ℕ → Bool → ℕ
times_of n true = 2 ^ (n - 1)
times_of n false = 2 ^ n

-- the dividend is at least so many times the divisor, both without their signs
abbrev pub reaches : ℕ → Bool → ℕ → ℕ → Bool
reaches n s d b = leb (times_of n s * divisor_of n s b) (dividend_of n s d)
