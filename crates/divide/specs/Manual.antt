-- Intel's 8086 Family User's Manual (October 1979), section 2.7 'Instruction Set', arithmetic instructions: DIV, of unsigned numbers, and
-- IDIV, of signed ones.
--
-- A dividend of 2n bits is divided by a divisor of n bits into a quotient and a remainder of n bits. A quotient that is not whole is cut
-- towards 0, and the remainder of IDIV has the dividend's sign. The quotient of DIV is at most FF, for words FFFF; that of IDIV is from -127
-- to 127, for words from -32,767 to 32,767. Beyond that, as for a divisor of 0, there is an interrupt of type 0, and neither quotient nor
-- remainder is defined. The flags never are. Assumes nothing.
use Rattle.std.specs.Prelude.{◌≡◌, Bool, true, false, ◌&&◌, ◌⊎◌, ℕ, ◌-◌, ◌^◌, ◌<◌, ℤ, pos, negsuc, neg_ℤ, nat_abs, ◌+ℤ◌, ◌*ℤ◌}
use Rattle.std.specs.Int.Signed.{le_z}
use Rattle.divide.specs.Divide.{DivideOutcome, accepted, refused}

-- a number below 0
abbrev pub negative : ℤ → Bool
negative (pos k) = false
negative (negsuc k) = true

-- z divided by w is q and leaves r: the dividend is quotient times divisor plus remainder, and the remainder, smaller than the divisor in
-- magnitude, is 0 or has the dividend's sign
pub record Division (z w q r : ℤ) : Type 0 where
  pub whole : q *ℤ w +ℤ r ≡ z
  pub smaller : nat_abs r < nat_abs w
  pub sign : (nat_abs r ≡ 0) ⊎ (negative r ≡ negative z)

-- the largest quotient of DIV, and of IDIV
abbrev pub largest_quotient : ℕ → Bool → ℕ
largest_quotient n false = 2 ^ n - 1
largest_quotient n true = 2 ^ (n - 1) - 1

-- and the least
abbrev pub least_quotient : ℕ → Bool → ℤ
least_quotient n false = pos 0
least_quotient n true = neg_ℤ (pos (largest_quotient n true))

-- a quotient from the least to the largest
abbrev pub in_range : ℕ → Bool → ℤ → Bool
in_range n s q = le_z (least_quotient n s) q && le_z q (pos (largest_quotient n s))

-- where the chip makes the interrupt, a divide here answers a refusal
abbrev pub is_refused : DivideOutcome → Bool
is_refused (accepted results) = false
is_refused (refused why) = true
