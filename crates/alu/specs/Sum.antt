-- ADD, ADC, SUB, SBB and NEG on numbers of n bits: the result mod 2 ^ n; C the carry or borrow; O that the signed result leaves its range;
-- A the carry or borrow at bit 4. Assumes nothing.
use Rattle.std.specs.Prelude.{Bool, false, not, ℕ, ◌+◌, ◌-◌, ◌%◌, ◌^◌, leb, ltb, pos, ◌+ℤ◌, ◌-ℤ◌}
use Rattle.numbers.specs.Numbers.{bit, signed, fits_signed}
use Rattle.alu.specs.Result.{ResultCoa}

-- a plus b plus the carry taken in
unfoldable pub adc : ℕ → ℕ → ℕ → Bool → ResultCoa
adc n a b c =
    record {
      result = (a + b + bit c) % 2 ^ n;
      carry = leb (2 ^ n) (a + b + bit c);
      overflow = not (fits_signed n (signed n a +ℤ signed n b +ℤ pos (bit c)));
      aux_carry = leb 16 (a % 16 + b % 16 + bit c);
    }

-- a minus b minus the borrow taken in
unfoldable pub sbb : ℕ → ℕ → ℕ → Bool → ResultCoa
sbb n a b c =
    record {
      result = (2 ^ n + a - (b + bit c)) % 2 ^ n;
      carry = ltb a (b + bit c);
      overflow = not (fits_signed n (signed n a -ℤ signed n b -ℤ pos (bit c)));
      aux_carry = ltb (a % 16) (b % 16 + bit c);
    }

-- ADC with C clear
abbrev pub add : ℕ → ℕ → ℕ → ResultCoa
add n a b = adc n a b false

-- SBB with C clear
abbrev pub sub : ℕ → ℕ → ℕ → ResultCoa
sub n a b = sbb n a b false

-- 0 minus x
abbrev pub neg : ℕ → ℕ → ResultCoa
neg n x = sub n 0 x
