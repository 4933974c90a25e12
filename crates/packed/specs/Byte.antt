-- One byte of two digits, by ADC and DAA or by SBB and DAS. Assumes nothing.
use Rattle.std.specs.Prelude.{Bool, false, ℕ}
use Rattle.flags.specs.declared.word.Flags.{Flags}
use Rattle.alu.specs.declared.result.ResultCoa.{ResultCoa}
use Rattle.bcd.specs.Adjust.{al_of}
use Rattle.bcd.specs.declared.adjust.Adjusted.{Adjusted}
use Rattle.packed.specs.Digits.{two_digits, byte_of}
use Rattle.packed.specs.Sum.{Operation}
use Rattle.packed.specs.declared.byte.Byte.{Byte}

-- the operation on the numbers below 100 that two bytes stand for
abbrev pub byte_by : Operation → ℕ → ℕ → Bool → Byte
byte_by op x y c =
    let worked = op 100 (two_digits x) (two_digits y) c in record { byte = byte_of worked.number; carry = worked.carry }

-- C, O and A as ADC or SBB left them. The adjust reads A and C alone, and sets all six
abbrev pub flags_after : ResultCoa ℕ → Flags
flags_after made =
    record {
      carry = made.carry;
      parity = false;
      aux_carry = made.aux_carry;
      zero = false;
      sign = false;
      overflow = made.overflow;
    }

-- AL and C after the adjust
abbrev pub of_adjusted : Adjusted → Byte
of_adjusted a = record { byte = al_of a.ax; carry = a.flags.carry }
