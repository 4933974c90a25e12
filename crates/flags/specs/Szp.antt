-- S, Z and P of a result of n bits; C, A and O as handed in.
-- Assumes nothing.
use Rattle.std.specs.Prelude.{ℕ, eqb}
use Rattle.numbers.specs.Numbers.{top_set}
use Rattle.flags.specs.Parity.{even_ones}
use Rattle.flags.specs.declared.word.Flags.{Flags}

-- S the top bit, Z that the result is 0, P by its low eight bits
unfoldable pub szp : ℕ → ℕ → Flags → Flags
szp n x f =
    record {
      carry = f.carry;
      parity = even_ones x;
      aux_carry = f.aux_carry;
      zero = eqb x 0;
      sign = top_set n x;
      overflow = f.overflow;
    }
