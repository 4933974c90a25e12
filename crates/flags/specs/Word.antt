-- The flags word: where each of the six flags stands in it, and what an operation that names some of them leaves of the others.
-- Assumes nothing.
use Rattle.std.specs.Prelude.{Bool, ℕ, ◌+◌, ◌*◌, eqb}
use Rattle.numbers.specs.Numbers.{bit, is_set}
use Rattle.flags.specs.declared.word.Flags.{Flags}

-- C is the word's bit 0, P its bit 2, A 4, Z 6, S 7 and O 11
unfoldable pub word_of : Flags → ℕ
word_of f =
    bit f.carry * 0x0001 + bit f.parity * 0x0004 + bit f.aux_carry * 0x0010 + bit f.zero * 0x0040 + bit f.sign * 0x0080
    + bit f.overflow * 0x0800

-- the flags that a word holds, by the same places
unfoldable pub flags_of : ℕ → Flags
flags_of w =
    record {
      carry = is_set 0 w;
      parity = is_set 2 w;
      aux_carry = is_set 4 w;
      zero = is_set 6 w;
      sign = is_set 7 w;
      overflow = is_set 11 w;
    }

-- no bit is set but those six, all together 08D5: the flags of the word, put together, are the word
unfoldable pub is_flags : ℕ → Bool
is_flags w = eqb (word_of (flags_of w)) w

-- an operation that names C alone; the other five stay
abbrev pub set_c : Bool → Flags → Flags
set_c c f =
    record { carry = c; parity = f.parity; aux_carry = f.aux_carry; zero = f.zero; sign = f.sign; overflow = f.overflow }

-- one that names C and O
abbrev pub set_co : Bool → Bool → Flags → Flags
set_co c o f =
    record { carry = c; parity = f.parity; aux_carry = f.aux_carry; zero = f.zero; sign = f.sign; overflow = o }

-- one that names C, O and A
abbrev pub set_coa : Bool → Bool → Bool → Flags → Flags
set_coa c o a f =
    record { carry = c; parity = f.parity; aux_carry = a; zero = f.zero; sign = f.sign; overflow = o }
