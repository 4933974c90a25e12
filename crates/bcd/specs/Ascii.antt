-- AAA, AAS and AAD. Assumes nothing.
use Rattle.std.specs.Prelude.{ℕ, ◌+◌, ◌-◌, ◌*◌, ◌%◌, Bool, true, false, cond, ◌&&◌, ◌||◌, ◌==◌, count_ones, nat_le}
use Rattle.flags.specs.Parity.{even_ones}
use Rattle.numbers.specs.Numbers.{between}
use Rattle.flags.specs.Szp.{szp}
use Rattle.flags.specs.declared.word.Flags.{Flags}
use Rattle.bcd.specs.Adjust.{ah_of, al_of, adjusts}
use Rattle.bcd.specs.declared.adjust.Adjusted.{Adjusted}

-- what AAA and AAS leave. AL is cut to its low digit, but Z and P are of AL before it is; an adjust sets A and C and takes 6 steps, none
-- clears both and takes 7
unfoldable pub ascii : ℕ → ℕ → Bool → Bool → Bool → Adjusted
ascii ah al adjusted o s =
    record {
      ax = ah * 256 + al % 16;
      flags = record { carry = adjusted; parity = even_ones al; aux_carry = adjusted; zero = (al == 0); sign = s; overflow = o };
      steps = cond adjusted 6 7;
    }

-- AAA's O, by AL as it was
abbrev pub aaa_o : ℕ → Bool
aaa_o al = between 0x7A 0x7F al

-- AAA's S, by AL as it was
abbrev pub aaa_s : ℕ → Bool
aaa_s al = between 0x7A 0xF9 al

-- AH up one and AL up 6, both mod 256
unfoldable pub aaa_of : ℕ → Flags → Adjusted
aaa_of ax f =
    cond (adjusts (al_of ax) f.aux_carry)
    (ascii ((ah_of ax + 1) % 256) ((al_of ax + 6) % 256) true (aaa_o (al_of ax)) (aaa_s (al_of ax)))
    (ascii (ah_of ax) (al_of ax) false (aaa_o (al_of ax)) (aaa_s (al_of ax)))

-- AAS's O, by AL and A as they were
abbrev pub aas_o : ℕ → Bool → Bool
aas_o al a = a && between 0x80 0x85 al

-- AAS's S, by AL and A as they were
abbrev pub aas_s : ℕ → Bool → Bool
aas_s al a = cond a (nat_le al 0x05 || nat_le 0x86 al) (nat_le 0x80 al)

-- AH down one and AL down 6
unfoldable pub aas_of : ℕ → Flags → Adjusted
aas_of ax f =
    cond (adjusts (al_of ax) f.aux_carry)
    (ascii ((256 + ah_of ax - 1) % 256) ((256 + al_of ax - 6) % 256) true (aas_o (al_of ax) f.aux_carry) (aas_s (al_of ax) f.aux_carry))
    (ascii (ah_of ax) (al_of ax) false (aas_o (al_of ax) f.aux_carry) (aas_s (al_of ax) f.aux_carry))

-- AH times the byte goes into AL, mod 256, and AH becomes 0; S, Z and P are the new AL's; 56 steps and one for each of the byte's ones
unfoldable pub aad_of : ℕ → ℕ → Flags → Adjusted
aad_of ax byte f =
    record {
      ax = (al_of ax + ah_of ax * byte) % 256;
      flags = szp 8 ((al_of ax + ah_of ax * byte) % 256) f;
      steps = 56 + count_ones byte;
    }
