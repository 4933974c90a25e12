-- DAA and DAS. Assumes nothing.
use Rattle.std.specs.Prelude.{ℕ, ◌+◌, ◌-◌, ◌*◌, ◌%◌, Bool, cond, ◌||◌, nat_lt}
use Rattle.flags.specs.Word.{set_coa}
use Rattle.numbers.specs.Numbers.{between}
use Rattle.flags.specs.Szp.{szp}
use Rattle.flags.specs.declared.word.Flags.{Flags}
use Rattle.bcd.specs.Adjust.{ah_of, al_of, adjusts}
use Rattle.bcd.specs.declared.adjust.Adjusted.{Adjusted}

-- the high digit's test: C is set, or AL is above 99, or above 9F with A
abbrev pub high_adjusts : ℕ → Bool → Bool → Bool
high_adjusts al a c = nat_lt (cond a 0x9F 0x99) al || c

-- how far AL moves: 6 by the one test, 60 by the other
abbrev pub distance : ℕ → Flags → ℕ
distance al f = cond (adjusts al f.aux_carry) 0x06 0 + cond (high_adjusts al f.aux_carry f.carry) 0x60 0

-- AH stays; S, Z and P are the new AL's; no step is counted
unfoldable pub decimal : ℕ → ℕ → Flags → Adjusted
decimal ah al f = record { ax = ah * 256 + al; flags = szp 8 al f; steps = 0 }

-- the two tests are the new A and the new C
abbrev pub named : ℕ → Bool → Flags → Flags
named al o f = set_coa (high_adjusts al f.aux_carry f.carry) o (adjusts al f.aux_carry) f

-- DAA's O, by AL and C as they were
abbrev pub daa_o : ℕ → Bool → Bool
daa_o al c = cond c (between 0x1A 0x7F al) (between 0x7A 0x7F al)

-- AL up
unfoldable pub daa_of : ℕ → Flags → Adjusted
daa_of ax f = decimal (ah_of ax) ((al_of ax + distance (al_of ax) f) % 256) (named (al_of ax) (daa_o (al_of ax) f.carry) f)

-- DAS's O, by AL, A and C as they were
abbrev pub das_o : ℕ → Bool → Bool → Bool
das_o al a c =
    cond c (cond a (between 0x80 0xE5 al) (between 0x80 0xDF al)) (cond a (between 0x80 0x85 al || between 0xA0 0xE5 al) (between 0x9A 0xDF al))

-- AL down
unfoldable pub das_of : ℕ → Flags → Adjusted
das_of ax f = decimal (ah_of ax) ((256 + al_of ax - distance (al_of ax) f) % 256) (named (al_of ax) (das_o (al_of ax) f.aux_carry f.carry) f)
