-- Intel's 8086 Family User's Manual (October 1979), section 2.7 'Instruction Set', arithmetic instructions: MUL, of unsigned numbers, and
-- IMUL, of signed ones.
--
-- Two factors of n bits give a product of 2n bits. C and O are set if its upper half holds digits of it: of MUL, if that half is not 0; of
-- IMUL, if it is not the sign extension of the lower half. Else both are cleared. A, P, S and Z are undefined. Assumes nothing.
use Rattle.std.specs.Prelude.{Bool, true, false, not, cond, ℕ, ◌-◌, ◌/◌, ◌%◌, ◌^◌, eqb}
use Rattle.numbers.specs.Numbers.{top_set}

-- n bits that all repeat the lower half's top bit
abbrev pub extension : ℕ → ℕ → ℕ
extension n lower = cond (top_set n lower) (2 ^ n - 1) 0

-- the upper half of 2n bits does so
abbrev pub extends : ℕ → ℕ → Bool
extends n q = eqb (q / 2 ^ n) (extension n (q % 2 ^ n))

-- C and O, by the 2n bits of a product of MUL, and of IMUL
abbrev pub significant : ℕ → Bool → ℕ → Bool
significant n false q = not (eqb (q / 2 ^ n) 0)
significant n true q = not (extends n q)
