-- The table of statuses from 3 on, row by row in its order, over the numbers of a raw request. Assumes nothing.
use Rattle.std.specs.Prelude.{Bool, not, cond, ◌&&◌, ◌||◌, List, [], ◌∷◌, ℕ, ◌+◌, ◌^◌, leb, ltb, eqb}
use Rattle.std.specs.Int.Bits.{bit_and}
use Rattle.numbers.specs.Numbers.{between, is_set}
use Rattle.divide.specs.Divide.{applies}
use Rattle.divide.specs.declared.div.Refusal.{Refusal}
use Rattle.divide.specs.declared.div.Refusal.TheVariants.{ZeroDivisor, TooWide, SignRange}
use Rattle.answer.specs.Asked.{Raw}

-- 10 and 11: multiply and divide
abbrev pub is_mul_div : ℕ → Bool
is_mul_div op = between 0x10 0x11 op

-- 18 to 1C: the adjusts
abbrev pub is_adjust : ℕ → Bool
is_adjust op = between 0x18 0x1C op

-- op not listed: besides those there are 00 to 0C, the ALU's
abbrev pub unlisted : ℕ → Bool
unlisted op = not (leb op 0x0C || is_mul_div op || is_adjust op)

-- mode bit above 04; width on 18 to 1C; signed or REP off 10 and 11
abbrev pub wrong_mode : ℕ → ℕ → Bool
wrong_mode op mode = ltb 0x07 mode || (is_adjust op && is_set 0 mode) || (not (is_mul_div op) && (is_set 1 mode || is_set 2 mode))

-- the width that the mode names
abbrev pub width_by : ℕ → ℕ
width_by mode = cond (is_set 0 mode) 16 8

-- how many bits X has room for: AX has 16, a dividend twice the width, any other the width
abbrev pub x_bits : ℕ → ℕ → ℕ
x_bits op mode = cond (is_adjust op) 16 (cond (eqb op 0x11) (width_by mode + width_by mode) (width_by mode))

-- and Y: a count and AAD's byte have 8, NEG and the other adjusts have none, else it is the width
abbrev pub y_bits : ℕ → ℕ → ℕ
y_bits op mode = cond (between 0x05 0x0C op || eqb op 0x1A) 8 (cond (eqb op 0x04 || is_adjust op) 0 (width_by mode))

-- X or Y too large; flag outside 08D5
abbrev pub too_large : Raw → Bool
too_large r =
    leb (2 ^ x_bits r.op r.mode) r.x || leb (2 ^ y_bits r.op r.mode) r.y || not (eqb (bit_and r.flags 0x08D5) r.flags)

-- divide refused, and why: zero divisor, too wide, or sign range
abbrev pub refused_for : Refusal → Raw → Bool
refused_for why r = eqb r.op 0x11 && applies why (width_by r.mode) (is_set 1 r.mode) r.x r.y

-- the rows
abbrev pub rows : Raw → List (ℕ × Bool)
rows r =
    (3, unlisted r.op)
    ∷ (4, wrong_mode r.op r.mode)
    ∷ (5, too_large r)
    ∷ (6, refused_for ZeroDivisor r)
    ∷ (8, refused_for TooWide r)
    ∷ (9, refused_for SignRange r)
    ∷ []
