-- Multiply on n bits. The product is the manual's; REP, the undefined flags and the steps are the chart's.
-- Assumes nothing.
use Rattle.std.specs.Prelude.{Bool, true, false, not, cond, ℕ, ◌+◌, ◌*◌, ◌/◌, ◌%◌, ◌^◌, eqb, ℤ, neg_ℤ, ◌*ℤ◌}
use Rattle.std.specs.Bool.{xor}
use Rattle.std.specs.Int.Count.{ones}
use Rattle.numbers.specs.Numbers.{top, top_set, valued, magnitude, wrapped, fits_signed}
use Rattle.flags.specs.Word.{set_co, set_coa}
use Rattle.flags.specs.Szp.{szp}
use Rattle.flags.specs.declared.word.Flags.{Flags}
use Rattle.alu.specs.Result.{ResultCoa}
use Rattle.multiply.specs.Routines.{Multiplied, sign_sum}

-- the product of the numbers that the factors stand for, negated under REP
abbrev pub product_value : ℕ → Bool → Bool → ℕ → ℕ → ℤ
product_value n s rep x y = cond rep (neg_ℤ (valued s n x *ℤ valued s n y)) (valued s n x *ℤ valued s n y)

-- its 2n bits
abbrev pub product_of : ℕ → Bool → Bool → ℕ → ℕ → ℕ
product_of n s rep x y = wrapped (n + n) (product_value n s rep x y)

-- of 2n bits, the upper half as a signed word of 16 bits plus the lower half's top bit
abbrev pub halves_sum : ℕ → ℕ → ResultCoa
halves_sum n bits = sign_sum n (bits / 2 ^ n) (bits % 2 ^ n)

-- C and O: unsigned, the upper half is not 0; signed, the product does not fit n signed bits
abbrev pub carries : ℕ → Bool → Bool → ℕ → ℕ → Bool
carries n false rep x y = not (eqb (product_of n false rep x y / 2 ^ n) 0)
carries n true rep x y = not (fits_signed n (product_value n true rep x y))

-- unsigned, the other four stay; signed, A, S, Z and P come from that sum, of the product
abbrev pub mul_flags : ℕ → Bool → Bool → ℕ → ℕ → Flags → Flags
mul_flags n false rep x y f = set_co (carries n false rep x y) (carries n false rep x y) f
mul_flags n true rep x y f =
    szp 16 (halves_sum n (product_of n true rep x y)).result
    (set_coa (carries n true rep x y) (carries n true rep x y) (halves_sum n (product_of n true rep x y)).aux_carry f)

-- NEGATE runs on a signed product if REP and the two signs are odd in number
abbrev pub negates : ℕ → Bool → ℕ → ℕ → Bool
negates n rep x y = xor (xor rep (top_set n x)) (top_set n y)

-- one for each one of X, or of its magnitude, and 6n; then what the signs, NEGATE and the tail take, which is shorter where C is set
abbrev pub mul_steps : ℕ → Bool → Bool → ℕ → ℕ → ℕ
mul_steps n false rep x y =
    15 + 6 * n + ones x + cond (carries n false rep x y) 3 4 + cond rep (cond (top_set n y) 11 12) 0
mul_steps n true rep x y =
    18 + 6 * n + ones (magnitude true n x) + cond (top_set n x) 3 1 + cond (top_set n y) 5 6
    + cond (negates n rep x y) (cond (eqb y (top n)) 11 12) 0
    + cond (carries n true rep x y) 3 4

-- the multiply chart: product, flags and steps
unfoldable pub multiply : ℕ → Bool → Bool → ℕ → ℕ → Flags → Multiplied
multiply n s rep x y f =
    record { product = product_of n s rep x y; flags = mul_flags n s rep x y f; steps = mul_steps n s rep x y }
