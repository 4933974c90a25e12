-- Divide: 2n bits by n bits. Quotient, remainder and refusals are the manual's; REP, flags and steps are the chart's.
-- Assumes nothing.
use Rattle.std.specs.Prelude.{Bool, true, false, not, cond, ◌&&◌, ℕ, ◌+◌, ◌-◌, ◌/◌, ◌^◌, leb, ltb, eqb, ℤ, neg_ℤ, nat_abs}
use Rattle.std.specs.Int.Signed.{quot_z, rem_z}
use Rattle.numbers.specs.Numbers.{between, top, top_set, valued, magnitude, wrapped}
use Rattle.flags.specs.Word.{set_co}
use Rattle.flags.specs.declared.word.Flags.{Flags}
use Rattle.cord.specs.Cord.{Results, Roads, roads_of, no_roads, last_compare, cord_steps}
use Rattle.divide.specs.Flags.{compare_flags}
use Rattle.divide.specs.declared.div.Refusal.{Refusal}
use Rattle.divide.specs.declared.div.Refusal.TheVariants.{ZeroDivisor, TooWide, SignRange}

-- the results, or why there are none
pub data DivideOutcome : Type 0 where
  accepted : Results → DivideOutcome
  refused : Refusal → DivideOutcome

-- what a divide answers, with the flags, the roads by which the quotient's ones came, and the steps of either
pub record Divided : Type 0 where
  pub outcome : DivideOutcome
  pub flags : Flags
  pub roads : Roads
  pub steps : ℕ

-- the quotient of the numbers that dividend d and divisor b stand for, cut towards zero
abbrev pub quotient_of : ℕ → Bool → ℕ → ℕ → ℤ
quotient_of n s d b = quot_z (valued s (n + n) d) (valued s n b)

-- what is left of the dividend then, with its sign
abbrev pub remainder_of : ℕ → Bool → ℕ → ℕ → ℤ
remainder_of n s d b = rem_z (valued s (n + n) d) (valued s n b)

-- unsigned, the divisor has to be above the dividend's upper half; signed, it must not be 0, and the quotient's magnitude has to be below
-- 2 ^ (n - 1)
abbrev pub accepts : ℕ → Bool → ℕ → ℕ → Bool
accepts n false d b = ltb (d / 2 ^ n) b
accepts n true d b = not (eqb b 0) && ltb (nat_abs (quotient_of n true d b)) (top n)

-- a quotient's magnitude that n bits do not hold
abbrev pub too_wide : ℕ → ℕ → Bool
too_wide n q = leb (2 ^ n) q

-- one that they hold, but not with a sign
abbrev pub sign_range : ℕ → ℕ → Bool
sign_range n q = between (top n) (2 ^ n - 1) q

-- why a divide is refused: the divisor is 0; it is not 0, and the quotient's magnitude is at least 2 ^ n; or the divide is signed, the divisor
-- not 0, and the magnitude from 2 ^ (n - 1) to 2 ^ n - 1
abbrev pub applies : Refusal → ℕ → Bool → ℕ → ℕ → Bool
applies ZeroDivisor n s d b = eqb b 0
applies TooWide n s d b = not (eqb b 0) && too_wide n (nat_abs (quotient_of n s d b))
applies SignRange n s d b = s && not (eqb b 0) && sign_range n (nat_abs (quotient_of n s d b))

-- the three are tested in that order, of a divide that is not accepted: where the first two do not apply, the third does
unfoldable pub refusal_of : ℕ → Bool → ℕ → ℕ → Refusal
refusal_of n s d b = cond (applies ZeroDivisor n s d b) ZeroDivisor (cond (applies TooWide n s d b) TooWide SignRange)

-- the dividend that CORD works on: a magnitude
abbrev pub dividend_of : ℕ → Bool → ℕ → ℕ
dividend_of n s d = magnitude s (n + n) d

-- and the divisor
abbrev pub divisor_of : ℕ → Bool → ℕ → ℕ
divisor_of n s b = magnitude s n b

-- a divide that is refused is so at the first compare, where the upper half is at least the divisor, or else later
abbrev pub at_first : ℕ → Bool → ℕ → ℕ → Bool
at_first n s d b = leb (divisor_of n s b) (dividend_of n s d / 2 ^ n)

-- PREIDIV: 7 steps for a negative dividend or 3, and 5 for a negative divisor or 6
abbrev pub pre_steps : ℕ → ℕ → ℕ → ℕ
pre_steps n d b = cond (top_set (n + n) d) 7 3 + cond (top_set n b) 5 6

-- the totals: 7 and CORD's; signed, 19 and PREIDIV's and CORD's
abbrev pub accepted_steps : ℕ → Bool → ℕ → ℕ → ℕ
accepted_steps n false d b = 7 + cord_steps n b d
accepted_steps n true d b = 19 + pre_steps n d b + cord_steps n (divisor_of n true b) (dividend_of n true d)

-- those of a refusal: 9; signed, 10 and PREIDIV's at the first compare, or for sign range 11 and PREIDIV's and CORD's
abbrev pub refused_steps : ℕ → Bool → ℕ → ℕ → ℕ
refused_steps n false d b = 9
refused_steps n true d b =
    cond (at_first n true d b) (10 + pre_steps n d b) (11 + pre_steps n d b + cord_steps n (divisor_of n true b) (dividend_of n true d))

-- the flags that CORD leaves of an accepted divide: those of the last compare; C says that the quotient lies below 2 ^ (n - 1)
abbrev pub cord_flags : ℕ → ℕ → ℕ → Flags → Flags
cord_flags n b d f = compare_flags n (last_compare n b n d) b (ltb (d / b) (top n)) f

-- a signed divide clears C and O after that
abbrev pub accepted_flags : ℕ → Bool → ℕ → ℕ → Flags → Flags
accepted_flags n false d b f = cord_flags n b d f
accepted_flags n true d b f = set_co false false (cord_flags n (divisor_of n true b) (dividend_of n true d) f)

-- the left side of the compare that a refusal leaves the flags of: the first, where that refuses, or for sign range the last one made
abbrev pub refused_compare : ℕ → Bool → ℕ → ℕ → ℕ
refused_compare n s d b = cond (at_first n s d b) (dividend_of n s d / 2 ^ n) (last_compare n (divisor_of n s b) n (dividend_of n s d))

-- A, O, S, Z and P of that compare, and C clear
abbrev pub refused_flags : ℕ → Bool → ℕ → ℕ → Flags → Flags
refused_flags n s d b f = compare_flags n (refused_compare n s d b) (divisor_of n s b) false f

-- the roads by which the ones of an accepted divide came: CORD's, on the magnitudes
abbrev pub accepted_roads : ℕ → Bool → ℕ → ℕ → Roads
accepted_roads n s d b = roads_of n (divisor_of n s b) (dividend_of n s d)

-- REP negates a signed quotient
abbrev pub quotient_returned : Bool → Bool → ℤ → ℤ
quotient_returned s rep q = cond (s && rep) (neg_ℤ q) q

-- the n bits of quotient and remainder
abbrev pub results_of : ℕ → Bool → Bool → ℕ → ℕ → Results
results_of n s rep d b =
    record { quotient = wrapped n (quotient_returned s rep (quotient_of n s d b)); remainder = wrapped n (remainder_of n s d b) }

-- the divide chart: quotient, remainder, flags, roads and steps if accepted; else the refusal, its flags, no roads and its steps
unfoldable pub divide : ℕ → Bool → Bool → ℕ → ℕ → Flags → Divided
divide n s rep d b f =
    cond (accepts n s d b)
    (record { outcome = accepted (results_of n s rep d b); flags = accepted_flags n s d b f; roads = accepted_roads n s d b; steps = accepted_steps n s d b })
    (record { outcome = refused (refusal_of n s d b); flags = refused_flags n s d b f; roads = no_roads; steps = refused_steps n s d b })
