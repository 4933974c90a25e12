-- The microcode's routines around CORX, over the width n: PREIMUL, the product with NEGATE, MULCOF and IMULCOF.
-- Assumes nothing.
use Rattle.std.specs.Prelude.{Bool, not, cond, ℕ, ◌+◌, ◌*◌, ◌/◌, ◌%◌, ◌^◌, eqb}
use Rattle.std.specs.Bool.{xor}
use Rattle.numbers.specs.Numbers.{top_set, signed, wrapped, negated}
use Rattle.flags.specs.Word.{set_co, set_coa}
use Rattle.flags.specs.Szp.{szp}
use Rattle.flags.specs.declared.word.Flags.{Flags}
use Rattle.alu.specs.Sum.{adc}
use Rattle.alu.specs.Result.{ResultCoa}
use Rattle.negate.specs.Negate.{Negate}
use Rattle.corx.specs.Corx.{Halves, corx}

-- what a multiply answers: the product's 2n bits, the flags and the steps
pub record Multiplied : Type 0 where
  pub product : ℕ
  pub flags : Flags
  pub steps : ℕ

-- both factors made positive, and the flag flipped for each that was not: 8 steps, or 6 for a first factor at least 0, and 5, or 6 for a second
unfoldable pub preimul : ℕ → ℕ → ℕ → Bool → Negate
preimul n x y negate =
    record {
      tmpa = 0;
      tmpb = cond (top_set n y) (negated n y) y;
      tmpc = cond (top_set n x) (negated n x) x;
      carry = top_set n y;
      neg_flag = xor (xor negate (top_set n x)) (top_set n y);
      steps = cond (top_set n x) 8 6 + cond (top_set n y) 5 6;
    }

-- CORX, and where the flag is set NEGATE, of 11 steps if the second factor's top bit is set and else 12; 4 steps around them
unfoldable pub multiplied : ℕ → Negate → Halves
multiplied n f =
    record {
      tmpa = cond f.neg_flag (negated (n + n) (f.tmpb * f.tmpc)) (f.tmpb * f.tmpc) / 2 ^ n;
      tmpc = cond f.neg_flag (negated (n + n) (f.tmpb * f.tmpc)) (f.tmpb * f.tmpc) % 2 ^ n;
      steps = (corx n f.tmpb f.tmpc (f.steps + 4)).steps + cond f.neg_flag (cond (top_set n f.tmpb) 11 12) 0;
    }

-- C and O of an unsigned product: its upper half is not 0; 9 steps, or 10 where it is
unfoldable pub mulcof : ℕ → Halves → Flags → Multiplied
mulcof n h f =
    record {
      product = h.tmpa * 2 ^ n + h.tmpc;
      flags = set_co (not (eqb h.tmpa 0)) (not (eqb h.tmpa 0)) f;
      steps = h.steps + cond (not (eqb h.tmpa 0)) 9 10;
    }

-- n bits as a signed word of 16 bits
abbrev pub widened : ℕ → ℕ → ℕ
widened n half = wrapped 16 (signed n half)

-- the upper half, widened, and the lower half's top bit added to it
abbrev pub sign_sum : ℕ → ℕ → ℕ → ResultCoa
sign_sum n upper lower = adc 16 (widened n upper) 0 (top_set n lower)

-- a sum is not 0
abbrev pub not_zero : ResultCoa → Bool
not_zero sum = not (eqb sum.result 0)

-- A, S, Z and P come from a sum, and C and O say that it is not 0
abbrev pub sum_flags : ResultCoa → Flags → Flags
sum_flags sum f = szp 16 sum.result (set_coa (not_zero sum) (not_zero sum) sum.aux_carry f)

-- the flags of a signed product come from that sum of its halves; 9 steps, or 10 where the sum is 0
unfoldable pub imulcof : ℕ → Halves → Flags → Multiplied
imulcof n h f =
    record {
      product = h.tmpa * 2 ^ n + h.tmpc;
      flags = sum_flags (sign_sum n h.tmpa h.tmpc) f;
      steps = h.steps + cond (not_zero (sign_sum n h.tmpa h.tmpc)) 9 10;
    }
