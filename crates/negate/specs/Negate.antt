-- NEGATE over the width n: what it leaves of its registers, and its steps.
-- Assumes nothing.
use Rattle.std.specs.Prelude.{Bool, true, false, not, cond, ℕ, ◌+◌, ◌*◌, ◌/◌, ◌%◌, ◌^◌}
use Rattle.std.specs.Bool.{xor}
use Rattle.numbers.specs.Numbers.{top_set, negated}

-- a pair of halves, tmpa above tmpc, with the flag that says whether a result is to be negated, and the steps so far
pub record Pair : Type 0 where
  pub tmpa : ℕ
  pub tmpc : ℕ
  pub neg_flag : Bool
  pub steps : ℕ

-- what NEGATE leaves: the pair, the second operand, its carry, the flag and the steps
pub record Negate : Type 0 where
  pub tmpa : ℕ
  pub tmpb : ℕ
  pub tmpc : ℕ
  pub carry : Bool
  pub neg_flag : Bool
  pub steps : ℕ

-- the pair's 2n bits are taken from 0 and the flag is flipped: 5 steps
unfoldable pub pair : ℕ → Pair → Pair
pair n p =
    record {
      tmpa = negated (n + n) (p.tmpa * 2 ^ n + p.tmpc) / 2 ^ n;
      tmpc = negated (n + n) (p.tmpa * 2 ^ n + p.tmpc) % 2 ^ n;
      neg_flag = not p.neg_flag;
      steps = p.steps + 5;
    }

-- a second operand whose top bit is set is taken from 0 and the flag is flipped: 5 steps; else 6
unfoldable pub second : ℕ → ℕ → Pair → Negate
second n b p =
    record {
      tmpa = p.tmpa;
      tmpb = cond (top_set n b) (negated n b) b;
      tmpc = p.tmpc;
      carry = top_set n b;
      neg_flag = xor p.neg_flag (top_set n b);
      steps = p.steps + cond (top_set n b) 5 6;
    }

-- skipped, the second operand alone; else the pair first
unfoldable pub cor_negate : ℕ → Pair → ℕ → Bool → Negate
cor_negate n p b true = second n b p
cor_negate n p b false = second n b (pair n p)
