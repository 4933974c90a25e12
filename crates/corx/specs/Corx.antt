-- CORX over the width n: the product's halves and its steps. The scope: it multiplies exactly, whatever carry enters, in
-- 3 + 6n + ones(multiplier) steps. Assumes nothing.
use Rattle.std.specs.Prelude.{Bool, cond, ℕ, ◌+◌, ◌*◌, ◌/◌, ◌%◌, ◌^◌}
use Rattle.std.specs.Int.Count.{ones}
use Rattle.numbers.specs.Numbers.{bit, is_set}

-- the product: tmpa above, tmpc below
pub record Halves : Type 0 where
  pub tmpa : ℕ
  pub tmpc : ℕ
  pub steps : ℕ

-- b times c in two halves
unfoldable pub corx : ℕ → ℕ → ℕ → ℕ → Halves
corx n b c steps = record { tmpa = b * c / 2 ^ n; tmpc = b * c % 2 ^ n; steps = steps + (3 + 6 * n + ones c) }

-- a round: the multiplicand is added where the carry holds a 1, and the sum with the multiplier below it moves right by one
pub record CorxRound : Type 0 where
  pub tmpa : ℕ
  pub tmpc : ℕ
  pub carry : Bool
  pub steps : ℕ

-- the sum of a round
abbrev pub added : ℕ → CorxRound → ℕ
added b s = s.tmpa + cond s.carry b 0

-- the round, with 5 steps and 1 more where it adds
unfoldable pub corx_round : ℕ → ℕ → CorxRound → CorxRound
corx_round n b s =
    record {
      tmpa = added b s / 2;
      tmpc = (added b s % 2 * 2 ^ n + s.tmpc) / 2;
      carry = is_set 0 s.tmpc;
      steps = s.steps + 5 + bit s.carry;
    }
