-- The code's pair and what it leaves, read as those of the definitions over n; value is what a number of the code stands for.
-- Assumes nothing.
use Rattle.std.specs.Prelude.{ℕ}
use Rattle.negate.specs.Negate.{Pair, Negate}
use Rattle.negate.specs.declared.Pair
use Rattle.negate.specs.declared.Negate

abbrev pub pair_of : {N : Type 0} → (N → ℕ) → Pair.Pair N → Pair
pair_of value p = record { tmpa = value p.tmpa; tmpc = value p.tmpc; neg_flag = p.neg_flag; steps = p.steps }

abbrev pub negate_of : {N : Type 0} → (N → ℕ) → Negate.Negate N → Negate
negate_of value r =
    record {
      tmpa = value r.tmpa;
      tmpb = value r.tmpb;
      tmpc = value r.tmpc;
      carry = r.carry;
      neg_flag = r.neg_flag;
      steps = r.steps;
    }
