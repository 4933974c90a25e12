-- PREIDIV and POSTIDIV over the width n.
-- Assumes nothing.
use Rattle.std.specs.Prelude.{Bool, cond, ℕ, ◌+◌, ◌*◌, ◌/◌, ◌%◌, ◌^◌}
use Rattle.std.specs.Bool.{xor}
use Rattle.numbers.specs.Numbers.{top_set, negated}
use Rattle.negate.specs.Negate.{Pair, Negate}
use Rattle.cord.specs.Cord.{Results}

-- two's complement: x, or x taken from 0 where the sign is to be given or taken away
abbrev pub with_sign : ℕ → Bool → ℕ → ℕ
with_sign n s x = cond s (negated n x) x

-- the dividend's 2n bits made positive, 7 steps, or 3 if they were; the divisor's n bits too, 5 steps, or 6
unfoldable pub pre_idiv : ℕ → Pair → ℕ → Negate
pre_idiv n p b =
    record {
      tmpa = with_sign (n + n) (top_set n p.tmpa) (p.tmpa * 2 ^ n + p.tmpc) / 2 ^ n;
      tmpb = with_sign n (top_set n b) b;
      tmpc = with_sign (n + n) (top_set n p.tmpa) (p.tmpa * 2 ^ n + p.tmpc) % 2 ^ n;
      carry = top_set n b;
      neg_flag = xor (xor p.neg_flag (top_set n p.tmpa)) (top_set n b);
      steps = p.steps + cond (top_set n p.tmpa) 7 3 + cond (top_set n b) 5 6;
    }

-- quotient and remainder with their signs, or a refusal; and the steps
pub data PostAnswer : Type 0 where
  accepted : (quotient remainder steps : ℕ) → PostAnswer
  refused : (steps : ℕ) → PostAnswer

-- refused after 2 steps where the quotient is not below the top bit; else the two signs are given: 10 steps
unfoldable pub post_idiv : ℕ → Results → ℕ → Bool → Bool → ℕ → PostAnswer
post_idiv n r upper carry neg_flag steps =
    cond carry (accepted (with_sign n neg_flag r.quotient) (with_sign n (top_set n upper) r.remainder) (steps + 10)) (refused (steps + 2))
