-- CORD over the width n, as the divide chart says it: a dividend d of 2n bits by a divisor b.
-- Assumes nothing.
use Rattle.std.specs.Prelude.{Bool, true, false, cond, ℕ, zero, suc, ◌+◌, ◌*◌, ◌/◌, ◌%◌, ◌^◌, leb, ltb}
use Rattle.numbers.specs.Numbers.{top}

-- what an accepted divide gives
pub record Results : Type 0 where
  pub quotient : ℕ
  pub remainder : ℕ

-- accepted, with its results, or refused
pub data CordOutcome : Type 0 where
  accepted : Results → CordOutcome
  refused : CordOutcome

-- how many ones of the quotient came by each of two roads
pub record Roads : Type 0 where
  pub shifted_out : ℕ
  pub no_borrow : ℕ

-- the two tallies together
abbrev pub both_roads : ℕ → ℕ → Roads
both_roads u v = record { shifted_out = u; no_borrow = v }

-- besides, whichever it is: C, the left side of the last compare made, the ones by each road, and the steps
pub record CordAnswer : Type 0 where
  pub outcome : CordOutcome
  pub carry : Bool
  pub compared : ℕ
  pub roads : Roads
  pub steps : ℕ

-- the rounds take in the dividend's lower half bit by bit. p is the dividend as far as it is taken in, the bit just taken last; what the
-- round compares with b is the remainder so far, shifted left, with that bit
abbrev pub shifted : ℕ → ℕ → ℕ
shifted b p = p / 2 % b * 2 + p % 2

-- the road that a round takes
pub data Road : Type 0 where
  shifted_out no_borrow borrow : Road

-- by whether a bit is shifted out, and whether the divisor can be taken
abbrev pub road_by : Bool → Bool → Road
road_by true _ = shifted_out
road_by false true = no_borrow
road_by false false = borrow

-- the road of the round that takes in the last bit of p
unfoldable pub road : ℕ → ℕ → ℕ → Road
road n b p = road_by (leb (2 ^ n) (shifted b p)) (leb b (shifted b p))

-- what each road counts, added up over the first k rounds
unfoldable pub tally : (Road → ℕ) → ℕ → ℕ → ℕ → ℕ → ℕ
tally counts n b zero p = 0
tally counts n b (suc k) p = tally counts n b k (p / 2) + counts (road n b p)

-- a one by a bit shifted out
abbrev pub by_shifted_out : Road → ℕ
by_shifted_out shifted_out = 1
by_shifted_out no_borrow = 0
by_shifted_out borrow = 0

-- how many there are
abbrev pub shifted_outs : ℕ → ℕ → ℕ → ℕ → ℕ
shifted_outs = tally by_shifted_out

-- a one by no borrow
abbrev pub by_no_borrow : Road → ℕ
by_no_borrow shifted_out = 0
by_no_borrow no_borrow = 1
by_no_borrow borrow = 0

-- how many there are
abbrev pub no_borrows : ℕ → ℕ → ℕ → ℕ → ℕ
no_borrows = tally by_no_borrow

-- both, over all n rounds
abbrev pub roads_of : ℕ → ℕ → ℕ → Roads
roads_of n b d = both_roads (shifted_outs n b n d) (no_borrows n b n d)

-- where there is no quotient
abbrev pub no_roads : Roads
no_roads = both_roads 0 0

-- a round in which a bit is shifted out makes no compare
abbrev pub last_by : Road → ℕ → ℕ → ℕ
last_by shifted_out before now = before
last_by no_borrow before now = now
last_by borrow before now = now

-- the left side of the last compare of k rounds: that before them all, where none of them made one
unfoldable pub last_compare : ℕ → ℕ → ℕ → ℕ → ℕ
last_compare n b zero p = p
last_compare n b (suc k) p = last_by (road n b p) (last_compare n b k (p / 2)) (shifted b p)

-- 7 + 8n, one for each one by no borrow, and 1 more where the quotient is odd, else 1 less; that is
abbrev pub cord_steps : ℕ → ℕ → ℕ → ℕ
cord_steps n b d = 6 + 8 * n + no_borrows n b n d + 2 * (d / b % 2)

-- refused where the upper half is at least the divisor, after the one compare and 4 steps, with C clear
abbrev pub cord_refused : ℕ → ℕ → ℕ → CordAnswer
cord_refused n d steps = record { outcome = refused; carry = false; compared = d / 2 ^ n; roads = no_roads; steps = steps + 4 }

-- else the quotient and the remainder, and the roads of the quotient's ones; C says that the quotient lies below the top bit
abbrev pub cord_accepted : ℕ → ℕ → ℕ → ℕ → CordAnswer
cord_accepted n b d steps =
    record {
      outcome = accepted (record { quotient = d / b; remainder = d % b });
      carry = ltb (d / b) (top n);
      compared = last_compare n b n d;
      roads = roads_of n b d;
      steps = steps + cord_steps n b d;
    }

-- the first compare decides
unfoldable pub cord : ℕ → ℕ → ℕ → ℕ → CordAnswer
cord n b d steps = cond (leb b (d / 2 ^ n)) (cord_refused n d steps) (cord_accepted n b d steps)
