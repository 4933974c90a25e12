-- A round of CORD on its registers, over the width n. Assumes nothing.
use Rattle.std.specs.Prelude.{Bool, true, false, ℕ, ◌+◌, ◌-◌, ◌*◌, ◌/◌, ◌%◌, ◌^◌, leb}

-- the halves, the left side of the last compare made, and the ones so far by a bit shifted out and by no borrow
pub record Round : Type 0 where
  pub tmpa : ℕ
  pub tmpc : ℕ
  pub compared : ℕ
  pub shifted_out : ℕ
  pub no_borrow : ℕ

-- the pair shifted left by one: the upper half with the bit shifted out above it, and the lower half with room below
abbrev pub high : ℕ → Round → ℕ
high n s = s.tmpa * 2 + s.tmpc * 2 / 2 ^ n

-- the lower half, shifted
abbrev pub low : ℕ → Round → ℕ
low n s = s.tmpc * 2 % 2 ^ n

-- by three roads: a bit shifted out, no borrow, borrow
abbrev pub by_road : Bool → Bool → ℕ → ℕ → ℕ → Round → Round
by_road true _ b h l s = record { tmpa = h - b; tmpc = l + 1; compared = s.compared; shifted_out = s.shifted_out + 1; no_borrow = s.no_borrow }
by_road false true b h l s = record { tmpa = h - b; tmpc = l + 1; compared = h; shifted_out = s.shifted_out; no_borrow = s.no_borrow + 1 }
by_road false false b h l s = record { tmpa = h; tmpc = l; compared = h; shifted_out = s.shifted_out; no_borrow = s.no_borrow }

-- a round: the pair shifted, then by its road
unfoldable pub cord_round : ℕ → ℕ → Round → Round
cord_round n b s = by_road (leb (2 ^ n) (high n s)) (leb b (high n s)) b (high n s) (low n s) s
