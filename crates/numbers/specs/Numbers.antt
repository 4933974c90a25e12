-- A number of n bits, n being the width, 8 or 16: its bits, and the signed number that it stands for.
-- Assumes nothing.
use Rattle.std.specs.Prelude.{Bool, true, false, cond, ◌&&◌, ℕ, ◌-◌, ◌/◌, ◌%◌, ◌^◌, leb, eqb, ℤ, pos, negsuc, neg_ℤ, nat_abs}
use Rattle.std.proofs.Math.IntN.{sub_ℕ}
use Rattle.std.specs.Int.Signed.{le_z, lt_z}

-- a flag as a digit
abbrev pub bit : Bool → ℕ
bit true = 1
bit false = 0

-- x is one of low to high
abbrev pub between : ℕ → ℕ → ℕ → Bool
between low high x = leb low x && leb x high

-- bit k of x is set
abbrev pub is_set : ℕ → ℕ → Bool
is_set k x = eqb (x / 2 ^ k % 2) 1

-- the top bit of n bits
abbrev pub top : ℕ → ℕ
top n = 2 ^ (n - 1)

-- x, of n bits, has its top bit set
abbrev pub top_set : ℕ → ℕ → Bool
top_set n x = leb (top n) x

-- two's complement: a number with its top bit set stands for itself less 2 ^ n
unfoldable pub signed : ℕ → ℕ → ℤ
signed n x = cond (top_set n x) (sub_ℕ x (2 ^ n)) (pos x)

-- the signed numbers of n bits: from -2 ^ (n - 1) to 2 ^ (n - 1) - 1
unfoldable pub fits_signed : ℕ → ℤ → Bool
fits_signed n z = le_z (neg_ℤ (pos (top n))) z && lt_z z (pos (top n))

-- the number that n bits stand for, signed or not
abbrev pub valued : Bool → ℕ → ℕ → ℤ
valued true n x = signed n x
valued false n x = pos x

-- how far that number is from 0
abbrev pub magnitude : Bool → ℕ → ℕ → ℕ
magnitude s n x = nat_abs (valued s n x)

-- the low n bits of a signed number: what it leaves when divided by 2 ^ n, counted up from 0
unfoldable pub wrapped : ℕ → ℤ → ℕ
wrapped n (pos k) = k % 2 ^ n
wrapped n (negsuc k) = 2 ^ n - 1 - k % 2 ^ n

-- n bits taken from 0
abbrev pub negated : ℕ → ℕ → ℕ
negated n x = (2 ^ n - x) % 2 ^ n
