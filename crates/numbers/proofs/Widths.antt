-- What holds of 2 ^ n because n is 8 or 16. Assumes nothing.
use mathlib.Core.{Path.◌≡◌, Path.ap, Path.◌∙◌, Logic.◌⊎◌, Logic.inl, Logic.inr}
use Prim.Native.Nat.{ℕ, suc, ◌+◌, ◌-◌, ◌*◌, ◌/◌, ◌^◌, ◌≤◌, ◌<◌}
use native.Mathlib.Omega.{arith}
use lib.Dec.{leb, ltb}
use Rattle.numbers.specs.Numbers.{top}

-- the two widths
abbrev pub Width : ℕ → Type 0
Width n = (n ≡ 8) ⊎ (n ≡ 16)

module _ (n : ℕ) where
  pub some_bits : Width n → 0 < n
  some_bits (inl e) = omega arith
  some_bits (inr e) = omega arith

  pub most_bits : Width n → n ≤ 16
  most_bits (inl e) = omega arith
  most_bits (inr e) = omega arith

  pub of_32 : Width n → 2 ^ n ≡ 2 ^ n / 32 * 32
  of_32 (inl e) = rw e
  of_32 (inr e) = rw e

  -- the bit below the top
  pub half_top : Width n → top n / 2 ≡ 2 ^ (n - 2)
  half_top (inl e) = rw e
  half_top (inr e) = rw e

-- a number is above the largest of n bits where it is 2 ^ n or more
pub above_max : (n m x : ℕ) → m + 1 ≡ 2 ^ n → ltb m x ≡ leb (2 ^ n) x
above_max n m x e = ap (λ (y : ℕ). leb y x) (one_more m ∙ e)
  where
    one_more : (m : ℕ) → suc m ≡ m + 1
    one_more m = omega arith
