-- The eight digits of two numbers as capitals, in lanes of 8 bits. Assumes nothing.
use mathlib.Core.{Path.◌≡◌, Path.refl, Path.sym, Path.ap, Path.ap₂, Path.subst, Path.◌∙◌, Bool.Bool, Bool.true, Bool.false, Bool.cond, List.List, List.[], List.◌∷◌, List.◌++◌}
use Prim.Native.Nat.{ℕ, ◌+◌, ◌*◌, ◌/◌, ◌%◌, ◌^◌, ◌<◌}
use native.Mathlib.{Nat.mul-div_cancel, Nat.div-one, Omega.arith}
use lib.{Bits.bit_and, Bits.and_high, Dec.ltb, Dec.lit<, ListN.get_or}
use borrow.Author.Tests.{ltb-true, ltb-false}
use Rattle.std.specs.Int.{w64, to_le_bytes}
use Rattle.text.specs.{Digits.capital_of, Lanes.lanes, Written.four}
use Rattle.text.proofs.LaneLaws.{each, Below, split, upper_half, lower_half, sums, times, agree, masked, split_by_masks, split_below, each_all, lane_at}

-- 6 more than a digit above 9 has bit 4 set, and its letter is 7 further on
capital_is : (d : ℕ) → d < 16 → d + 0x30 + (d + 6) / 16 % 2 * 7 ≡ capital_of d
unfolding capital_of
capital_is d h = by (ltb d 10) refl
  where
    by : (x : Bool) → ltb d 10 ≡ x → d + 0x30 + (d + 6) / 16 % 2 * 7 ≡ cond x (0x30 + d) (0x37 + d)
    by true e = omega (arith, ltb-true d 10 e)
    by false e = omega (arith, ltb-false d 10 e)

capital-fits : (d : ℕ) → d < 16 → capital_of d < 256
capital-fits d h = omega (arith, capital_is d h)

-- in every lane at once
capitals_law : (ds : List ℕ) → Below 16 ds
    → lanes 8 (each (λ d. d) ds) + lanes 8 (each (λ d. 0x30) ds) + bit_and (lanes 8 (each (λ d. d) ds) + lanes 8 (each (λ d. 6) ds)) (lanes 8 (each (λ d. 0x10) ds)) / 0x10 * 7
    ≡ lanes 8 (each capital_of ds)
capitals_law ds below =
    ap₂ (λ (x y : ℕ). x + y / 0x10 * 7) (sums 8 (λ d. d) (λ d. 0x30) ds)
    (ap (λ (x : ℕ). bit_and x (lanes 8 (each (λ d. 0x10) ds))) (sums 8 (λ d. d) (λ d. 6) ds)
    ∙ masked 8 (λ d. d < 16) 0x10 16 (λ b. b / 16 % 2) (λ d. d + 6) (lit< tt) (λ b. and_high b 1 4) (λ d p. omega arith) ds below)
    ∙ ap (λ (x : ℕ). lanes 8 (each (λ d. d + 0x30) ds) + x) (ap (λ (x : ℕ). x * 7) (mul-div_cancel (lanes 8 (each (λ d. (d + 6) / 16 % 2) ds)) (lit< tt)) ∙ times 8 7 (λ d. (d + 6) / 16 % 2) ds)
    ∙ sums 8 (λ d. d + 0x30) (λ d. (d + 6) / 16 % 2 * 7) ds
    ∙ agree 8 (λ d. d < 16) (λ d. d + 0x30 + (d + 6) / 16 % 2 * 7) capital_of capital_is ds below

-- bytes, and of these digits
abbrev bytes_of : ℕ → ℕ → List ℕ
bytes_of x y = split (upper_half 8) (lower_half 8) (x ∷ y ∷ [])

abbrev digits_of : ℕ → ℕ → List ℕ
digits_of x y = split (upper_half 4) (lower_half 4) (bytes_of x y)

module _ (x : ℕ) (h : x < 0x1_0000) where
  digit_0 : x / 256 % 256 / 16 % 16 ≡ x / 0x1000
  digit_0 = omega arith

  digit_1 : x / 256 % 256 % 16 ≡ x / 0x100 % 16
  digit_1 = omega arith

  digit_2 : x % 256 / 16 % 16 ≡ x / 0x10 % 16
  digit_2 = omega arith

  digit_3 : x % 256 % 16 ≡ x % 16
  digit_3 = omega arith

in_order : (x y : ℕ) → x < 0x1_0000 → y < 0x1_0000 → each capital_of (digits_of x y) ≡ four capital_of x ++ four capital_of y
in_order x y hx hy =
    λ i.
    capital_of (digit_0 x hx i) ∷ capital_of (digit_1 x hx i) ∷ capital_of (digit_2 x hx i) ∷ capital_of (digit_3 x hx i)
    ∷ capital_of (digit_0 y hy i) ∷ capital_of (digit_1 y hy i) ∷ capital_of (digit_2 y hy i) ∷ capital_of (digit_3 y hy i) ∷ []

-- the words of the code
abbrev pub bytes_apart : ℕ → ℕ
bytes_apart q = bit_and q 0x0000_FF00_0000_FF00 / 0x100 + bit_and q 0x0000_00FF_0000_00FF * 0x1_0000

abbrev pub digits_apart : ℕ → ℕ
digits_apart p = bit_and p 0x00F0_00F0_00F0_00F0 / 0x10 + bit_and p 0x000F_000F_000F_000F * 0x100

abbrev pub capitals_added : ℕ → ℕ
capitals_added n = n + 0x3030_3030_3030_3030 + bit_and (n + 0x0606_0606_0606_0606) 0x1010_1010_1010_1010 / 0x10 * 7

pub eight_law : (x y : ℕ) → x < 0x1_0000 → y < 0x1_0000 → capitals_added (digits_apart (bytes_apart (x + y * 0x1_0000_0000))) ≡ lanes 8 (four capital_of x ++ four capital_of y)
eight_law x y hx hy =
    let join_pairs : x + y * 0x1_0000_0000 ≡ lanes 32 (x ∷ y ∷ []) = omega arith in
    ap (λ (q : ℕ). capitals_added (digits_apart (bytes_apart q))) join_pairs
    ∙ ap (λ (p : ℕ). capitals_added (digits_apart p)) (split_by_masks 8 0x1_0000 (lit< tt) (lit< tt) (λ b p. omega arith) (x ∷ y ∷ []) (hx, (hy, tt)))
    ∙ ap capitals_added (split_by_masks 4 256 (lit< tt) (lit< tt) (λ b p. omega arith) (bytes_of x y) (split_below 8 (x ∷ y ∷ [])))
    ∙ capitals_law (digits_of x y) (split_below 4 (bytes_of x y))
    ∙ ap (lanes 8) (in_order x y hx hy)

-- byte by byte
module _ (x y c : ℕ) (hx : x < 0x1_0000) (hy : y < 0x1_0000) (e : c ≡ lanes 8 (four capital_of x ++ four capital_of y)) where
  byte : (k : ℕ) → c / 256 ^ k % 256 ≡ get_or (four capital_of x ++ four capital_of y) k 0
  byte k =
      ap (λ (n : ℕ). n / 256 ^ k % 256) e
      ∙ lane_at 8 (four capital_of x ++ four capital_of y) (subst (Below 256) (in_order x y hx hy) (each_all (λ d. d < 16) (λ b. b < 256) capital_of capital-fits (digits_of x y) (split_below 4 (bytes_of x y)))) k

  -- the eight bytes
  pub stored : to_le_bytes w64 c ≡ four capital_of x ++ four capital_of y
  stored =
      let low : c % 0x100 ≡ capital_of (x / 0x1000) = sym (ap (λ (n : ℕ). n % 0x100) (div-one c)) ∙ byte 0 in
      λ i. low i ∷ byte 1 i ∷ byte 2 i ∷ byte 3 i ∷ byte 4 i ∷ byte 5 i ∷ byte 6 i ∷ byte 7 i ∷ []
