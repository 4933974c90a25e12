-- What `at_once` computes of a number of m bits, by shifts and masks of 64 bits, is what the steps come to. Assumes nothing.
use mathlib.Core.{Path.◌≡◌, Path.sym, Path.ap, Path.◌∙◌, Bool.Bool, Bool.true, Bool.false}
use Prim.Native.Nat.{ℕ, ◌+◌, ◌-◌, ◌*◌, ◌/◌, ◌%◌, ◌^◌, ◌≤◌, ◌<◌, min}
use native.Mathlib.{Nat.zero-mod, Nat.mul_assoc, Nat.min-le_right, Nat.mod-lt, Nat.mul-add-div_right, Omega.arith}
use lib.{Arith.digits_mod, Arith.digits_lt, Bits.bit_and, Bits.bit_or, Bits.and_mask, Bits.or_shifted}
use lib.Pow.{pow-add, pow_pos, shr_lt, shl_exact, split, low, ones_split, ones_lt}
use Rattle.numbers.specs.Numbers.{bit, top_set}
use Rattle.alu.specs.Step.{Shl, Shr, Sar, Rol, Ror, before, steps}
use Rattle.alu.proofs.TurnLaws.{turned}
use Rattle.alu.proofs.CountLaws.{shl-value, shr-value, sar-value, ror-value, rol-value, shl-cut, shr-cut, sar_cut}

-- k places of the upper half come to stand above what is left of the lower
two_halves : (j k u l : ℕ) → l < 2 ^ (j + k) → (u * 2 ^ (j + k) + l) / 2 ^ k % 2 ^ (j + k) ≡ u % 2 ^ k * 2 ^ j + l / 2 ^ k
two_halves j k u l h =
    ap (λ (y : ℕ). y / 2 ^ k % 2 ^ (j + k)) (ap (λ (p : ℕ). u * p + l) (pow-add 2 j k) ∙ omega arith)
    ∙ ap (λ (y : ℕ). y % 2 ^ (j + k)) (mul-add-div_right (pow_pos k) (u * 2 ^ j) l ∙ upper) ∙ digits_mod (u / 2 ^ k) small
  where
    upper : u * 2 ^ j + l / 2 ^ k ≡ u / 2 ^ k * 2 ^ (j + k) + (u % 2 ^ k * 2 ^ j + l / 2 ^ k)
    upper =
        let parts : u * 2 ^ j ≡ (u / 2 ^ k * 2 ^ k + u % 2 ^ k) * 2 ^ j = ap (λ (y : ℕ). y * 2 ^ j) (sym (split u k)) in
        let whole : u / 2 ^ k * 2 ^ (j + k) ≡ u / 2 ^ k * (2 ^ j * 2 ^ k) = ap (λ (p : ℕ). u / 2 ^ k * p) (pow-add 2 j k) in
        omega (arith, parts, whole)

    small : u % 2 ^ k * 2 ^ j + l / 2 ^ k < 2 ^ (j + k)
    small = omega (arith, pow-add 2 j k, digits_lt (mod-lt u (pow_pos k)) (shr_lt j k h))

-- the same from a place up to m, as the code and the definitions write it
halves : (m k u l : ℕ) → k ≤ m → l < 2 ^ m → (u * 2 ^ m + l) / 2 ^ k % 2 ^ m ≡ u % 2 ^ k * 2 ^ (m - k) + l / 2 ^ k
halves m k u l p h =
    let e : m ≡ m - k + k = omega arith in
    ap (λ (n : ℕ). (u * 2 ^ n + l) / 2 ^ k % 2 ^ n) e ∙ two_halves (m - k) k u l (omega (arith, h, ap (λ (n : ℕ). 2 ^ n) e))

module _ (m : ℕ) (most : m ≤ 17) where
  masked : {o : ℕ} (y : ℕ) → o ≡ 2 ^ m - 1 → bit_and y o ≡ y % 2 ^ m
  masked y e = ap (bit_and y) e ∙ and_mask y m

  pub window_is : (p : ℕ) {u l o : ℕ} → u < 2 ^ m → l < 2 ^ m → o ≡ 2 ^ m - 1 → bit_and (bit_or (u * 2 ^ m % 2 ^ 64) l / 2 ^ p) o ≡ (u * 2 ^ m + l) / 2 ^ p % 2 ^ m
  window_is p {u} {l} hu hl e =
      masked (bit_or (u * 2 ^ m % 2 ^ 64) l / 2 ^ p) e
      ∙ ap (λ (y : ℕ). y / 2 ^ p % 2 ^ m) (ap (λ (y : ℕ). bit_or y l) (shl_exact m m 64 hu (omega arith)) ∙ or_shifted u m l hl)

  module _ (x k : ℕ) (h : x < 2 ^ m) where
    pub shl-at_once : {p o : ℕ} → p ≡ min k m → o ≡ 2 ^ m - 1 → bit_and (x * 2 ^ p % 2 ^ 64) o ≡ (steps m Shl k (before x false)).value
    shl-at_once {p} ep eo =
        masked (x * 2 ^ p % 2 ^ 64) eo ∙ ap (λ (y : ℕ). y % 2 ^ m) (shl_exact m p 64 h (omega (arith, ep, min-le_right k m))) ∙ sym (shl-value m x false h p)
        ∙ ap (λ (j : ℕ). (steps m Shl j (before x false)).value) ep ∙ shl-cut m x false h k

    pub shr-at_once : (p : ℕ) → p ≡ min k m → x / 2 ^ p ≡ (steps m Shr k (before x false)).value
    shr-at_once p ep = sym (shr-value m x false h p) ∙ ap (λ (j : ℕ). (steps m Shr j (before x false)).value) ep ∙ shr-cut m x false h k

    -- all ones above the number, or none
    module _ {g o : ℕ} (eg : g ≡ bit (top_set m x)) (eo : o ≡ 2 ^ m - 1) where
      all_signs : g * o ≡ bit (top_set m x) * (2 ^ m - 1)
      all_signs = ap (λ (d : ℕ). d * o) eg ∙ ap (λ (y : ℕ). bit (top_set m x) * y) eo

      pub sar-at_once : 0 < m → (p : ℕ) {w : ℕ} → p ≡ min k m → w ≡ (g * o * 2 ^ m + x) / 2 ^ p % 2 ^ m → w ≡ (steps m Sar k (before x false)).value
      sar-at_once hm p ep ew =
          ew ∙ halves m p (g * o) x few h ∙ ap (λ (y : ℕ). y % 2 ^ p * 2 ^ (m - p) + x / 2 ^ p) all_signs ∙ ap (λ (y : ℕ). y * 2 ^ (m - p) + x / 2 ^ p) (low_signs (top_set m x))
          ∙ sym (mul-add-div_right (pow_pos p) (bit (top_set m x) * (2 ^ p - 1) * 2 ^ (m - p)) x) ∙ ap (λ (y : ℕ). (y + x) / 2 ^ p) whole ∙ sym (sar-value m x false hm h p)
          ∙ ap (λ (j : ℕ). (steps m Sar j (before x false)).value) ep ∙ sar_cut m x false h k hm
        where
          few : p ≤ m
          few = omega (arith, ep, min-le_right k m)

          parts : m ≡ m - p + p
          parts = omega (arith, few)

          low_signs : (t : Bool) → bit t * (2 ^ m - 1) % 2 ^ p ≡ bit t * (2 ^ p - 1)
          low_signs true =
              let ones : 1 * (2 ^ m - 1) ≡ (2 ^ (m - p) - 1) * 2 ^ p + (2 ^ p - 1) = omega arith ∙ ap (λ (n : ℕ). 2 ^ n - 1) parts ∙ ones_split (m - p) p in
              ap (λ (y : ℕ). y % 2 ^ p) ones ∙ low (2 ^ (m - p) - 1) p (ones_lt p) ∙ omega arith
          low_signs false = let none : 0 * (2 ^ m - 1) ≡ 0 = omega arith in ap (λ (y : ℕ). y % 2 ^ p) none ∙ zero-mod (2 ^ p) ∙ omega arith

          whole : bit (top_set m x) * (2 ^ p - 1) * 2 ^ (m - p) * 2 ^ p ≡ bit (top_set m x) * (2 ^ p - 1) * 2 ^ m
          whole = mul_assoc (bit (top_set m x) * (2 ^ p - 1)) (2 ^ (m - p)) (2 ^ p) ∙ ap (λ (y : ℕ). bit (top_set m x) * (2 ^ p - 1) * y) (sym (ap (λ (n : ℕ). 2 ^ n) parts ∙ pow-add 2 (m - p) p))

    module _ (hm : 0 < m) where
      pub ror-at_once : {w : ℕ} → w ≡ (x * 2 ^ m + x) / 2 ^ (k % m) % 2 ^ m → w ≡ (steps m Ror k (before x false)).value
      ror-at_once ew = ew ∙ halves m (k % m) x x (omega (arith, mod-lt k hm)) h ∙ sym (ror-value m x false h hm k)

      pub rol-at_once : {w : ℕ} → w ≡ (x * 2 ^ m + x) / 2 ^ (m - k % m) % 2 ^ m → w ≡ (steps m Rol k (before x false)).value
      rol-at_once ew =
          let back : m - (m - k % m) ≡ k % m = omega (arith, mod-lt k hm) in
          ew ∙ halves m (m - k % m) x x (omega arith) h ∙ ap (λ (u : ℕ). turned u (m - k % m) x) back ∙ sym (rol-value m x false h hm k)
