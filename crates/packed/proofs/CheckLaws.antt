-- Why DAA's and DAS's check against 9F, where A was set, never shows for decimal digits: what they are handed with A set and C clear is never
-- 9A to 9F. Where C is set it decides by itself. So a check against 99 alone would do the same here. Assumes nothing.
use mathlib.Core.{Path.◌≡◌, Path.refl, Path.sym, Path.ap, Path.◌∙◌, Bool.Bool, Bool.true, Bool.false, Bool.◌||◌, Bool.or-true}
use Prim.Native.Nat.{ℕ, ◌+◌, ◌%◌, ◌≤◌, ◌<◌}
use native.Mathlib.Omega.{arith}
use lib.Dec.{leb, ltb}
use borrow.Author.Tests.{leb-true, leb-false, ltb-true, ltb-false, lt-ltb, le-ltb}
use Rattle.numbers.specs.Numbers.{bit}
use Rattle.numbers.proofs.SignedLaws.{same_test}
use Rattle.alu.specs.{Result.ResultCoa, Sum.adc, Sum.sbb}
use Rattle.bcd.specs.Decimal.{high_adjusts}
use Rattle.packed.specs.Digits.{is_packed}
use Rattle.packed.proofs.DigitLaws.{digits_and}

-- of what ADC or SBB leaves: with A set and C clear it is not 9A to 9F
abbrev pub Never : ResultCoa → Type 0
Never r = r.aux_carry ≡ true → r.carry ≡ false → 0x9A ≤ r.result → r.result ≤ 0x9F → ⊥

under : (al : ℕ) → (0x9A ≤ al → al ≤ 0x9F → ⊥) → al ≤ 0x9F → al ≤ 0x99
under al never h = by (leb 0x9A al) refl
  where
    by : (t : Bool) → leb 0x9A al ≡ t → al ≤ 0x99
    by true e = absurd (never (leb-true 0x9A al e) h)
    by false e = omega (arith, leb-false 0x9A al e)

-- so the two checks come to the same
pub check_99 : (r : ResultCoa) → Never r → high_adjusts r.result r.aux_carry r.carry ≡ (ltb 0x99 r.result || r.carry)
check_99 r = by r.result r.aux_carry r.carry
  where
    by : (al : ℕ) (a c : Bool) → (a ≡ true → c ≡ false → 0x9A ≤ al → al ≤ 0x9F → ⊥) → high_adjusts al a c ≡ (ltb 0x99 al || c)
    by al false c n = refl
    by al true true n = or-true (ltb 0x9F al) ∙ sym (or-true (ltb 0x99 al))
    by al true false n =
        ap (λ (t : Bool). t || false)
        (same_test (ltb 0x9F al) (ltb 0x99 al) (λ h. lt-ltb 0x99 al (omega (arith, ltb-true 0x9F al h))) (λ h. le-ltb 0x99 al (under al (n refl refl) (ltb-false 0x9F al h))))

module _ (x y : ℕ) (c : Bool) (hx : is_packed x ≡ true) (hy : is_packed y ≡ true) where
  -- after an addition A set means that the low digit is 0 to 3
  pub added-low : (adc 8 x y c).aux_carry ≡ true → (adc 8 x y c).result % 16 ≤ 3
  unfolding adc
  added-low a =
      let known = digits_and x y c hx hy in
      let over = leb-true 16 (x % 16 + y % 16 + bit c) a in
      omega arith

  pub added_never : Never (adc 8 x y c)
  added_never a b h l = omega (arith, added-low a)

  -- after a subtraction A set and C clear mean that the upper digit is at most 8
  pub subtracted_high : (sbb 8 x y c).aux_carry ≡ true → (sbb 8 x y c).carry ≡ false → (sbb 8 x y c).result < 0x90
  unfolding sbb
  subtracted_high a b =
      let known = digits_and x y c hx hy in
      let lent = ltb-true (x % 16) (y % 16 + bit c) a in
      let whole = ltb-false x (y + bit c) b in
      omega arith

  pub subtracted_never : Never (sbb 8 x y c)
  subtracted_never a b h l = omega (arith, subtracted_high a b)

  -- so for digits a check against 99 alone gives the same, after either
  pub added_99 : high_adjusts (adc 8 x y c).result (adc 8 x y c).aux_carry (adc 8 x y c).carry ≡ (ltb 0x99 (adc 8 x y c).result || (adc 8 x y c).carry)
  added_99 = check_99 (adc 8 x y c) added_never

  pub subtracted_99 : high_adjusts (sbb 8 x y c).result (sbb 8 x y c).aux_carry (sbb 8 x y c).carry ≡ (ltb 0x99 (sbb 8 x y c).result || (sbb 8 x y c).carry)
  subtracted_99 = check_99 (sbb 8 x y c) subtracted_never

-- 00 - 61 hands DAS 9F with A set, and C too
pub c_decides : ((sbb 8 0x00 0x61 false).result ≡ 0x9F) × ((sbb 8 0x00 0x61 false).aux_carry ≡ true) × ((sbb 8 0x00 0x61 false).carry ≡ true)
unfolding sbb
c_decides = (refl, refl, refl)
