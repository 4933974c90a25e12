-- One byte of two digits: ADC and DAA make the decimal sum, SBB and DAS the difference. Assumes nothing.
use mathlib.Core.{Path.◌≡◌, Path.refl, Path.sym, Path.ap, Path.◌∙◌, Bool.Bool, Bool.true, Bool.false, Bool.cond, Bool.◌||◌}
use Prim.Native.Nat.{ℕ, ◌+◌, ◌-◌, ◌*◌, ◌/◌, ◌%◌, ◌≤◌, ◌<◌}
use native.Mathlib.{Nat.mod-eq_of_lt, Omega.arith}
use lib.Dec.{leb, ltb}
use borrow.Author.Tests.{leb-true, leb-false, le-leb, lt-leb, ltb-true, ltb-false, lt-ltb}
use Rattle.numbers.specs.Numbers.{bit}
use Rattle.flags.specs.{Szp.szp, declared.word.Flags.Flags}
use Rattle.alu.specs.{Result.ResultCoa, Sum.adc, Sum.sbb, Views.coa}
use Rattle.alu.specs.declared.result.ResultCoa as Declared
use Rattle.bcd.specs.{Adjust.adjusts, Decimal.high_adjusts, Decimal.distance, Decimal.decimal, Decimal.daa_of, Decimal.das_of, declared.adjust.Adjusted.Adjusted}
use Rattle.packed.specs.{Digits.is_packed, Digits.two_digits, Digits.byte_of, Sum.plus, Sum.minus, Byte.byte_by, Byte.flags_after, Byte.of_adjusted, declared.byte.Byte.Byte}
use Rattle.packed.proofs.{DigitLaws.digits_and, CheckLaws.added_99, CheckLaws.subtracted_99, PartLaws.carried, PartLaws.borrowed}
use Rattle.packed.proofs.TensLaws.{summed, taken, in_order}

-- the two together
abbrev made : ℕ → Bool → Byte
made byte carry = record { byte = byte; carry = carry }

-- the distance that DAA adds to AL and DAS takes away
abbrev up : ℕ → ℕ → ℕ
up al d = (al + d) % 256

abbrev down : ℕ → ℕ → ℕ
down al d = (256 + al - d) % 256

-- AL and C after such an adjust, from what ADC or SBB left
abbrev leaves : (ℕ → ℕ → ℕ) → ResultCoa → Byte
leaves move r =
    let high = high_adjusts r.result r.aux_carry r.carry in
    made (move r.result (cond (adjusts r.result r.aux_carry) 6 0 + cond high 96 0)) high

adjust_leaves : (al k : ℕ) (f : Flags) → al < 256 → of_adjusted (decimal (al / 256) (k % 256) f) ≡ made (k % 256) f.carry
unfolding decimal szp
adjust_leaves al k f h = let low : (al / 256 * 256 + k % 256) % 256 ≡ k % 256 = omega arith in λ i. made (low i) f.carry

module _ (r : Declared.ResultCoa ℕ) (h : r.result < 256) where
  abbrev at : ℕ → (ℕ → ℕ → ℕ) → Byte
  at al move = made (move al (distance al (flags_after r))) (high_adjusts al r.aux_carry r.carry)

  daa_leaves : of_adjusted (daa_of r.result (flags_after r)) ≡ leaves up (coa (λ (k : ℕ). k) r)
  unfolding daa_of
  daa_leaves = adjust_leaves r.result _ _ h ∙ (λ i. at (mod-eq_of_lt h i) up)

  das_leaves : of_adjusted (das_of r.result (flags_after r)) ≡ leaves down (coa (λ (k : ℕ). k) r)
  unfolding das_of
  das_leaves = adjust_leaves r.result _ _ h ∙ (λ i. at (mod-eq_of_lt h i) down)

-- a test that holds as either of two does
or_test : (p q : Bool) {t : Bool} → (p ≡ true → t ≡ true) → (q ≡ true → t ≡ true) → (p ≡ false → q ≡ false → t ≡ false) → (p || q) ≡ t
or_test true q f g h = sym (f refl)
or_test false true f g h = sym (g refl)
or_test false false f g h = sym (h refl refl)

-- each test as a factor
factors : (low high : Bool) → bit low * 6 + bit high * 96 ≡ cond low 6 0 + cond high 96 0
factors true true = refl
factors true false = refl
factors false true = refl
factors false false = refl

-- the tests as they turn out, put into what the adjust leaves
tested : (move : ℕ → ℕ → ℕ) (r : ResultCoa) {p q : Bool} → adjusts r.result r.aux_carry ≡ p → high_adjusts r.result r.aux_carry r.carry ≡ q
    → leaves move r ≡ made (move r.result (bit p * 6 + bit q * 96)) q
tested move r {p} {q} ep eq = (λ i. made (move r.result (cond (ep i) 6 0 + cond (eq i) 96 0)) (eq i)) ∙ (λ i. made (move r.result (sym (factors p q) i)) q)

module _ (x y : ℕ) (c : Bool) (hx : is_packed x ≡ true) (hy : is_packed y ≡ true) where
  abbrev low : ℕ
  low = x % 16 + y % 16 + bit c

  abbrev total : ℕ
  total = two_digits x + two_digits y + bit c

  -- ADC and DAA: the low digit is adjusted where the two make 10 or more, the upper where all make 100 or more
  sum_low : adjusts (adc 8 x y c).result (adc 8 x y c).aux_carry ≡ leb 10 low
  unfolding adc
  sum_low =
      let known = digits_and x y c hx hy in
      let digit = (x + y + bit c) % 256 % 16 in
      or_test (ltb 9 digit) (leb 16 low) (λ e. le-leb 10 low (omega (arith, ltb-true 9 digit e))) (λ e. le-leb 10 low (omega (arith, leb-true 16 low e)))
      (λ e d. lt-leb 10 low (omega (arith, ltb-false 9 digit e, leb-false 16 low d)))

  sum_high : high_adjusts (adc 8 x y c).result (adc 8 x y c).aux_carry (adc 8 x y c).carry ≡ leb 100 total
  unfolding adc
  sum_high =
      let known = digits_and x y c hx hy in
      let s = x + y + bit c in
      let al = s % 256 in
      added_99 x y c hx hy
      ∙ or_test (ltb 0x99 al) (leb 256 s) (λ e. le-leb 100 total (omega (arith, ltb-true 0x99 al e))) (λ e. le-leb 100 total (omega (arith, leb-true 256 s e)))
      (λ e d. lt-leb 100 total (omega (arith, ltb-false 0x99 al e, leb-false 256 s d)))

  sum_byte : ((x + y + bit c) % 256 + (bit (leb 10 low) * 6 + bit (leb 100 total) * 96)) % 256 ≡ byte_of (total % 100)
  sum_byte =
      let known = digits_and x y c hx hy in
      let ten : (bit (leb 10 low) * 10 ≤ low) × (low < bit (leb 10 low) * 10 + 10) = omega (arith, carried 10 low (omega arith)) in
      let hundred : (bit (leb 100 total) * 100 ≤ total) × (total < bit (leb 100 total) * 100 + 100) = omega (arith, carried 100 total (omega arith)) in
      let p = bit (leb 10 low) in
      let q = bit (leb 100 total) in
      summed (x + y + bit c) total p q (x / 16 + y / 16 + p - q * 10) (low - p * 10) (omega arith) (omega arith) (omega arith) (omega arith)

  abbrev low_taken : ℕ
  low_taken = y % 16 + bit c

  abbrev all_taken : ℕ
  all_taken = two_digits y + bit c

  -- SBB and DAS: the low digit is adjusted where it is the smaller, the upper where the number is
  difference_low : adjusts (sbb 8 x y c).result (sbb 8 x y c).aux_carry ≡ ltb (x % 16) low_taken
  unfolding sbb
  difference_low =
      let known = digits_and x y c hx hy in
      let digit = (256 + x - (y + bit c)) % 256 % 16 in
      or_test (ltb 9 digit) (ltb (x % 16) low_taken) (λ e. lt-ltb (x % 16) low_taken (omega (arith, ltb-true 9 digit e))) (λ e. e) (λ e d. d)

  difference_high : high_adjusts (sbb 8 x y c).result (sbb 8 x y c).aux_carry (sbb 8 x y c).carry ≡ ltb (two_digits x) all_taken
  unfolding sbb
  difference_high =
      let known = digits_and x y c hx hy in
      let al = (256 + x - (y + bit c)) % 256 in
      let left : x / 16 * 16 + x % 16 ≡ x = omega arith in
      let right : y / 16 * 16 + low_taken ≡ y + bit c = omega arith in
      let all : y / 16 * 10 + low_taken ≡ all_taken = omega arith in
      subtracted_99 x y c hx hy
      ∙ or_test (ltb 0x99 al) (ltb x (y + bit c)) (λ e. lt-ltb x (y + bit c) (omega (arith, ltb-true 0x99 al e))) (λ e. e) (λ e d. d)
      ∙ (λ i. ltb (sym left i) (sym right i)) ∙ in_order (x / 16) (y / 16) (x % 16) low_taken (omega arith) (omega arith) ∙ (λ i. ltb (two_digits x) (all i))

  difference_byte : (256 + (256 + x - (y + bit c)) % 256 - (bit (ltb (x % 16) low_taken) * 6 + bit (ltb (two_digits x) all_taken) * 96)) % 256 ≡ byte_of ((100 + two_digits x - all_taken) % 100)
  difference_byte =
      let known = digits_and x y c hx hy in
      let ten : (low_taken ≤ x % 16 + bit (ltb (x % 16) low_taken) * 10) × (x % 16 + bit (ltb (x % 16) low_taken) * 10 < low_taken + 10) = omega (arith, borrowed 10 (x % 16) low_taken (omega arith) (omega arith)) in
      let hundred : (all_taken ≤ two_digits x + bit (ltb (two_digits x) all_taken) * 100) × (two_digits x + bit (ltb (two_digits x) all_taken) * 100 < all_taken + 100) = omega (arith, borrowed 100 (two_digits x) all_taken (omega arith) (omega arith)) in
      let p = bit (ltb (x % 16) low_taken) in
      let q = bit (ltb (two_digits x) all_taken) in
      taken x (y + bit c) (two_digits x) all_taken p q (x / 16 + q * 10 - (y / 16 + p)) (x % 16 + p * 10 - low_taken) (omega arith) (omega arith) (omega arith) (omega arith) (omega arith) (omega arith) (omega arith)

  pub by_adc_daa : {r : Declared.ResultCoa ℕ} {f : Flags} {a : Adjusted} {b : Byte} → coa (λ (k : ℕ). k) r ≡ adc 8 x y c → f ≡ flags_after r → a ≡ daa_of r.result f
      → b ≡ of_adjusted a → b ≡ byte_by plus x y c
  unfolding adc
  by_adc_daa {r} e ef ea eb =
      let small : r.result < 256 = omega (arith, ap (λ (k : ResultCoa). k.result) e) in
      eb ∙ ap of_adjusted ea ∙ ap (λ (g : Flags). of_adjusted (daa_of r.result g)) ef ∙ daa_leaves r small ∙ ap (leaves up) e
      ∙ tested up (adc 8 x y c) sum_low sum_high ∙ (λ i. made (sum_byte i) (leb 100 total))

  pub by_sbb_das : {r : Declared.ResultCoa ℕ} {f : Flags} {a : Adjusted} {b : Byte} → coa (λ (k : ℕ). k) r ≡ sbb 8 x y c → f ≡ flags_after r → a ≡ das_of r.result f
      → b ≡ of_adjusted a → b ≡ byte_by minus x y c
  unfolding sbb
  by_sbb_das {r} e ef ea eb =
      let small : r.result < 256 = omega (arith, ap (λ (k : ResultCoa). k.result) e) in
      eb ∙ ap of_adjusted ea ∙ ap (λ (g : Flags). of_adjusted (das_of r.result g)) ef ∙ das_leaves r small ∙ ap (leaves down) e
      ∙ tested down (sbb 8 x y c) difference_low difference_high ∙ (λ i. made (difference_byte i) (ltb (two_digits x) all_taken))
