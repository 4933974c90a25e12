-- C and O of a signed product: the manual's rule, the chart's, that the product does not fit n signed bits, and IMULCOF's sum are one rule.
-- Assumes nothing.
use mathlib.Core.{Path.◌≡◌, Path.refl, Path.sym, Path.ap, Path.ap₂, Path.◌∙◌, Bool.Bool, Bool.true, Bool.false, Bool.not, Bool.cond, Bool.xor, Bool.◌&&◌}
use Prim.Native.Nat.{ℕ, zero, suc, ◌+◌, ◌-◌, ◌*◌, ◌/◌, ◌%◌, ◌^◌, ◌≤◌, ◌<◌}
use native.Mathlib.Nat.{mod-lt, mod-eq_of_lt, mod_self, sub-zero, mul-le-mul, mul-le-mul_right, mul-lt-mul_of_pos_left, lt_of_le_of_lt, div-add-mod', div-lt_iff_lt-mul, le-div_iff_mul-le}
use native.Mathlib.Omega.{arith}
use lib.{Dec.leb, Dec.ltb, Dec.eqb, IntN.ℤ, IntN.pos, IntN.negsuc, IntN.neg_ℤ, IntN.◌*ℤ◌, Pow.pow-add, Pow.pow_pos, Pow.pow_mono, Pow.shr_lt}
use borrow.Author.Tests.{eqb-true, eqb-false, eq-eqb, ne_eqb, le-leb, lt-leb, lt-ltb, le-ltb}
use Rattle.numbers.specs.Numbers.{bit, top, top_set, signed, fits_signed, wrapped, negated}
use Rattle.numbers.proofs.{Powers.top_twice, SignedLaws.above, SignedLaws.below, SignedLaws.fits_diff, SignedLaws.TopIs, SignedLaws.top_is, SignedLaws.same_test}
use Rattle.numbers.proofs.SignLaws.{sign_of, plain, signed_by, neg-sign, mul-sign, wrapped-sign, plain_lt}
use Rattle.alu.specs.Sum.{adc}
use Rattle.multiply.specs.{Routines.sign_sum, Manual.extension, Manual.extends}
use Rattle.multiply.specs.Multiply.{product_value, product_of, halves_sum, carries, negates}

-- ---- IMULCOF's sum

-- n bits as a 16-bit signed word
pub word_is : (n x : ℕ) → 0 < n → n ≤ 16 → x < 2 ^ n → wrapped 16 (signed n x) ≡ cond (top_set n x) (2 ^ 16 - (2 ^ n - x)) x
word_is n x hn h16 hx = ap (wrapped 16) (signed_by n x hx) ∙ wrapped-sign 16 (top_set n x) (plain n x) (omega (arith, plain_lt n x hn hx, wide)) ∙ by (top_set n x)
  where
    wide : 2 ^ n ≤ 2 ^ 16
    wide = pow_mono h16

    by : (s : Bool) → cond s (negated 16 (cond s (2 ^ n - x) x)) (cond s (2 ^ n - x) x) ≡ cond s (2 ^ 16 - (2 ^ n - x)) x
    by true = mod-eq_of_lt (omega (arith, wide))
    by false = refl

same_eq : (a b c d : ℕ) → (a ≡ b → c ≡ d) → (c ≡ d → a ≡ b) → eqb a b ≡ eqb c d
same_eq a b c d f g = same_test (eqb a b) (eqb c d) (λ e. eq-eqb c d (f (eqb-true a b e))) (λ e. ne_eqb c d (λ p. eqb-false a b e (g p)))

-- it is 0 exactly where the upper half extends the lower
pub sum_tells : (n upper lower : ℕ) → 0 < n → n ≤ 16 → upper < 2 ^ n → eqb (sign_sum n upper lower).result 0 ≡ eqb upper (extension n lower)
unfolding adc
sum_tells n upper lower hn h16 hu =
    ap (λ (w : ℕ). eqb ((w + 0 + bit (top_set n lower)) % 2 ^ 16) 0) (word_is n upper hn h16 hu)
    ∙ by (top_twice n hn) (pow_pos (n - 1)) (pow_mono h16) upper (top_set n upper) (top_set n lower) hu (top_is n upper)
  where
    by : top n * 2 ≡ 2 ^ n → 0 < top n → 2 ^ n ≤ 2 ^ 16 → (u : ℕ) (s l : Bool) → u < 2 ^ n → TopIs s (top n) u
        → eqb ((cond s (2 ^ 16 - (2 ^ n - u)) u + 0 + bit l) % 2 ^ 16) 0 ≡ eqb u (cond l (2 ^ n - 1) 0)
    by m p w u true true i t = same_eq ((2 ^ 16 - (2 ^ n - u) + 0 + 1) % 2 ^ 16) 0 u (2 ^ n - 1) (λ e. omega arith) (λ e. omega arith)
    by m p w u true false i t = same_eq ((2 ^ 16 - (2 ^ n - u) + 0 + 0) % 2 ^ 16) 0 u 0 (λ e. omega arith) (λ e. omega arith)
    by m p w u false true i t = same_eq ((u + 0 + 1) % 2 ^ 16) 0 u (2 ^ n - 1) (λ e. omega arith) (λ e. omega arith)
    by m p w u false false i t = same_eq ((u + 0 + 0) % 2 ^ 16) 0 u 0 (λ e. omega arith) (λ e. omega arith)

-- ---- the range of n signed bits

-- q is 2n bits that stand for themselves, or for themselves less 2 ^ (n + n)
module _ (n q : ℕ) (hn : 0 < n) where
  low_half : q < top n * 2 ^ n → extends n q ≡ leb 0 (q + top n) && ltb q (0 + top n)
  low_half h = rw (le-leb 0 (q + top n) (omega arith)) (by (q / 2 ^ n) (top_set n (q % 2 ^ n)) (top_is n (q % 2 ^ n)) ((div-lt_iff_lt-mul (pow_pos n)).1 h) (div-add-mod' q (2 ^ n)))
    where
      by : (u : ℕ) (s : Bool) → TopIs s (top n) (q % 2 ^ n) → u < top n → u * 2 ^ n + q % 2 ^ n ≡ q → eqb u (cond s (2 ^ n - 1) 0) ≡ ltb q (0 + top n)
      by u true t i e = ne_eqb u (2 ^ n - 1) (λ f. omega (arith, top_twice n hn)) ∙ sym (le-ltb q (0 + top n) (omega arith))
      by zero false t i e = eq-eqb 0 0 refl ∙ sym (lt-ltb q (0 + top n) (omega arith))
      by (suc u) false t i e = ne_eqb (suc u) 0 (λ f. omega arith) ∙ sym (le-ltb q (0 + top n) (omega (arith, top_twice n hn)))

  high_half : top n * 2 ^ n ≤ q → q < 2 ^ n * 2 ^ n → extends n q ≡ leb (2 ^ n * 2 ^ n) (q + top n) && ltb q (2 ^ n * 2 ^ n + top n)
  high_half h i =
      let left : 2 ^ n - 1 - u + u + 1 ≡ 2 ^ n = omega (arith, (div-lt_iff_lt-mul {x = q} (pow_pos n)).1 i) in
      rw (lt-ltb q (2 ^ n * 2 ^ n + top n) (omega arith))
      (by (2 ^ n - 1 - u) (top_set n (q % 2 ^ n)) (top_is n (q % 2 ^ n)) left (ap (λ (x : ℕ). x * 2 ^ n) (sym left) ∙ omega arith))
    where
      u : ℕ
      u = q / 2 ^ n

      tall : top n ≤ u
      tall = (le-div_iff_mul-le (pow_pos n)).1 h

      parts : u * 2 ^ n + q % 2 ^ n ≡ q
      parts = div-add-mod' q (2 ^ n)

      -- w is what the upper half lacks to the largest
      by : (w : ℕ) (s : Bool) → TopIs s (top n) (q % 2 ^ n) → w + u + 1 ≡ 2 ^ n → 2 ^ n * 2 ^ n ≡ w * 2 ^ n + u * 2 ^ n + 2 ^ n
          → eqb u (cond s (2 ^ n - 1) 0) ≡ leb (2 ^ n * 2 ^ n) (q + top n) && true
      by w false t e square =
          rw (lt-leb (2 ^ n * 2 ^ n) (q + top n) (omega (arith, parts, top_twice n hn))) (ne_eqb u 0 (λ f. omega (arith, tall, pow_pos (n - 1))))
      by zero true t e square = rw (le-leb (2 ^ n * 2 ^ n) (q + top n) (omega (arith, parts, top_twice n hn))) (eq-eqb u (2 ^ n - 1) (omega arith))
      by (suc w) true t e square =
          rw (lt-leb (2 ^ n * 2 ^ n) (q + top n) (omega (arith, parts, top_twice n hn, mod-lt q (pow_pos n)))) (ne_eqb u (2 ^ n - 1) (λ f. omega arith))

-- the 2n bits of a sign and a magnitude: the number fits n signed bits exactly where their upper half extends the lower
pub fits_tells : (n : ℕ) (s : Bool) (m : ℕ) → 0 < n → m < top n * 2 ^ n → extends n (cond s (negated (n + n) m) m) ≡ fits_signed n (sign_of s m)
fits_tells n false m hn h = low_half n m hn h ∙ sym (fits_diff n (above m m 0 (omega arith)))
fits_tells n true zero hn h = rw nothing (low_half n 0 hn h ∙ sym (fits_diff n (above 0 0 0 (omega arith))))
  where
    nothing : negated (n + n) 0 ≡ 0
    nothing = ap (λ (x : ℕ). x % 2 ^ (n + n)) (sub-zero (2 ^ (n + n))) ∙ mod_self (2 ^ (n + n))
fits_tells n true (suc m) hn h =
    let half : top n * 2 ^ n * 2 ≡ 2 ^ n * 2 ^ n = omega arith ∙ ap (λ (x : ℕ). x * 2 ^ n) (top_twice n hn) in
    let q : ℕ = 2 ^ n * 2 ^ n - suc m in
    let taken : negated (n + n) (suc m) ≡ q = ap (λ (x : ℕ). (x - suc m) % x) (pow-add 2 n n) ∙ mod-eq_of_lt (omega arith) in
    rw taken (high_half n q hn (omega arith) (omega arith) ∙ sym (fits_diff n (below m q (2 ^ n * 2 ^ n) (omega arith))))

-- ---- the signed product

-- the low n bits of a number are n bits
pub wrapped_lt : (n : ℕ) (z : ℤ) → wrapped n z < 2 ^ n
unfolding wrapped
wrapped_lt n (pos k) = mod-lt k (pow_pos n)
wrapped_lt n (negsuc k) = omega (arith, pow_pos n)

module _ (n : ℕ) (rep : Bool) (x y : ℕ) (hn : 0 < n) (hx : x < 2 ^ n) (hy : y < 2 ^ n) where
  -- its magnitude
  abbrev pub size : ℕ
  size = plain n x * plain n y

  pub size_lt : size < top n * 2 ^ n
  size_lt =
      lt_of_le_of_lt (mul-le-mul (plain_lt n x hn hx).0 (plain_lt n y hn hy).0) (mul-lt-mul_of_pos_left (omega (arith, top_twice n hn, pow_pos (n - 1))) (pow_pos (n - 1)))

  pub product_value_is : product_value n true rep x y ≡ sign_of (negates n rep x y) size
  unfolding xor
  product_value_is =
      ap (λ (z : ℤ). cond rep (neg_ℤ z) z) (ap₂ (λ (v w : ℤ). v *ℤ w) (signed_by n x hx) (signed_by n y hy) ∙ mul-sign (top_set n x) (top_set n y) (plain n x) (plain n y))
      ∙ by rep (top_set n x) (top_set n y)
    where
      by : (r s t : Bool) → cond r (neg_ℤ (sign_of (xor s t) size)) (sign_of (xor s t) size) ≡ sign_of (xor (xor r s) t) size
      by true s t = neg-sign (xor s t) size ∙ ap (λ (b : Bool). sign_of b size) (flipped s t)
        where
          flipped : (s t : Bool) → not (xor s t) ≡ xor (xor true s) t
          flipped true true = refl
          flipped true false = refl
          flipped false true = refl
          flipped false false = refl
      by false true t = refl
      by false false t = refl

  -- its 2n bits
  pub signed-bits : product_of n true rep x y ≡ cond (negates n rep x y) (negated (n + n) size) size
  signed-bits = ap (wrapped (n + n)) product_value_is ∙ wrapped-sign (n + n) (negates n rep x y) size (omega (arith, size_lt, pow-add 2 n n, half))
    where
      half : top n * 2 ^ n ≤ 2 ^ n * 2 ^ n
      half = mul-le-mul_right (2 ^ n) (omega (arith, top_twice n hn))

  -- the manual's rule is the chart's
  pub manual_rule : not (extends n (product_of n true rep x y)) ≡ carries n true rep x y
  manual_rule = ap not (ap (extends n) signed-bits ∙ fits_tells n (negates n rep x y) size hn size_lt ∙ ap (fits_signed n) (sym product_value_is))

  -- and so is the test that IMULCOF makes
  pub imulcof_rule : n ≤ 16 → not (eqb (halves_sum n (product_of n true rep x y)).result 0) ≡ carries n true rep x y
  imulcof_rule h16 = ap not (sum_tells n (product_of n true rep x y / 2 ^ n) (product_of n true rep x y % 2 ^ n) hn h16 upper) ∙ manual_rule
    where
      upper : product_of n true rep x y / 2 ^ n < 2 ^ n
      upper = shr_lt n n (wrapped_lt (n + n) (product_value n true rep x y))
