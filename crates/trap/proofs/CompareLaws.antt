-- A divide is refused exactly if the dividend's magnitude is at least 2 ^ (n - 1) times the divisor's, signed, or 2 ^ n times, unsigned: one
-- law for both, over the width n. Assumes nothing.
use mathlib.Core.{Path.◌≡◌, Path.refl, Path.sym, Path.ap, Path.◌∙◌, Bool.Bool, Bool.true, Bool.false, Bool.not, Bool.◌&&◌, Logic.inl, Logic.inr}
use Prim.Native.Nat.{ℕ, ◌+◌, ◌-◌, ◌*◌, ◌/◌, ◌^◌, ◌≤◌, ◌<◌}
use native.Mathlib.{Nat.pow-le-pow_right, Nat.mul-le-mul_left, Nat.mul-le-mul_right, Nat.div-lt_iff_lt-mul, Omega.arith}
use mir.Syntax.{w64}
use mir.Val.{Fits}
use lib.{Arith.digits_lt, Dec.leb, Dec.ltb, Dec.eqb, Dec.lit<, IntN.nat_abs, Pow.pow-add, Pow.pow_pos}
use borrow.Author.Tests.{leb-true, leb-false, ltb-true, ltb-false, le-leb, le-ltb, ne_eqb}
use Rattle.numbers.specs.Numbers.{bit, top, top_set, magnitude}
use Rattle.numbers.proofs.{Powers.top_twice, Powers.top_double, SignLaws.plain_lt, SignLaws.magnitude-plain}
use Rattle.alu.proofs.StepLaws.{top_digit}
use Rattle.divide.specs.Divide.{accepts, quotient_of, dividend_of, divisor_of}
use Rattle.trap.specs.Compare.{times_of, reaches}
use Rattle.divide.proofs.{DivLaws.ByMagnitudes, DivLaws.known, Manual.quotient_fits}

-- accepted: the divisor is not 0, and the quotient's magnitude is below so many times
accepted_below : (n : ℕ) (s : Bool) (d b : ℕ) → accepts n s d b ≡ not (eqb b 0) && ltb (nat_abs (quotient_of n s d b)) (times_of n s)
accepted_below n true d b = refl
accepted_below n false d b = quotient_fits n d b

-- a quotient is not below t exactly if the dividend is at least t times the divisor
not_below : (d b t : ℕ) → 0 < b → not (ltb (d / b) t) ≡ leb (t * b) d
not_below d b t hb = by (ltb (d / b) t) (leb (t * b) d) refl refl
  where
    by : (x y : Bool) → ltb (d / b) t ≡ x → leb (t * b) d ≡ y → not x ≡ y
    by true true ex ey = absurd (omega (arith, (div-lt_iff_lt-mul hb).0 (ltb-true (d / b) t ex), leb-true (t * b) d ey))
    by true false ex ey = refl
    by false true ex ey = refl
    by false false ex ey = absurd (omega (arith, ltb-false (d / b) t ex, (div-lt_iff_lt-mul hb).1 (leb-false (t * b) d ey)))

module _ (n : ℕ) (s : Bool) (d b : ℕ) (hn : 0 < n) (hd : d < 2 ^ (n + n)) (hb : b < 2 ^ n) where
  -- the rule, for every pair: a divisor of 0 is reached by every dividend
  pub one_comparison : not (accepts n s d b) ≡ reaches n s d b
  one_comparison = ap not (accepted_below n s d b) ∙ by (known n s d b hn hd hb)
    where
      by : ByMagnitudes n s d b → not (not (eqb b 0) && ltb (nat_abs (quotient_of n s d b)) (times_of n s)) ≡ reaches n s d b
      by (inl (z, m)) = rw (z, m) (sym (le-leb (times_of n s * 0) (dividend_of n s d) (omega arith)))
      by (inr (z, m, q)) = rw (z, q) (not_below (dividend_of n s d) (divisor_of n s b) (times_of n s) m)

-- a divisor of 0 traps, whatever the dividend
pub zero_traps : (n : ℕ) (s : Bool) (d : ℕ) → not (accepts n s d 0) ≡ true
zero_traps n true d = refl
zero_traps n false d = ap not (le-ltb (d / 2 ^ n) 0 (omega arith))

-- and so does the most negative dividend, whatever the divisor
pub most_negative_traps : (n b : ℕ) → 0 < n → b < 2 ^ n → not (accepts n true (top (n + n)) b) ≡ true
most_negative_traps n b hn hb = one_comparison n true (top (n + n)) b hn within hb ∙ le-leb (top n * divisor_of n true b) (dividend_of n true (top (n + n))) (omega (arith, far, near, top_double n hn))
  where
    within : top (n + n) < 2 ^ (n + n)
    within = omega (arith, top_twice (n + n) (omega arith), pow_pos (n + n - 1))

    far : dividend_of n true (top (n + n)) ≡ top (n + n)
    far = magnitude-plain (n + n) (top (n + n)) within ∙ rw (le-leb (top (n + n)) (top (n + n)) (omega arith)) (omega (arith, top_twice (n + n) (omega arith)))

    near : top n * divisor_of n true b ≤ top n * 2 ^ n
    near = mul-le-mul_left (top n) (omega (arith, magnitude-plain n b hb, plain_lt n b hn hb))

-- ---- how the code has the magnitudes

-- negative, by its sign bit
negative-bit : (n x : ℕ) → 0 < n → x < 2 ^ n → not (eqb (x / top n) 0) ≡ top_set n x
negative-bit n x hn hx = ap (λ (k : ℕ). not (eqb k 0)) (top_digit n x hn hx) ∙ by (top_set n x)
  where
    by : (t : Bool) → not (eqb (bit t) 0) ≡ t
    by true = refl
    by false = refl

-- a signed number: what is left to 2 ^ n where it is negative, and else as it is
module _ (n x : ℕ) (hn : 0 < n) (hx : x < 2 ^ n) where
  pub left_over : (x / top n ≡ 0 → ⊥) → {r : ℕ} → r ≡ 2 ^ n - x → r ≡ magnitude true n x
  left_over h e = e ∙ sym (magnitude-plain n x hx ∙ rw (← negative-bit n x hn hx, ne_eqb (x / top n) 0 h))

  -- that is at most half of all, so that a remainder by more would change nothing
  pub at_most_half : n ≤ 32 → (x / top n ≡ 0 → ⊥) → 2 ^ n ≤ x + 2 ^ 31
  at_most_half most h =
      let high : top n ≤ x = leb-true (top n) x (sym (negative-bit n x hn hx) ∙ ap not (ne_eqb (x / top n) 0 h)) in
      let half : top n ≤ 2 ^ 31 = pow-le-pow_right (lit< tt) {i = n - 1} {j = 31} (omega arith) in
      omega (arith, top_twice n hn)

  pub as_it_is : x / top n ≡ 0 → x ≡ magnitude true n x
  as_it_is h = sym (magnitude-plain n x hx ∙ rw (← negative-bit n x hn hx, h))

-- at up to 16 bits so many times a divisor fits 64, and even 32
pub product-fits : (n : ℕ) → n ≤ 16 → {t m : ℕ} → t ≤ 2 ^ n → m < 2 ^ n → Fits w64 (t * m)
product-fits n most {t} {m} ht hm =
    let upper : m * 2 ^ n + 0 < 2 ^ n * 2 ^ n = digits_lt hm (pow_pos n) in
    let product : t * m ≤ 2 ^ n * m = mul-le-mul_right m ht in
    let wide : 2 ^ (n + n) ≤ 2 ^ 32 = pow-le-pow_right (lit< tt) {i = n + n} {j = 32} (omega arith) in
    omega (arith, pow-add 2 n n)

-- the comparison that the code makes, of either sign rule, says that the divide is not accepted
pub compares : (n : ℕ) (s : Bool) (d b : ℕ) → 0 < n → d < 2 ^ (n + n) → b < 2 ^ n → {r : Bool} → r ≡ s
    → {t m far : ℕ} → t ≡ times_of n s → m ≡ divisor_of n s b → far ≡ dividend_of n s d → leb (t * m) far ≡ not (accepts n r d b)
compares n s d b hn hd hb er et em ef =
    (λ i. leb (et i * em i) (ef i)) ∙ sym (one_comparison n s d b hn hd hb) ∙ ap (λ (r : Bool). not (accepts n r d b)) (sym er)
