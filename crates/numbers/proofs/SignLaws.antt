-- Signed numbers as a sign and a magnitude: what products, quotients and remainders make of the two, and the bits that stand for them.
-- Assumes nothing.
use mathlib.Core.{Path.◌≡◌, Path.refl, Path.sym, Path.ap, Path.◌∙◌, Bool.Bool, Bool.true, Bool.false, Bool.not, Bool.cond, Bool.xor}
use Prim.Native.Nat.{ℕ, zero, suc, ◌+◌, ◌-◌, ◌*◌, ◌/◌, ◌%◌, ◌^◌, ◌≤◌, ◌<◌}
use native.Mathlib.Nat.{le_trans, mod-eq_of_lt, mod_self, zero-mul, mul-zero, zero-div, zero-mod, mul-le-mul_right, div-lt_iff_lt-mul, div-add-mod'}
use native.Mathlib.Omega.{arith}
use lib.{IntN.ℤ, IntN.pos, IntN.negsuc, IntN.neg_ℤ, IntN.nat_abs, IntN.sub_ℕ, IntN.◌*ℤ◌, Signed.quot_z, Signed.rem_z, Pow.pow_pos}
use borrow.Author.Tests.{lt-ltb, leb-true, leb-false, le-leb, lt-leb}
use Rattle.numbers.specs.Numbers.{top, top_set, signed, magnitude, wrapped, negated}
use Rattle.numbers.proofs.{Powers.top_twice, Powers.top_double, SignedLaws.TopIs, SignedLaws.top_is, SignedLaws.same_test}

-- a magnitude with a sign, true for negative
abbrev pub sign_of : Bool → ℕ → ℤ
sign_of true m = neg_ℤ (pos m)
sign_of false m = pos m

-- the magnitude of n bits by their top bit
abbrev pub plain : ℕ → ℕ → ℕ
plain n x = cond (top_set n x) (2 ^ n - x) x

pub signed_by : (n x : ℕ) → x < 2 ^ n → signed n x ≡ sign_of (top_set n x) (plain n x)
unfolding signed
signed_by n x hx = by (top_set n x)
  where
    by : (s : Bool) → cond s (sub_ℕ x (2 ^ n)) (pos x) ≡ sign_of s (cond s (2 ^ n - x) x)
    by false = refl
    by true = below_zero (2 ^ n - x) refl
      where
        below_zero : (k : ℕ) → 2 ^ n - x ≡ k → sub_ℕ x (2 ^ n) ≡ neg_ℤ (pos k)
        below_zero zero e = absurd (omega arith)
        below_zero (suc j) e = rw (lt-ltb x (2 ^ n) hx) (ap negsuc (omega arith))

pub abs_sign : (s : Bool) (m : ℕ) → nat_abs (sign_of s m) ≡ m
abs_sign false m = refl
abs_sign true zero = refl
abs_sign true (suc m) = refl

pub neg-sign : (s : Bool) (m : ℕ) → neg_ℤ (sign_of s m) ≡ sign_of (not s) m
neg-sign false m = refl
neg-sign true zero = refl
neg-sign true (suc m) = refl

pub mul-sign : (s t : Bool) (a b : ℕ) → sign_of s a *ℤ sign_of t b ≡ sign_of (xor s t) (a * b)
unfolding xor
mul-sign false false a b = refl
mul-sign false true a zero = ap pos (mul-zero a) ∙ ap (λ (k : ℕ). neg_ℤ (pos k)) (sym (mul-zero a))
mul-sign false true a (suc b) = refl
mul-sign true false zero b = ap pos (zero-mul b) ∙ ap (λ (k : ℕ). neg_ℤ (pos k)) (sym (zero-mul b))
mul-sign true false (suc a) b = refl
mul-sign true true zero zero = refl
mul-sign true true zero (suc b) = ap (λ (k : ℕ). neg_ℤ (pos k)) (zero-mul (suc b)) ∙ ap pos (sym (zero-mul (suc b)))
mul-sign true true (suc a) zero = ap (λ (k : ℕ). neg_ℤ (pos k)) (mul-zero (suc a)) ∙ ap pos (sym (mul-zero (suc a)))
mul-sign true true (suc a) (suc b) = refl

-- cut towards zero
pub quot_sign : (s t : Bool) (a b : ℕ) → 0 < b → quot_z (sign_of s a) (sign_of t b) ≡ sign_of (xor s t) (a / b)
unfolding xor
quot_sign s t a zero h = absurd (omega arith)
quot_sign false false a (suc b) h = refl
quot_sign false true a (suc b) h = refl
quot_sign true false zero (suc b) h = ap pos (zero-div (suc b)) ∙ ap (λ (k : ℕ). neg_ℤ (pos k)) (sym (zero-div (suc b)))
quot_sign true false (suc a) (suc b) h = refl
quot_sign true true zero (suc b) h = ap (λ (k : ℕ). neg_ℤ (pos k)) (zero-div (suc b)) ∙ ap pos (sym (zero-div (suc b)))
quot_sign true true (suc a) (suc b) h = refl

-- with the dividend's sign
pub rem_sign : (s t : Bool) (a b : ℕ) → rem_z (sign_of s a) (sign_of t b) ≡ sign_of s (a % b)
rem_sign false t a b = ap (λ (k : ℕ). pos (a % k)) (abs_sign t b)
rem_sign true t zero b = ap (λ (k : ℕ). pos (zero % k)) (abs_sign t b) ∙ ap pos (zero-mod b) ∙ ap (λ (k : ℕ). neg_ℤ (pos k)) (sym (zero-mod b))
rem_sign true t (suc a) b = ap (λ (k : ℕ). neg_ℤ (pos (suc a % k))) (abs_sign t b)

-- the bits that stand for a sign and a magnitude
pub wrapped-sign : (n : ℕ) (s : Bool) (m : ℕ) → m < 2 ^ n → wrapped n (sign_of s m) ≡ cond s (negated n m) m
unfolding wrapped
wrapped-sign n false m h = mod-eq_of_lt h
wrapped-sign n true zero h = mod-eq_of_lt (pow_pos n) ∙ sym (ap (λ (k : ℕ). k % 2 ^ n) (omega arith) ∙ mod_self (2 ^ n))
wrapped-sign n true (suc m) h =
    ap (λ (k : ℕ). 2 ^ n - 1 - k) (mod-eq_of_lt (omega arith)) ∙ omega arith ∙ sym (mod-eq_of_lt (omega arith))

-- a number whose magnitude is below the top bit is what its n bits stand for
pub signed-wrapped : (n : ℕ) (z : ℤ) → 0 < n → nat_abs z < top n → signed n (wrapped n z) ≡ z
unfolding signed wrapped
signed-wrapped n (pos k) hn h =
    let kept : k % 2 ^ n ≡ k = mod-eq_of_lt (omega (arith, top_twice n hn)) in
    rw (kept, lt-leb (top n) k h)
signed-wrapped n (negsuc k) hn h =
    let kept : k % 2 ^ n ≡ k = mod-eq_of_lt (omega (arith, top_twice n hn)) in
    let high : top n ≤ 2 ^ n - 1 - k = omega (arith, top_twice n hn) in
    rw (kept, le-leb (top n) (2 ^ n - 1 - k) high, lt-ltb (2 ^ n - 1 - k) (2 ^ n) (omega arith)) (ap negsuc (omega (arith, top_twice n hn)))

-- the magnitude of n bits is below 2 ^ n, and of signed ones at most the top bit
pub plain_lt : (n x : ℕ) → 0 < n → x < 2 ^ n → (plain n x ≤ top n) × (plain n x < 2 ^ n)
plain_lt n x hn hx = by (top_set n x) (top_is n x)
  where
    by : (s : Bool) → TopIs s (top n) x → (cond s (2 ^ n - x) x ≤ top n) × (cond s (2 ^ n - x) x < 2 ^ n)
    by true h = omega (arith, top_twice n hn, pow_pos (n - 1))
    by false h = omega (arith, top_twice n hn)

-- a sign flipped or kept
pub xor_true : (s : Bool) → xor s true ≡ not s
unfolding xor
xor_true true = refl
xor_true false = refl

pub xor_false : (s : Bool) → xor s false ≡ s
unfolding xor
xor_false true = refl
xor_false false = refl

-- NEGATE's way to the magnitude of n bits
pub plain_by : (n x : ℕ) → 0 < n → x < 2 ^ n → cond (top_set n x) (negated n x) x ≡ plain n x
plain_by n x hn hx = by (top_set n x) (top_is n x)
  where
    by : (s : Bool) → TopIs s (top n) x → cond s (negated n x) x ≡ cond s (2 ^ n - x) x
    by true h = mod-eq_of_lt (omega (arith, pow_pos (n - 1)))
    by false h = refl

pub magnitude-plain : (n x : ℕ) → x < 2 ^ n → magnitude true n x ≡ plain n x
magnitude-plain n x hx = ap nat_abs (signed_by n x hx) ∙ abs_sign (top_set n x) (plain n x)

-- a sign flipped once more
pub neg_once_more : (rep s : Bool) (m : ℕ) → cond rep (neg_ℤ (sign_of s m)) (sign_of s m) ≡ sign_of (xor rep s) m
unfolding xor
neg_once_more true true m = neg-sign true m
neg_once_more true false m = neg-sign false m
neg_once_more false true m = refl
neg_once_more false false m = refl

pub xor_assoc : (a b c : Bool) → xor (xor a b) c ≡ xor a (xor b c)
unfolding xor
xor_assoc true true true = refl
xor_assoc true true false = refl
xor_assoc true false true = refl
xor_assoc true false false = refl
xor_assoc false true true = refl
xor_assoc false true false = refl
xor_assoc false false true = refl
xor_assoc false false false = refl

-- the sign of 2n bits stands in their upper half
pub top_upper : (n d : ℕ) → 0 < n → top_set n (d / 2 ^ n) ≡ top_set (n + n) d
top_upper n d hn =
    same_test (top_set n (d / 2 ^ n)) (top_set (n + n) d)
    (λ t. le-leb (top (n + n)) d (at_least (leb-true (top n) (d / 2 ^ n) t)))
    (λ t. lt-leb (top (n + n)) d (rw (top_double n hn) ((div-lt_iff_lt-mul (pow_pos n)).0 (leb-false (top n) (d / 2 ^ n) t))))
  where
    at_least : top n ≤ d / 2 ^ n → top (n + n) ≤ d
    at_least h = rw (top_double n hn) (le_trans (mul-le-mul_right (2 ^ n) h) (omega (arith, div-add-mod' d (2 ^ n))))

-- a magnitude has the width of its number
pub magnitude_lt : (n : ℕ) (s : Bool) (x : ℕ) → 0 < n → x < 2 ^ n → {m : ℕ} → m ≡ magnitude s n x → m < 2 ^ n
magnitude_lt n true x hn h e = omega (arith, e, magnitude-plain n x h, plain_lt n x hn h, top_twice n hn, pow_pos n)
magnitude_lt n false x hn h e = omega (arith, e)
