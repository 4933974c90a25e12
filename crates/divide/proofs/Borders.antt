-- The borders between the reasons to refuse a divide: a quotient's magnitude is too wide, in sign range, or neither. Each law takes the
-- border from its definition and judges it by arithmetic. Assumes nothing.
use mathlib.Core.{Path.◌≡◌, Path.refl, Path.sym, Path.◌∙◌, Bool.Bool, Bool.true, Bool.false, Bool.not, Bool.◌||◌, Bool.and-false, Bool.true≢false}
use Prim.Native.Nat.{ℕ, ◌^◌, ◌≤◌, ◌<◌}
use native.Mathlib.Omega.{arith}
use lib.{Dec.leb, Dec.ltb, Pow.pow_pos}
use borrow.Author.Tests.{leb-true, leb-false, ltb-true, ltb-false, le-leb, lt-leb}
use Rattle.numbers.specs.Numbers.{between, top}
use Rattle.numbers.proofs.Powers.{top_twice}
use Rattle.divide.specs.Divide.{too_wide, sign_range}

-- too wide is at least 2 ^ n
pub true_wide : (n q : ℕ) → 2 ^ n ≤ q → too_wide n q ≡ true
true_wide n q h = le-leb _ q (omega arith)

pub false_wide : (n q : ℕ) → q < 2 ^ n → too_wide n q ≡ false
false_wide n q h = lt-leb _ q (omega arith)

pub wide_true : (n q : ℕ) → too_wide n q ≡ true → 2 ^ n ≤ q
wide_true n q e = by (leb (2 ^ n) q) refl
  where
    by : (x : Bool) → leb (2 ^ n) q ≡ x → 2 ^ n ≤ q
    by true h = leb-true (2 ^ n) q h
    by false h = absurd (true≢false (sym e ∙ false_wide n q (leb-false (2 ^ n) q h)))

pub wide_false : (n q : ℕ) → too_wide n q ≡ false → q < 2 ^ n
wide_false n q e = by (leb (2 ^ n) q) refl
  where
    by : (x : Bool) → leb (2 ^ n) q ≡ x → q < 2 ^ n
    by true h = absurd (true≢false (sym (true_wide n q (leb-true (2 ^ n) q h)) ∙ e))
    by false h = leb-false (2 ^ n) q h

-- within two ends, below them or above them
within : (a b x : ℕ) → a ≤ x → x ≤ b → between a b x ≡ true
within a b x low high = rw (le-leb a x low, le-leb x b high)

under : (a b x : ℕ) → x < a → between a b x ≡ false
under a b x low = rw (lt-leb a x low)

over : (a b x : ℕ) → b < x → between a b x ≡ false
over a b x high = rw (lt-leb x b high) (and-false (leb a x))

-- sign range is from 2 ^ (n - 1) to below 2 ^ n
pub true_range : (n q : ℕ) → top n ≤ q → q < 2 ^ n → sign_range n q ≡ true
true_range n q low high = within _ _ q (omega arith) (omega arith)

pub range_true : (n q : ℕ) → sign_range n q ≡ true → (top n ≤ q) × (q < 2 ^ n)
range_true n q e = by (leb (top n) q) (ltb q (2 ^ n)) refl refl
  where
    by : (x y : Bool) → leb (top n) q ≡ x → ltb q (2 ^ n) ≡ y → (top n ≤ q) × (q < 2 ^ n)
    by true true ex ey = (leb-true (top n) q ex, ltb-true q (2 ^ n) ey)
    by true false ex ey = let no : sign_range n q ≡ false = over _ _ q (omega (arith, ltb-false q (2 ^ n) ey, pow_pos n)) in absurd (true≢false (sym e ∙ no))
    by false y ex ey = let no : sign_range n q ≡ false = under _ _ q (omega (arith, leb-false (top n) q ex)) in absurd (true≢false (sym e ∙ no))

-- what is not below the top bit is too wide or in sign range
pub wide_or_range : (n q : ℕ) → 0 < n → not (ltb q (top n)) ≡ too_wide n q || sign_range n q
wide_or_range n q hn = by (ltb q (top n)) (too_wide n q) (sign_range n q) refl refl refl
  where
    by : (x w r : Bool) → ltb q (top n) ≡ x → too_wide n q ≡ w → sign_range n q ≡ r → not x ≡ w || r
    by true true r ex ew er = absurd (omega (arith, ltb-true q (top n) ex, wide_true n q ew, top_twice n hn))
    by true false true ex ew er = absurd (omega (arith, ltb-true q (top n) ex, (range_true n q er).0))
    by true false false ex ew er = refl
    by false true r ex ew er = refl
    by false false true ex ew er = refl
    by false false false ex ew er = absurd (true≢false (sym (true_range n q (ltb-false q (top n) ex) (wide_false n q ew)) ∙ er))

-- an unsigned quotient fits exactly if it is not too wide
pub wide_unfit : (n q : ℕ) → not (ltb q (2 ^ n)) ≡ too_wide n q
wide_unfit n q = by (ltb q (2 ^ n)) (too_wide n q) refl refl
  where
    by : (x w : Bool) → ltb q (2 ^ n) ≡ x → too_wide n q ≡ w → not x ≡ w
    by true true ex ew = absurd (omega (arith, ltb-true q (2 ^ n) ex, wide_true n q ew))
    by true false ex ew = refl
    by false true ex ew = refl
    by false false ex ew = absurd (omega (arith, ltb-false q (2 ^ n) ex, wide_false n q ew))
