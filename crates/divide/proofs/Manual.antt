-- The manual's division determines quotient and remainder, and those of the definitions are they. What the chart accepts is what the manual
-- does: the divisor is not 0, and the quotient is in range. Assumes nothing.
use mathlib.Core.Path.{◌≡◌, refl, sym, ap, ap₂, subst, subst⁻¹, ◌∙◌}
use mathlib.Core.{Bool.Bool, Bool.true, Bool.false, Bool.not, Bool.xor, Bool.◌&&◌, Bool.and-true, Logic.◌⊎◌, Logic.inl, Logic.inr}
use Prim.Native.Nat.{ℕ, zero, suc, ◌+◌, ◌-◌, ◌*◌, ◌/◌, ◌%◌, ◌^◌, ◌<◌}
use native.Mathlib.{Nat.div-add-mod', Nat.mod-lt, Omega.arith}
use lib.{Arith.digits_div, Arith.digits_mod, Dec.leb, Dec.ltb, Dec.eqb, Dec.leb-suc-suc, IntN.ℤ, IntN.pos, IntN.negsuc, IntN.neg_ℤ, IntN.nat_abs, IntN.◌+ℤ◌, IntN.◌*ℤ◌, IntN.neg_ℤ-+ℤ}
use lib.{Pow.pow_pos, Signed.quot_z, Signed.rem_z, Signed.le_z}
use borrow.Author.Tests.{leb-true, leb-false, ltb-true, ltb-false, le-leb, lt-leb, lt-ltb, le-ltb, ne_eqb}
use Rattle.numbers.specs.Numbers.{top}
use Rattle.numbers.proofs.SignedLaws.{Diff, above, below, diff_add, diff_neg, same_test}
use Rattle.numbers.proofs.SignLaws.{sign_of, abs_sign, mul-sign, quot_sign, rem_sign}
use Rattle.divide.specs.{Divide.accepts, Divide.quotient_of, Manual.negative, Manual.Division, Manual.largest_quotient, Manual.in_range}
use Rattle.divide.proofs.DivLaws.{below as quotient-below}

-- every number is its sign and its magnitude
sign_of_lem : (z : ℤ) → z ≡ sign_of (negative z) (nat_abs z)
sign_of_lem (pos k) = refl
sign_of_lem (negsuc k) = refl

zeros : (s t : Bool) → sign_of s 0 ≡ sign_of t 0
zeros true true = refl
zeros true false = refl
zeros false true = refl
zeros false false = refl

-- a remainder has the dividend's sign, 0 having either
with_sign_lem : (z r : ℤ) → (nat_abs r ≡ 0) ⊎ (negative r ≡ negative z) → r ≡ sign_of (negative z) (nat_abs r)
with_sign_lem z r (inl e) = sign_of_lem r ∙ ap (sign_of (negative r)) e ∙ zeros (negative r) (negative z) ∙ ap (sign_of (negative z)) (sym e)
with_sign_lem z r (inr e) = sign_of_lem r ∙ ap (λ (s : Bool). sign_of s (nat_abs r)) e

-- a sign and a magnitude as a difference
abbrev part : Bool → ℕ → ℕ
part true m = m
part false m = 0

diff_sign : (s : Bool) (m : ℕ) → Diff (sign_of s m) (part (not s) m) (part s m)
diff_sign true m = diff_neg (above m m 0 (omega arith))
diff_sign false m = above m m 0 (omega arith)

-- one number is one difference
abbrev up : ℤ → ℕ
up (pos k) = k
up (negsuc k) = 0

abbrev down : ℤ → ℕ
down (pos k) = 0
down (negsuc k) = suc k

diff_out : {z : ℤ} {u v : ℕ} → Diff z u v → u + down z ≡ v + up z
diff_out (above m u v d) = omega arith
diff_out (below m u v d) = omega arith

moved : {z w : ℤ} {u v : ℕ} → z ≡ w → Diff z u v → Diff w u v
moved {u} {v} e d = subst (λ (x : ℤ). Diff x u v) e d

-- a product p of sign u and a remainder ρ of the dividend's sign s make a dividend of magnitude a: the signs agree, or the product is the
-- smaller of two that differ
same_signs : (u s : Bool) (p ρ a : ℕ) → part (not u) p + part (not s) ρ + part s a ≡ part u p + part s ρ + part (not s) a
    → ((u ≡ s) × (p + ρ ≡ a)) ⊎ (p + a ≡ ρ)
same_signs true true p ρ a e = inl (refl, omega arith)
same_signs true false p ρ a e = inr (omega arith)
same_signs false true p ρ a e = inr (omega arith)
same_signs false false p ρ a e = inl (refl, omega arith)

-- a multiple of b below b is none of it
no_multiple : (k b : ℕ) → k * b < b → k ≡ 0
no_multiple zero b h = refl
no_multiple (suc k) b h = absurd (omega arith)

xor_back : (x s t : Bool) → xor x t ≡ s → x ≡ xor s t
unfolding xor
xor_back true true true e = sym e
xor_back true true false e = refl
xor_back true false true e = refl
xor_back true false false e = e
xor_back false true true e = refl
xor_back false true false e = e
xor_back false false true e = sym e
xor_back false false false e = refl

module _ (z w q r : ℤ) (h : Division z w q r) where
  sides : part (not (xor (negative q) (negative w))) (nat_abs q * nat_abs w) + part (not (negative z)) (nat_abs r) + part (negative z) (nat_abs z)
      ≡ part (xor (negative q) (negative w)) (nat_abs q * nat_abs w) + part (negative z) (nat_abs r) + part (not (negative z)) (nat_abs z)
  sides =
      let product : q *ℤ w ≡ sign_of (xor (negative q) (negative w)) (nat_abs q * nat_abs w) =
      ap₂ ◌*ℤ◌ (sign_of_lem q) (sign_of_lem w) ∙ mul-sign (negative q) (negative w) (nat_abs q) (nat_abs w) in
      let left = diff_add (diff_sign (xor (negative q) (negative w)) (nat_abs q * nat_abs w)) (diff_sign (negative z) (nat_abs r)) in
      let whole : sign_of (xor (negative q) (negative w)) (nat_abs q * nat_abs w) +ℤ sign_of (negative z) (nat_abs r) ≡ z =
      ap₂ ◌+ℤ◌ (sym product) (sym (with_sign_lem z r h.sign)) ∙ h.whole in
      let one : part (not (xor (negative q) (negative w))) (nat_abs q * nat_abs w) + part (not (negative z)) (nat_abs r) + down z
      ≡ part (xor (negative q) (negative w)) (nat_abs q * nat_abs w) + part (negative z) (nat_abs r) + up z = diff_out (moved whole left) in
      let other : part (not (negative z)) (nat_abs z) + down z ≡ part (negative z) (nat_abs z) + up z =
      diff_out (moved (sym (sign_of_lem z)) (diff_sign (negative z) (nat_abs z))) in
      omega arith

  -- what the three conditions say of the magnitudes, and of the quotient's sign
  magnitudes : ((nat_abs q ≡ 0) ⊎ (negative q ≡ xor (negative z) (negative w))) × (nat_abs q * nat_abs w + nat_abs r ≡ nat_abs z)
  magnitudes = by (same_signs (xor (negative q) (negative w)) (negative z) (nat_abs q * nat_abs w) (nat_abs r) (nat_abs z) sides)
    where
      by : ((xor (negative q) (negative w) ≡ negative z) × (nat_abs q * nat_abs w + nat_abs r ≡ nat_abs z)) ⊎ (nat_abs q * nat_abs w + nat_abs z ≡ nat_abs r)
          → ((nat_abs q ≡ 0) ⊎ (negative q ≡ xor (negative z) (negative w))) × (nat_abs q * nat_abs w + nat_abs r ≡ nat_abs z)
      by (inl e) = (inr (xor_back (negative q) (negative z) (negative w) e.0), e.1)
      by (inr e) =
          let none = no_multiple (nat_abs q) (nat_abs w) (omega (arith, h.smaller)) in
          let product : nat_abs q * nat_abs w ≡ 0 = ap (λ (x : ℕ). x * nat_abs w) none ∙ omega arith in
          (inl none, omega arith)

  quotient_magnitude : nat_abs z / nat_abs w ≡ nat_abs q
  quotient_magnitude = ap (λ (x : ℕ). x / nat_abs w) (sym magnitudes.1) ∙ digits_div (nat_abs q) h.smaller

  -- there is one quotient: that cut towards zero
  pub quotient_determined : q ≡ quot_z z w
  quotient_determined = sign_of_lem q ∙ by magnitudes.0 ∙ sym quotient
    where
      quotient : quot_z z w ≡ sign_of (xor (negative z) (negative w)) (nat_abs q)
      quotient =
          ap₂ quot_z (sign_of_lem z) (sign_of_lem w)
          ∙ quot_sign (negative z) (negative w) (nat_abs z) (nat_abs w) (omega (arith, h.smaller))
          ∙ ap (sign_of (xor (negative z) (negative w))) quotient_magnitude

      by : (nat_abs q ≡ 0) ⊎ (negative q ≡ xor (negative z) (negative w)) → sign_of (negative q) (nat_abs q) ≡ sign_of (xor (negative z) (negative w)) (nat_abs q)
      by (inl e) = ap (sign_of (negative q)) e ∙ zeros (negative q) (xor (negative z) (negative w)) ∙ ap (sign_of (xor (negative z) (negative w))) (sym e)
      by (inr e) = ap (λ (s : Bool). sign_of s (nat_abs q)) e

  -- and one remainder
  pub remainder_determined : r ≡ rem_z z w
  remainder_determined =
      with_sign_lem z r h.sign
      ∙ ap (sign_of (negative z)) (sym (ap (λ (x : ℕ). x % nat_abs w) (sym magnitudes.1) ∙ digits_mod (nat_abs q) h.smaller))
      ∙ sym (ap₂ rem_z (sign_of_lem z) (sign_of_lem w) ∙ rem_sign (negative z) (negative w) (nat_abs z) (nat_abs w))

-- ---- and they are the manual's: the three conditions hold of them

add-sign : (s : Bool) (m k : ℕ) → sign_of s m +ℤ sign_of s k ≡ sign_of s (m + k)
add-sign true m k = sym (neg_ℤ-+ℤ (pos m) (pos k))
add-sign false m k = refl

xor_twice : (s t : Bool) → xor (xor s t) t ≡ s
unfolding xor
xor_twice true true = refl
xor_twice true false = refl
xor_twice false true = refl
xor_twice false false = refl

sign_kept : (s : Bool) (k : ℕ) → (nat_abs (sign_of s k) ≡ 0) ⊎ (negative (sign_of s k) ≡ s)
sign_kept true zero = inl refl
sign_kept true (suc k) = inr refl
sign_kept false k = inr refl

-- of every dividend, by a divisor that is not 0
pub division_holds : (z w : ℤ) → 0 < nat_abs w → Division z w (quot_z z w) (rem_z z w)
division_holds z w pos-w = record { whole = whole; smaller = smaller; sign = sign }
  where
    quotient : quot_z z w ≡ sign_of (xor (negative z) (negative w)) (nat_abs z / nat_abs w)
    quotient = ap₂ quot_z (sign_of_lem z) (sign_of_lem w) ∙ quot_sign (negative z) (negative w) (nat_abs z) (nat_abs w) pos-w

    remainder : rem_z z w ≡ sign_of (negative z) (nat_abs z % nat_abs w)
    remainder = ap₂ rem_z (sign_of_lem z) (sign_of_lem w) ∙ rem_sign (negative z) (negative w) (nat_abs z) (nat_abs w)

    whole : quot_z z w *ℤ w +ℤ rem_z z w ≡ z
    whole =
        ap₂ ◌+ℤ◌
        (ap₂ ◌*ℤ◌ quotient (sign_of_lem w) ∙ mul-sign (xor (negative z) (negative w)) (negative w) (nat_abs z / nat_abs w) (nat_abs w)
        ∙ ap (λ (s : Bool). sign_of s (nat_abs z / nat_abs w * nat_abs w)) (xor_twice (negative z) (negative w)))
        remainder
        ∙ add-sign (negative z) (nat_abs z / nat_abs w * nat_abs w) (nat_abs z % nat_abs w)
        ∙ ap (sign_of (negative z)) (div-add-mod' (nat_abs z) (nat_abs w))
        ∙ sym (sign_of_lem z)

    smaller : nat_abs (rem_z z w) < nat_abs w
    smaller = subst⁻¹ (λ (k : ℕ). k < nat_abs w) (ap nat_abs remainder ∙ abs_sign (negative z) (nat_abs z % nat_abs w)) (mod-lt (nat_abs z) pos-w)

    sign : (nat_abs (rem_z z w) ≡ 0) ⊎ (negative (rem_z z w) ≡ negative z)
    sign = subst⁻¹ (λ (r : ℤ). (nat_abs r ≡ 0) ⊎ (negative r ≡ negative z)) remainder (sign_kept (negative z) (nat_abs z % nat_abs w))

-- ---- the manual's range of quotients, and what is accepted by it

-- at most m is below the next
below_next : (k m t : ℕ) → suc m ≡ t → leb k m ≡ ltb k t
below_next k m t e = same_test (leb k m) (ltb k t) (λ h. lt-ltb k t (omega (arith, leb-true k m h))) (λ h. le-ltb k t (omega (arith, leb-false k m h)))

-- from -m to m are the numbers of a magnitude of at most m
from_minus : (m : ℕ) (z : ℤ) → le_z (neg_ℤ (pos m)) z && le_z z (pos m) ≡ leb (nat_abs z) m
from_minus zero (pos k) = rw (le-leb 0 k (omega arith))
from_minus zero (negsuc k) = sym (lt-leb (suc k) 0 (omega arith))
from_minus (suc m) (pos k) = refl
from_minus (suc m) (negsuc k) = and-true (leb k m) ∙ sym (leb-suc-suc k m)

-- a signed quotient is in range exactly if its magnitude is below the top bit
pub range_signed : (n : ℕ) (z : ℤ) → in_range n true z ≡ ltb (nat_abs z) (top n)
range_signed n z = from_minus (largest_quotient n true) z ∙ below_next (nat_abs z) (largest_quotient n true) (top n) (omega (arith, pow_pos (n - 1)))

-- an unsigned one exactly if it fits n bits
pub range_unsigned : (n k : ℕ) → in_range n false (pos k) ≡ ltb k (2 ^ n)
range_unsigned n k = rw (le-leb 0 k (omega arith)) (below_next k (largest_quotient n false) (2 ^ n) (omega (arith, pow_pos n)))

-- the divisor is above the dividend's upper half exactly if it is not 0 and the quotient fits
pub quotient_fits : (n d b : ℕ) → ltb (d / 2 ^ n) b ≡ not (eqb b 0) && ltb (d / b) (2 ^ n)
quotient_fits n d zero = le-ltb (d / 2 ^ n) 0 (omega arith)
quotient_fits n d (suc b) = rw (ne_eqb (suc b) 0 (λ e. omega arith)) (by (ltb (d / 2 ^ n) (suc b)) (ltb (d / suc b) (2 ^ n)) refl refl)
  where
    by : (x y : Bool) → ltb (d / 2 ^ n) (suc b) ≡ x → ltb (d / suc b) (2 ^ n) ≡ y → x ≡ y
    by true true e f = refl
    by false false e f = refl
    by true false e f = absurd (omega (arith, quotient-below d (suc b) (2 ^ n) (pow_pos n) (ltb-true _ _ e), ltb-false (d / suc b) (2 ^ n) f))
    by false true e f = absurd (omega (arith, quotient-below d (2 ^ n) (suc b) (omega arith) (ltb-true _ _ f), ltb-false (d / 2 ^ n) (suc b) e))

-- a divide is accepted exactly if the divisor is not 0 and the quotient is in range, signed or not
pub manual_accepts : (n : ℕ) (s : Bool) (d b : ℕ) → accepts n s d b ≡ not (eqb b 0) && in_range n s (quotient_of n s d b)
manual_accepts n true d b = ap (λ (x : Bool). not (eqb b 0) && x) (sym (range_signed n (quotient_of n true d b)))
manual_accepts n false d b = quotient_fits n d b ∙ ap (λ (x : Bool). not (eqb b 0) && x) (sym (range_unsigned n (d / b)))
