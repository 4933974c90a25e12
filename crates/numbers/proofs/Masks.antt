-- What a mask and a shift of the code say, as arithmetic: a bit tested by a mask, the top bit, a bit put in below.
-- Assumes nothing.
use mathlib.Core.{Path.◌≡◌, Path.refl, Path.sym, Path.ap, Path.◌∙◌, Bool.Bool, Bool.true, Bool.false, Bool.not, Bool.not-not}
use Prim.Native.Nat.{ℕ, zero, suc, ◌+◌, ◌-◌, ◌*◌, ◌/◌, ◌%◌, ◌^◌, ◌<◌}
use native.Mathlib.{Nat.pow-suc, Nat.mod-lt, Nat.div-add-mod', Omega.arith}
use lib.{Dec.leb, Dec.ltb, Dec.eqb, Dec.lit<, Pow.pow_pos}
use lib.Bits.{bit_and, bit_xor, and_high, and_shr, and_mod, xor_shr, xor_mod}
use borrow.Author.Tests.{eq-eqb, ne_eqb, le-leb, lt-leb, lt-ltb, le-ltb, leb-true, leb-false}
use Rattle.numbers.specs.Numbers.{bit, is_set, top, top_set}
use Rattle.numbers.proofs.Powers.{top_twice}

-- a mask of one bit keeps that bit at its place
pub and_bit : (k x : ℕ) → bit_and x (2 ^ k) ≡ x / 2 ^ k % 2 * 2 ^ k
and_bit k x = ap (bit_and x) one_bit ∙ and_high x 1 k
  where
    one_bit : 2 ^ k ≡ 2 ^ (1 + k) - 2 ^ k
    one_bit =
        let e : 2 ^ (1 + k) ≡ 2 ^ k * 2 = ap (λ (j : ℕ). 2 ^ j) (omega arith) ∙ pow-suc 2 k in
        omega arith

-- so the masked number is not 0 exactly where the bit is set
set_of : (d p : ℕ) → 0 < p → d < 2 → not (eqb (d * p) 0) ≡ eqb d 1
set_of zero p hp hd = ap not (eq-eqb (0 * p) 0 (omega arith))
set_of (suc zero) p hp hd = ap not (ne_eqb (1 * p) 0 (λ e. omega arith))
set_of (suc (suc d)) p hp hd = absurd (omega arith)

pub mask_bit : (k x : ℕ) → not (eqb (bit_and x (2 ^ k)) 0) ≡ is_set k x
mask_bit k x = ap (λ (y : ℕ). not (eqb y 0)) (and_bit k x) ∙ set_of (x / 2 ^ k % 2) (2 ^ k) (pow_pos k) (mod-lt (x / 2 ^ k) (lit< tt))

-- the same where the code branches on the test
pub set_masked : (k x : ℕ) → (bit_and x (2 ^ k) ≡ 0 → ⊥) → is_set k x ≡ true
set_masked k x h = sym (mask_bit k x) ∙ ap not (ne_eqb (bit_and x (2 ^ k)) 0 h)

pub set_unmasked : (k x : ℕ) → bit_and x (2 ^ k) ≡ 0 → is_set k x ≡ false
set_unmasked k x h = sym (mask_bit k x) ∙ ap not (eq-eqb (bit_and x (2 ^ k)) 0 h)

-- the top bit of a number of n bits, as a digit and tested by its mask
pub digit-top : (n x : ℕ) → 0 < n → x < 2 ^ n → x / top n % 2 ≡ bit (top_set n x)
digit-top n x hn hx = by_digit (x / top n) (x % top n) (mod-lt x (pow_pos (n - 1))) (div-add-mod' x (top n))
  where
    by_digit : (d r : ℕ) → r < top n → d * top n + r ≡ x → d % 2 ≡ bit (top_set n x)
    by_digit zero r hr e = ap bit (sym (lt-leb (top n) x (omega arith)))
    by_digit (suc zero) r hr e = ap bit (sym (le-leb (top n) x (omega arith)))
    by_digit (suc (suc d)) r hr e = absurd (omega (arith, top_twice n hn))

bit_set : (b : Bool) → eqb (bit b) 1 ≡ b
bit_set true = refl
bit_set false = refl

pub mask_top : (n x : ℕ) → 0 < n → x < 2 ^ n → not (eqb (bit_and x (top n)) 0) ≡ top_set n x
mask_top n x hn hx = mask_bit (n - 1) x ∙ ap (λ (d : ℕ). eqb d 1) (digit-top n x hn hx) ∙ bit_set (top_set n x)

not_leb : (a b : ℕ) → not (leb a b) ≡ ltb b a
not_leb a b = by (leb a b) refl
  where
    by : (t : Bool) → leb a b ≡ t → not t ≡ ltb b a
    by true e = sym (le-ltb b a (leb-true a b e))
    by false e = sym (lt-ltb b a (leb-false a b e))

-- the other way round: the top bit is clear
pub mask_top_clear : (n x : ℕ) → 0 < n → x < 2 ^ n → eqb (bit_and x (top n)) 0 ≡ ltb x (top n)
mask_top_clear n x hn hx = sym (not-not (eqb (bit_and x (top n)) 0)) ∙ ap not (mask_top n x hn hx) ∙ not_leb (top n) x

-- the same where the code branches on the test
pub top_masked : (n x : ℕ) → 0 < n → x < 2 ^ n → (bit_and x (top n) ≡ 0 → ⊥) → top_set n x ≡ true
top_masked n x hn hx h = sym (mask_top n x hn hx) ∙ ap not (ne_eqb (bit_and x (top n)) 0 h)

pub top_unmasked : (n x : ℕ) → 0 < n → x < 2 ^ n → bit_and x (top n) ≡ 0 → top_set n x ≡ false
top_unmasked n x hn hx h = sym (mask_top n x hn hx) ∙ ap not (eq-eqb (bit_and x (top n)) 0 h)

-- bit k of an xor or an and is that of the two bits
pub digit_xor : (k a b : ℕ) → bit_xor a b / 2 ^ k % 2 ≡ bit_xor (a / 2 ^ k % 2) (b / 2 ^ k % 2)
digit_xor k a b = ap (λ (x : ℕ). x % 2) (xor_shr a b k) ∙ xor_mod (a / 2 ^ k) (b / 2 ^ k) 1

pub digit_and : (k a b : ℕ) → bit_and a b / 2 ^ k % 2 ≡ bit_and (a / 2 ^ k % 2) (b / 2 ^ k % 2)
digit_and k a b = ap (λ (x : ℕ). x % 2) (and_shr a b k) ∙ and_mod (a / 2 ^ k) (b / 2 ^ k) 1
