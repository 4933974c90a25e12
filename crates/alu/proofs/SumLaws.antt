-- Addition and subtraction over the width n: the tests of bits in the code are the carries and the signed overflow of the definitions;
-- and what taking 0 away leaves. Assumes nothing.
use mathlib.Core.{Path.◌≡◌, Path.refl, Path.sym, Path.ap, Path.ap₂, Path.◌∙◌, Bool.Bool, Bool.true, Bool.false, Bool.not, Bool.◌&&◌}
use Prim.Native.Nat.{ℕ, ◌+◌, ◌-◌, ◌*◌, ◌/◌, ◌%◌, ◌^◌, ◌≤◌, ◌<◌}
use native.Mathlib.{Nat.mod-lt, Omega.arith}
use lib.{Bits.bit_and, Bits.bit_xor, Dec.leb, Dec.ltb, Dec.eqb, IntN.pos, IntN.◌+ℤ◌, IntN.◌-ℤ◌, Pow.pow_pos}
use borrow.Author.Tests.{leb-true, leb-false, ltb-true, ltb-false, le-leb, lt-leb, lt-ltb, le-ltb}
use Rattle.numbers.specs.Numbers.{bit, is_set, top, top_set, signed, fits_signed, negated}
use Rattle.numbers.proofs.{Powers.top_twice, Powers.rest_small, Powers.rest_large, Masks.mask_bit, Masks.digit_xor, Masks.digit_and, Masks.digit-top}
use Rattle.numbers.proofs.SignedLaws.{above, diff_neg, diff_add, diff_signed, fits_diff, TopIs, top_is, same_test}
use Rattle.numbers.proofs.BitLaws.{bit_le, bit-is_set}
use Rattle.alu.specs.{Result.ResultCoa, Sum.adc, Sum.sbb, Sum.sub, Sum.neg}

-- ---- overflow

-- u less v is out of the range from -t to t - 1
abbrev leaves : ℕ → ℕ → ℕ → Bool
leaves u v t = not (leb v (u + t) && ltb u (v + t))

inside : (u v t : ℕ) → v ≤ u + t → u < v + t → leaves u v t ≡ false
inside u v t h i = rw (le-leb v (u + t) h, lt-ltb u (v + t) i)

below : (u v t : ℕ) → u + t < v → leaves u v t ≡ true
below u v t h = rw (lt-leb v (u + t) h)

over : (u v t : ℕ) → v + t ≤ u → leaves u v t ≡ true
over u v t h = rw (le-leb v (u + t) (omega arith), le-ltb u (v + t) h)

-- of three top bits the third differs from both others
abbrev odd_out : Bool → Bool → Bool → Bool
odd_out x y z = eqb (bit_and (bit_xor (bit x) (bit z)) (bit_xor (bit y) (bit z))) 1

-- the code's test of the top bits is theirs
odd_out_is : (n x y z : ℕ) → 0 < n → x < 2 ^ n → y < 2 ^ n → z < 2 ^ n
    → not (eqb (bit_and (bit_and (bit_xor x z) (bit_xor y z)) (top n)) 0) ≡ odd_out (top_set n x) (top_set n y) (top_set n z)
odd_out_is n x y z hn hx hy hz =
    mask_bit (n - 1) (bit_and (bit_xor x z) (bit_xor y z))
    ∙ ap (λ (d : ℕ). eqb d 1)
    (digit_and (n - 1) (bit_xor x z) (bit_xor y z)
    ∙ ap₂ bit_and
    (digit_xor (n - 1) x z ∙ ap₂ bit_xor (digit-top n x hn hx) (digit-top n z hn hz))
    (digit_xor (n - 1) y z ∙ ap₂ bit_xor (digit-top n y hn hy) (digit-top n z hn hz)))

-- z is the sum of x, y and a carry c, mod m = 2 t; X, Y and Z are the three top bits
module _ (t m x y c z : ℕ) (mt : t * 2 ≡ m) (hx : x < m) (hy : y < m) (hz : z < m) (hc : c ≤ 1)
    (small : x + y + c < m → x + y + c ≡ z) (large : m ≤ x + y + c → x + y + c ≡ z + m) where
  sum_leaves : (X Y Z : Bool) → TopIs X t x → TopIs Y t y → TopIs Z t z
      → odd_out X Y Z ≡ leaves (x + y + c) (bit X * m + bit Y * m + 0) t
  sum_leaves false false false p q r = let e = small (omega arith) in sym (inside _ (0 * m + 0 * m + 0) t (omega arith) (omega arith))
  sum_leaves false false true p q r = let e = small (omega arith) in sym (over _ (0 * m + 0 * m + 0) t (omega arith))
  sum_leaves false true false p q r = sym (inside _ (0 * m + 1 * m + 0) t (omega arith) (omega arith))
  sum_leaves false true true p q r = sym (inside _ (0 * m + 1 * m + 0) t (omega arith) (omega arith))
  sum_leaves true false false p q r = sym (inside _ (1 * m + 0 * m + 0) t (omega arith) (omega arith))
  sum_leaves true false true p q r = sym (inside _ (1 * m + 0 * m + 0) t (omega arith) (omega arith))
  sum_leaves true true false p q r = let e = large (omega arith) in sym (below _ (1 * m + 1 * m + 0) t (omega arith))
  sum_leaves true true true p q r = let e = large (omega arith) in sym (inside _ (1 * m + 1 * m + 0) t (omega arith) (omega arith))

-- z is x less y and a borrow c, mod m = 2 t
module _ (t m x y c z : ℕ) (mt : t * 2 ≡ m) (hx : x < m) (hy : y < m) (hz : z < m) (hc : c ≤ 1)
    (enough : y + c ≤ x → x ≡ z + y + c) (short : x < y + c → x + m ≡ z + y + c) where
  difference_leaves : (X Y Z : Bool) → TopIs X t x → TopIs Y t y → TopIs Z t z
      → odd_out Z Y X ≡ leaves (x + bit Y * m + 0) (bit X * m + y + c) t
  difference_leaves false false false p q r = sym (inside (x + 0 * m + 0) (0 * m + y + c) t (omega arith) (omega arith))
  difference_leaves false false true p q r = sym (inside (x + 0 * m + 0) (0 * m + y + c) t (omega arith) (omega arith))
  difference_leaves false true false p q r = let e = short (omega arith) in sym (inside (x + 1 * m + 0) (0 * m + y + c) t (omega arith) (omega arith))
  difference_leaves false true true p q r = let e = short (omega arith) in sym (over (x + 1 * m + 0) (0 * m + y + c) t (omega arith))
  difference_leaves true false false p q r = let e = enough (omega arith) in sym (below (x + 0 * m + 0) (1 * m + y + c) t (omega arith))
  difference_leaves true false true p q r = let e = enough (omega arith) in sym (inside (x + 0 * m + 0) (1 * m + y + c) t (omega arith) (omega arith))
  difference_leaves true true false p q r = sym (inside (x + 1 * m + 0) (1 * m + y + c) t (omega arith) (omega arith))
  difference_leaves true true true p q r = sym (inside (x + 1 * m + 0) (1 * m + y + c) t (omega arith) (omega arith))

-- ---- the carry at bit 4

even : (X Y k : ℕ) → (X % 2 + Y % 2 + k) % 2 ≡ 0 → (X + Y + k) % 2 ≡ 0
even X Y k e = omega arith

odd : (X Y k : ℕ) → (X % 2 + Y % 2 + k) % 2 ≡ 1 → (X + Y + k) % 2 ≡ 1
odd X Y k e = omega arith

-- of three digits and a carry, the sum's last digit xored with two of them is the third
last-digit : (P Q K : Bool) (X Y : ℕ) → X % 2 ≡ bit P → Y % 2 ≡ bit Q → eqb (bit_xor (bit_xor (bit P) (bit Q)) ((X + Y + bit K) % 2)) 1 ≡ K
last-digit false false false X Y e f = ap (λ (r : ℕ). eqb (bit_xor 0 r) 1) (even X Y 0 (omega arith))
last-digit false false true X Y e f = ap (λ (r : ℕ). eqb (bit_xor 0 r) 1) (odd X Y 1 (omega arith))
last-digit false true false X Y e f = ap (λ (r : ℕ). eqb (bit_xor 1 r) 1) (odd X Y 0 (omega arith))
last-digit false true true X Y e f = ap (λ (r : ℕ). eqb (bit_xor 1 r) 1) (even X Y 1 (omega arith))
last-digit true false false X Y e f = ap (λ (r : ℕ). eqb (bit_xor 1 r) 1) (odd X Y 0 (omega arith))
last-digit true false true X Y e f = ap (λ (r : ℕ). eqb (bit_xor 1 r) 1) (even X Y 1 (omega arith))
last-digit true true false X Y e f = ap (λ (r : ℕ). eqb (bit_xor 0 r) 1) (even X Y 0 (omega arith))
last-digit true true true X Y e f = ap (λ (r : ℕ). eqb (bit_xor 0 r) 1) (odd X Y 1 (omega arith))

-- so bit 4 of a sum tells of the carry from below
carry_in : (x y c : ℕ) → c ≤ 1 → eqb (bit_xor (bit_xor (x / 16 % 2) (y / 16 % 2)) ((x + y + c) / 16 % 2)) 1 ≡ leb 16 (x % 16 + y % 16 + c)
carry_in x y c hc =
    rw (← bit-is_set 4 x, ← bit-is_set 4 y, split)
    (last-digit (is_set 4 x) (is_set 4 y) (leb 16 low) (x / 16) (y / 16) (sym (bit-is_set 4 x)) (sym (bit-is_set 4 y)))
  where
    low : ℕ
    low = x % 16 + y % 16 + c

    tens : (K : Bool) → leb 16 low ≡ K → low / 16 ≡ bit K
    tens true e = omega (arith, leb-true 16 low e)
    tens false e = omega (arith, leb-false 16 low e)

    split : (x + y + c) / 16 ≡ x / 16 + y / 16 + bit (leb 16 low)
    split = omega (arith, tens (leb 16 low) refl)

-- ---- what the code makes is what the definitions say

-- the result r with its flags tested in the code's way: x and y against z for O, and all three for A
abbrev pub tested : ℕ → ℕ → ℕ → ℕ → ℕ → Bool → ResultCoa
tested n r x y z carry =
    record {
      result = r;
      carry = carry;
      overflow = not (eqb (bit_and (bit_and (bit_xor x z) (bit_xor y z)) (top n)) 0);
      aux_carry = not (eqb (bit_and (bit_xor (bit_xor x y) z) 16) 0);
    }

-- a multiple of 32, as 2 ^ n is, leaves bit 4 of what it is added to alone
module _ (n : ℕ) (hn : 0 < n) (q : ℕ) (hq : 2 ^ n ≡ q * 32) (a b : ℕ) (c : Bool) (ha : a < 2 ^ n) (hb : b < 2 ^ n) where
  -- bit 4 of three numbers of which the third is the sum of the others, mod 2 ^ n
  bit4 : (x y z : ℕ) → (x + y + bit c) / 16 % 2 ≡ z / 16 % 2 → not (eqb (bit_and (bit_xor (bit_xor x y) z) 16) 0) ≡ leb 16 (x % 16 + y % 16 + bit c)
  bit4 x y z e =
      mask_bit 4 (bit_xor (bit_xor x y) z)
      ∙ ap (λ (d : ℕ). eqb d 1) (digit_xor 4 (bit_xor x y) z ∙ ap₂ bit_xor (digit_xor 4 x y) (sym e))
      ∙ carry_in x y (bit c) (bit_le c)

  pub adc_is : tested n ((a + b + bit c) % 2 ^ n) a b ((a + b + bit c) % 2 ^ n) (leb (2 ^ n) (a + b + bit c)) ≡ adc n a b c
  unfolding adc
  adc_is =
      λ i. record { result = r; carry = leb (2 ^ n) u; overflow = overflows i; aux_carry = bit4 a b r (by_size (leb (2 ^ n) u) refl) i }
    where
      u : ℕ
      u = a + b + bit c

      r : ℕ
      r = u % 2 ^ n

      hr : r < 2 ^ n
      hr = mod-lt u (pow_pos n)

      hu : u < 2 ^ n + 2 ^ n
      hu = omega (arith, bit_le c)

      by_size : (s : Bool) → leb (2 ^ n) u ≡ s → u / 16 % 2 ≡ r / 16 % 2
      by_size true e = let f = rest_large u (2 ^ n) hu (leb-true (2 ^ n) u e) in omega arith
      by_size false e = ap (λ (x : ℕ). x / 16 % 2) (rest_small u (2 ^ n) (leb-false (2 ^ n) u e))

      overflows : not (eqb (bit_and (bit_and (bit_xor a r) (bit_xor b r)) (top n)) 0) ≡ not (fits_signed n (signed n a +ℤ signed n b +ℤ pos (bit c)))
      overflows =
          odd_out_is n a b r hn ha hb hr
          ∙ sum_leaves (top n) (2 ^ n) a b (bit c) r (top_twice n hn) ha hb hr (bit_le c) (rest_small u (2 ^ n)) (rest_large u (2 ^ n) hu)
          (top_set n a) (top_set n b) (top_set n r) (top_is n a) (top_is n b) (top_is n r)
          ∙ ap not (sym (fits_diff n (diff_add (diff_add (diff_signed n a) (diff_signed n b)) (above (bit c) (bit c) 0 (omega arith)))))

  pub sbb_is : tested n ((2 ^ n + a - (b + bit c)) % 2 ^ n) ((2 ^ n + a - (b + bit c)) % 2 ^ n) b a (ltb a (b + bit c)) ≡ sbb n a b c
  unfolding sbb
  sbb_is =
      λ i. record { result = r; carry = ltb a (b + bit c); overflow = overflows i; aux_carry = (bit4 r b a (by_size (ltb a (b + bit c)) refl).0 ∙ borrows) i }
    where
      w : ℕ
      w = 2 ^ n + a - (b + bit c)

      r : ℕ
      r = w % 2 ^ n

      hr : r < 2 ^ n
      hr = mod-lt w (pow_pos n)

      enough : b + bit c ≤ a → a ≡ r + b + bit c
      enough h = let hc = bit_le c in omega (arith, rest_large w (2 ^ n) (omega arith) (omega arith))

      short : a < b + bit c → a + 2 ^ n ≡ r + b + bit c
      short h = let hc = bit_le c in omega (arith, rest_small w (2 ^ n) (omega arith))

      by_size : (s : Bool) → ltb a (b + bit c) ≡ s → ((r + b + bit c) / 16 % 2 ≡ a / 16 % 2) × ((r + b + bit c) % 16 ≡ a % 16)
      by_size true e = let f = short (ltb-true a (b + bit c) e) in omega arith
      by_size false e = let f = enough (ltb-false a (b + bit c) e) in omega arith

      borrows : leb 16 (r % 16 + b % 16 + bit c) ≡ ltb (a % 16) (b % 16 + bit c)
      borrows =
          let e : (r + b + bit c) % 16 ≡ a % 16 = (by_size (ltb a (b + bit c)) refl).1 in
          same_test (leb 16 (r % 16 + b % 16 + bit c)) (ltb (a % 16) (b % 16 + bit c))
          (λ t. lt-ltb (a % 16) (b % 16 + bit c) (omega (arith, leb-true 16 (r % 16 + b % 16 + bit c) t)))
          (λ t. le-ltb (a % 16) (b % 16 + bit c) (omega (arith, leb-false 16 (r % 16 + b % 16 + bit c) t)))

      overflows : not (eqb (bit_and (bit_and (bit_xor r a) (bit_xor b a)) (top n)) 0) ≡ not (fits_signed n (signed n a -ℤ signed n b -ℤ pos (bit c)))
      overflows =
          odd_out_is n r b a hn hr hb ha
          ∙ difference_leaves (top n) (2 ^ n) a b (bit c) r (top_twice n hn) ha hb hr (bit_le c) enough short (top_set n a) (top_set n b) (top_set n r) (top_is n a) (top_is n b) (top_is n r)
          ∙ ap not (sym (fits_diff n (diff_add (diff_add (diff_signed n a) (diff_neg (diff_signed n b))) (diff_neg (above (bit c) (bit c) 0 (omega arith))))))

-- NEG leaves what is taken from 0
pub neg-result : (n x : ℕ) {r : ResultCoa} → r ≡ neg n x → r.result ≡ negated n x
unfolding sbb
neg-result n x e = ap (λ (r : ResultCoa). r.result) e ∙ ap (λ (y : ℕ). y % 2 ^ n) taken
  where
    taken : 2 ^ n + 0 - (x + 0) ≡ 2 ^ n - x
    taken = omega arith

-- 0 taken away leaves the number and sets no flag
pub sub_nothing : (n a : ℕ) → 0 < n → a < 2 ^ n → sub n a 0 ≡ record { result = a; carry = false; overflow = false; aux_carry = false }
unfolding sbb
sub_nothing n a hn ha = λ i. record { result = whole i; carry = none a i; overflow = fits i; aux_carry = none (a % 16) i }
  where
    whole : (2 ^ n + a - (0 + 0)) % 2 ^ n ≡ a
    whole = omega (arith, rest_large (2 ^ n + a - (0 + 0)) (2 ^ n) (omega arith) (omega arith))

    none : (x : ℕ) → ltb x (0 + 0) ≡ false
    none x = le-ltb x (0 + 0) (omega arith)

    small : (s t : Bool) → TopIs s (top n) a → TopIs t (top n) 0 → leaves (a + bit t * 2 ^ n + 0) (bit s * 2 ^ n + 0 + bit false) (top n) ≡ false
    small s true hs ht = absurd (omega (arith, pow_pos (n - 1)))
    small true false hs ht = inside _ _ (top n) (omega (arith, top_twice n hn)) (omega (arith, top_twice n hn))
    small false false hs ht = inside _ _ (top n) (omega arith) (omega arith)

    fits : not (fits_signed n (signed n a -ℤ signed n 0 -ℤ pos (bit false))) ≡ false
    fits =
        ap not (fits_diff n (diff_add (diff_add (diff_signed n a) (diff_neg (diff_signed n 0))) (diff_neg (above (bit false) (bit false) 0 (omega arith)))))
        ∙ small (top_set n a) (top_set n 0) (top_is n a) (top_is n 0)
