-- Digits at a place of a text: all of them one byte at a time, a part of them, the number of two and of four, and that none is a line feed.
-- Assumes nothing.
use mathlib.Core.Path.{◌≡◌, refl, sym, ap, ◌∙◌}
use mathlib.Core.{Bool.Bool, Bool.true, Bool.false, Bool.cond, Bool.◌&&◌, Bool.◌||◌, Bool.and-true, Bool.and_assoc, Bool.false≢true, List.List, List.[], List.◌∷◌, List.◌++◌}
use Prim.Native.Nat.{ℕ, zero, suc, ◌+◌, ◌-◌, ◌*◌, ◌/◌, ◌%◌, ◌^◌, ◌<◌, ◌≤◌}
use native.Mathlib.{Nat.mul_assoc, Nat.add-mul, Nat.mul-le-mul_right, Nat.pow-le-pow_right, Nat.pow-suc, Nat.lt_of_lt_of_le, Numerals.add-one, Omega.arith}
use lib.{Pow.pow-add, ListN.length, ListN.get_or, ListN.take, ListN.drop, ListN.length-append, ListN.length-take, ListN.length-drop}
use lib.Seq.{take-take, take-suc, drop-cons, get_or-drop, drop-drop, take-add, length-take-le}
use Rattle.numbers.specs.Numbers.{between}
use Rattle.text.specs.{Digits.digit_of, Plain.is_digit, Plain.all_digits, Plain.number_of, Plain.field_at}
use Rattle.numbers.proofs.BoolLaws.{both}
use Rattle.text.proofs.{FoundLaws.no_feed, Plain.within, Plain.digit_below, Plain.is_below}

-- ---- one digit

-- its number without a table: a letter has bit 6, and its low digit counts from 1
pub value_is : (b : ℕ) → is_digit b ≡ true → b % 16 + b / 64 * 9 ≡ digit_of b
unfolding digit_of
value_is b = by (between 0x30 0x39 b) (between 0x41 0x46 b) (between 0x61 0x66 b) refl refl refl
  where
    by : (x y z : Bool) → between 0x30 0x39 b ≡ x → between 0x41 0x46 b ≡ y → between 0x61 0x66 b ≡ z
        → x || y || z ≡ true → b % 16 + b / 64 * 9 ≡ cond x (b - 0x30) (cond y (b - 0x37) (cond z (b - 0x57) 16))
    by true y z ex ey ez h = omega (arith, within 0x30 0x39 b ex)
    by false true z ex ey ez h = omega (arith, within 0x41 0x46 b ey)
    by false false true ex ey ez h = omega (arith, within 0x61 0x66 b ez)
    by false false false ex ey ez h = absurd (false≢true h)

-- a line feed is none
pub digit_no_feed : (b : ℕ) → is_digit b ≡ true → b ≡ 0x0A → ⊥
digit_no_feed b h = no_feed b (digit_below b ∙ h)

-- ---- a list of digits

-- one after another
pub appended : (s t : List ℕ) → all_digits (s ++ t) ≡ all_digits s && all_digits t
appended [] t = refl
appended (b ∷ s) t = ap (λ (x : Bool). is_digit b && x) (appended s t) ∙ sym (and_assoc (is_digit b) (all_digits s) (all_digits t))

-- cut in two, both parts are digits
cut : (s t : List ℕ) → all_digits (s ++ t) ≡ true → (all_digits s ≡ true) × (all_digits t ≡ true)
cut s t h = both (all_digits s) (all_digits t) (sym (appended s t) ∙ h)

-- and the number is that of the first, moved up, and that of the second
number_cut : (s t : List ℕ) → number_of (s ++ t) ≡ number_of s * 16 ^ length t + number_of t
number_cut [] t = omega arith
number_cut (b ∷ s) t =
    rw (length-append s t, pow-add 16 (length s) (length t), number_cut s t, add-mul (digit_of b * 16 ^ length s) (number_of s) (16 ^ length t), mul_assoc (digit_of b) (16 ^ length s) (16 ^ length t)) (omega arith)

-- n digits stand for a number below 16 ^ n
number_below : (t : List ℕ) → all_digits t ≡ true → number_of t < 16 ^ length t
number_below [] h = omega arith
number_below (b ∷ t) h =
    let d = both (is_digit b) (all_digits t) h in
    let high : digit_of b * 16 ^ length t ≤ 15 * 16 ^ length t = mul-le-mul_right (16 ^ length t) (omega (arith, is_below b d.0)) in
    omega (arith, number_below t d.1, pow-suc 16 (length t))

-- none is a line feed
pub digits_no_feed : (t : List ℕ) → all_digits t ≡ true → (i : ℕ) → i < length t → get_or t i 0 ≡ 0x0A → ⊥
digits_no_feed [] h i l e = absurd (omega arith)
digits_no_feed (b ∷ t) h zero l e = digit_no_feed b (both (is_digit b) (all_digits t) h).0 e
digits_no_feed (b ∷ t) h (suc i) l e = digits_no_feed t (both (is_digit b) (all_digits t) h).1 i (omega arith) e

-- a part of the first n is a part of the whole
pub part : (i m n : ℕ) (l : List ℕ) → i + m ≤ n → take m (drop i (take n l)) ≡ take m (drop i l)
part zero m n l h = take-take m n l (omega arith)
part (suc i) m zero l h = absurd (omega arith)
part (suc i) m (suc n) [] h = refl
part (suc i) m (suc n) (b ∷ l) h = part i m n l (omega arith)

-- ---- in a text

module _ (t : List ℕ) (at : ℕ) where
  -- one byte more
  pub one_more : (k : ℕ) → at + k < length t → all_digits (take (suc k) (drop at t)) ≡ all_digits (take k (drop at t)) && is_digit (get_or t (at + k) 0)
  one_more k h =
      rw (take-suc (drop at t) k 0 (simp length-drop (omega arith)), appended (take k (drop at t)) (get_or (drop at t) k 0 ∷ []), get_or-drop at t k 0, and-true (is_digit (get_or t (at + k) 0)))

  -- a part of digits is digits
  pub digits_part : (n a m : ℕ) → all_digits (take n (drop at t)) ≡ true → a + m ≤ n → all_digits (take m (drop (at + a) t)) ≡ true
  digits_part n a m h l =
      let line = drop at t in
      let rest = drop a line in
      let after = take (n - a - m) (drop m rest) in
      let whole : a + (m + (n - a - m)) ≡ n = omega arith in
      let parts : take a line ++ (take m rest ++ after) ≡ take n line = rw (← take-add m, ← take-add a, whole) in
      rw (← drop-drop a at t) (cut (take m rest) after (cut (take a line) (take m rest ++ after) (rw (← parts) at h)).1).0

  -- the same, where the part is known by its place
  pub digits_within : (n i m : ℕ) → all_digits (take n (drop at t)) ≡ true → at ≤ i → i + m ≤ at + n → all_digits (take m (drop i t)) ≡ true
  digits_within n i m h low high =
      let place : at + (i - at) ≡ i = omega arith in
      rw place at (digits_part n (i - at) m h (omega arith))

  -- one of them is a digit
  pub digit_in : (n i : ℕ) → all_digits (take n (drop at t)) ≡ true → at ≤ i → i < at + n → i < length t → is_digit (get_or t i 0) ≡ true
  digit_in n i h low high l = (both (is_digit (get_or t i 0)) true (rw (drop-cons t i 0 l) at (digits_within n i 1 h low (omega arith)))).0

  -- a number of n digits
  pub field_below : (n : ℕ) → all_digits (take n (drop at t)) ≡ true → field_at at n t < 16 ^ n
  field_below n h =
      let few : length (take n (drop at t)) ≤ n = omega (arith, length-take n (drop at t)) in
      lt_of_lt_of_le (number_below (take n (drop at t)) h) (pow-le-pow_right (omega arith) few)

  -- of two
  pub field_two : at + 2 ≤ length t → field_at at 2 t ≡ digit_of (get_or t at 0) * 16 + digit_of (get_or t (at + 1) 0)
  field_two h = rw (drop-cons t at 0 (omega arith), add-one, drop-cons t (suc at) 0 (omega arith)) (omega arith)

  -- of n and m more
  pub field_cut : (n m : ℕ) → at + n + m ≤ length t → field_at at (n + m) t ≡ field_at at n t * 16 ^ m + field_at (at + n) m t
  field_cut n m h =
      let long : length (take m (drop (at + n) t)) ≡ m = length-take-le m (drop (at + n) t) (simp length-drop (omega arith)) in
      rw (take-add n m (drop at t), drop-drop n at t, number_cut (take n (drop at t)) (take m (drop (at + n) t)), long)

  -- of four
  pub field_four : at + 4 ≤ length t → field_at at 4 t ≡ field_at at 2 t * 0x100 + field_at (at + 2) 2 t
  field_four h = field_cut 2 2 (omega arith)

  -- of a part of the text
  pub field_part : (n i m : ℕ) → i + m ≤ n → field_at i m (take n (drop at t)) ≡ field_at (at + i) m t
  field_part n i m h = ap number_of (part i m n (drop at t) h ∙ ap (take m) (drop-drop i at t))
