-- Eight digits read at once, and the twenty of a request with them. Assumes nothing.
use mathlib.Core.{Path.◌≡◌, Path.refl, Path.sym, Path.ap, Path.ap₂, Path.◌∙◌, Bool.Bool, Bool.true, Bool.false, Bool.◌&&◌, Bool.and-true, Bool.and-false}
use mathlib.Core.List.{List, [], ◌∷◌}
use Prim.Native.Nat.{ℕ, suc, ◌+◌, ◌*◌, ◌/◌, ◌%◌, ◌^◌, ◌<◌, ◌≤◌}
use native.Mathlib.{Nat.mul-one, Nat.mul-div_cancel, Omega.arith}
use lib.{Bits.bit_and, Bits.and_mask, Bits.and_high, Dec.ltb, Dec.lit<, Dec.lit≤, ListN.length, ListN.get_or, ListN.take, ListN.drop}
use lib.Seq.{drop-cons, drop-drop, take-add, take_all}
use borrow.Author.Tests.{lt-ltb, le-ltb, eq-eqb}
use Rattle.std.proofs.Common.{Ok, Err}
use Rattle.text.specs.{Digits.digit_of, Fields.four_at, Fields.fields_at, Fields.read_of, Lanes.lanes, Plain.is_digit, Plain.all_digits, Plain.field_at}
use Rattle.text.specs.declared.fields.Malformed.TheVariants.{Digit}
use Rattle.text.proofs.DigitsAt.{value_is, appended, digits_within, digit_in, field_below, field_two, field_cut, field_four}
use Rattle.text.proofs.LaneLaws.{each, All, Below, join_pairs, sums, times, agree, masked, join_by_masks, each_all, join_below}
use Rattle.text.proofs.Plain.{is_below, are_four, four-value, four_below, first_four, read_plainly}
use Rattle.text.proofs.TwentyLaws.{fields_plainly, fields_there}

-- ---- eight bytes

abbrev IsDigit : ℕ → Type 0
IsDigit b = is_digit b ≡ true

byte_below : (b : ℕ) → IsDigit b → b < 128
byte_below b h = omega (arith, value_is b h, is_below b h)

value_at : (b : ℕ) → IsDigit b → b % 16 + b / 64 % 2 * 9 ≡ digit_of b
value_at b h = omega (arith, value_is b h, byte_below b h)

-- the words of the code
abbrev pub values_in : ℕ → ℕ
values_in v = bit_and v 0x0F0F_0F0F_0F0F_0F0F + bit_and v 0x4040_4040_4040_4040 / 0x40 * 9

abbrev pub pairs_joined : ℕ → ℕ
pairs_joined n = bit_and n 0x000F_000F_000F_000F * 0x10 + bit_and (n / 0x100) 0x000F_000F_000F_000F

abbrev pub fours_joined : ℕ → ℕ
fours_joined p = bit_and p 0x0000_00FF_0000_00FF * 0x100 + bit_and (p / 0x1_0000) 0x0000_00FF_0000_00FF

-- each byte's number, in every lane at once
values_law : (bs : List ℕ) → All IsDigit bs
    → bit_and (lanes 8 (each (λ b. b) bs)) (lanes 8 (each (λ b. 0x0F) bs)) + bit_and (lanes 8 (each (λ b. b) bs)) (lanes 8 (each (λ b. 0x40) bs)) / 0x40 * 9
    ≡ lanes 8 (each digit_of bs)
values_law bs all =
    let fits : (b : ℕ) → IsDigit b → b < 256 = λ b h. omega (arith, byte_below b h) in
    ap₂ (λ (x y : ℕ). x + y / 0x40 * 9)
    (masked 8 IsDigit 0x0F 1 (λ b. b % 16) (λ b. b) (lit< tt) (λ b. and_mask b 4 ∙ sym (mul-one (b % 16))) fits bs all ∙ mul-one (lanes 8 (each (λ b. b % 16) bs)))
    (masked 8 IsDigit 0x40 0x40 (λ b. b / 64 % 2) (λ b. b) (lit< tt) (λ b. and_high b 1 6) fits bs all)
    ∙ ap (λ (x : ℕ). lanes 8 (each (λ b. b % 16) bs) + x) (ap (λ (x : ℕ). x * 9) (mul-div_cancel (lanes 8 (each (λ b. b / 64 % 2) bs)) (lit< tt)) ∙ times 8 9 (λ b. b / 64 % 2) bs)
    ∙ sums 8 (λ b. b % 16) (λ b. b / 64 % 2 * 9) bs
    ∙ agree 8 IsDigit (λ b. b % 16 + b / 64 % 2 * 9) digit_of value_at bs all

module _ (a b c d e f g h : ℕ) (all : All IsDigit (a ∷ b ∷ c ∷ d ∷ e ∷ f ∷ g ∷ h ∷ [])) where
  abbrev bs : List ℕ
  bs = a ∷ b ∷ c ∷ d ∷ e ∷ f ∷ g ∷ h ∷ []

  digits_below : Below 16 (each digit_of bs)
  digits_below = each_all IsDigit (λ n. n < 16) digit_of is_below bs all

  two_fours_law : fours_joined (pairs_joined (values_in (lanes 8 bs))) ≡ lanes 32 (join_pairs 8 (join_pairs 4 (each digit_of bs)))
  two_fours_law =
      ap (λ (n : ℕ). fours_joined (pairs_joined n)) (values_law bs all)
      ∙ ap fours_joined (join_by_masks 4 (lit< tt) (λ x p. omega arith) (digit_of a) (each digit_of (b ∷ c ∷ d ∷ e ∷ f ∷ g ∷ h ∷ [])) digits_below)
      ∙ join_by_masks 8 (lit< tt) (λ x p. omega arith) (digit_of a * 16 + digit_of b) (join_pairs 4 (each digit_of (c ∷ d ∷ e ∷ f ∷ g ∷ h ∷ []))) (join_below 4 (each digit_of bs) digits_below)

-- what two words of eight digits hold: the fields of a request after op and mode
pub record LastFields (t : List ℕ) (from a b : ℕ) : Type 0 where
  pub first : a ≡ field_at (from + 8) 4 t * 0x1_0000_0000 + field_at (from + 4) 4 t
  pub second : b ≡ field_at (from + 16) 4 t * 0x1_0000_0000 + field_at (from + 12) 4 t
  pub x : field_at (from + 8) 8 t ≡ field_at (from + 8) 4 t * 0x1_0000 + field_at (from + 12) 4 t
  pub flags_below : field_at (from + 4) 4 t < 0x1_0000
  pub upper_below : field_at (from + 8) 4 t < 0x1_0000
  pub lower_below : field_at (from + 12) 4 t < 0x1_0000
  pub y_below : field_at (from + 16) 4 t < 0x1_0000

-- ---- at a place of a text

module _ (t : List ℕ) where
  abbrev digit_at : ℕ → ℕ
  digit_at i = digit_of (get_or t i 0)

  -- the number of four digits, by two and two
  four_number : (i j k l : ℕ) → i + 1 ≡ j → i + 2 ≡ k → i + 2 + 1 ≡ l → i + 4 ≤ length t → (digit_at i * 16 + digit_at j) * 256 + (digit_at k * 16 + digit_at l) ≡ field_at i 4 t
  four_number i j k l ej ek el h =
      sym (field_four t i h ∙ ap₂ (λ (x y : ℕ). x * 256 + y) (field_two t i (omega arith)) (field_two t (i + 2) (omega arith)) ∙ (λ z. (digit_at i * 16 + digit_at (ej z)) * 256 + (digit_at (ek z) * 16 + digit_at (el z))))

  -- bytes that stand there, one by one
  four_taken : (k : ℕ) → k + 4 ≤ length t → take 4 (drop k t) ≡ get_or t k 0 ∷ get_or t (k + 1) 0 ∷ get_or t (k + 2) 0 ∷ get_or t (k + 3) 0 ∷ []
  four_taken k h =
      let p1 : suc k ≡ k + 1 = omega arith in
      let p2 : suc (suc k) ≡ k + 2 = omega arith in
      let p3 : suc (suc (suc k)) ≡ k + 3 = omega arith in
      rw (drop-cons t k 0 (omega arith), drop-cons t (suc k) 0 (omega arith), drop-cons t (suc (suc k)) 0 (omega arith), drop-cons t (suc (suc (suc k))) 0 (omega arith))
      (λ i. get_or t k 0 ∷ get_or t (p1 i) 0 ∷ get_or t (p2 i) 0 ∷ get_or t (p3 i) 0 ∷ [])

  eight_taken : (k : ℕ) → k + 8 ≤ length t
      → take 8 (drop k t) ≡ get_or t k 0 ∷ get_or t (k + 1) 0 ∷ get_or t (k + 2) 0 ∷ get_or t (k + 3) 0 ∷ get_or t (k + 4) 0 ∷ get_or t (k + 5) 0 ∷ get_or t (k + 6) 0 ∷ get_or t (k + 7) 0 ∷ []
  eight_taken k h =
      let p5 : k + 4 + 1 ≡ k + 5 = omega arith in
      let p6 : k + 4 + 2 ≡ k + 6 = omega arith in
      let p7 : k + 4 + 3 ≡ k + 7 = omega arith in
      rw (take-add 4 4 (drop k t), drop-drop 4 k t, four_taken k (omega arith), four_taken (k + 4) (omega arith))
      (λ i. get_or t k 0 ∷ get_or t (k + 1) 0 ∷ get_or t (k + 2) 0 ∷ get_or t (k + 3) 0 ∷ get_or t (k + 4) 0 ∷ get_or t (p5 i) 0 ∷ get_or t (p6 i) 0 ∷ get_or t (p7 i) 0 ∷ [])

  pub two_fours_at : (at : ℕ) → at + 8 ≤ length t → all_digits (take 8 (drop at t)) ≡ true
      → fours_joined (pairs_joined (values_in (lanes 8 (take 8 (drop at t))))) ≡ lanes 32 (field_at at 4 t ∷ field_at (at + 4) 4 t ∷ [])
  two_fours_at at room digits =
      let is : (k : ℕ) → k < 8 → IsDigit (get_or t (at + k) 0) = λ k h. digit_in t at 8 (at + k) digits (omega arith) (omega arith) (omega arith) in
      let first : IsDigit (get_or t at 0) = digit_in t at 8 at digits (omega arith) (omega arith) (omega arith) in
      ap (λ (bs : List ℕ). fours_joined (pairs_joined (values_in (lanes 8 bs)))) (eight_taken at room)
      ∙ two_fours_law (get_or t at 0) (get_or t (at + 1) 0) (get_or t (at + 2) 0) (get_or t (at + 3) 0) (get_or t (at + 4) 0) (get_or t (at + 5) 0) (get_or t (at + 6) 0) (get_or t (at + 7) 0)
      (first, (is 1 (lit< tt), (is 2 (lit< tt), (is 3 (lit< tt), (is 4 (lit< tt), (is 5 (lit< tt), (is 6 (lit< tt), (is 7 (lit< tt), tt))))))))
      ∙ ap₂ (λ (x y : ℕ). lanes 32 (x ∷ y ∷ []))
      (four_number at (at + 1) (at + 2) (at + 3) refl refl (omega arith) (omega arith))
      (four_number (at + 4) (at + 5) (at + 6) (at + 7) (omega arith) (omega arith) (omega arith) (omega arith))

  -- ---- the first four of a request by their number

  module _ (k : ℕ) (h : k + 4 ≤ length t) where
    abbrev are_digits : Bool
    are_digits = are_four (get_or t k 0) (get_or t (k + 1) 0) (get_or t (k + 2) 0) (get_or t (k + 3) 0)

    four_are : all_digits (take 4 (drop k t)) ≡ are_digits
    four_are = ap all_digits (four_taken k h) ∙ first_four (get_or t k 0) (get_or t (k + 1) 0) (get_or t (k + 2) 0) (get_or t (k + 3) 0) [] ∙ and-true are_digits

    -- four bytes stand for a number below 65,536 exactly if they are digits
    four_digits : ltb (four_at t k) 0x1_0000 ≡ all_digits (take 4 (drop k t))
    unfolding four_at
    four_digits = four_below (get_or t k 0) (get_or t (k + 1) 0) (get_or t (k + 2) 0) (get_or t (k + 3) 0) ∙ sym four_are

    -- the number is then that of the four digits
    four_plainly : all_digits (take 4 (drop k t)) ≡ true → four_at t k ≡ field_at k 4 t
    unfolding four_at
    four_plainly e =
        four-value (get_or t k 0) (get_or t (k + 1) 0) (get_or t (k + 2) 0) (get_or t (k + 3) 0) (sym four_are ∙ e)
        ∙ omega (arith, four_number k (k + 1) (k + 2) (k + 3) refl refl (omega arith) h)

  -- ---- a request's twenty

  module _ (from : ℕ) (room : from + 20 ≤ length t) where
    abbrev rest : Bool
    rest = all_digits (take 16 (drop (from + 4) t))

    first_then_rest : all_digits (take 20 (drop from t)) ≡ all_digits (take 4 (drop from t)) && rest
    first_then_rest =
        ap all_digits (take-add 4 16 (drop from t)) ∙ appended (take 4 (drop from t)) (take 16 (drop 4 (drop from t))) ∙ ap (λ (l : List ℕ). all_digits (take 4 (drop from t)) && all_digits (take 16 l)) (drop-drop 4 from t)

    pub by_eights : {a b : ℕ} → rest ≡ true
        → a ≡ lanes 32 (field_at (from + 4) 4 t ∷ field_at (from + 4 + 4) 4 t ∷ [])
        → b ≡ lanes 32 (field_at (from + 12) 4 t ∷ field_at (from + 12 + 4) 4 t ∷ [])
        → LastFields t from a b
    by_eights e ea eb =
        let below : (k : ℕ) → from + 4 ≤ k → k + 4 ≤ from + 20 → field_at k 4 t < 0x1_0000 = λ k low high. field_below t k 4 (digits_within t (from + 4) 16 k 4 e low (omega arith)) in
        let moved : (j k : ℕ) → j ≡ k → field_at j 4 t ≡ field_at k 4 t = λ j k q. ap (λ (n : ℕ). field_at n 4 t) q in
        record {
          first = omega (arith, ea, moved (from + 4 + 4) (from + 8) (omega arith));
          second = omega (arith, eb, moved (from + 12 + 4) (from + 16) (omega arith));
          x = omega (arith, field_cut t (from + 8) 4 4 (omega arith), moved (from + 8 + 4) (from + 12) (omega arith));
          flags_below = below (from + 4) (omega arith) (omega arith);
          upper_below = below (from + 8) (omega arith) (omega arith);
          lower_below = below (from + 12) (omega arith) (omega arith);
          y_below = below (from + 16) (omega arith) (omega arith);
        }

    pub refused_rest : rest ≡ false → Err Digit ≡ fields_at t from
    refused_rest e = sym (fields_plainly t from room ∙ rw (first_then_rest, e, and-false (all_digits (take 4 (drop from t)))))

    module _ {named : ℕ} (is : named ≡ four_at t from) where
      pub refused_first : 0x1_0000 ≤ named → Err Digit ≡ fields_at t from
      refused_first h = sym (fields_plainly t from room ∙ rw (first_then_rest, ← four_digits from (omega arith), ← is, le-ltb _ _ h))

      first_digits : named < 0x1_0000 → all_digits (take 4 (drop from t)) ≡ true
      first_digits h = sym (four_digits from (omega arith)) ∙ rw (← is, lt-ltb _ _ h)

      -- op and mode are its two halves
      pub first_fields : named < 0x1_0000 → (named ≡ field_at from 2 t * 0x100 + field_at (from + 2) 2 t) × (field_at (from + 2) 2 t < 0x100)
      first_fields h =
          (is ∙ four_plainly from (omega arith) (first_digits h) ∙ field_four t from (omega arith), field_below t (from + 2) 2 (digits_within t from 4 (from + 2) 2 (first_digits h) (omega arith) (omega arith)))

      pub read_there : named < 0x1_0000 → rest ≡ true → {op mode flags x y : ℕ}
          → op ≡ field_at from 2 t → mode ≡ field_at (from + 2) 2 t → flags ≡ field_at (from + 4) 4 t → x ≡ field_at (from + 8) 8 t → y ≡ field_at (from + 16) 4 t
          → Ok (record { op = op; mode = mode; flags = flags; x = x; y = y }) ≡ fields_at t from
      read_there h e = fields_there t from room (first_then_rest ∙ (λ i. first_digits h i && e i))

-- ---- a line of twenty digits, by three words

-- what they hold: the first op, mode and flags, the second X, the third the lower half of X and Y
pub record LineWords (t : List ℕ) (a b c : ℕ) : Type 0 where
  pub first : a ≡ field_at 4 4 t * 0x1_0000_0000 + field_at 0 2 t * 0x100 + field_at 2 2 t
  pub upper : b % 0x1_0000 ≡ field_at 8 4 t
  pub lower : c % 0x1_0000 ≡ field_at 12 4 t
  pub last : c / 0x1_0000_0000 ≡ field_at 16 4 t
  pub x : field_at 8 8 t ≡ field_at 8 4 t * 0x1_0000 + field_at 12 4 t
  pub op_below : field_at 0 2 t < 0x100
  pub mode_below : field_at 2 2 t < 0x100
  pub flags_below : field_at 4 4 t < 0x1_0000
  pub y_below : field_at 16 4 t < 0x1_0000

module _ (t : List ℕ) (long : length t ≡ 20) where
  module _ (digits : all_digits t ≡ true) where
    -- a part of the line is digits too
    pub line_part : (i m : ℕ) → i + m ≤ 20 → all_digits (take m (drop i t)) ≡ true
    line_part i m h = digits_within t 0 20 i m (ap all_digits (take_all 20 t (omega arith)) ∙ digits) (omega arith) (omega arith)

    pub by_words : {a b c : ℕ}
        → a ≡ lanes 32 (field_at 0 4 t ∷ field_at 4 4 t ∷ [])
        → b ≡ lanes 32 (field_at 8 4 t ∷ field_at 12 4 t ∷ [])
        → c ≡ lanes 32 (field_at 12 4 t ∷ field_at 16 4 t ∷ [])
        → LineWords t a b c
    by_words ea eb ec =
        let below : (k m : ℕ) → k + m ≤ 20 → field_at k m t < 16 ^ m = λ k m h. field_below t k m (line_part k m h) in
        let b8 : field_at 8 4 t < 0x1_0000 = below 8 4 (lit≤ tt) in
        let b12 : field_at 12 4 t < 0x1_0000 = below 12 4 (lit≤ tt) in
        record {
          first = omega (arith, ea, field_four t 0 (omega arith));
          upper = omega (arith, eb, b8);
          lower = omega (arith, ec, b12);
          last = omega (arith, ec, b12);
          x = field_cut t 8 4 4 (omega arith);
          op_below = below 0 2 (lit≤ tt);
          mode_below = below 2 2 (lit≤ tt);
          flags_below = below 4 4 (lit≤ tt);
          y_below = below 16 4 (lit≤ tt);
        }

    pub line_there : {op mode flags x y : ℕ} → op ≡ field_at 0 2 t → mode ≡ field_at 2 2 t → flags ≡ field_at 4 4 t → x ≡ field_at 8 8 t → y ≡ field_at 16 4 t
        → Ok (record { op = op; mode = mode; flags = flags; x = x; y = y }) ≡ read_of t
    line_there op mode flags x y =
        (λ i. Ok (record { op = op i; mode = mode i; flags = flags i; x = x i; y = y i })) ∙ sym (read_plainly t ∙ rw (eq-eqb _ _ long, digits))

  pub line_refused : all_digits t ≡ false → Err Digit ≡ read_of t
  line_refused none = sym (read_plainly t ∙ rw (eq-eqb _ _ long, none))
