-- A line is read as the plain words say: its length, then its digits, then its fields. Assumes nothing.
use mathlib.Core.{Path.◌≡◌, Path.refl, Path.◌∙◌, Bool.Bool, Bool.true, Bool.false, Bool.cond, Bool.◌&&◌, Bool.◌||◌, List.List, List.[], List.◌∷◌}
use Prim.Native.Nat.{ℕ, ◌+◌, ◌-◌, ◌*◌, ◌/◌, ◌%◌, ◌<◌, ◌≤◌}
use native.Mathlib.Omega.{arith}
use lib.{Dec.leb, Dec.ltb, Dec.eqb, ListN.length}
use borrow.Author.Tests.{leb-true, ltb-true, lt-ltb, eqb-true}
use Rattle.numbers.specs.Numbers.{between}
use Rattle.std.proofs.Common.{Ok, Err}
use Rattle.text.specs.{Digits.digit_of, Fields.four_of, Fields.four_at, Fields.fields_of, Fields.fields_at, Fields.read_of}
use Rattle.text.specs.Plain.{is_digit, all_digits, number_of, fields_in}
use Rattle.text.specs.declared.fields.Malformed.TheVariants.{Length, Digit}
use Rattle.numbers.proofs.BoolLaws.{both}

-- ---- digits

pub within : (low high b : ℕ) → between low high b ≡ true → (low ≤ b) × (b ≤ high)
within low high b e =
    let h = both (leb low b) (leb b high) e in
    (leb-true low b h.0, leb-true b high h.1)

-- a byte is a digit exactly if it stands for a number below 16
pub digit_below : (b : ℕ) → ltb (digit_of b) 16 ≡ is_digit b
unfolding digit_of
digit_below b = by (between 0x30 0x39 b) (between 0x41 0x46 b) (between 0x61 0x66 b) refl refl refl
  where
    by : (x y z : Bool) → between 0x30 0x39 b ≡ x → between 0x41 0x46 b ≡ y → between 0x61 0x66 b ≡ z
        → ltb (cond x (b - 0x30) (cond y (b - 0x37) (cond z (b - 0x57) 16))) 16 ≡ x || y || z
    by true y z ex ey ez = lt-ltb (b - 0x30) 16 (omega (arith, within 0x30 0x39 b ex))
    by false true z ex ey ez = lt-ltb (b - 0x37) 16 (omega (arith, within 0x41 0x46 b ey))
    by false false true ex ey ez = lt-ltb (b - 0x57) 16 (omega (arith, within 0x61 0x66 b ez))
    by false false false ex ey ez = refl

pub is_below : (b : ℕ) → is_digit b ≡ true → digit_of b < 16
is_below b h = ltb-true (digit_of b) 16 (digit_below b ∙ h)

-- four bytes
module _ (a b c d : ℕ) where
  abbrev pub four : ℕ
  four = four_of (digit_of a) (digit_of b) (digit_of c) (digit_of d)

  -- each of them a digit
  abbrev pub are_four : Bool
  are_four = is_digit a && is_digit b && is_digit c && is_digit d

  are_below : are_four ≡ true → (digit_of a < 16) × (digit_of b < 16) × (digit_of c < 16) × (digit_of d < 16)
  are_below e =
      let z = both (is_digit a && is_digit b && is_digit c) (is_digit d) e in
      let y = both (is_digit a && is_digit b) (is_digit c) z.0 in
      let x = both (is_digit a) (is_digit b) y.0 in
      (is_below a x.0, is_below b x.1, is_below c y.1, is_below d z.1)

  pub four-value : are_four ≡ true → four ≡ digit_of a * 0x1000 + digit_of b * 0x100 + digit_of c * 0x10 + digit_of d
  unfolding four_of
  four-value e = rw (digit_below a, digit_below b, digit_below c, digit_below d, e)

  -- they are one number below 65,536 exactly then
  pub four_below : ltb four 0x1_0000 ≡ are_four
  unfolding four_of
  four_below = by are_four refl
    where
      by : (k : Bool) → are_four ≡ k → ltb four 0x1_0000 ≡ k
      by true e = let h = are_below e in lt-ltb four 0x1_0000 (omega (arith, four-value e))
      by false e = rw (digit_below a, digit_below b, digit_below c, digit_below d, e)

  pub first_four : (rest : List ℕ) → all_digits (a ∷ b ∷ c ∷ d ∷ rest) ≡ are_four && all_digits rest
  first_four rest = by (is_digit a) (is_digit b) (is_digit c) (is_digit d)
    where
      by : (w x y z : Bool) → w && (x && (y && (z && all_digits rest))) ≡ w && x && y && z && all_digits rest
      by true true true z = refl
      by true true false z = refl
      by true false y z = refl
      by false x y z = refl

-- ---- a line of twenty

no_more : (P : List ℕ → Type 0) → P [] → (line : List ℕ) → length line ≡ 0 → P line
no_more P h [] e = h
no_more P h (a ∷ line) e = absurd (omega arith)

four_more : (P : List ℕ → Type 0) (n : ℕ) → ((a b c d : ℕ) (rest : List ℕ) → length rest ≡ n → P (a ∷ b ∷ c ∷ d ∷ rest)) → (line : List ℕ) → length line ≡ n + 4 → P line
four_more P n h [] e = absurd (omega arith)
four_more P n h (a ∷ []) e = absurd (omega arith)
four_more P n h (a ∷ b ∷ []) e = absurd (omega arith)
four_more P n h (a ∷ b ∷ c ∷ []) e = absurd (omega arith)
four_more P n h (a ∷ b ∷ c ∷ d ∷ rest) e = h a b c d rest (omega arith)

module _ (a b c d e f g h i j k l m n o p q r s t : ℕ) where
  abbrev twenty : List ℕ
  twenty = a ∷ b ∷ c ∷ d ∷ e ∷ f ∷ g ∷ h ∷ i ∷ j ∷ k ∷ l ∷ m ∷ n ∷ o ∷ p ∷ q ∷ r ∷ s ∷ t ∷ []

  read_twenty : fields_at twenty 0 ≡ cond (all_digits twenty) (Ok (fields_in twenty)) (Err Digit)
  unfolding fields_at fields_of four_at
  read_twenty =
      rw (first_four a b c d (e ∷ f ∷ g ∷ h ∷ i ∷ j ∷ k ∷ l ∷ m ∷ n ∷ o ∷ p ∷ q ∷ r ∷ s ∷ t ∷ []), first_four e f g h (i ∷ j ∷ k ∷ l ∷ m ∷ n ∷ o ∷ p ∷ q ∷ r ∷ s ∷ t ∷ []), first_four i j k l (m ∷ n ∷ o ∷ p ∷ q ∷ r ∷ s ∷ t ∷ []), first_four m n o p (q ∷ r ∷ s ∷ t ∷ []), first_four q r s t [], four_below a b c d, four_below e f g h, four_below i j k l, four_below m n o p, four_below q r s t)
      (by (are_four a b c d) (are_four e f g h) (are_four i j k l) (are_four m n o p) (are_four q r s t) refl refl refl refl refl)
    where
      by : (u v w x y : Bool) → are_four a b c d ≡ u → are_four e f g h ≡ v → are_four i j k l ≡ w → are_four m n o p ≡ x → are_four q r s t ≡ y
          → cond (u && v && w && x && y) (Ok (record { op = four a b c d / 0x100; mode = four a b c d % 0x100; flags = four e f g h; x = four i j k l * 0x1_0000 + four m n o p; y = four q r s t })) (Err Digit)
          ≡ cond (u && (v && (w && (x && (y && true))))) (Ok (fields_in twenty)) (Err Digit)
      by true true true true true eu ev ew ex ey =
          let hu = are_below a b c d eu in
          let op : four a b c d / 0x100 ≡ number_of (a ∷ b ∷ []) = omega (arith, four-value a b c d eu) in
          let mode : four a b c d % 0x100 ≡ number_of (c ∷ d ∷ []) = omega (arith, four-value a b c d eu) in
          let flags : four e f g h ≡ number_of (e ∷ f ∷ g ∷ h ∷ []) = omega (arith, four-value e f g h ev) in
          let x : four i j k l * 0x1_0000 + four m n o p ≡ number_of (i ∷ j ∷ k ∷ l ∷ m ∷ n ∷ o ∷ p ∷ []) = omega (arith, four-value i j k l ew, four-value m n o p ex) in
          let y : four q r s t ≡ number_of (q ∷ r ∷ s ∷ t ∷ []) = omega (arith, four-value q r s t ey) in
          λ z. Ok (record { op = op z; mode = mode z; flags = flags z; x = x z; y = y z })
      by true true true true false eu ev ew ex ey = refl
      by true true true false y eu ev ew ex ey = refl
      by true true false x y eu ev ew ex ey = refl
      by true false w x y eu ev ew ex ey = refl
      by false v w x y eu ev ew ex ey = refl

abbrev ReadPlainly : List ℕ → Type 0
ReadPlainly line = fields_at line 0 ≡ cond (all_digits line) (Ok (fields_in line)) (Err Digit)

of_twenty : (line : List ℕ) → length line ≡ 20 → ReadPlainly line
of_twenty =
    four_more ReadPlainly 16 (λ a b c d. four_more (λ l. ReadPlainly (a ∷ b ∷ c ∷ d ∷ l)) 12 (λ e f g h. four_more (λ l. ReadPlainly (a ∷ b ∷ c ∷ d ∷ e ∷ f ∷ g ∷ h ∷ l)) 8
    (λ i j k l. four_more (λ z. ReadPlainly (a ∷ b ∷ c ∷ d ∷ e ∷ f ∷ g ∷ h ∷ i ∷ j ∷ k ∷ l ∷ z)) 4
    (λ m n o p. four_more (λ z. ReadPlainly (a ∷ b ∷ c ∷ d ∷ e ∷ f ∷ g ∷ h ∷ i ∷ j ∷ k ∷ l ∷ m ∷ n ∷ o ∷ p ∷ z)) 0
    (λ q r s t. no_more (λ z. ReadPlainly (a ∷ b ∷ c ∷ d ∷ e ∷ f ∷ g ∷ h ∷ i ∷ j ∷ k ∷ l ∷ m ∷ n ∷ o ∷ p ∷ q ∷ r ∷ s ∷ t ∷ z)) (read_twenty a b c d e f g h i j k l m n o p q r s t))))))

-- the length, then the digits, then the fields
pub read_plainly : (line : List ℕ) → read_of line ≡ cond (eqb (length line) 20) (cond (all_digits line) (Ok (fields_in line)) (Err Digit)) (Err Length)
unfolding read_of
read_plainly line = by (eqb (length line) 20) refl
  where
    by : (k : Bool) → eqb (length line) 20 ≡ k → cond k (fields_at line 0) (Err Length) ≡ cond k (cond (all_digits line) (Ok (fields_in line)) (Err Digit)) (Err Length)
    by true e = of_twenty line (eqb-true (length line) 20 e)
    by false e = refl
