-- A line and its record. `read_again`: a good line, read and written again, is the same in capitals. `written_read`: a record that no refusal fits,
-- written and read, is itself; each record that was read is such a one (`read_fits`). So lines that read as one record are the same in capitals
-- (`one_line`), those that are the same in capitals read alike (`read-capitals`), and records that are written alike are one (`one-record`).
-- `steps_free`: steps are not judged. Assumes nothing.
use mathlib.Core.{Path.◌≡◌, Path.refl, Path.sym, Path.ap, Path.subst, Path.◌∙◌, Bool.Bool, Bool.true, Bool.false, Bool.not, Bool.cond, Bool.◌&&◌, Bool.◌||◌, Bool.false≢true}
use mathlib.Core.List.{List, [], ◌∷◌, ◌++◌, append_assoc}
use Prim.Native.Nat.{ℕ, zero, suc, ◌+◌, ◌-◌, ◌*◌, ◌/◌, ◌%◌, ◌^◌, ◌<◌, ◌≤◌}
use native.Mathlib.Omega.{arith}
use lib.{Dec.ltb, Dec.eqb, ListN.length, ListN.take, ListN.drop, ListN.length-drop, Seq.take_all, Seq.take-add, Seq.take_at, Seq.drop-drop, Seq.length-take-le}
use borrow.Author.Tests.{eqb-true, lt-ltb, le-ltb}
use Rattle.std.proofs.Common.{Ok, Err}
use Rattle.numbers.specs.Numbers.{between}
use Rattle.text.specs.{Digits.digit_of, Digits.capital_of, Plain.is_digit, Plain.all_digits, Plain.number_of, Plain.field_at, Written.two, Written.four, Written.written}
use Rattle.numbers.proofs.BoolLaws.{both}
use Rattle.text.proofs.{Plain.within, Plain.digit_below, Plain.is_below, DigitsAt.digits_within, DigitsAt.field_below}
use Rattle.text.proofs.ReadBack.{small_letter, digit-read, two_number, four_number}
use Rattle.line.specs.One.{text_by}
use Rattle.answer.specs.declared.answer.Answer.{Answer}
use Rattle.readback.specs.Judge.{record_in, is_status, refuses_divide, outside, no_result, all_zeros, not_zero, judged, read_back}
use Rattle.readback.specs.{Again.capital, Again.capitals, Again.line_of, Again.Typed, Quick.is_digits}
use Rattle.readback.specs.declared.judge.Refusal.TheVariants.{Length, Digit, Status, Flags, NotZero}
use Rattle.readback.specs.{Judge.Read}
use Rattle.readback.proofs.NextLaws.{read-digits, read_other}

-- a part of 18 digits is digits
digits_of : (line : List ℕ) → length line ≡ 18 → all_digits line ≡ true → (i m : ℕ) → i + m ≤ 18 → all_digits (take m (drop i line)) ≡ true
digits_of line long h i m l = digits_within line 0 18 i m (ap all_digits (take_all 18 line (omega (arith, long))) ∙ h) (omega arith) (omega arith)

-- ---- a record that was read

abbrev is_record : Read → Bool
is_record (Ok a) = true
is_record (Err why) = false

abbrev record_of : Answer → Read → Answer
record_of b (Ok a) = a
record_of b (Err why) = b

-- what is judged good is the record itself
judged_good : (a b : Answer) → judged a ≡ Ok b → a ≡ b
unfolding judged
judged_good a b = by (not (is_status a.status)) (outside a.flags) (not_zero a)
  where
    by : (s f z : Bool) → cond s (Err Status) (cond f (Err Flags) (cond z (Err NotZero) (Ok a))) ≡ Ok b → a ≡ b
    by true f z e = absurd (false≢true (ap is_record e))
    by false true z e = absurd (false≢true (ap is_record e))
    by false false true e = absurd (false≢true (ap is_record e))
    by false false false e = ap (record_of a) e

-- a good line is 18 digits, and its record stands in it
pub good_line : (line : List ℕ) (a : Answer) → read_back line ≡ Ok a → (is_digits line ≡ true) × (record_in line ≡ a)
good_line line a e = by (is_digits line) refl
  where
    by : (k : Bool) → is_digits line ≡ k → (is_digits line ≡ true) × (record_in line ≡ a)
    by true h = (h, judged_good (record_in line) a (sym (read-digits line h) ∙ e))
    by false h = absurd (false≢true (ap is_record (sym (read_other line h) ∙ e)))

-- no refusal fits it, and each field fits its type
pub read_fits : (line : List ℕ) (a : Answer) → read_back line ≡ Ok a → (judged a ≡ Ok a) × Typed a
read_fits line a e =
    let g = good_line line a e in
    let d = both (eqb (length line) 18) (all_digits line) g.0 in
    let part : (i m : ℕ) → i + m ≤ 18 → all_digits (take m (drop i line)) ≡ true = digits_of line (eqb-true (length line) 18 d.0) d.1 in
    let fields : Typed (record_in line) =
    record {
      status = field_below line 0 2 (part 0 2 (omega arith));
      flags = field_below line 2 4 (part 2 4 (omega arith));
      steps = field_below line 6 4 (part 6 4 (omega arith));
      r = field_below line 10 4 (part 10 4 (omega arith));
      s = field_below line 14 4 (part 14 4 (omega arith));
    } in
    (ap judged (sym g.1) ∙ sym (read-digits line g.0) ∙ e, subst Typed g.1 fields)

-- a record with other steps
abbrev pub with_steps : ℕ → Answer → Answer
with_steps k a = record { status = a.status; flags = a.flags; steps = k; r = a.r; s = a.s }

-- they are not judged, but after 1 to 5
pub steps_free : (a : Answer) (k : ℕ) → between 1 5 a.status ≡ false → judged a ≡ Ok a → judged (with_steps k a) ≡ Ok (with_steps k a)
unfolding judged
steps_free a k = by (is_status a.status) (outside a.flags) (between 1 5 a.status) (refuses_divide a.status && not (no_result a)) (not (all_zeros a)) (not (all_zeros (with_steps k a)))
  where
    by : (s f b z x y : Bool) → b ≡ false → cond (not s) (Err Status) (cond f (Err Flags) (cond ((b && x) || z) (Err NotZero) (Ok a))) ≡ Ok a
        → cond (not s) (Err Status) (cond f (Err Flags) (cond ((b && y) || z) (Err NotZero) (Ok (with_steps k a)))) ≡ Ok (with_steps k a)
    by s f true z x y e g = absurd (false≢true (sym e))
    by true false false false x y e g = refl
    by true false false true x y e g = absurd (false≢true (ap is_record g))
    by true true false z x y e g = absurd (false≢true (ap is_record g))
    by false f false z x y e g = absurd (false≢true (ap is_record g))

-- ---- one digit

-- its number's capital is its own
capital_is : (b : ℕ) → is_digit b ≡ true → capital_of (digit_of b) ≡ capital b
unfolding digit_of capital_of
capital_is b = by (between 0x30 0x39 b) (between 0x41 0x46 b) (between 0x61 0x66 b) refl refl refl
  where
    by : (x y z : Bool) → between 0x30 0x39 b ≡ x → between 0x41 0x46 b ≡ y → between 0x61 0x66 b ≡ z → x || y || z ≡ true
        → capital_of (cond x (b - 0x30) (cond y (b - 0x37) (cond z (b - 0x57) 16))) ≡ cond z (b - 0x20) b
    by true y true ex ey ez h = let z : ⊥ = omega (arith, within 0x30 0x39 b ex, within 0x61 0x66 b ez) in absurd z
    by true y false ex ey ez h = let w = within 0x30 0x39 b ex in let l : b - 0x30 < 10 = omega arith in rw (lt-ltb (b - 0x30) 10 l) (omega arith)
    by false true true ex ey ez h = let z : ⊥ = omega (arith, within 0x41 0x46 b ey, within 0x61 0x66 b ez) in absurd z
    by false true false ex ey ez h = let w = within 0x41 0x46 b ey in let l : 10 ≤ b - 0x37 = omega arith in rw (le-ltb (b - 0x37) 10 l) (omega arith)
    by false false true ex ey ez h = let w = within 0x61 0x66 b ez in let l : 10 ≤ b - 0x57 = omega arith in rw (le-ltb (b - 0x57) 10 l) (omega arith)
    by false false false ex ey ez h = absurd (false≢true h)

-- ---- two digits and four, written and read

-- the two digits of a number that was read
two_again : (a b : ℕ) → is_digit a ≡ true → is_digit b ≡ true → two capital_of (number_of (a ∷ b ∷ [])) ≡ capital a ∷ capital b ∷ []
two_again a b ha hb =
    let la = is_below a ha in
    let lb = is_below b hb in
    let first : number_of (a ∷ b ∷ []) / 16 ≡ digit_of a = omega arith in
    let second : number_of (a ∷ b ∷ []) % 16 ≡ digit_of b = omega arith in
    rw (first, second, capital_is a ha, capital_is b hb)

-- and the four
four_again : (a b c d : ℕ) → is_digit a ≡ true → is_digit b ≡ true → is_digit c ≡ true → is_digit d ≡ true
    → four capital_of (number_of (a ∷ b ∷ c ∷ d ∷ [])) ≡ capital a ∷ capital b ∷ capital c ∷ capital d ∷ []
four_again a b c d ha hb hc hd =
    let la = is_below a ha in
    let lb = is_below b hb in
    let lc = is_below c hc in
    let ld = is_below d hd in
    let n = number_of (a ∷ b ∷ c ∷ d ∷ []) in
    let first : n / 0x1000 ≡ digit_of a = omega arith in
    let second : n / 0x100 % 16 ≡ digit_of b = omega arith in
    let third : n / 0x10 % 16 ≡ digit_of c = omega arith in
    let fourth : n % 16 ≡ digit_of d = omega arith in
    rw (first, second, third, fourth, capital_is a ha, capital_is b hb, capital_is c hc, capital_is d hd)

-- ---- a line, written again

two_part : (l : List ℕ) → length l ≡ 2 → all_digits l ≡ true → two capital_of (number_of l) ≡ capitals l
two_part [] e h = absurd (omega arith)
two_part (a ∷ []) e h = absurd (omega arith)
two_part (a ∷ b ∷ []) e h =
    let x = both (is_digit a) (is_digit b && true) h in
    two_again a b x.0 (both (is_digit b) true x.1).0
two_part (a ∷ b ∷ c ∷ l) e h = absurd (omega arith)

four_part : (l : List ℕ) → length l ≡ 4 → all_digits l ≡ true → four capital_of (number_of l) ≡ capitals l
four_part [] e h = absurd (omega arith)
four_part (a ∷ []) e h = absurd (omega arith)
four_part (a ∷ b ∷ []) e h = absurd (omega arith)
four_part (a ∷ b ∷ c ∷ []) e h = absurd (omega arith)
four_part (a ∷ b ∷ c ∷ d ∷ []) e h =
    let x = both (is_digit a) (is_digit b && (is_digit c && (is_digit d && true))) h in
    let y = both (is_digit b) (is_digit c && (is_digit d && true)) x.1 in
    let z = both (is_digit c) (is_digit d && true) y.1 in
    four_again a b c d x.0 y.0 z.0 (both (is_digit d) true z.1).0
four_part (a ∷ b ∷ c ∷ d ∷ f ∷ l) e h = absurd (omega arith)

capitals_append : (s t : List ℕ) → capitals (s ++ t) ≡ capitals s ++ capitals t
capitals_append [] t = refl
capitals_append (b ∷ s) t = ap (λ (l : List ℕ). capital b ∷ l) (capitals_append s t)

capitals_length : (s : List ℕ) → length (capitals s) ≡ length s
capitals_length [] = refl
capitals_length (b ∷ s) = ap suc (capitals_length s)

module _ (line : List ℕ) (long : length line ≡ 18) where
  -- its five fields, one after another
  parts : take 2 line ++ (take 4 (drop 2 line) ++ (take 4 (drop 6 line) ++ (take 4 (drop 10 line) ++ take 4 (drop 14 line)))) ≡ line
  parts =
      sym (take-add 2 16 line ∙ ap (λ (l : List ℕ). take 2 line ++ l) (four_off 2 12 ∙ ap (λ (l : List ℕ). take 4 (drop 2 line) ++ l) (four_off 6 8 ∙ ap (λ (l : List ℕ). take 4 (drop 6 line) ++ l) (four_off 10 4))))
      ∙ take_all 18 line (omega (arith, long))
    where
      four_off : (i n : ℕ) → take (4 + n) (drop i line) ≡ take 4 (drop i line) ++ take n (drop (i + 4) line)
      four_off i n = take-add 4 n (drop i line) ∙ ap (λ (l : List ℕ). take 4 (drop i line) ++ take n l) (drop-drop 4 i line)

  written-capitals : all_digits line ≡ true → text_by (record_in line) ≡ capitals line ++ (0x0A ∷ [])
  unfolding written
  written-capitals h =
      (λ i. two_part (take 2 line) (size 0 2 (omega arith)) (digits_of line long h 0 2 (omega arith)) i ++ (field 2 (omega arith) i ++ (field 6 (omega arith) i ++ (field 10 (omega arith) i ++ (field 14 (omega arith) i ++ (0x0A ∷ []))))))
      ∙ sym (ap (λ (l : List ℕ). capitals l ++ (0x0A ∷ [])) (sym parts) ∙ simp (capitals_append, append_assoc))
    where
      size : (i m : ℕ) → i + m ≤ 18 → length (take m (drop i line)) ≡ m
      size i m l = length-take-le m (drop i line) (simp length-drop (omega (arith, long)))

      field : (i : ℕ) → i + 4 ≤ 18 → four capital_of (field_at i 4 line) ≡ capitals (take 4 (drop i line))
      field i l = four_part (take 4 (drop i line)) (size i 4 l) (digits_of line long h i 4 l)

-- a good line, read and written again, is the same in capitals
pub read_again : (line : List ℕ) (a : Answer) → read_back line ≡ Ok a → text_by a ≡ capitals line ++ (0x0A ∷ [])
read_again line a e =
    let g = good_line line a e in
    let d = both (eqb (length line) 18) (all_digits line) g.0 in
    sym (ap text_by g.1) ∙ written-capitals line (eqb-true (length line) 18 d.0) d.1

-- so lines that are read as one record are the same in capitals
pub one_line : (l m : List ℕ) (a : Answer) → read_back l ≡ Ok a → read_back m ≡ Ok a → capitals l ≡ capitals m
one_line l m a el em =
    sym (take_at (capitals l) (0x0A ∷ []) 18 (eighteen l el)) ∙ ap (take 18) (sym (read_again l a el) ∙ read_again m a em) ∙ take_at (capitals m) (0x0A ∷ []) 18 (eighteen m em)
  where
    eighteen : (line : List ℕ) → read_back line ≡ Ok a → length (capitals line) ≡ 18
    eighteen line e = capitals_length line ∙ eqb-true (length line) 18 (both (eqb (length line) 18) (all_digits line) (good_line line a e).0).0

-- ---- a line in capitals

-- a letter is worth the same
capital_worth : (b : ℕ) → digit_of (capital b) ≡ digit_of b
capital_worth b = by (between 0x61 0x66 b) refl
  where
    by : (x : Bool) → between 0x61 0x66 b ≡ x → digit_of (cond x (b - 0x20) b) ≡ digit_of b
    by true e =
        let w = within 0x61 0x66 b e in
        let back : b - 0x20 + 0x20 ≡ b = omega arith in
        sym (small_letter (b - 0x20) (omega arith) (omega arith)) ∙ ap digit_of back
    by false e = refl

capitals-digits : (l : List ℕ) → all_digits (capitals l) ≡ all_digits l
capitals-digits [] = refl
capitals-digits (b ∷ l) =
    let one : is_digit (capital b) ≡ is_digit b = sym (digit_below (capital b)) ∙ ap (λ (k : ℕ). ltb k 16) (capital_worth b) ∙ digit_below b in
    λ i. one i && capitals-digits l i

capitals_number : (l : List ℕ) → number_of (capitals l) ≡ number_of l
capitals_number [] = refl
capitals_number (b ∷ l) = λ i. capital_worth b i * 16 ^ capitals_length l i + capitals_number l i

capitals_take : (m : ℕ) (l : List ℕ) → take m (capitals l) ≡ capitals (take m l)
capitals_take zero l = refl
capitals_take (suc m) [] = refl
capitals_take (suc m) (b ∷ l) = ap (λ (t : List ℕ). capital b ∷ t) (capitals_take m l)

capitals_drop : (i : ℕ) (l : List ℕ) → drop i (capitals l) ≡ capitals (drop i l)
capitals_drop zero l = refl
capitals_drop (suc i) [] = refl
capitals_drop (suc i) (b ∷ l) = capitals_drop i l

capitals_field : (i m : ℕ) (l : List ℕ) → field_at i m (capitals l) ≡ field_at i m l
capitals_field i m l = ap (λ (t : List ℕ). number_of (take m t)) (capitals_drop i l) ∙ ap number_of (capitals_take m (drop i l)) ∙ capitals_number (take m (drop i l))

-- either letter case is read alike, refused or not
pub read-capitals : (line : List ℕ) → read_back (capitals line) ≡ read_back line
unfolding read_back
read-capitals line =
    let same : record_in (capitals line) ≡ record_in line =
    λ i. record {
      status = capitals_field 0 2 line i;
      flags = capitals_field 2 4 line i;
      steps = capitals_field 6 4 line i;
      r = capitals_field 10 4 line i;
      s = capitals_field 14 4 line i;
    } in
    λ i. cond (not (eqb (capitals_length line i) 18)) (Err Length) (cond (not (capitals-digits line i)) (Err Digit) (judged (same i)))

-- ---- a record, written and read

capital-digit : (k : ℕ) → k < 16 → is_digit (capital_of k) ≡ true
capital-digit k h = sym (digit_below (capital_of k)) ∙ lt-ltb (digit_of (capital_of k)) 16 (omega (arith, digit-read k h))

two_digits : (k : ℕ) (rest : List ℕ) → k < 0x100 → all_digits rest ≡ true → all_digits (two capital_of k ++ rest) ≡ true
two_digits k rest h r = rw (capital-digit (k / 16) (omega arith), capital-digit (k % 16) (omega arith), r)

four_digits : (k : ℕ) (rest : List ℕ) → k < 0x1_0000 → all_digits rest ≡ true → all_digits (four capital_of k ++ rest) ≡ true
four_digits k rest h r =
    rw (capital-digit (k / 0x1000) (omega arith), capital-digit (k / 0x100 % 16) (omega arith), capital-digit (k / 0x10 % 16) (omega arith), capital-digit (k % 16) (omega arith), r)

module _ (a : Answer) (typed : Typed a) where
  line_digits : is_digits (line_of a) ≡ true
  unfolding written
  line_digits =
      let last = four capital_of a.s in
      let third = four capital_of a.r ++ last in
      let second = four capital_of a.steps ++ third in
      let first = four capital_of a.flags ++ second in
      two_digits a.status first typed.status (four_digits a.flags second typed.flags (four_digits a.steps third typed.steps (four_digits a.r last typed.r (four_digits a.s [] typed.s refl))))

  line_record : record_in (line_of a) ≡ a
  unfolding written
  line_record =
      λ i. record {
        status = two_number capital_of digit-read a.status typed.status i;
        flags = four_number capital_of digit-read a.flags typed.flags i;
        steps = four_number capital_of digit-read a.steps typed.steps i;
        r = four_number capital_of digit-read a.r typed.r i;
        s = four_number capital_of digit-read a.s typed.s i;
      }

  -- a record that no refusal fits, written and read, is itself
  pub written_read : judged a ≡ Ok a → read_back (line_of a) ≡ Ok a
  written_read good = read-digits (line_of a) line_digits ∙ ap judged line_record ∙ good

-- so records that are written alike are one
pub one-record : (a b : Answer) → Typed a → Typed b → judged a ≡ Ok a → judged b ≡ Ok b → text_by a ≡ text_by b → a ≡ b
one-record a b ta tb ga gb e = ap (record_of a) (sym (written_read a ta ga) ∙ ap (λ (t : List ℕ). read_back (take 18 t)) e ∙ written_read b tb gb)
