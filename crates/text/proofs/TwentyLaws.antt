-- Twenty bytes at a place of a text: they are a request exactly if they are digits, and a line if a line feed follows them. Assumes nothing.
use mathlib.Core.{Path.◌≡◌, Path.refl, Path.sym, Path.ap, Path.◌∙◌, Bool.Bool, Bool.true, Bool.false, Bool.cond, List.List}
use Prim.Native.Nat.{ℕ, ◌+◌, ◌<◌, ◌≤◌}
use native.Mathlib.Omega.{arith}
use lib.{Dec.lit≤, ListN.length, ListN.get_or, ListN.take, ListN.drop, ListN.length-drop, Seq.get_or-take, Seq.get_or-drop, Seq.length-take-le}
use borrow.Author.Tests.{eq-eqb}
use Rattle.std.proofs.Common.{Ok, Err}
use Rattle.text.specs.{Digits.digit_of, Fields.four_of, Fields.four_at, Fields.fields_of, Fields.fields_at, Fields.read_of, Lines.line_length, Lines.found_of}
use Rattle.text.specs.{Plain.all_digits, Plain.field_at, Plain.fields_in, declared.fields.Fields.Fields, Fields.Read}
use Rattle.text.specs.declared.fields.Malformed.TheVariants.{Digit}
use Rattle.text.proofs.{DigitsAt.digits_no_feed, DigitsAt.field_part, FoundLaws.first_feed, Plain.read_plainly}

abbrev is_fields : Read → Bool
is_fields (Ok f) = true
is_fields (Err why) = false

all_digits_lem : (x : Bool) (f : Fields) → is_fields (cond x (Ok f) (Err Digit)) ≡ true → x ≡ true
all_digits_lem true f e = refl
all_digits_lem false f e = e

module _ (text : List ℕ) (from : ℕ) where
  -- the twenty bytes from there on, as a line of their own
  abbrev twenty : List ℕ
  twenty = take 20 (drop from text)

  moved : (k j : ℕ) → j ≡ from + k → k < 20 → get_or text j 0 ≡ get_or twenty k 0
  moved k j e h = ap (λ (n : ℕ). get_or text n 0) e ∙ sym (get_or-take 20 (drop from text) k 0 h ∙ get_or-drop from text k 0)

  four_moved : (k j : ℕ) → j ≡ from + k → k + 3 < 20 → four_at text j ≡ four_at twenty k
  unfolding four_at
  four_moved k j e h =
      let a = moved k j e (omega arith) in
      let b = moved (k + 1) (j + 1) (omega arith) (omega arith) in
      let c = moved (k + 2) (j + 2) (omega arith) (omega arith) in
      let d = moved (k + 3) (j + 3) (omega arith) (omega arith) in
      λ i. four_of (digit_of (a i)) (digit_of (b i)) (digit_of (c i)) (digit_of (d i))

  module _ (room : from + 20 ≤ length text) where
    long : length twenty ≡ 20
    long = length-take-le 20 (drop from text) (simp length-drop (omega arith))

    read_there : fields_at text from ≡ read_of twenty
    unfolding read_of fields_at
    read_there =
        let a = four_moved 0 from (omega arith) (omega arith) in
        let b = four_moved 4 (from + 4) refl (omega arith) in
        let c = four_moved 8 (from + 8) refl (omega arith) in
        let d = four_moved 12 (from + 12) refl (omega arith) in
        let e = four_moved 16 (from + 16) refl (omega arith) in
        rw (eq-eqb (length twenty) 20 long) (λ i. fields_of (a i) (b i) (c i) (d i) (e i))

    pub fields_plainly : fields_at text from ≡ cond (all_digits twenty) (Ok (fields_in twenty)) (Err Digit)
    fields_plainly = read_there ∙ read_plainly twenty ∙ rw (eq-eqb (length twenty) 20 long)

    -- digits, with each field at its place
    pub fields_there : all_digits twenty ≡ true → {op mode flags x y : ℕ}
        → op ≡ field_at from 2 text → mode ≡ field_at (from + 2) 2 text → flags ≡ field_at (from + 4) 4 text → x ≡ field_at (from + 8) 8 text → y ≡ field_at (from + 16) 4 text
        → Ok (record { op = op; mode = mode; flags = flags; x = x; y = y }) ≡ fields_at text from
    fields_there e op mode flags x y =
        let here : from ≡ from + 0 = omega arith in
        let at : (k m : ℕ) → k + m ≤ 20 → field_at (from + k) m text ≡ field_at k m twenty = λ k m h. sym (field_part text from 20 k m h) in
        let first : field_at from 2 text ≡ field_at 0 2 twenty = ap (λ (k : ℕ). field_at k 2 text) here ∙ at 0 2 (lit≤ tt) in
        (λ i. Ok (record { op = (op ∙ first) i; mode = (mode ∙ at 2 2 (lit≤ tt)) i; flags = (flags ∙ at 4 4 (lit≤ tt)) i; x = (x ∙ at 8 8 (lit≤ tt)) i; y = (y ∙ at 16 4 (lit≤ tt)) i }))
        ∙ sym (fields_plainly ∙ rw e)

    -- read as fields, they are digits
    digits : (f : Fields) → fields_at text from ≡ Ok f → all_digits twenty ≡ true
    digits f e = all_digits_lem (all_digits twenty) (fields_in twenty) (ap is_fields (sym fields_plainly ∙ e))

  -- read as fields, and a line feed after them: a line
  line_of_twenty : (f : Fields) → from + 20 < length text → get_or text (from + 20) 0 ≡ 0x0A → fields_at text from ≡ Ok f → line_length (drop from text) ≡ 20
  line_of_twenty f h feed read =
      first_feed (drop from text) 20 (simp length-drop (omega arith))
      (λ i p e. digits_no_feed twenty (digits (omega arith) f read) i (omega (arith, long (omega arith))) (get_or-take 20 (drop from text) i 0 p ∙ e))
      (get_or-drop from text 20 0 ∙ feed)

  -- what is found there
  pub found_there : (f : Fields) → from + 20 < length text → get_or text (from + 20) 0 ≡ 0x0A → fields_at text from ≡ Ok f
      → record { read = fields_at text from; end = from + 20 } ≡ found_of text from
  found_there f h feed read =
      let n = sym (line_of_twenty f h feed read) in
      let r = read_there (omega arith) in
      λ i. record { read = (r ∙ ap (λ (k : ℕ). read_of (take k (drop from text))) n) i; end = from + n i }
