-- `text::fields::read_fields` meets its contract: the length, then the digits, then the fields by eights. Assumes nothing.
use mathlib.Core.{Path.◌≡◌, Path.sym, Path.ap, Path.◌∙◌, Bool.Bool, Bool.true, List.List}
use Prim.Native.Nat.{ℕ, ◌+◌, ◌≤◌}
use native.Mathlib.Omega.{arith}
use lib.{Dec.lit≤, ListN.length, ListN.take, ListN.drop, Seq.take_all}
use borrow.Author.Tests.{ne_eqb}
use Rattle.text.specs.{Fields.read_of, Plain.all_digits}
use Rattle.text.proofs.{EightLaws.LineWords, EightLaws.line_part, EightLaws.by_words, EightLaws.line_there, EightLaws.line_refused}
use Rattle.text.proofs.fields.read_fields.Goals as goal

pub returns-then-line-ne20 : goal.returns-then-line-ne20
unfolding read_of
returns-then-line-ne20 c = rw (ne_eqb (length c.args.line.now) 20 (λ e. c.if-line-ne20.true (omega arith)))

-- what was tested is whether all of them are digits
all_tested : (line : List ℕ) → length line ≡ 20 → (b : Bool) → b ≡ all_digits (take 20 line) → all_digits line ≡ b
all_tested line long b e = ap all_digits (sym (take_all 20 line (omega (arith, long)))) ∙ sym e

module _ (c : goal.After-two_fours-c) where
  abbrev line : List ℕ
  line = c.args.line.now

  long : length line ≡ 20
  long = c.if-line-ne20.false

  digits : all_digits line ≡ true
  digits = all_tested line long c.all_digits.result c.all_digits.ensures ∙ c.if-not-all_digits.false

  words : LineWords line c.two_fours-a.result c.two_fours-b.result c.two_fours-c.result
  words = by_words line long digits c.two_fours-a.ensures c.two_fours-b.ensures c.two_fours-c.ensures

eight : (line : List ℕ) → length line ≡ 20 → (b : Bool) → b ≡ all_digits (take 20 line) → b ≡ true → (i : ℕ) → i + 8 ≤ 20 → all_digits (take 8 (drop i line)) ≡ true
eight line long b e t i h = line_part line long (all_tested line long b e ∙ t) i 8 h

pub returns : goal.returns
returns c =
    let w = words c in
    line_there (line c) (long c) (digits c) (omega (arith, w)) (omega (arith, w)) (omega (arith, w)) (omega (arith, w)) (omega (arith, w))

pub returns-then-not-all_digits : goal.returns-then-not-all_digits
returns-then-not-all_digits c =
    let line = c.args.line.now in
    line_refused line c.if-line-ne20.false (all_tested line c.if-line-ne20.false c.all_digits.result c.all_digits.ensures ∙ c.if-not-all_digits.true)

pub two_fours-a-requires-clause-text_value : goal.two_fours-a-requires-clause-text_value
two_fours-a-requires-clause-text_value c = eight c.args.line.now c.if-line-ne20.false c.all_digits.result c.all_digits.ensures c.if-not-all_digits.false 0 (lit≤ tt)

pub two_fours-b-requires-clause-text_value : goal.two_fours-b-requires-clause-text_value
two_fours-b-requires-clause-text_value c = eight c.args.line.now c.if-line-ne20.false c.all_digits.result c.all_digits.ensures c.if-not-all_digits.false 8 (lit≤ tt)

pub two_fours-c-requires-clause-text_value : goal.two_fours-c-requires-clause-text_value
two_fours-c-requires-clause-text_value c = eight c.args.line.now c.if-line-ne20.false c.all_digits.result c.all_digits.ensures c.if-not-all_digits.false 12 (lit≤ tt)

pub overflow_cast-result-3 : goal.overflow_cast-result-3
overflow_cast-result-3 c = record { fits = omega (arith, words c) }

pub overflow_cast-result-5 : goal.overflow_cast-result-5
overflow_cast-result-5 c = record { fits = omega (arith, words c) }
