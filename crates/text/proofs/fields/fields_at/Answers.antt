-- `text::fields::fields_at` meets its contract: four digits by their number, and sixteen by eights. Assumes nothing.
use mathlib.Core.{Path.◌≡◌, Path.refl, Path.sym, Path.◌∙◌, Bool.true, List.List}
use Prim.Native.Nat.{ℕ, ◌+◌}
use native.Mathlib.Omega.{arith}
use lib.ListN.{take, drop}
use Rattle.text.specs.Plain.{all_digits}
use Rattle.text.proofs.DigitsAt.{digits_within}
use Rattle.text.proofs.Below.{is_under, is_none}
use Rattle.text.proofs.EightLaws.{LastFields, by_eights, first_fields, refused_first, refused_rest, read_there}
use Rattle.text.proofs.fields.fields_at.Goals as goal

pub two_fours-b-requires-clause-text_value : goal.two_fours-b-requires-clause-text_value
two_fours-b-requires-clause-text_value c =
    let a = c.args in
    digits_within a.text.now (a.from + 4) 16 (a.from + 12) 8 (sym c.all_digits.ensures ∙ c.if-not-all_digits.false) (omega arith) (omega arith)

-- what the two words hold
module _ (c : goal.After-two_fours-b) where
  abbrev text : List ℕ
  text = c.args.text.now

  abbrev from : ℕ
  from = c.args.from

  all : all_digits (take 16 (drop (from + 4) text)) ≡ true
  all = sym c.all_digits.ensures ∙ c.if-not-all_digits.false

  words : LastFields text from c.two_fours-a.result c.two_fours-b.result
  words = by_eights text from (omega arith) all c.two_fours-a.ensures c.two_fours-b.ensures

pub returns : goal.returns
returns c =
    let is = is_under (c.in-Some.ensures) in
    let n = first_fields (text c) (from c) (omega arith) is.0 is.1 in
    let w = words c in
    read_there (text c) (from c) (omega arith) is.0 is.1 (all c) (omega (arith, n)) (omega (arith, n)) (omega (arith, w)) (omega (arith, w)) (omega (arith, w))

pub returns-then-not-all_digits : goal.returns-then-not-all_digits
returns-then-not-all_digits c =
    let a = c.args in
    refused_rest a.text.now a.from (omega arith) (sym c.all_digits.ensures ∙ c.if-not-all_digits.true)

pub returns-in_default : goal.returns-in_default
returns-in_default c =
    let a = c.args in
    refused_first a.text.now a.from (omega arith) refl (is_none c.in_default.ensures)

pub overflow_cast-result-4 : goal.overflow_cast-result-4
overflow_cast-result-4 c = record { fits = omega (arith, words c) }

pub overflow_cast-result-5 : goal.overflow_cast-result-5
overflow_cast-result-5 c = record { fits = omega (arith, words c) }
