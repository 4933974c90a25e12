-- `text::hex::two_digits` meets its contract: each of the two is a digit, and its number below 16. Assumes nothing.
use mathlib.Core.{Path.◌≡◌, Bool.true, List.List}
use Prim.Native.Nat.{ℕ, ◌+◌, ◌≤◌, ◌<◌}
use native.Mathlib.Omega.{arith}
use lib.ListN.{length, get_or, take, drop}
use Rattle.text.specs.{Digits.digit_of, Plain.is_digit, Plain.all_digits}
use Rattle.text.proofs.{DigitsAt.digit_in, DigitsAt.field_two, Plain.is_below}
use Rattle.text.proofs.hex.two_digits.Goals as goal

-- each of the two is a digit
digit : (t : List ℕ) (at i : ℕ) → at + 2 ≤ length t → all_digits (take 2 (drop at t)) ≡ true → at ≤ i → i < at + 2 → is_digit (get_or t i 0) ≡ true
digit t at i h all low high = digit_in t at 2 i all low high (omega arith)

-- so that its number is below 16
below : (t : List ℕ) (at i : ℕ) → at + 2 ≤ length t → all_digits (take 2 (drop at t)) ≡ true → at ≤ i → i < at + 2 → digit_of (get_or t i 0) < 16
below t at i h all low high = is_below (get_or t i 0) (digit t at i h all low high)

pub value-requires : goal.value-requires
value-requires c = digit c.args.text.now c.args.at c.args.at c.requires.at_in_bounds c.requires.text_value (omega arith) (omega arith)

pub overflow_mul-result : goal.overflow_mul-result
overflow_mul-result c = omega (arith, c.value.ensures, below c.args.text.now c.args.at c.args.at c.requires.at_in_bounds c.requires.text_value (omega arith) (omega arith))

pub value-requires-2 : goal.value-requires-2
value-requires-2 c = digit c.args.text.now c.args.at (c.args.at + 1) c.requires.at_in_bounds c.requires.text_value (omega arith) (omega arith)

pub overflow_add-result : goal.overflow_add-result
overflow_add-result c =
    let t = c.args.text.now in
    let at = c.args.at in
    omega (arith, c.value.ensures, c.value-2.ensures, below t at at c.requires.at_in_bounds c.requires.text_value (omega arith) (omega arith), below t at (at + 1) c.requires.at_in_bounds c.requires.text_value (omega arith) (omega arith))

pub returns : goal.returns
returns c =
    let a = c.args in
    omega (arith, c.value.ensures, c.value-2.ensures, field_two a.text.now a.at (omega arith))
