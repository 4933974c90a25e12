-- `text::hex::four_digits` meets its contract: two digits, and two more. Assumes nothing.
use Prim.Native.Nat.{◌+◌}
use native.Mathlib.Omega.{arith}
use Rattle.text.proofs.{DigitsAt.digits_within, DigitsAt.field_four}
use Rattle.text.proofs.hex.four_digits.Goals as goal

pub two_digits-requires-clause-text_value : goal.two_digits-requires-clause-text_value
two_digits-requires-clause-text_value c =
    digits_within c.args.text.now c.args.at 4 c.args.at 2 c.requires.text_value (omega arith) (omega arith)

pub two_digits-requires-2-clause-text_value : goal.two_digits-requires-2-clause-text_value
two_digits-requires-2-clause-text_value c =
    digits_within c.args.text.now c.args.at 4 (c.args.at + 2) 2 c.requires.text_value (omega arith) (omega arith)

pub returns : goal.returns
returns c =
    let a = c.args in
    omega (arith, c.two_digits.ensures, c.two_digits-2.ensures, field_four a.text.now a.at (omega arith))
