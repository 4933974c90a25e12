-- `readback::reader::is_digits` meets its contract: too few bytes, a line that goes on, or its 18 bytes. Assumes nothing.
use mathlib.Core.Path.{sym, ◌∙◌}
use native.Mathlib.Omega.{arith}
use Rattle.readback.proofs.{LineLaws.too_short, LineLaws.goes_on, LineLaws.by_digits}
use Rattle.readback.proofs.reader.is_digits.Goals as goal

pub returns-then-text-at-lt-DIGITS : goal.returns-then-text-at-lt-DIGITS
returns-then-text-at-lt-DIGITS c = let a = c.args in sym (too_short a.text.now a.at (omega arith) (omega arith))

pub returns-then-not-ends_at : goal.returns-then-not-ends_at
returns-then-not-ends_at c =
    let a = c.args in
    sym (goes_on a.text.now a.at (omega arith) (omega arith) (sym c.ends_at.ensures ∙ c.if-not-ends_at.true))

pub returns : goal.returns
returns c =
    let a = c.args in
    c.all_digits.ensures ∙ by_digits a.text.now a.at (omega arith) (omega arith) (sym c.ends_at.ensures ∙ c.if-not-ends_at.false)
