-- `text::digits::digit` meets its contract: the table holds the rule. Assumes nothing.
use native.Mathlib.Omega.{arith}
use borrow.Author.Rules.{rules}
use Rattle.text.proofs.Below.{under, not_under}
use Rattle.text.proofs.digits.digit.Goals as goal

pub returns-then-number-lt16 : goal.returns-then-number-lt16
returns-then-number-lt16 c = under (c.digit_table.ensures.rule c.args.byte (search rules)) c.if-number-lt16.true

pub returns-else-number-lt16 : goal.returns-else-number-lt16
returns-else-number-lt16 c = not_under (omega (arith, c.digit_table.ensures.rule c.args.byte (search rules), c.if-number-lt16.false))
