-- `text::digits::digit_table` meets its contract: the rule is computed once, over all entries. Assumes nothing.
use mathlib.Core.Path.{refl}
use Rattle.text.specs.Digits.{digit_of}
use Rattle.numbers.proofs.Tables.{held}
use Rattle.text.proofs.digits.digit_table.Goals as goal

pub returns : goal.returns
unfolding digit_of
returns c = held tt refl
