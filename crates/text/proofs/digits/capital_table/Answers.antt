-- `text::digits::capital_table` meets its contract: the rule is computed once, over all entries. Assumes nothing.
use mathlib.Core.Path.{refl}
use Rattle.text.specs.Digits.{capital_of}
use Rattle.numbers.proofs.Tables.{held}
use Rattle.text.proofs.digits.capital_table.Goals as goal

pub returns : goal.returns
unfolding capital_of
returns c = held tt refl
