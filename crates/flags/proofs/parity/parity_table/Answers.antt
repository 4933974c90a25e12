-- `flags::parity::parity_table` meets its contract: the rule is computed once, over all 256 entries. Assumes nothing.
use mathlib.Core.Path.{refl}
use lib.Count.{ones, ones_in}
use Rattle.flags.specs.Parity.{even_ones}
use Rattle.numbers.proofs.Tables.{held}
use Rattle.flags.proofs.parity.parity_table.Goals as goal

pub returns : goal.returns
unfolding even_ones ones ones_in
returns c = held tt refl
