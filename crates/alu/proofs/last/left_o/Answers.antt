-- `alu::last::left_o` meets its contract: C against the top bit. Assumes nothing.
use mathlib.Core.Bool.{xor}
use Rattle.alu.proofs.last.left_o.Goals as goal

pub returns : goal.returns
unfolding xor
returns g c = rw (c.of_last.ensures, c.top_set.ensures)
