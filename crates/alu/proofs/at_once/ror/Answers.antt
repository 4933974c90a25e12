-- `alu::at_once::ror` meets its contract: the number beside itself, from the rest of the count on. Assumes nothing.
use native.Mathlib.{Omega.arith}
use Rattle.alu.proofs.{AtOnceLaws.ror-at_once}
use Rattle.alu.proofs.at_once.ror.Goals as goal

pub returns : goal.returns
returns c =
    let a = c.args in
    ror-at_once a.bits (omega arith) a.number a.count (omega arith) (omega arith) c.window.ensures
