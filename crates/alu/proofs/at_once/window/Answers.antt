-- `alu::at_once::window` meets its contract: two halves put together, moved and cut. Assumes nothing.
use native.Mathlib.Omega.{arith}
use Rattle.alu.proofs.{AtOnceLaws.window_is}
use Rattle.alu.proofs.at_once.window.Goals as goal

pub returns : goal.returns
returns c =
    let a = c.args in
    window_is a.bits (omega arith) a.place (omega arith) (omega arith) c.ones.ensures
