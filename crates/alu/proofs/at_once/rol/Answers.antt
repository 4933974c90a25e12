-- `alu::at_once::rol` meets its contract: the number beside itself, read from the other end. Assumes nothing.
use native.Mathlib.{Omega.arith}
use Rattle.alu.proofs.{AtOnceLaws.rol-at_once}
use Rattle.alu.proofs.at_once.rol.Goals as goal

pub returns : goal.returns
returns c =
    let a = c.args in
    rol-at_once a.bits (omega arith) a.number a.count (omega arith) (omega arith) c.window.ensures
