-- `alu::at_once::sar` meets its contract: the signs above the number, moved by no more than the bits. Assumes nothing.
use native.Mathlib.Omega.{arith}
use Rattle.alu.proofs.{AtOnceLaws.sar-at_once}
use Rattle.alu.proofs.at_once.sar.Goals as goal

pub returns : goal.returns
returns c =
    let a = c.args in
    sar-at_once a.bits (omega arith) a.number a.count (omega arith) c.sign.ensures c.ones.ensures (omega arith) _ c.places.ensures c.window.ensures
