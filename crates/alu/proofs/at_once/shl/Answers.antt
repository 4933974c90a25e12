-- `alu::at_once::shl` meets its contract: a shift by no more than the bits, cut to them, is all steps. Assumes nothing.
use native.Mathlib.Omega.{arith}
use Rattle.alu.proofs.{AtOnceLaws.shl-at_once}
use Rattle.alu.proofs.at_once.shl.Goals as goal

pub returns : goal.returns
returns c =
    let a = c.args in
    shl-at_once a.bits (omega arith) a.number a.count (omega arith) c.places.ensures c.ones.ensures
