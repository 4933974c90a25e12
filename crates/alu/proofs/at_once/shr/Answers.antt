-- `alu::at_once::shr` meets its contract: a shift by no more than the bits is all steps. Assumes nothing.
use native.Mathlib.Omega.{arith}
use Rattle.alu.proofs.{AtOnceLaws.shr-at_once}
use Rattle.alu.proofs.at_once.shr.Goals as goal

pub returns : goal.returns
returns c =
    let a = c.args in
    shr-at_once a.bits (omega arith) a.number a.count (omega arith) _ c.places.ensures
