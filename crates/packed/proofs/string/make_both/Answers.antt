-- `packed::string::make_both` meets its contract. The invariant: so many bytes are made for either carry. Assumes nothing.
use native.Mathlib.Omega.{arith}
use Rattle.packed.specs.Sum.{operation_of}
use Rattle.packed.proofs.{HalvesLaws.made_more}
use Rattle.packed.proofs.string.make_both.Goals as goal

pub loop-i-preserved : goal.loop-i-preserved
loop-i-preserved g c =
    made_more (operation_of g.O.Operation.subtracts) c.args.x.now c.args.y.now c.loop-i.i c.loop-i.bytes c.loop-i.halves c.loop-i.invariant (omega arith) c.work_byte-without.ensures c.work_byte-with.ensures
