-- `packed::string::make_both` meets its contract. The invariant: so many bytes are made for either carry. Assumes nothing.
use Rattle.packed.specs.{Sum.operation_of, Halves.Made}
use Rattle.packed.proofs.string.make_both.Given as goal

abbrev pub invariant-loop-i : goal.invariant-loop-i
invariant-loop-i g l = Made (operation_of g.O.Operation.subtracts) l.x l.y l.i l.bytes l.halves
