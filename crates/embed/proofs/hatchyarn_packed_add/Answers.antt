-- `embed::hatchyarn_packed_add` meets its contract: what `add` leaves, told. Assumes nothing.
use Rattle.packed.specs.Sum.{plus}
use Rattle.packed.proofs.ToldLaws.{tells}
use Rattle.embed.proofs.hatchyarn_packed_add.Goals as goal

pub returns : goal.returns
returns c =
    tells plus c.args.x.now c.args.y.now c.args.carry c.args.out.now c.args.carry_out.now c.add.ensures c.tell.ensures.0 c.tell.ensures.1
