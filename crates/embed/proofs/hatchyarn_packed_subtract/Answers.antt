-- `embed::hatchyarn_packed_subtract` meets its contract: what `subtract` leaves, told. Assumes nothing.
use Rattle.packed.specs.Sum.{minus}
use Rattle.packed.proofs.ToldLaws.{tells}
use Rattle.embed.proofs.hatchyarn_packed_subtract.Goals as goal

pub returns : goal.returns
returns c =
    tells minus c.args.x.now c.args.y.now c.args.borrow c.args.out.now c.args.borrow_out.now c.subtract.ensures c.tell.ensures.0 c.tell.ensures.1
