-- The word of the flags meets its contract: a shift makes room, and the digit that is put in adds to the word. Assumes nothing.
use Rattle.flags.proofs.{WordLaws.pushed_six}
use Rattle.flags.proofs.word.U16FromFlags.from.Goals as goal

pub returns : goal.returns
returns c = pushed_six c.args.flags
