-- `text::hex::value` meets its contract: the rule without a table is the digit's number. Assumes nothing.
use Rattle.text.proofs.{DigitsAt.value_is}
use Rattle.text.proofs.hex.value.Goals as goal

pub returns : goal.returns
returns c = value_is c.args.byte c.requires
