-- `embed::hatchyarn_read_answer` meets its contract: what was read, told. Assumes nothing.
use Rattle.embed.proofs.hatchyarn_read_answer.Goals as goal

pub returns : goal.returns
returns c = (cc, cc)
