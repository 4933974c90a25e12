-- `embed::hatchyarn_next_answer` meets its contract: what was handed out, told. Assumes nothing.
use Rattle.embed.proofs.hatchyarn_next_answer.Goals as goal

pub returns : goal.returns
returns c = cc
