-- `line::one::write_answer` meets its contract: what is written is the answer. Assumes nothing.
use Rattle.line.proofs.one.write_answer.Goals as goal

pub returns : goal.returns
returns c = (cc, cc)
