-- `readback::reader::ends_at` meets its contract: the text's end, or a line feed. Assumes nothing.
use borrow.Author.{Tests.eq-eqb, Tests.ne_eqb}
use Rattle.readback.proofs.reader.ends_at.Goals as goal

pub returns-then-at-text : goal.returns-then-at-text
returns-then-at-text c = rw (eq-eqb _ _ c.if-at-text.true)

pub returns : goal.returns
returns c = rw (ne_eqb _ _ c.if-at-text.false)
