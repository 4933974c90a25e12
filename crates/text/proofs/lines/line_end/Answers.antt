-- `text::lines::line_end` meets its contract. The invariant: from here on the line ends where it does from its start. Assumes nothing.
use native.Mathlib.Omega.{arith}
use Rattle.text.proofs.{LineLaws.at_feed, LineLaws.at_byte, LineLaws.at_end}
use Rattle.text.proofs.lines.line_end.Goals as goal

pub returns-then-text-at-eq10 : goal.returns-then-text-at-eq10
returns-then-text-at-eq10 c =
    let e = at_feed c.args.text.now c.loop-at.at (omega arith) c.if-text-at-eq10.true in
    omega (arith, e)

pub loop-at-preserved : goal.loop-at-preserved
loop-at-preserved c =
    let e = at_byte c.args.text.now c.loop-at.at (omega arith) c.if-text-at-eq10.false in
    (omega arith, omega (arith, e))

pub returns : goal.returns
returns c = omega (arith, at_end c.args.text.now c.loop-at.at (omega arith))
