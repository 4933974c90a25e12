-- `readback::judge::reason` meets its contract: the tests in their order. Assumes nothing.
use mathlib.Core.{Path.sym, Path.ap, Path.◌∙◌, Bool.not}
use Rattle.readback.proofs.JudgeLaws.{outside_is}
use Rattle.readback.proofs.judge.reason.Goals as goal

pub returns-then-not-is_status : goal.returns-then-not-is_status
returns-then-not-is_status c = rw (sym c.is_status.ensures ∙ c.if-not-is_status.true)

pub returns-then-not-is_flags : goal.returns-then-not-is_flags
returns-then-not-is_flags c =
    rw (sym c.is_status.ensures ∙ c.if-not-is_status.false, outside_is _ ∙ ap not (sym c.is_flags.ensures ∙ c.if-not-is_flags.true))

pub returns : goal.returns
returns c =
    rw (sym c.is_status.ensures ∙ c.if-not-is_status.false, outside_is _ ∙ ap not (sym c.is_flags.ensures ∙ c.if-not-is_flags.false))
