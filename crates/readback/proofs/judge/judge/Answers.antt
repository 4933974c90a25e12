-- `readback::judge::judge` meets its contract: the three tests at once. Assumes nothing.
use mathlib.Core.Path.{ap, ◌∙◌}
use Rattle.std.proofs.Common.{Err}
use Rattle.readback.specs.{declared.judge.Refusal.Refusal}
use Rattle.readback.proofs.JudgeLaws.{judged_by_lem}
use Rattle.readback.proofs.judge.judge.Goals as goal

pub returns-then-is_status-is_flags : goal.returns-then-is_status-is_flags
returns-then-is_status-is_flags c =
    judged_by_lem _ c.is_status.ensures c.is_flags.ensures c.not_zero.ensures _ c.if-is_status-is_flags.true

pub returns : goal.returns
returns c =
    ap (λ (why : Refusal). Err why) c.reason.ensures
    ∙ judged_by_lem _ c.is_status.ensures c.is_flags.ensures c.not_zero.ensures _ c.if-is_status-is_flags.false
