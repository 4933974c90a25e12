-- `hatchyarn::block::answer_block` meets its contract: what is kept of what is left is all, or more than 20 bytes. Assumes nothing.
use Rattle.std.proofs.Common.{◌≡◌, ◌+◌, ◌-◌, arith}
use Rattle.hatchyarn.proofs.KeptLaws.{keeps_some}
use Rattle.hatchyarn.proofs.block.answer_block.Goals as goal

pub returns-clause-keeps : goal.returns-clause-keeps
returns-clause-keeps c =
    let used = c.in_ok-used.used in
    let n = c.min-kept.result in
    let size : used + n - used ≡ n = omega arith in
    rw size (keeps_some c.args.at_end n used c.args.text.now c.in_ok-used.ensures.all (omega (arith, c.min-kept.ensures)) (λ less. omega (arith, less, c.min-kept.ensures)))
