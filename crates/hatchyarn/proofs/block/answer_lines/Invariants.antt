-- The loop of `hatchyarn::block::answer_lines`: what a whole run uses is what was used so far, and then what it uses of the rest. Assumes nothing.
use Rattle.std.proofs.Common.{◌≡◌, ◌+◌, ◌-◌, ◌≤◌, length}
use Rattle.line.specs.Whole.{whole}
use Rattle.hatchyarn.proofs.block.answer_lines.Given as goal

abbrev pub invariant-loop-room : goal.invariant-loop-room
invariant-loop-room l =
    (length l.rest ≤ length l.text) × (length l.room ≡ length l.fn.room) × ((whole l.at_end l.text).used ≡ length l.text - length l.rest + (whole l.at_end l.rest).used)

abbrev pub decreases-loop-room : goal.decreases-loop-room
decreases-loop-room l = length l.rest
