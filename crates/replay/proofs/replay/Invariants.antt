-- The loop of `replay::replay`: what is counted so far, and then the rest, is the count of the whole block. Assumes nothing.
use Rattle.std.proofs.Common.{◌≡◌, ◌-◌, ◌^◌, ◌<◌, ◌≤◌, length}
use Rattle.replay.specs.Counted.{count_on}
use Rattle.replay.proofs.CountLaws.{count_from}
use Rattle.replay.proofs.replay.Given as goal

abbrev pub invariant-loop-recorded : goal.invariant-loop-recorded
invariant-loop-recorded l =
    (length l.rest ≤ length l.block) × (l.records < 2 ^ 64) × (l.differ < 2 ^ 64)
    × (count_from (length l.block - length l.rest) l.records l.differ l.rest ≡ count_on l.fn.before l.block)

abbrev pub decreases-loop-recorded : goal.decreases-loop-recorded
decreases-loop-recorded l = length l.rest
