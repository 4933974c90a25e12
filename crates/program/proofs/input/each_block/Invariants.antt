-- The loop of `program::input::each_block`: what is kept lies within the buffer, and is nothing or what a step kept. Assumes nothing.
use Rattle.std.proofs.Common.{◌≡◌, ◌⊎◌, ◌-◌, ◌≤◌, length, Ok}
use Rattle.program.proofs.input.each_block.Given as goal

abbrev pub invariant-loop : goal.invariant-loop
invariant-loop g l =
    goal.F-IsAlwaysCallable g l.step
    × (l.kept ≤ length l.buffer)
    × ((l.kept ≡ 0) ⊎ ((f : _) × (block : _) × (at_end : _) × (left : _) × (f' : _) × goal.F-step g f block at_end (Ok left) f' × (l.kept ≡ left.end - left.start)))
