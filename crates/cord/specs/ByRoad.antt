-- CORD's steps road by road, as the microcode makes them. No contract cites them: the chart's total does (`cord_steps`), and the law
-- `road_by-road` says that they add up to it. Assumes nothing.
use Rattle.std.specs.Prelude.{ℕ, ◌+◌, ◌-◌, ◌*◌, ◌/◌, ◌%◌}
use Rattle.cord.specs.Cord.{Road, shifted_out, no_borrow, borrow, tally}

-- a round takes 7 steps, or 8 by no borrow, and the jump back to the next 1
abbrev pub road_steps : Road → ℕ
road_steps shifted_out = 7 + 1
road_steps no_borrow = 8 + 1
road_steps borrow = 7 + 1

-- of k rounds
abbrev pub walk_steps : ℕ → ℕ → ℕ → ℕ → ℕ
walk_steps = tally road_steps

-- 3 before the rounds; no jump back after the last; 4 at the end, and 2 more by way of a last bit 1
abbrev pub steps_by_road : ℕ → ℕ → ℕ → ℕ
steps_by_road n b d = 3 + (walk_steps n b n d - 1) + (4 + 2 * (d / b % 2))
