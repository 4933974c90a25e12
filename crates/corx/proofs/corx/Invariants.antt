-- `corx::corx` meets its contract by the laws of the walk. The invariant: k rounds are made, and k and the counter are one less than the bits together.
-- Assumes nothing.
use mathlib.Core.Path.{◌≡◌}
use Prim.Native.Nat.{ℕ, ◌+◌}
use Rattle.corx.proofs.CorxLaws.{multiplier, Walked}
use Rattle.corx.proofs.corx.Given as goal

abbrev pub invariant-loop-internal_counter : goal.invariant-loop-internal_counter
invariant-loop-internal_counter g l =
    (k : ℕ)
    × Walked (g.N.Number.value l.fn.tmpb) (multiplier g.N.Number.BITS (g.N.Number.value l.fn.tmpc) l.fn.carry) l.fn.steps k l.at
    × (k + l.internal_counter + 1 ≡ g.N.Number.BITS)

abbrev pub decreases-loop-internal_counter : goal.decreases-loop-internal_counter
decreases-loop-internal_counter g l = l.internal_counter
