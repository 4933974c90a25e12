-- The invariant: what is done, then the run over the rest, is the whole run. Assumes nothing.
use mathlib.Core.Path.{◌≡◌}
use Prim.Native.Nat.{◌-◌, ◌*◌, ◌/◌, ◌≤◌}
use lib.ListN.{length, take, drop}
use Rattle.line.specs.Run.{after, run_of}
use Rattle.line.proofs.run.run.Given as goal

abbrev pub invariant-loop-answered : goal.invariant-loop-answered
invariant-loop-answered l =
    (l.answered ≤ l.room) × (l.used ≤ length l.text) × (l.room ≡ length l.fn.out / 19) × (length l.out ≡ length l.fn.out) × (after (take (l.answered * 19) l.out) l.answered l.used (run_of (l.room - l.answered) l.at_end (drop l.used l.text) (drop (l.answered * 19) l.out)) ≡ run_of l.room l.at_end l.text l.fn.out)
