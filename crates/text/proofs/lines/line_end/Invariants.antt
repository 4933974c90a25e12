-- `text::lines::line_end` meets its contract. The invariant: from here on the line ends where it does from its start. Assumes nothing.
use mathlib.Core.Path.{◌≡◌}
use Prim.Native.Nat.{◌+◌, ◌≤◌}
use lib.ListN.{length, drop}
use Rattle.text.specs.Lines.{line_length}
use Rattle.text.proofs.lines.line_end.Given as goal

abbrev pub invariant-loop-at : goal.invariant-loop-at
invariant-loop-at l = (l.at ≤ length l.text) × (l.at + line_length (drop l.at l.text) ≡ l.from + line_length (drop l.from l.text))
