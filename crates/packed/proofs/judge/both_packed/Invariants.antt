-- `packed::judge::both_packed` meets its contract. The invariant: what was seen and what is left are packed exactly if all is. Assumes nothing.
use mathlib.Core.{Path.◌≡◌, Bool.◌&&◌}
use lib.ListN.{length, drop}
use Rattle.packed.specs.Digits.{all_packed}
use Rattle.packed.proofs.judge.both_packed.Given as goal

abbrev pub invariant-loop-left : goal.invariant-loop-left
invariant-loop-left l =
    (l.packed && (all_packed (drop (length l.yielded) l.x) && all_packed (drop (length l.yielded) l.y))) ≡ (all_packed l.x && all_packed l.y)
