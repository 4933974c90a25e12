-- `packed::string::choose` meets its contract. The invariant: what is chosen, and what is then to be chosen from here, is all of it.
-- Assumes nothing.
use mathlib.Core.Path.{◌≡◌}
use Prim.Native.Nat.{◌≤◌}
use lib.ListN.{drop}
use Rattle.packed.specs.Halves.{half_of, chosen, onto}
use Rattle.packed.proofs.{HalvesLaws.choosing}
use Rattle.packed.proofs.string.choose.Given as goal

abbrev pub invariant-loop-i : goal.invariant-loop-i
invariant-loop-i l =
    (l.half ≤ 32) × (choosing l.bytes l.halves l.size l.out l.half l.i ≡ onto (chosen l.bytes l.halves l.size 0 (half_of l.carry)) (drop l.size l.initial.out))
