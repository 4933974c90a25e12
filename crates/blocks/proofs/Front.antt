-- What stands at the front of the buffer when bytes were moved there. Assumes nothing.
use mathlib.Core.{Path.◌≡◌, Path.sym, Path.ap, Path.◌∙◌, List.List, List.◌++◌}
use Prim.Native.Nat.{ℕ, ◌+◌, ◌-◌, ◌≤◌}
use native.Mathlib.Omega.{arith}
use lib.{ListN.length, ListN.take, ListN.drop, ListN.length-drop, Seq.length-take-le, Seq.take_at, Seq.drop_at, Seq.take-add}

-- of the first `to` bytes those from `from` on
pub at_front : (buffer moved : List ℕ) (from to : ℕ) → from ≤ to → to ≤ length buffer → moved ≡ take (to - from) (drop from buffer) ++ drop (to - from) buffer
    → take (to - from) moved ≡ drop from (take to buffer)
at_front buffer moved from to ordered inside is-moved =
    let part = take (to - from) (drop from buffer) in
    let size : length part ≡ to - from = length-take-le (to - from) (drop from buffer) (omega (arith, length-drop from buffer)) in
    let sum : to ≡ from + (to - from) = omega arith in
    let parts : take to buffer ≡ take from buffer ++ part = ap (λ (k : ℕ). take k buffer) sum ∙ take-add from (to - from) buffer in
    let before : length (take from buffer) ≡ from = length-take-le from buffer (omega arith) in
    rw (is-moved, take_at part (drop (to - from) buffer) (to - from) size, parts) (sym (drop_at (take from buffer) part from before))
