-- `text::found::sought` meets its contract: what is read is the line up to its end. Assumes nothing.
use mathlib.Core.Path.{◌≡◌, ap, ◌∙◌}
use Prim.Native.Nat.{ℕ, ◌-◌}
use native.Mathlib.Omega.{arith}
use lib.ListN.{take, drop}
use Rattle.text.specs.{Fields.read_of, Lines.line_length}
use Rattle.text.proofs.{LineLaws.end_within}
use Rattle.text.proofs.found.sought.Goals as goal

pub returns : goal.returns
returns c =
    let a = c.args in
    let end = c.line_end-end in
    let n : end.result - a.from ≡ line_length (drop a.from a.text.now) = omega (arith, end.ensures) in
    let read = c.read_fields.ensures ∙ ap (λ (k : ℕ). read_of (take k (drop a.from a.text.now))) n in
    λ i. record { read = read i; end = end.ensures i }

pub slice_bounds-read_fields-end : goal.slice_bounds-read_fields-end
slice_bounds-read_fields-end c = let a = c.args in omega (arith, c.line_end-end.ensures, end_within a.text.now a.from (omega arith))
