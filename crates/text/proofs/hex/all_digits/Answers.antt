-- `text::hex::all_digits` meets its contract: the fold sees every byte. Assumes nothing.
use mathlib.Core.{Path.◌≡◌, Path.ap, Path.◌∙◌}
use Prim.Native.Nat.{ℕ, ◌+◌, ◌-◌}
use native.Mathlib.Omega.{arith}
use lib.ListN.{take, drop}
use Rattle.text.specs.Plain.{all_digits}
use Rattle.text.proofs.Scans.{all_folded}
use Rattle.text.proofs.hex.all_digits.Goals as goal

pub returns : goal.returns
returns c =
    let a = c.args in
    let count : a.from + a.count - a.from ≡ a.count = omega arith in
    c.are_digits.ensures ∙ all_folded (take (a.from + a.count - a.from) (drop a.from a.text.now)) ∙ ap (λ (n : ℕ). all_digits (take n (drop a.from a.text.now))) count
