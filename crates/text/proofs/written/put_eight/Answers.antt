-- `text::written::put_eight` meets its contract: the eight bytes are copied where they belong. Assumes nothing.
use mathlib.Core.{Path.◌≡◌, Path.sym, Path.ap, Path.◌∙◌, List.List, List.◌++◌, List.append_assoc}
use Prim.Native.Nat.{ℕ, ◌+◌, ◌-◌}
use native.Mathlib.Omega.{arith}
use lib.{ListN.take, ListN.drop, Seq.drop-drop, Seq.sets-eq}
use borrow.Rule.Slice.PartMut.{put_mid}
use Rattle.text.specs.{Digits.capital_of, Written.four}
use Rattle.text.proofs.{CapitalLaws.stored}
use Rattle.text.proofs.written.put_eight.Goals as goal

pub returns : goal.returns
returns c =
    let a = c.args in
    let digits = four capital_of a.first ++ four capital_of a.second in
    let eight : a.at + 8 - a.at ≡ 8 = omega arith in
    let bytes = c.copy_from_slice.ensures.after ∙ c.to_le_bytes.ensures ∙ stored a.first a.second c.eight_capitals.result c.ranges.first.fits c.ranges.second.fits c.eight_capitals.ensures in
    (λ i. put_mid a.at (eight i) a.out.now (bytes i)) ∙ ap (λ (rest : List ℕ). take a.at a.out.now ++ (digits ++ rest)) (drop-drop 8 a.at a.out.now) ∙ sym (append_assoc (take a.at a.out.now) digits (drop (a.at + 8) a.out.now)) ∙ sym (sets-eq digits a.out.now a.at (omega arith))
