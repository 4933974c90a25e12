-- `readback::one::read_answer` meets its contract: the length, the digits, and the record. Assumes nothing.
use mathlib.Core.{Path.◌≡◌, Path.sym, Path.ap, Path.◌∙◌, Bool.Bool, List.List}
use Prim.Native.Nat.{ℕ}
use native.Mathlib.Omega.{arith}
use lib.{ListN.length, ListN.take, ListN.drop, Seq.take_all}
use borrow.Author.{Rules.rules, Tests.eq-eqb, Tests.ne_eqb}
use Rattle.text.specs.Plain.{all_digits}
use Rattle.readback.specs.Judge.{record_in, judged, read_back}
use Rattle.readback.proofs.one.read_answer.Goals as goal

-- the first 18 bytes are all of them
whole : (line : List ℕ) → length line ≡ 18 → take 18 line ≡ line
whole line h = take_all 18 line (omega arith)

-- whether they are digits, as it was tested
tested : (line : List ℕ) (b k : Bool) → length line ≡ 18 → b ≡ all_digits (take 18 (drop 0 line)) → b ≡ k → all_digits line ≡ k
tested line b k h q e = ap all_digits (sym (whole line h)) ∙ sym q ∙ e

pub returns-then-line-ne-DIGITS : goal.returns-then-line-ne-DIGITS
unfolding read_back
returns-then-line-ne-DIGITS c = rw (ne_eqb _ _ c.if-line-ne-DIGITS.true)

pub returns-then-not-all_digits : goal.returns-then-not-all_digits
unfolding read_back
returns-then-not-all_digits c =
    let h = c.if-line-ne-DIGITS.false in
    rw (eq-eqb _ _ h, tested c.args.line.now _ _ h c.all_digits.ensures c.if-not-all_digits.true)

pub record_at-requires : goal.record_at-requires
record_at-requires c = record { at_in_bounds = search rules; text_value = sym c.all_digits.ensures ∙ c.if-not-all_digits.false }

pub returns : goal.returns
unfolding read_back
returns c =
    let h = c.if-line-ne-DIGITS.false in
    rw (eq-eqb _ _ h, tested c.args.line.now _ _ h c.all_digits.ensures c.if-not-all_digits.false)
    (c.judge.ensures ∙ ap judged (c.record_at.ensures ∙ ap record_in (whole c.args.line.now h)))
