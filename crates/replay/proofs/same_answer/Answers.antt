-- `replay::same_answer` meets its contract: an answer's 18 digits do not depend on what stood in its room. Assumes nothing.
use mathlib.Core.{Path.◌≡◌, Path.refl, Path.ap, Path.◌∙◌, List.List}
use Rattle.std.proofs.Common.{ℕ, ◌-◌, ◌≤◌, arith}
use lib.{Dec.eqb, Pointwise.pointwise, Pointwise.bytes_decides, ListN.length, ListN.take, ListN.drop, ListN.replicate, ListN.length-drop, Seq.take_all, Seq.take-append-le}
use borrow.Author.{Tests.lt-ltb, Tests.le-ltb}
use Rattle.line.specs.One.{text_of, answered}
use Rattle.line.proofs.Turns.{text_of_length}
use Rattle.replay.specs.Record.{same_text, right}
use Rattle.replay.proofs.{RecordLaws.tells}
use Rattle.replay.proofs.same_answer.Goals as goal

-- the 18 digits of an answer, where the request is what stands behind the 19th byte
digits_are : (recorded room : List ℕ) → length room ≡ 19 → take 18 (answered (take (length recorded - 19) (drop 19 recorded)) room) ≡ take 18 (text_of (drop 19 recorded))
digits_are recorded room n =
    let request = drop 19 recorded in
    let whole : take (length recorded - 19) request ≡ request = take_all (length recorded - 19) request (omega (arith, length-drop 19 recorded)) in
    let behind : 18 ≤ length (text_of request) = omega (arith, text_of_length request) in
    rw (whole, n, take-append-le 18 (text_of request) (drop 19 room) behind)

pub returns-then-recorded-lt-REQUEST : goal.returns-then-recorded-lt-REQUEST
unfolding right
returns-then-recorded-lt-REQUEST c = rw (lt-ltb _ _ c.if-recorded-lt-REQUEST.true)

pub returns : goal.returns
unfolding right
returns c =
    let line = c.answer_line in
    let recorded = c.args.recorded.now in
    let digits = ap (take 18) line.ensures.1 ∙ digits_are recorded (replicate 19 0) refl in
    let shown = take 18 line.new.out in
    let equal = bytes_decides (take 18 recorded) shown in
    let told = tells (pointwise eqb (take 18 recorded) shown) (take 18 recorded) shown equal.0 equal.1 in
    rw (le-ltb _ _ c.if-recorded-lt-REQUEST.false) (c.eq.ensures ∙ told ∙ ap (same_text (take 18 recorded)) digits)
