-- `readback::reader::bad_line` meets its contract: the length decides, and the place is past the line. Assumes nothing.
use mathlib.Core.{Path.◌≡◌, Path.◌∙◌, Bool.true}
use native.Mathlib.Omega.{arith}
use lib.ListN.{drop}
use borrow.Author.{Tests.eq-eqb, Tests.ne_eqb}
use Rattle.text.specs.Lines.{line_length}
use Rattle.text.proofs.NextLine.{next-takes}
use Rattle.readback.proofs.{NextLaws.at_line, NextLaws.at_other}
use Rattle.readback.proofs.reader.bad_line.Goals as goal

pub returns-then-end-at-eq-DIGITS : goal.returns-then-end-at-eq-DIGITS
returns-then-end-at-eq-DIGITS c =
    let a = c.args in
    let past = c.unwrap_or-place.ensures ∙ c.next_start.ensures.0 ∙ next-takes a.text.now a.at _ true (omega arith) c.line_end-end.ensures in
    let long : line_length (drop a.at a.text.now) ≡ 18 = omega (arith, c.line_end-end.ensures, c.if-end-at-eq-DIGITS.true) in
    c.step.ensures ∙ at_line a.text.now a.at (omega arith) (at_other a.text.now a.at (omega arith) c.requires.at_value _ (eq-eqb _ 18 long)) past

pub returns : goal.returns
returns c =
    let a = c.args in
    let past = c.unwrap_or-place.ensures ∙ c.next_start.ensures.0 ∙ next-takes a.text.now a.at _ true (omega arith) c.line_end-end.ensures in
    c.step-2.ensures ∙ at_line a.text.now a.at (omega arith) (at_other a.text.now a.at (omega arith) c.requires.at_value _ (ne_eqb (line_length (drop a.at a.text.now)) 18 (λ e. c.if-end-at-eq-DIGITS.false (omega (arith, e, c.line_end-end.ensures))))) past

pub overflow_sub-end : goal.overflow_sub-end
overflow_sub-end c = omega (arith, c.line_end-end.ensures)
