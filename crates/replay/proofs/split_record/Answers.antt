-- `replay::split_record` meets its contract: a record ends at the first line feed. Assumes nothing.
use Rattle.std.proofs.Common.{◌≡◌, ℕ, suc, ◌+◌, ◌-◌, ◌<◌, List, length, take, drop, sym, ap, ◌∙◌, arith, length-drop, take_all}
use lib.Seq.{length-take-le}
use Rattle.text.specs.Lines.{line_length, line_end}
use Rattle.text.proofs.LineLaws.{end_within}
use Rattle.replay.proofs.{CountLaws.first_record, CountLaws.no_record}
use Rattle.replay.proofs.split_record.Goals as goal

-- the end that was found is the length of the first line
module _ (text : List ℕ) (end : ℕ) (found : end ≡ line_end text 0) where
  length_is : end ≡ line_length text
  length_is = omega (arith, found)

  before : (end ≡ length text → ⊥) → end < length text
  before on = omega (arith, found, on, end_within text 0 (omega arith))

  behind : (end ≡ length text → ⊥) → take (length text - (end + 1)) (drop (end + 1) text) ≡ drop (suc end) text
  behind on =
      let next : end + 1 ≡ suc end = omega arith in
      take_all (length text - (end + 1)) (drop (end + 1) text) (omega (arith, length-drop (end + 1) text)) ∙ ap (λ k. drop k text) next

pub returns-then-end-text-clause-none : goal.returns-then-end-text-clause-none
returns-then-end-text-clause-none c = λ none. no_record c.args.text.now (omega (arith, c.if-end-text.true, length_is c.args.text.now c.line_end-end.result c.line_end-end.ensures))

pub slice_bounds-result-end : goal.slice_bounds-result-end
slice_bounds-result-end c =
    let inside = before c.args.text.now c.line_end-end.result c.line_end-end.ensures c.if-end-text.false in
    sym (length-take-le c.line_end-end.result c.args.text.now (omega (arith, inside)))

pub overflow_add-result : goal.overflow_add-result
overflow_add-result c = omega (arith, before c.args.text.now c.line_end-end.result c.line_end-end.ensures c.if-end-text.false)

pub slice_bounds-result-count : goal.slice_bounds-result-count
slice_bounds-result-count c = omega (arith, before c.args.text.now c.line_end-end.result c.line_end-end.ensures c.if-end-text.false)

pub slice_bounds-result-start : goal.slice_bounds-result-start
slice_bounds-result-start c = slice_bounds-result-count c

pub returns-clause-first : goal.returns-clause-first
returns-clause-first c =
    let text = c.args.text.now in
    let end = c.line_end-end.result in
    let found = c.line_end-end.ensures in
    let on = c.if-end-text.false in
    rw (behind text end found on, length_is text end found) (first_record text (omega (arith, before text end found on, length_is text end found)))

pub returns-clause-size : goal.returns-clause-size
returns-clause-size c =
    let text = c.args.text.now in
    let end = c.line_end-end.result in
    let found = c.line_end-end.ensures in
    let inside = before text end found c.if-end-text.false in
    rw (behind text end found c.if-end-text.false) (omega (arith, inside, length-take-le end text (omega (arith, inside)), length-drop (suc end) text))
