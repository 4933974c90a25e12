-- `line::one::answer_line` meets its contract, with and without room for 19 bytes. Assumes nothing.
use borrow.Author.{Tests.lt-ltb, Tests.le-ltb, Rules.rules}
use mathlib.Core.{Path.ap, Path.◌∙◌, List.◌++◌}
use lib.ListN.{drop}
use Rattle.text.specs.Fields.{Read}
use Rattle.line.specs.One.{answer_by, text_by, answer_of, text_of}
use Rattle.line.proofs.one.answer_line.Goals as goal

pub returns-then-out-lt19 : goal.returns-then-out-lt19
returns-then-out-lt19 c = simp (lt-ltb _ _ c.if-out-lt19.true) (search rules)

pub returns : goal.returns
unfolding answer_of text_of
returns c =
    let read = c.read_fields in
    let h = le-ltb _ _ c.if-out-lt19.false in
    let out = c.args.out.now in
    (rw h (c.write_answer.ensures.0 ∙ ap (λ (q : Read). (answer_by q).status) read.ensures), rw h (c.write_answer.ensures.1 ∙ ap (λ (q : Read). text_by (answer_by q) ++ drop 19 out) read.ensures))
