-- `line::run::run` meets its contract: a line more, no room any more, and no line any more. Assumes nothing.
use mathlib.Core.{Path.◌≡◌, Path.refl, Path.ap, Path.◌∙◌, Bool.Bool, List.List, List.◌++◌}
use Prim.Native.Nat.{ℕ, ◌+◌, ◌-◌, ◌*◌, ◌/◌, ◌≤◌}
use native.Mathlib.Omega.{arith}
use lib.ListN.{length, drop, length-drop}
use borrow.Rule.Slice.PartMut.{same_len_mid}
use Rattle.text.specs.{declared.found.Found.Found, Fields.Read, Fields.read_of, Lines.line_at, Lines.takes, Lines.found_of, Lines.next_of}
use Rattle.text.proofs.NextLine.{takes_within, next-takes, next_moves}
use Rattle.line.specs.{One.answer_by, One.text_by, One.answer_of, One.text_of, Run.done}
use Rattle.line.proofs.Turns.{text_of_length, stops, full, ended, again}
use Rattle.line.proofs.run.run.Goals as goal

-- what is written for the line that was read is its answer
line-answer : (text : List ℕ) (used : ℕ) (read : Read) (rest : List ℕ) → read ≡ read_of (line_at text used) → text_by (answer_by read) ++ rest ≡ text_of (line_at text used) ++ rest
unfolding text_of answer_of
line-answer text used read rest q = rw q

-- where the next line starts
next : (text : List ℕ) (used start : ℕ) (found : Found) (e : Bool) → used ≤ length text → found ≡ found_of text used → start ≡ next_of used found.end (length text) e
    → start ≡ used + takes e (drop used text)
next text used start found e within q h = h ∙ next-takes text used found.end e within (ap (λ (f : Found). f.end) q)

pub loop-answered-preserved : goal.loop-answered-preserved
loop-answered-preserved c =
    let l = c.loop-answered in
    let a = c.args in
    let rest = drop l.used a.text.now in
    let at = l.answered * 19 in
    let k = at + 19 - at in
    let lent = c.write_answer in
    let found = c.read_at-line.ensures in
    let end : l.used ≤ c.read_at-line.result.end = omega (arith, ap (λ (f : Found). f.end) found) in
    let on = next a.text.now l.used c.in-Some.next c.read_at-line.result a.at_end l.invariant.1 found c.in-Some.ensures.0 in (
      omega arith,
      omega (arith, on, takes_within a.at_end rest, length-drop l.used a.text.now),
      refl,
      same_len_mid at k l.out lent.new.out lent.auto.out ∙ l.invariant.3,
      again text_of text_of_length a.text.now l.out lent.new.out (length a.out.now / 19) l.answered l.used c.in-Some.next k a.at_end (omega arith) on (next_moves l.used c.read_at-line.result.end (length a.text.now) c.in-Some.next a.at_end end c.in-Some.ensures.1) (omega arith) (omega arith) (lent.ensures.1 ∙ line-answer a.text.now l.used c.read_at-line.result.read _ (ap (λ (f : Found). f.read) found)) l.invariant.4,
    )

pub returns : goal.returns
returns c =
    let l = c.loop-answered in
    let a = c.args in
    let all : length a.out.now / 19 ≡ l.answered = omega arith in
    ap (λ (n : ℕ). done l.out n l.used) all
    ∙ ended l.out (l.answered * 19) l.answered l.used (full text_of (length a.out.now / 19 - l.answered) a.at_end (drop l.used a.text.now) (drop (l.answered * 19) l.out) (omega arith)) l.invariant.4

pub returns-in_default : goal.returns-in_default
returns-in_default c =
    let l = c.loop-answered in
    let a = c.args in
    let on = next a.text.now l.used l.used c.read_at-line.result a.at_end l.invariant.1 c.read_at-line.ensures c.in_default.ensures.0 in
    ended l.out (l.answered * 19) l.answered l.used (stops text_of (length a.out.now / 19 - l.answered) a.at_end (drop l.used a.text.now) (drop (l.answered * 19) l.out) (omega (arith, on))) l.invariant.4
