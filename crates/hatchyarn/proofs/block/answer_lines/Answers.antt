-- `hatchyarn::block::answer_lines` meets its contract. Assumes nothing.
use Rattle.std.proofs.Common.{◌≡◌, ◌*◌, ◌/◌, length, [], arith, sym, eqb-true}
use lib.Seq.{length-take-le}
use Rattle.line.specs.One.{text_of}
use Rattle.line.proofs.RunLaws.{used_within}
use Rattle.hatchyarn.proofs.RanLaws.{ran_inside, ran_next, ran_out}
use Rattle.hatchyarn.proofs.block.answer_lines.Goals.{else-loop-room-test, then-loop-room-test+then-ran-eq0}
use Rattle.hatchyarn.proofs.block.answer_lines.Goals as goal

-- what a run tells: its answers lie within the room, and what it used within the text
pub overflow_mul-ran : goal.overflow_mul-ran
overflow_mul-ran c =
    let l = c.loop-room in
    let r = c.run-ran in
    omega (arith, ran_inside (length l.room / 19) c.args.at_end l.rest.now l.room r.new.out r.result.lines r.result.used r.ensures)

pub slice_bounds-write-end : goal.slice_bounds-write-end
slice_bounds-write-end c =
    let l = c.loop-room in
    let r = c.run-ran in
    omega (arith, ran_inside (length l.room / 19) c.args.at_end l.rest.now l.room r.new.out r.result.lines r.result.used r.ensures, r.auto.out)

pub slice_bounds-write-end-in-loop-room : goal.slice_bounds-write-end-in-loop-room
slice_bounds-write-end-in-loop-room c = sym (length-take-le (c.run-ran.result.lines * 19) c.run-ran.new.out (slice_bounds-write-end c))

pub slice_bounds-rest-count : goal.slice_bounds-rest-count
slice_bounds-rest-count c =
    let l = c.loop-room in
    let r = c.run-ran in
    omega (arith, ran_inside (length l.room / 19) c.args.at_end l.rest.now l.room r.new.out r.result.lines r.result.used r.ensures)

pub slice_bounds-rest-start : goal.slice_bounds-rest-start
slice_bounds-rest-start c = slice_bounds-rest-count c

pub loop-room-preserved : goal.loop-room-preserved
loop-room-preserved c =
    let l = c.loop-room in
    let r = c.run-ran in
    let next = ran_next (length l.room / 19) c.args.at_end l.rest.now l.room r.new.out r.result.lines r.result.used r.ensures c.args.text.now l.invariant.0 l.invariant.2 in
    (next.0, omega (arith, r.auto.out), next.1)

-- the loop ends where nothing is left, or where a run uses nothing of what is left
pub returns-clause-all : goal.returns-clause-all
returns-clause-all c =
    let l = c.loop-room in
    let rest = l.rest.now in
    let e = c.args.at_end in
    elim c.loop-room-test.branch [
      | else-loop-room-test w ↦
          let none : length rest ≡ 0 = eqb-true (length rest) 0 (sym w.loop-room-test.ensures) in
          omega (arith, none, used_within text_of (length rest) e rest [], l.invariant.2)
      | then-loop-room-test+then-ran-eq0 w ↦
          let r = w.run-ran in
          let out = ran_out (length l.room / 19) e rest l.room r.new.out r.result.lines r.result.used r.ensures (omega arith) (omega arith) in
          omega (arith, out, l.invariant.2)
    ]
