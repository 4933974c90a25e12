-- `cord::cord` meets its contract: the laws of its loop. Assumes nothing.
use mathlib.Core.{Path.ap, Bool.not}
use native.Mathlib.Omega.{arith}
use lib.Bits.{and_mask}
use Rattle.numbers.proofs.Widths.{most_bits}
use Rattle.cord.proofs.{CordLaws.on_top, CordLaws.both_fit, CordLaws.half_fits, CordLaws.refuses, Turning.starts, Turning.may_turn, Turning.few_at, Turning.turns, Turning.ends}
use Rattle.cord.proofs.cord.Goals as goal

pub returns-then-wide : goal.returns-then-wide
returns-then-wide g c =
    let value = g.N.Number.value in
    let a = c.args in
    refuses g.N.Number.BITS (value a.tmpb) (value a.tmpa) (value a.tmpc) a.steps (omega arith) (omega arith)

pub loop-init : goal.loop-init
loop-init g c =
    let value = g.N.Number.value in
    let width = g.met.N.Number.is_8_or_16 in
    let a = c.args in
    rw (on_top width c.wide.ensures.value c.wide.ensures.fits c.BITS.ensures, c.wide-2.ensures.value)
    (starts g.N.Number.BITS (value a.tmpa) (value a.tmpb) (value a.tmpc) (most_bits _ width) (omega arith) (omega arith) (omega arith))

pub cord_round-at-requires : goal.cord_round-at-requires
cord_round-at-requires g c = omega (arith, may_turn c.loop.invariant)

pub loop-preserved : goal.loop-preserved
loop-preserved g c = turns c.loop.invariant c.cord_round-at.ensures (omega arith)

pub overflow_cast-at : goal.overflow_cast-at
overflow_cast-at g c = omega (arith, both_fit g.met.N.Number.is_8_or_16 c.loop.at.both (omega (arith, few_at c.loop.invariant)))

pub overflow_cast-at-2 : goal.overflow_cast-at-2
overflow_cast-at-2 g c = omega (arith, half_fits g.met.N.Number.is_8_or_16 c.loop.at.both (few_at c.loop.invariant).0 c.BITS-2.ensures)

pub overflow_cast-at-3 : goal.overflow_cast-at-3
overflow_cast-at-3 g c = omega (arith, half_fits g.met.N.Number.is_8_or_16 c.loop.at.compared (few_at c.loop.invariant).1 c.BITS-3.ensures)

pub overflow_add-result-4 : goal.overflow_add-result-4
overflow_add-result-4 g c = omega (arith, few_at c.loop.invariant, most_bits _ g.met.N.Number.is_8_or_16)

pub overflow_add-result-5 : goal.overflow_add-result-5
overflow_add-result-5 g c = omega (arith, few_at c.loop.invariant, most_bits _ g.met.N.Number.is_8_or_16, and_mask c.wide-5.result 1)

pub returns : goal.returns
returns g c =
    ends c.loop.invariant c.args.steps (omega arith) c.cut-quotient.ensures (rw c.BITS-2.ensures at c.cut-remainder.ensures) (rw c.BITS-3.ensures at c.cut.ensures)
    (ap not c.top_set.ensures) (omega (arith, and_mask c.wide-5.result 1))
