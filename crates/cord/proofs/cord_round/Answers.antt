-- `cord::cord_round` meets its contract, road by road. Assumes nothing.
use native.Mathlib.Omega.{arith}
use Rattle.numbers.proofs.Widths.{some_bits}
use Rattle.cord.proofs.CordLaws.{on_top, border_at, by_first, by_second, by_third}
use Rattle.cord.proofs.cord_round.Goals as goal

pub returns-then-BITS-shifted : goal.returns-then-BITS-shifted
returns-then-BITS-shifted g c =
    let width = g.met.N.Number.is_8_or_16 in
    let f = c.args.from in
    by_first g.N.Number.BITS (g.N.Number.value c.args.tmpb) f.both f.compared f.shifted_out f.no_borrow (some_bits _ width)
    (on_top width c.wide.ensures.value c.wide.ensures.fits c.BITS.ensures) (border_at width c.BITS-2.ensures) (omega arith) c.if-BITS-shifted.true

pub returns-then-divisor-shifted : goal.returns-then-divisor-shifted
returns-then-divisor-shifted g c =
    let width = g.met.N.Number.is_8_or_16 in
    let f = c.args.from in
    by_second g.N.Number.BITS (g.N.Number.value c.args.tmpb) f.both f.compared f.shifted_out f.no_borrow (some_bits _ width)
    (on_top width c.wide.ensures.value c.wide.ensures.fits c.BITS.ensures) (border_at width c.BITS-2.ensures) c.if-BITS-shifted.false c.if-divisor-shifted.true

pub returns-else-divisor-shifted : goal.returns-else-divisor-shifted
returns-else-divisor-shifted g c =
    let width = g.met.N.Number.is_8_or_16 in
    let f = c.args.from in
    by_third g.N.Number.BITS (g.N.Number.value c.args.tmpb) f.both f.compared f.shifted_out f.no_borrow (some_bits _ width)
    (on_top width c.wide.ensures.value c.wide.ensures.fits c.BITS.ensures) (border_at width c.BITS-2.ensures) c.if-BITS-shifted.false c.if-divisor-shifted.false
