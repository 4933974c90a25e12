-- `divide::div::unsigned_div` meets its contract, by what CORD's answer tells. Assumes nothing.
use mathlib.Core.Path.{ap}
use native.Mathlib.Omega.{arith}
use Rattle.cord.specs.Views.{cord_outcome}
use Rattle.numbers.proofs.Widths.{most_bits}
use Rattle.divide.proofs.{DivLaws.few_steps, DivLaws.unsigned_refused, DivLaws.unsigned_accepted}
use Rattle.divide.proofs.div.unsigned_div.Goals as goal

pub overflow_add-result : goal.overflow_add-result
overflow_add-result g c =
    let n = g.N.Number in
    omega (arith, few_steps n.BITS _ _ 5 (most_bits _ g.met.N.Number.is_8_or_16) c.cord-outcome.ensures (ap (cord_outcome n.value) c.in-Some.is))

pub returns-in-Some : goal.returns-in-Some
returns-in-Some g c =
    let n = g.N.Number in
    unsigned_accepted n.BITS _ _ _ _ c.cord-outcome.ensures (omega arith) (ap (cord_outcome n.value) c.in-Some.is) c.compare_flags-compare.ensures

pub returns-in-None : goal.returns-in-None
returns-in-None g c =
    let n = g.N.Number in
    unsigned_refused n.BITS _ _ _ _ c.cord-outcome.ensures (ap (cord_outcome n.value) c.in-None.is) c.first_refusal.ensures c.compare_flags-compare.ensures
