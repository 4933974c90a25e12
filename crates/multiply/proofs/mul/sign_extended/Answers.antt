-- `multiply::mul::sign_extended` meets its contract, by the top bit. Assumes nothing.
use mathlib.Core.Path.{sym, ◌∙◌}
use Prim.Native.Nat.{◌^◌, ◌≤◌}
use native.Mathlib.Omega.{arith}
use lib.Pow.{pow_mono}
use Rattle.numbers.proofs.Widths.{some_bits, most_bits}
use Rattle.multiply.proofs.{CarryLaws.word_is}
use Rattle.multiply.proofs.mul.sign_extended.Goals as goal

pub returns-then-top_set : goal.returns-then-top_set
returns-then-top_set g c =
    let n = g.N.Number in
    let law = g.met.N.Number in
    let most = most_bits n.BITS law.is_8_or_16 in
    let word : 2 ^ n.BITS ≤ 2 ^ 16 = pow_mono most in
    rw (word_is n.BITS (n.value c.args.half) (some_bits n.BITS law.is_8_or_16) most (omega arith), sym c.top_set.ensures ∙ c.if-top_set.true)
    (omega (arith, law.max_is))

pub returns-else-top_set : goal.returns-else-top_set
returns-else-top_set g c =
    let n = g.N.Number in
    let law = g.met.N.Number in
    rw (word_is n.BITS (n.value c.args.half) (some_bits n.BITS law.is_8_or_16) (most_bits n.BITS law.is_8_or_16) (omega arith), sym c.top_set.ensures ∙ c.if-top_set.false)
    c.wide-else-top_set.ensures.value
