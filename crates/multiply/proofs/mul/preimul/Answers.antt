-- `multiply::mul::preimul` meets its contract, by the first factor's top bit. Assumes nothing.
use mathlib.Core.Path.{sym, ◌∙◌}
use native.Mathlib.Nat.{zero-mod}
use Rattle.multiply.proofs.{MulLaws.first_negative, MulLaws.first_positive}
use Rattle.multiply.proofs.mul.preimul.Goals as goal

pub returns-then-top_set : goal.returns-then-top_set
returns-then-top_set g c =
    first_negative g.N.Number.BITS _ _ _ (sym c.top_set.ensures ∙ c.if-top_set.true) c.alu_neg.ensures (rw (c.cut.ensures, zero-mod) at c.cor_negate.ensures)

pub returns-else-top_set : goal.returns-else-top_set
returns-else-top_set g c =
    first_positive g.N.Number.BITS _ _ _ (sym c.top_set.ensures ∙ c.if-top_set.false) (rw (c.cut.ensures, zero-mod) at c.cor_negate-else-top_set.ensures)
