-- `idiv::pre_idiv` meets its contract: NEGATE from its head or past the pair. Assumes nothing.
use mathlib.Core.Path.{sym, ◌∙◌}
use native.Mathlib.Omega.{arith}
use Rattle.negate.specs.Views.{pair_of}
use Rattle.idiv.proofs.{IdivLaws.pre_negative, IdivLaws.pre_positive}
use Rattle.idiv.proofs.pre_idiv.Goals as goal

pub returns-then-top_set : goal.returns-then-top_set
returns-then-top_set g c = pre_negative g.N.Number.BITS _ (pair_of g.N.Number.value c.args.dividend) (sym c.top_set.ensures ∙ c.if-top_set.true) c.cor_negate.ensures

pub returns-else-top_set : goal.returns-else-top_set
returns-else-top_set g c =
    pre_positive g.N.Number.BITS _ (pair_of g.N.Number.value c.args.dividend) (omega arith) (sym c.top_set.ensures ∙ c.if-top_set.false)
    c.cor_negate-else-top_set.ensures
