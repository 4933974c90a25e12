-- `flags::word::Flags::set_szp_flags_from_result` meets its contract: P asks of the result no more than its low eight bits.
-- Assumes nothing.
use mathlib.Core.Path.{ap, ◌∙◌}
use Prim.Native.Nat.{ℕ}
use lib.Bits.{and_mask}
use lib.Dec.{eqb}
use Rattle.flags.specs.{Parity.even_ones}
use Rattle.flags.proofs.{SzpLaws.szp_is, SzpLaws.even_low}
use Rattle.flags.proofs.word.Flags.set_szp_flags_from_result.Goals as goal

pub returns : goal.returns
returns g c =
    let wide = c.wide-wide.ensures.value in
    szp_is g.N.Number.BITS (g.N.Number.value c.args.res) c.args.self
    (c.parity.ensures ∙ ap even_ones (and_mask _ 8) ∙ even_low _ ∙ ap even_ones wide)
    (ap (λ (x : ℕ). eqb x 0) wide)
    c.top_set.ensures
