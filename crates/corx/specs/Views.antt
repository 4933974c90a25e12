-- The halves of either width, read as those of the definitions over n.
-- Assumes nothing.
use Rattle.std.specs.Prelude.{ℕ}
use Rattle.corx.specs.Corx.{Halves}
use Rattle.corx.specs.declared.Halves

abbrev pub halves : {N : Type 0} → (N → ℕ) → Halves.Halves N → Halves
halves value h = record { tmpa = value h.tmpa; tmpc = value h.tmpc; steps = h.steps }
