-- Each public function of `negate` has a tight contract. Assumes nothing.
use mathlib.Core.Path.{refl}
use Rattle.negate.specs.contracts as lib
use Rattle.tight.specs.Numbers.{Numbers}
use Rattle.tight.specs.Tight.{TightAt}
use Rattle.tight.proofs.{Law.plainly, Law.through, Views.negate_faithful}

module _ {M : Type 1} (w : Numbers) where
  pub lib-cor_negate : TightAt M (record { signature = lib.cor_negate.signature w.N; kept = _ }) (λ 𝓤. lib.cor_negate.clauses w.N w.number w.methods w.clone w.cloning)
  lib-cor_negate c g r s = plainly c.𝓤 (λ e d. (through (negate_faithful w.number.value w.faithful) e d, refl))
