-- Each public function of `corx` has a tight contract. Assumes nothing.
use mathlib.Core.Path.{refl}
use Rattle.corx.specs.contracts as lib
use Rattle.tight.specs.Numbers.{Numbers}
use Rattle.tight.specs.Tight.{TightAt}
use Rattle.tight.proofs.{Law.plainly, Law.through, Views.halves_faithful}

module _ {M : Type 1} (w : Numbers) where
  pub lib-corx : TightAt M (record { signature = lib.corx.signature w.N; kept = _ }) (λ 𝓤. lib.corx.clauses w.N w.number w.methods w.clone w.cloning)
  lib-corx c g r s = plainly c.𝓤 (λ e d. (through (halves_faithful w.number.value w.faithful) e d, refl))
