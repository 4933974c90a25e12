-- Each public function of `divide` has a tight contract. Assumes nothing.
use mathlib.Core.Path.{refl}
use Rattle.divide.specs.contracts.div
use Rattle.tight.specs.Numbers.{Numbers}
use Rattle.tight.specs.Tight.{TightAt}
use Rattle.tight.proofs.{Law.plainly, Law.through, Views.divided_faithful}

module _ {M : Type 1} (w : Numbers) where
  pub div-div : TightAt M (record { signature = div.div.signature w.N; kept = _ }) (λ 𝓤. div.div.clauses w.N w.number w.methods w.clone w.cloning)
  div-div c g r s = plainly c.𝓤 (λ e d. (through (divided_faithful w.number.value w.faithful) e d, refl))
