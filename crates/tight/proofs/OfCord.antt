-- Each public function of `cord` has a tight contract. Assumes nothing.
use mathlib.Core.Path.{refl}
use Rattle.cord.specs.contracts as lib
use Rattle.tight.specs.Numbers.{Numbers}
use Rattle.tight.specs.Tight.{TightAt}
use Rattle.tight.proofs.{Law.plainly, Law.through, Views.cord_answer_faithful}

module _ {M : Type 1} (w : Numbers) where
  pub lib-cord : TightAt M (record { signature = lib.cord.signature w.N; kept = _ }) (λ 𝓤. lib.cord.clauses w.N w.number w.methods w.clone w.cloning)
  lib-cord c g r s = plainly c.𝓤 (λ e d. (through (cord_answer_faithful w.number.value w.faithful) e d, refl))
