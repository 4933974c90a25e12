-- Each public function of `idiv` has a tight contract. Assumes nothing.
use mathlib.Core.Path.{refl}
use Rattle.idiv.specs.contracts as lib
use Rattle.tight.specs.Numbers.{Numbers}
use Rattle.tight.specs.Tight.{TightAt}
use Rattle.tight.proofs.{Law.plainly, Law.through, Views.negate_faithful, Views.post_answer_faithful}

module _ {M : Type 1} (w : Numbers) where
  pub lib-pre_idiv : TightAt M (record { signature = lib.pre_idiv.signature w.N; kept = _ }) (λ 𝓤. lib.pre_idiv.clauses w.N w.number w.methods w.clone w.cloning)
  lib-pre_idiv c g r s = plainly c.𝓤 (λ e d. (through (negate_faithful w.number.value w.faithful) e d, refl))

  pub lib-post_idiv : TightAt M (record { signature = lib.post_idiv.signature w.N; kept = _ }) (λ 𝓤. lib.post_idiv.clauses w.N w.number w.methods w.clone w.cloning)
  lib-post_idiv c g r s = plainly c.𝓤 (λ e d. (through (post_answer_faithful w.number.value w.faithful) e d, refl))
