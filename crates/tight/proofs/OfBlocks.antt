-- Each public function of `blocks` has a tight contract. Assumes nothing.
use mathlib.Core.Path.{refl}
use Rattle.blocks.specs.contracts as lib
use Rattle.tight.specs.Tight.{Tight}
use Rattle.tight.proofs.Law.{plainly, same}

module _ {M : Type 1} where
  pub lib-keep : Tight M lib.keep.signature (λ 𝓤. lib.keep.clauses)
  lib-keep c g r s = plainly c.𝓤 (λ e d. (refl, λ i. (same e d i, (tt, (tt, tt)))))
