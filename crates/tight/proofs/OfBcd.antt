-- Each public function of `bcd` has a tight contract. Assumes nothing.
use mathlib.Core.Path.{refl}
use Rattle.bcd.specs.contracts.adjust
use Rattle.bcd.specs.contracts.ascii
use Rattle.bcd.specs.contracts.decimal
use Rattle.tight.specs.Tight.{Tight}
use Rattle.tight.proofs.Law.{plainly, same}

module _ {M : Type 1} where
  pub adjust-ah : Tight M adjust.ah.signature (λ 𝓤. adjust.ah.clauses)
  adjust-ah c g r s = plainly c.𝓤 (λ e d. (same e d, refl))

  pub adjust-al : Tight M adjust.al.signature (λ 𝓤. adjust.al.clauses)
  adjust-al c g r s = plainly c.𝓤 (λ e d. (same e d, refl))

  pub adjust-low_digit_adjusts : Tight M adjust.low_digit_adjusts.signature (λ 𝓤. adjust.low_digit_adjusts.clauses)
  adjust-low_digit_adjusts c g r s = plainly c.𝓤 (λ e d. (same e d, refl))

  pub ascii-aaa : Tight M ascii.aaa.signature (λ 𝓤. ascii.aaa.clauses)
  ascii-aaa c g r s = plainly c.𝓤 (λ e d. (same e d, refl))

  pub ascii-aas : Tight M ascii.aas.signature (λ 𝓤. ascii.aas.clauses)
  ascii-aas c g r s = plainly c.𝓤 (λ e d. (same e d, refl))

  pub ascii-aad : Tight M ascii.aad.signature (λ 𝓤. ascii.aad.clauses)
  ascii-aad c g r s = plainly c.𝓤 (λ e d. (same e d, refl))

  pub decimal-daa : Tight M decimal.daa.signature (λ 𝓤. decimal.daa.clauses)
  decimal-daa c g r s = plainly c.𝓤 (λ e d. (same e d, refl))

  pub decimal-das : Tight M decimal.das.signature (λ 𝓤. decimal.das.clauses)
  decimal-das c g r s = plainly c.𝓤 (λ e d. (same e d, refl))
