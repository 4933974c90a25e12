-- Each public function of `registers` has a tight contract. Assumes nothing.
use mathlib.Core.Path.{refl}
use Rattle.registers.specs.contracts.by_number
use Rattle.registers.specs.contracts.record
use Rattle.tight.specs.Tight.{Tight}
use Rattle.tight.proofs.Law.{plainly, same}

module _ {M : Type 1} where
  pub record-Registers-count : Tight M record.Registers.count.signature (λ 𝓤. record.Registers.count.clauses)
  record-Registers-count c g r s = plainly c.𝓤 (λ e d. (same e d, refl))

  pub record-Registers-settle : Tight M record.Registers.settle.signature (λ 𝓤. record.Registers.settle.clauses)
  record-Registers-settle c g r s = plainly c.𝓤 (λ e d. (same e d, refl))

  pub by_number-operate : Tight M by_number.operate.signature (λ 𝓤. by_number.operate.clauses)
  by_number-operate c g r s = plainly c.𝓤 (λ e d. (same e d, refl))
