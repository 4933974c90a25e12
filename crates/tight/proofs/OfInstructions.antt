-- Each public function of `instructions` has a tight contract. Assumes nothing.
use mathlib.Core.Path.{refl}
use Rattle.instructions.specs.contracts.by_value
use Rattle.instructions.specs.contracts.lent
use Rattle.tight.specs.Tight.{Tight}
use Rattle.tight.proofs.Law.{plainly, same}

module _ {M : Type 1} where
  pub by_value-aaa : Tight M by_value.aaa.signature (λ 𝓤. by_value.aaa.clauses)
  by_value-aaa c g r s = plainly c.𝓤 (λ e d. (same e d, refl))

  pub by_value-aas : Tight M by_value.aas.signature (λ 𝓤. by_value.aas.clauses)
  by_value-aas c g r s = plainly c.𝓤 (λ e d. (same e d, refl))

  pub by_value-aad : Tight M by_value.aad.signature (λ 𝓤. by_value.aad.clauses)
  by_value-aad c g r s = plainly c.𝓤 (λ e d. (same e d, refl))

  pub by_value-daa : Tight M by_value.daa.signature (λ 𝓤. by_value.daa.clauses)
  by_value-daa c g r s = plainly c.𝓤 (λ e d. (same e d, refl))

  pub by_value-das : Tight M by_value.das.signature (λ 𝓤. by_value.das.clauses)
  by_value-das c g r s = plainly c.𝓤 (λ e d. (same e d, refl))

  pub by_value-mul8 : Tight M by_value.mul8.signature (λ 𝓤. by_value.mul8.clauses)
  by_value-mul8 c g r s = plainly c.𝓤 (λ e d. (same e d, refl))

  pub by_value-mul16 : Tight M by_value.mul16.signature (λ 𝓤. by_value.mul16.clauses)
  by_value-mul16 c g r s = plainly c.𝓤 (λ e d. (same e d, refl))

  pub by_value-div8 : Tight M by_value.div8.signature (λ 𝓤. by_value.div8.clauses)
  by_value-div8 c g r s = plainly c.𝓤 (λ e d. (same e d, refl))

  pub by_value-div16 : Tight M by_value.div16.signature (λ 𝓤. by_value.div16.clauses)
  by_value-div16 c g r s = plainly c.𝓤 (λ e d. (same e d, refl))

  pub lent-aaa : Tight M lent.aaa.signature (λ 𝓤. lent.aaa.clauses)
  lent-aaa c g r s = plainly c.𝓤 (λ e d. let t = same e d in (λ i. record { status = (t i).status; steps = (t i).steps }, λ i. ((t i).regs, tt)))

  pub lent-aas : Tight M lent.aas.signature (λ 𝓤. lent.aas.clauses)
  lent-aas c g r s = plainly c.𝓤 (λ e d. let t = same e d in (λ i. record { status = (t i).status; steps = (t i).steps }, λ i. ((t i).regs, tt)))

  pub lent-aad : Tight M lent.aad.signature (λ 𝓤. lent.aad.clauses)
  lent-aad c g r s = plainly c.𝓤 (λ e d. let t = same e d in (λ i. record { status = (t i).status; steps = (t i).steps }, λ i. ((t i).regs, (tt, tt))))

  pub lent-daa : Tight M lent.daa.signature (λ 𝓤. lent.daa.clauses)
  lent-daa c g r s = plainly c.𝓤 (λ e d. let t = same e d in (λ i. record { status = (t i).status; steps = (t i).steps }, λ i. ((t i).regs, tt)))

  pub lent-das : Tight M lent.das.signature (λ 𝓤. lent.das.clauses)
  lent-das c g r s = plainly c.𝓤 (λ e d. let t = same e d in (λ i. record { status = (t i).status; steps = (t i).steps }, λ i. ((t i).regs, tt)))

  pub lent-mul8 : Tight M lent.mul8.signature (λ 𝓤. lent.mul8.clauses)
  lent-mul8 c g r s = plainly c.𝓤 (λ e d. let t = same e d in (λ i. record { status = (t i).status; steps = (t i).steps }, λ i. ((t i).regs, (tt, (tt, (tt, tt))))))

  pub lent-mul16 : Tight M lent.mul16.signature (λ 𝓤. lent.mul16.clauses)
  lent-mul16 c g r s = plainly c.𝓤 (λ e d. let t = same e d in (λ i. record { status = (t i).status; steps = (t i).steps }, λ i. ((t i).regs, (tt, (tt, (tt, tt))))))

  pub lent-div8 : Tight M lent.div8.signature (λ 𝓤. lent.div8.clauses)
  lent-div8 c g r s = plainly c.𝓤 (λ e d. let t = same e d in (λ i. record { status = (t i).status; steps = (t i).steps }, λ i. ((t i).regs, (tt, (tt, (tt, tt))))))

  pub lent-div16 : Tight M lent.div16.signature (λ 𝓤. lent.div16.clauses)
  lent-div16 c g r s = plainly c.𝓤 (λ e d. let t = same e d in (λ i. record { status = (t i).status; steps = (t i).steps }, λ i. ((t i).regs, (tt, (tt, (tt, tt))))))
