-- Each public function of `alu` has a tight contract. Assumes nothing.
use mathlib.Core.Path.{refl}
use Rattle.alu.specs.contracts.addition
use Rattle.alu.specs.contracts.at_once
use Rattle.alu.specs.contracts.last
use Rattle.alu.specs.contracts.rotate
use Rattle.alu.specs.contracts.shift
use Rattle.alu.specs.contracts.step
use Rattle.alu.specs.contracts.subtraction
use Rattle.tight.specs.Numbers.{Numbers}
use Rattle.tight.specs.Tight.{Tight, TightAt}
use Rattle.tight.proofs.Law.{plainly, same, through}
use Rattle.tight.proofs.Views.{c_faithful, co_faithful, coa_faithful, stepped_faithful}

module _ {M : Type 1} where
  pub at_once-shl : Tight M at_once.shl.signature (λ 𝓤. at_once.shl.clauses)
  at_once-shl c g r s = plainly c.𝓤 (λ e d. (same e d, refl))

  pub at_once-shr : Tight M at_once.shr.signature (λ 𝓤. at_once.shr.clauses)
  at_once-shr c g r s = plainly c.𝓤 (λ e d. (same e d, refl))

  pub at_once-sar : Tight M at_once.sar.signature (λ 𝓤. at_once.sar.clauses)
  at_once-sar c g r s = plainly c.𝓤 (λ e d. (same e d, refl))

  pub at_once-ror : Tight M at_once.ror.signature (λ 𝓤. at_once.ror.clauses)
  at_once-ror c g r s = plainly c.𝓤 (λ e d. (same e d, refl))

  pub at_once-rol : Tight M at_once.rol.signature (λ 𝓤. at_once.rol.clauses)
  at_once-rol c g r s = plainly c.𝓤 (λ e d. (same e d, refl))

  pub last-of_last : Tight M last.of_last.signature (λ 𝓤. last.of_last.clauses)
  last-of_last c g r s = plainly c.𝓤 (λ e d. (same e d, refl))

module _ {M : Type 1} (w : Numbers) where
  pub addition-alu_add : TightAt M (record { signature = addition.alu_add.signature w.N; kept = _ }) (λ 𝓤. addition.alu_add.clauses w.N w.number w.methods w.clone w.cloning)
  addition-alu_add c g r s = plainly c.𝓤 (λ e d. (through (coa_faithful w.number.value w.faithful) e d, refl))

  pub addition-alu_adc : TightAt M (record { signature = addition.alu_adc.signature w.N; kept = _ }) (λ 𝓤. addition.alu_adc.clauses w.N w.number w.methods w.clone w.cloning)
  addition-alu_adc c g r s = plainly c.𝓤 (λ e d. (through (coa_faithful w.number.value w.faithful) e d, refl))

  pub last-left_o : TightAt M (record { signature = last.left_o.signature w.N; kept = _ }) (λ 𝓤. last.left_o.clauses w.N w.number w.methods w.clone w.cloning)
  last-left_o c g r s = plainly c.𝓤 (λ e d. (through (co_faithful w.number.value w.faithful) e d, refl))

  pub last-right_o : TightAt M (record { signature = last.right_o.signature w.N; kept = _ }) (λ 𝓤. last.right_o.clauses w.N w.number w.methods w.clone w.cloning)
  last-right_o c g r s = plainly c.𝓤 (λ e d. (through (co_faithful w.number.value w.faithful) e d, refl))

  pub rotate-alu_rol : TightAt M (record { signature = rotate.alu_rol.signature w.N; kept = _ }) (λ 𝓤. rotate.alu_rol.clauses w.N w.number w.methods w.clone w.cloning)
  rotate-alu_rol c g r s = plainly c.𝓤 (λ e d. (through (co_faithful w.number.value w.faithful) e d, refl))

  pub rotate-alu_rcl : TightAt M (record { signature = rotate.alu_rcl.signature w.N; kept = _ }) (λ 𝓤. rotate.alu_rcl.clauses w.N w.number w.methods w.clone w.cloning)
  rotate-alu_rcl c g r s = plainly c.𝓤 (λ e d. (through (co_faithful w.number.value w.faithful) e d, refl))

  pub rotate-alu_ror : TightAt M (record { signature = rotate.alu_ror.signature w.N; kept = _ }) (λ 𝓤. rotate.alu_ror.clauses w.N w.number w.methods w.clone w.cloning)
  rotate-alu_ror c g r s = plainly c.𝓤 (λ e d. (through (co_faithful w.number.value w.faithful) e d, refl))

  pub rotate-alu_rcr : TightAt M (record { signature = rotate.alu_rcr.signature w.N; kept = _ }) (λ 𝓤. rotate.alu_rcr.clauses w.N w.number w.methods w.clone w.cloning)
  rotate-alu_rcr c g r s = plainly c.𝓤 (λ e d. (through (co_faithful w.number.value w.faithful) e d, refl))

  pub shift-alu_shl : TightAt M (record { signature = shift.alu_shl.signature w.N; kept = _ }) (λ 𝓤. shift.alu_shl.clauses w.N w.number w.methods w.clone w.cloning)
  shift-alu_shl c g r s = plainly c.𝓤 (λ e d. (through (co_faithful w.number.value w.faithful) e d, refl))

  pub shift-alu_shl_af : TightAt M (record { signature = shift.alu_shl_af.signature w.N; kept = _ }) (λ 𝓤. shift.alu_shl_af.clauses w.N w.number w.methods w.clone w.cloning)
  shift-alu_shl_af c g r s = plainly c.𝓤 (λ e d. (through (coa_faithful w.number.value w.faithful) e d, refl))

  pub shift-alu_shr : TightAt M (record { signature = shift.alu_shr.signature w.N; kept = _ }) (λ 𝓤. shift.alu_shr.clauses w.N w.number w.methods w.clone w.cloning)
  shift-alu_shr c g r s = plainly c.𝓤 (λ e d. (through (c_faithful w.number.value w.faithful) e d, refl))

  pub shift-alu_sar : TightAt M (record { signature = shift.alu_sar.signature w.N; kept = _ }) (λ 𝓤. shift.alu_sar.clauses w.N w.number w.methods w.clone w.cloning)
  shift-alu_sar c g r s = plainly c.𝓤 (λ e d. (through (c_faithful w.number.value w.faithful) e d, refl))

  pub step-left : TightAt M (record { signature = step.left.signature w.N; kept = _ }) (λ 𝓤. step.left.clauses w.N w.number w.methods w.clone w.cloning)
  step-left c g r s = plainly c.𝓤 (λ e d. (through (stepped_faithful w.number.value w.faithful) e d, refl))

  pub step-right : TightAt M (record { signature = step.right.signature w.N; kept = _ }) (λ 𝓤. step.right.clauses w.N w.number w.methods w.clone w.cloning)
  step-right c g r s = plainly c.𝓤 (λ e d. (through (stepped_faithful w.number.value w.faithful) e d, refl))

  pub subtraction-alu_neg : TightAt M (record { signature = subtraction.alu_neg.signature w.N; kept = _ }) (λ 𝓤. subtraction.alu_neg.clauses w.N w.number w.methods w.clone w.cloning)
  subtraction-alu_neg c g r s = plainly c.𝓤 (λ e d. (through (coa_faithful w.number.value w.faithful) e d, refl))

  pub subtraction-alu_sub : TightAt M (record { signature = subtraction.alu_sub.signature w.N; kept = _ }) (λ 𝓤. subtraction.alu_sub.clauses w.N w.number w.methods w.clone w.cloning)
  subtraction-alu_sub c g r s = plainly c.𝓤 (λ e d. (through (coa_faithful w.number.value w.faithful) e d, refl))

  pub subtraction-alu_sbb : TightAt M (record { signature = subtraction.alu_sbb.signature w.N; kept = _ }) (λ 𝓤. subtraction.alu_sbb.clauses w.N w.number w.methods w.clone w.cloning)
  subtraction-alu_sbb c g r s = plainly c.𝓤 (λ e d. (through (coa_faithful w.number.value w.faithful) e d, refl))
