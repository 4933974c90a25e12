-- Each public function of `answer` has a tight contract. Assumes nothing.
use mathlib.Core.Path.{refl}
use Rattle.answer.specs.contracts.answer
use Rattle.answer.specs.contracts.ask
use Rattle.answer.specs.contracts.chart
use Rattle.tight.specs.Numbers.{Numbers}
use Rattle.tight.specs.Tight.{Tight, TightAt}
use Rattle.tight.proofs.Law.{plainly, same}

module _ {M : Type 1} where
  pub answer-plain : Tight M answer.plain.signature (λ 𝓤. answer.plain.clauses)
  answer-plain c g r s = plainly c.𝓤 (λ e d. (same e d, refl))

  pub answer-limited : Tight M answer.limited.signature (λ 𝓤. answer.limited.clauses)
  answer-limited c g r s = plainly c.𝓤 (λ e d. (same e d, refl))

  pub answer-of_product8 : Tight M answer.of_product8.signature (λ 𝓤. answer.of_product8.clauses)
  answer-of_product8 c g r s = plainly c.𝓤 (λ e d. (same e d, refl))

  pub answer-of_product16 : Tight M answer.of_product16.signature (λ 𝓤. answer.of_product16.clauses)
  answer-of_product16 c g r s = plainly c.𝓤 (λ e d. (same e d, refl))

  pub answer-of_adjusted : Tight M answer.of_adjusted.signature (λ 𝓤. answer.of_adjusted.clauses)
  answer-of_adjusted c g r s = plainly c.𝓤 (λ e d. (same e d, refl))

  pub answer-zeros : Tight M answer.zeros.signature (λ 𝓤. answer.zeros.clauses)
  answer-zeros c g r s = plainly c.𝓤 (λ e d. (same e d, refl))

  pub chart-chart : Tight M chart.chart.signature (λ 𝓤. chart.chart.clauses)
  chart-chart c g r s = plainly c.𝓤 (λ e d. (same e d, refl))

  pub ask-ask_into : Tight M ask.ask_into.signature (λ 𝓤. ask.ask_into.clauses)
  ask-ask_into c g r s = plainly c.𝓤 (λ e d. (same e.0 d.0, λ i. (tt, (tt, (tt, (tt, (tt, (same e.1 d.1 i, tt))))))))

  pub ask-ask : Tight M ask.ask.signature (λ 𝓤. ask.ask.clauses)
  ask-ask c g r s = plainly c.𝓤 (λ e d. (same e d, refl))

module _ {M : Type 1} (w : Numbers) where
  pub answer-of_c : TightAt M (record { signature = answer.of_c.signature w.N; kept = _ }) (λ 𝓤. answer.of_c.clauses w.N w.number w.methods w.clone w.cloning)
  answer-of_c c g r s = plainly c.𝓤 (λ e d. (same e d, refl))

  pub answer-of_co : TightAt M (record { signature = answer.of_co.signature w.N; kept = _ }) (λ 𝓤. answer.of_co.clauses w.N w.number w.methods w.clone w.cloning)
  answer-of_co c g r s = plainly c.𝓤 (λ e d. (same e d, refl))

  pub answer-of_coa : TightAt M (record { signature = answer.of_coa.signature w.N; kept = _ }) (λ 𝓤. answer.of_coa.clauses w.N w.number w.methods w.clone w.cloning)
  answer-of_coa c g r s = plainly c.𝓤 (λ e d. (same e d, refl))

  pub answer-of_divided : TightAt M (record { signature = answer.of_divided.signature w.N; kept = _ }) (λ 𝓤. answer.of_divided.clauses w.N w.number w.methods w.clone w.cloning)
  answer-of_divided c g r s = plainly c.𝓤 (λ e d. (same e d, refl))
