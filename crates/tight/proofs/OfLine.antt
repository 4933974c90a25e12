-- Each public function of `line` has a tight contract. Assumes nothing.
use Rattle.line.specs.contracts.one
use Rattle.line.specs.contracts.run
use Rattle.tight.specs.Tight.{Tight}
use Rattle.tight.proofs.Law.{plainly, same}

module _ {M : Type 1} where
  pub one-write_answer : Tight M one.write_answer.signature (λ 𝓤. one.write_answer.clauses)
  one-write_answer c g r s = plainly c.𝓤 (λ e d. (same e.0 d.0, λ i. (tt, (same e.1 d.1 i, tt))))

  pub one-answer_line : Tight M one.answer_line.signature (λ 𝓤. one.answer_line.clauses)
  one-answer_line c g r s = plainly c.𝓤 (λ e d. (same e.0 d.0, λ i. (tt, (same e.1 d.1 i, tt))))

  pub run-run : Tight M run.run.signature (λ 𝓤. run.run.clauses)
  run-run c g r s = plainly c.𝓤 (λ e d. let t = same e d in (λ i. record { lines = (t i).lines; used = (t i).used }, λ i. (tt, ((t i).bytes, (tt, tt)))))
