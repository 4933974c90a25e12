-- Each public function of `packed` has a tight contract. Assumes nothing.
use mathlib.Core.Path.{refl}
use Rattle.packed.specs.contracts.byte
use Rattle.packed.specs.contracts.judge
use Rattle.packed.specs.contracts.string
use Rattle.packed.specs.contracts.told
use Rattle.tight.specs.Tight.{Tight}
use Rattle.tight.proofs.Law.{plainly, same}

module _ {M : Type 1} where
  pub byte-SumOperation-work_byte : Tight M byte.SumOperation.work_byte.signature (λ 𝓤. byte.SumOperation.work_byte.clauses)
  byte-SumOperation-work_byte c g r s = plainly c.𝓤 (λ e d. (same e d, refl))

  pub byte-DifferenceOperation-work_byte : Tight M byte.DifferenceOperation.work_byte.signature (λ 𝓤. byte.DifferenceOperation.work_byte.clauses)
  byte-DifferenceOperation-work_byte c g r s = plainly c.𝓤 (λ e d. (same e d, refl))

  pub judge-judge : Tight M judge.judge.signature (λ 𝓤. judge.judge.clauses)
  judge-judge c g r s = plainly c.𝓤 (λ e d. (same e d, refl))

  pub judge-U8FromRefusal-from : Tight M judge.U8FromRefusal.from.signature (λ 𝓤. judge.U8FromRefusal.from.clauses)
  judge-U8FromRefusal-from c g r s = plainly c.𝓤 (λ e d. (same e d, refl))

  pub string-add : Tight M string.add.signature (λ 𝓤. string.add.clauses)
  string-add c g r s = plainly c.𝓤 (λ e d. let t = same e d in (λ i. (t i).outcome, λ i. (tt, (tt, (tt, ((t i).buffer, tt))))))

  pub string-subtract : Tight M string.subtract.signature (λ 𝓤. string.subtract.clauses)
  string-subtract c g r s = plainly c.𝓤 (λ e d. let t = same e d in (λ i. (t i).outcome, λ i. (tt, (tt, (tt, ((t i).buffer, tt))))))

  pub told-tell : Tight M told.tell.signature (λ 𝓤. told.tell.clauses)
  told-tell c g r s = plainly c.𝓤 (λ e d. (same e.0 d.0, λ i. (tt, (same e.1 d.1 i, tt))))
