-- Each public function of `embed` has a tight contract. Assumes nothing.
use Rattle.embed.specs.contracts as lib
use Rattle.tight.specs.Tight.{Tight}
use Rattle.tight.proofs.Law.{plainly, same}

module _ {M : Type 1} where
  pub lib-hatchyarn_ask : Tight M lib.hatchyarn_ask.signature (λ 𝓤. lib.hatchyarn_ask.clauses)
  lib-hatchyarn_ask c g r s = plainly c.𝓤 (λ e d. (same e.0 d.0, λ i. (tt, (tt, (tt, (tt, (tt, (same e.1 d.1 i, tt))))))))

  pub lib-hatchyarn_would_trap : Tight M lib.hatchyarn_would_trap.signature (λ 𝓤. lib.hatchyarn_would_trap.clauses)
  lib-hatchyarn_would_trap c g r s = plainly c.𝓤 (λ e d. let t = same e d in (λ i. (t i).status, λ i. (tt, (tt, (tt, ((t i).trap, tt))))))

  pub lib-hatchyarn_roads : Tight M lib.hatchyarn_roads.signature (λ 𝓤. lib.hatchyarn_roads.clauses)
  lib-hatchyarn_roads c g r s = plainly c.𝓤 (λ e d. let t = same e d in (λ i. (t i).status, λ i. (tt, (tt, (tt, ((t i).roads, tt))))))

  pub lib-hatchyarn_registers : Tight M lib.hatchyarn_registers.signature (λ 𝓤. lib.hatchyarn_registers.clauses)
  lib-hatchyarn_registers c g r s = plainly c.𝓤 (λ e d. let t = same e d in (λ i. (t i).status, λ i. (tt, (tt, (tt, ((t i).regs.ax, ((t i).regs.dx, ((t i).regs.flags, ((t i).regs.total, ((t i).steps, tt))))))))))

  pub lib-hatchyarn_line : Tight M lib.hatchyarn_line.signature (λ 𝓤. lib.hatchyarn_line.clauses)
  lib-hatchyarn_line c g r s = plainly c.𝓤 (λ e d. (same e.0 d.0, λ i. (tt, (same e.1 d.1 i, tt))))

  pub lib-hatchyarn_run : Tight M lib.hatchyarn_run.signature (λ 𝓤. lib.hatchyarn_run.clauses)
  lib-hatchyarn_run c g r s = plainly c.𝓤 (λ e d. let t = same e d in (λ i. (t i).lines, λ i. (tt, ((t i).bytes, (tt, ((t i).used, tt))))))

  pub lib-hatchyarn_packed_add : Tight M lib.hatchyarn_packed_add.signature (λ 𝓤. lib.hatchyarn_packed_add.clauses)
  lib-hatchyarn_packed_add c g r s = plainly c.𝓤 (λ e d. let t = same e d in (λ i. (t i).status, λ i. (tt, (tt, (tt, ((t i).buffer, ((t i).carry, tt)))))))

  pub lib-hatchyarn_packed_subtract : Tight M lib.hatchyarn_packed_subtract.signature (λ 𝓤. lib.hatchyarn_packed_subtract.clauses)
  lib-hatchyarn_packed_subtract c g r s = plainly c.𝓤 (λ e d. let t = same e d in (λ i. (t i).status, λ i. (tt, (tt, (tt, ((t i).buffer, ((t i).carry, tt)))))))

  pub lib-hatchyarn_read_answer : Tight M lib.hatchyarn_read_answer.signature (λ 𝓤. lib.hatchyarn_read_answer.clauses)
  lib-hatchyarn_read_answer c g r s = plainly c.𝓤 (λ e d. (same e.0 d.0, λ i. (tt, (same e.1 d.1 i, tt))))

  pub lib-hatchyarn_next_answer : Tight M lib.hatchyarn_next_answer.signature (λ 𝓤. lib.hatchyarn_next_answer.clauses)
  lib-hatchyarn_next_answer c g r s = plainly c.𝓤 (λ e d. let t = same e d in (λ i. (t i).status, λ i. (tt, ((t i).place, ((t i).numbers, ((t i).start, tt))))))
