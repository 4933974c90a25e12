-- Each public function of `flags` has a tight contract. Assumes nothing.
use mathlib.Core.{Path.◌≡◌, Path.refl, List.List}
use Prim.Native.Nat.{ℕ, ◌<◌}
use Rattle.flags.specs.Parity.{ParityTable}
use Rattle.flags.specs.contracts.parity
use Rattle.flags.specs.contracts.number
use Rattle.flags.specs.contracts.word
use Rattle.tight.specs.Numbers.{Numbers}
use Rattle.tight.specs.Tight.{Tight, TightAt}
use Rattle.tight.proofs.Law.{plainly, by_both, same, one_table}

-- the table, which `parity` alone reads, is one
pub one_parity_table : {r s : List ℕ} → ParityTable r → ParityTable s → r ≡ s
one_parity_table h k = one_table h k

module _ {M : Type 1} where
  pub number-U8Number-wide : Tight M number.U8Number.wide.signature (λ 𝓤. number.U8Number.wide.clauses)
  number-U8Number-wide c g r s = by_both c.𝓤 (r.result ≡ c.args.0) (r.result < 0x100) (s.result ≡ c.args.0) (s.result < 0x100) (λ e d. (same e.0 d.0, refl))

  pub number-U8Number-cut : Tight M number.U8Number.cut.signature (λ 𝓤. number.U8Number.cut.clauses)
  number-U8Number-cut c g r s = plainly c.𝓤 (λ e d. (same e d, refl))

  pub number-U16Number-wide : Tight M number.U16Number.wide.signature (λ 𝓤. number.U16Number.wide.clauses)
  number-U16Number-wide c g r s = by_both c.𝓤 (r.result ≡ c.args.0) (r.result < 0x1_0000) (s.result ≡ c.args.0) (s.result < 0x1_0000) (λ e d. (same e.0 d.0, refl))

  pub number-U16Number-cut : Tight M number.U16Number.cut.signature (λ 𝓤. number.U16Number.cut.clauses)
  number-U16Number-cut c g r s = plainly c.𝓤 (λ e d. (same e d, refl))

  pub parity-parity : Tight M parity.parity.signature (λ 𝓤. parity.parity.clauses)
  parity-parity c g r s = plainly c.𝓤 (λ e d. (same e d, refl))

  pub word-Flags-from_word : Tight M word.Flags.from_word.signature (λ 𝓤. word.Flags.from_word.clauses)
  word-Flags-from_word c g r s = plainly c.𝓤 (λ e d. (same e d, refl))

  pub word-Flags-is_flags : Tight M word.Flags.is_flags.signature (λ 𝓤. word.Flags.is_flags.clauses)
  word-Flags-is_flags c g r s = plainly c.𝓤 (λ e d. (same e d, refl))

  pub word-Flags-with_c : Tight M word.Flags.with_c.signature (λ 𝓤. word.Flags.with_c.clauses)
  word-Flags-with_c c g r s = plainly c.𝓤 (λ e d. (same e d, refl))

  pub word-Flags-with_co : Tight M word.Flags.with_co.signature (λ 𝓤. word.Flags.with_co.clauses)
  word-Flags-with_co c g r s = plainly c.𝓤 (λ e d. (same e d, refl))

  pub word-Flags-with_coa : Tight M word.Flags.with_coa.signature (λ 𝓤. word.Flags.with_coa.clauses)
  word-Flags-with_coa c g r s = plainly c.𝓤 (λ e d. (same e d, refl))

  pub word-U16FromFlags-from : Tight M word.U16FromFlags.from.signature (λ 𝓤. word.U16FromFlags.from.clauses)
  word-U16FromFlags-from c g r s = plainly c.𝓤 (λ e d. (same e d, refl))

module _ {M : Type 1} (w : Numbers) where
  pub word-Flags-set_szp_flags_from_result : TightAt M (record { signature = word.Flags.set_szp_flags_from_result.signature w.N; kept = _ }) (λ 𝓤. word.Flags.set_szp_flags_from_result.clauses w.N w.number w.methods w.clone w.cloning)
  word-Flags-set_szp_flags_from_result c g r s = plainly c.𝓤 (λ e d. (same e d, refl))

  pub number-Number-top_set : TightAt M (record { signature = number.Number.top_set.signature w.N; kept = _ }) (λ 𝓤. number.Number.top_set.clauses w.N w.number w.methods w.clone w.cloning)
  number-Number-top_set c g r s = plainly c.𝓤 (λ e d. (same e d, refl))
