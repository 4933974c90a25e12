-- Each public function of `text` has a tight contract. Assumes nothing.
use mathlib.Core.{Path.◌≡◌, Path.refl, List.List}
use Prim.Native.Nat.{ℕ}
use Rattle.text.specs.Digits.{DigitTable, CapitalTable}
use Rattle.text.specs.contracts.digits
use Rattle.text.specs.contracts.fields
use Rattle.text.specs.contracts.found
use Rattle.text.specs.contracts.lines
use Rattle.text.specs.contracts.hex
use Rattle.text.specs.contracts.written
use Rattle.tight.specs.Tight.{Tight}
use Rattle.tight.proofs.Law.{plainly, same, one_table}

-- the tables, which `digit` and `capital` alone read, are one each
pub one_digit_table : {r s : List ℕ} → DigitTable r → DigitTable s → r ≡ s
one_digit_table h k = one_table h k

pub one_capital_table : {r s : List ℕ} → CapitalTable r → CapitalTable s → r ≡ s
one_capital_table h k = one_table h k

module _ {M : Type 1} where
  pub digits-digit : Tight M digits.digit.signature (λ 𝓤. digits.digit.clauses)
  digits-digit c g r s = plainly c.𝓤 (λ e d. (same e d, refl))

  pub digits-capital : Tight M digits.capital.signature (λ 𝓤. digits.capital.clauses)
  digits-capital c g r s = plainly c.𝓤 (λ e d. (same e d, refl))

  pub fields-four_at : Tight M fields.four_at.signature (λ 𝓤. fields.four_at.clauses)
  fields-four_at c g r s = plainly c.𝓤 (λ e d. (same e d, refl))

  pub fields-fields_at : Tight M fields.fields_at.signature (λ 𝓤. fields.fields_at.clauses)
  fields-fields_at c g r s = plainly c.𝓤 (λ e d. (same e d, refl))

  pub fields-read_fields : Tight M fields.read_fields.signature (λ 𝓤. fields.read_fields.clauses)
  fields-read_fields c g r s = plainly c.𝓤 (λ e d. (same e d, refl))

  pub found-read_at : Tight M found.read_at.signature (λ 𝓤. found.read_at.clauses)
  found-read_at c g r s = plainly c.𝓤 (λ e d. (same e d, refl))

  pub lines-line_end : Tight M lines.line_end.signature (λ 𝓤. lines.line_end.clauses)
  lines-line_end c g r s = plainly c.𝓤 (λ e d. (same e d, refl))

  pub lines-next_start : Tight M lines.next_start.signature (λ 𝓤. lines.next_start.clauses)
  lines-next_start c g r s = plainly c.𝓤 (λ e d. (same e.1 d.1, refl))

  pub hex-all_digits : Tight M hex.all_digits.signature (λ 𝓤. hex.all_digits.clauses)
  hex-all_digits c g r s = plainly c.𝓤 (λ e d. (same e d, refl))

  pub hex-two_digits : Tight M hex.two_digits.signature (λ 𝓤. hex.two_digits.clauses)
  hex-two_digits c g r s = plainly c.𝓤 (λ e d. (same e d, refl))

  pub hex-four_digits : Tight M hex.four_digits.signature (λ 𝓤. hex.four_digits.clauses)
  hex-four_digits c g r s = plainly c.𝓤 (λ e d. (same e d, refl))

  pub written-write : Tight M written.write.signature (λ 𝓤. written.write.clauses)
  written-write c g r s = plainly c.𝓤 (λ e d. (refl, λ i. (tt, (tt, (tt, (tt, (tt, (same e d i, tt))))))))
