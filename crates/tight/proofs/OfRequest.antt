-- Each public function of `request` has a tight contract. Assumes nothing.
use mathlib.Core.Path.{refl}
use Rattle.request.specs.contracts.decode
use Rattle.request.specs.contracts.raw
use Rattle.tight.specs.Tight.{Tight}
use Rattle.tight.proofs.Law.{plainly, same}

module _ {M : Type 1} where
  pub decode-decode : Tight M decode.decode.signature (λ 𝓤. decode.decode.clauses)
  decode-decode c g r s = plainly c.𝓤 (λ e d. (same e d, refl))

  pub raw-Request-fits : Tight M raw.Request.fits.signature (λ 𝓤. raw.Request.fits.clauses)
  raw-Request-fits c g r s = plainly c.𝓤 (λ e d. (same e d, refl))

  pub raw-Raw-with_operation : Tight M raw.Raw.with_operation.signature (λ 𝓤. raw.Raw.with_operation.clauses)
  raw-Raw-with_operation c g r s = plainly c.𝓤 (λ e d. (same e d, refl))
