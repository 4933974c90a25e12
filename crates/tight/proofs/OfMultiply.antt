-- Each public function of `multiply` has a tight contract. Assumes nothing.
use mathlib.Core.Path.{refl}
use Prim.Native.Nat.{◌^◌, ◌<◌}
use Rattle.multiply.specs.contracts.mul
use Rattle.tight.specs.Numbers.{Numbers}
use Rattle.tight.specs.Tight.{TightAt}
use Rattle.tight.proofs.{Law.by_both, Law.same, Views.product_tight}

module _ {M : Type 1} (w : Numbers) where
  pub mul-mul : TightAt M (record { signature = mul.mul.signature w.N; kept = _ }) (λ 𝓤. mul.mul.clauses w.N w.number w.methods w.clone w.cloning)
  mul-mul c g r s =
      let n = w.number.BITS in
      by_both c.𝓤 _ (w.number.value r.result.lower < 2 ^ n) _ (w.number.value s.result.lower < 2 ^ n) (λ e d.
      (product_tight w.number.value w.faithful n r.result s.result e.1 d.1 (same e.0 d.0), refl))
