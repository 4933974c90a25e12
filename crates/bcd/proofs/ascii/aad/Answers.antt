-- `bcd::ascii::aad` meets its contract, by the law of AAD. Assumes nothing.
use Rattle.std.proofs.Common.{ℕ, refl, arith}
use Rattle.corx.specs.Views.{halves}
use Rattle.bcd.proofs.{AdjustLaws.few_steps, AdjustLaws.aad_is}
use Rattle.bcd.proofs.ascii.aad.Goals as goal

pub overflow_add-result : goal.overflow_add-result
overflow_add-result c =
    let few = few_steps _ c.args.imm8 {product = halves (λ (x : ℕ). x) c.corx-product.result} c.corx-product.ensures (omega arith) in
    omega arith

pub returns : goal.returns
returns c =
    aad_is _ _ {product = halves (λ (x : ℕ). x) c.corx-product.result} c.corx-product.ensures _ _ c.ah.ensures
    c.al.ensures refl c.set_szp_flags_from_result.ensures
