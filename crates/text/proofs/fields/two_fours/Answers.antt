-- `text::fields::two_fours` meets its contract: a mask bounds what it lets through, and lanes are put together twice. Assumes nothing.
use mathlib.Core.Path.{ap, ◌∙◌}
use Prim.Native.Nat.{ℕ, ◌/◌}
use native.Mathlib.Omega.{arith}
use lib.Bits.{and_le_r}
use Rattle.text.proofs.{EightLaws.values_in, EightLaws.pairs_joined, EightLaws.fours_joined, EightLaws.two_fours_at}
use Rattle.text.proofs.fields.two_fours.Goals as goal

pub overflow_mul-n : goal.overflow_mul-n
overflow_mul-n c = record { fits = omega (arith, and_le_r c.eight_bytes-v.result 0x4040_4040_4040_4040) }

pub overflow_add-n : goal.overflow_add-n
overflow_add-n c = record { fits = omega (arith, and_le_r c.eight_bytes-v.result 0x4040_4040_4040_4040, and_le_r c.eight_bytes-v.result 0x0F0F_0F0F_0F0F_0F0F) }

pub overflow_mul-p : goal.overflow_mul-p
overflow_mul-p c = record { fits = omega (arith, and_le_r (values_in c.eight_bytes-v.result) 0x000F_000F_000F_000F) }

pub overflow_add-p : goal.overflow_add-p
overflow_add-p c =
    let n = values_in c.eight_bytes-v.result in
    record { fits = omega (arith, and_le_r n 0x000F_000F_000F_000F, and_le_r (n / 0x100) 0x000F_000F_000F_000F) }

pub overflow_mul-result : goal.overflow_mul-result
overflow_mul-result c = record { fits = omega (arith, and_le_r (pairs_joined (values_in c.eight_bytes-v.result)) 0x0000_00FF_0000_00FF) }

pub overflow_add-result : goal.overflow_add-result
overflow_add-result c =
    let p = pairs_joined (values_in c.eight_bytes-v.result) in
    record { fits = omega (arith, and_le_r p 0x0000_00FF_0000_00FF, and_le_r (p / 0x1_0000) 0x0000_00FF_0000_00FF) }

pub returns : goal.returns
returns c =
    ap (λ (v : ℕ). fours_joined (pairs_joined (values_in v))) c.eight_bytes-v.ensures ∙ two_fours_at c.args.text.now c.args.at c.requires.at_in_bounds c.requires.text_value
