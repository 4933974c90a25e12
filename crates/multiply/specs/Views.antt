-- The product of either width, read as that of the definitions over n: its halves are one number of 2n bits.
-- Assumes nothing.
use Rattle.std.specs.Prelude.{ℕ, ◌+◌, ◌*◌, ◌^◌}
use Rattle.multiply.specs.Routines.{Multiplied}
use Rattle.multiply.specs.declared.mul.Product

abbrev pub product : {N : Type 0} → ℕ → (N → ℕ) → Product.Product N → Multiplied
product n value r = record { product = value r.upper * 2 ^ n + value r.lower; flags = r.flags; steps = r.steps }
