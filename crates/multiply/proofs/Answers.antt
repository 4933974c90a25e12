-- The manual on what a multiply answers: 2n bits, read as a number that is signed or not, and C and O. Assumes nothing.
use mathlib.Core.{Path.◌≡◌, Path.refl, Path.sym, Path.ap, Path.◌∙◌, Bool.Bool, Bool.true, Bool.false}
use Prim.Native.Nat.{ℕ, ◌+◌, ◌*◌, ◌^◌, ◌<◌}
use native.Mathlib.Omega.{arith}
use lib.IntN.{pos, nat_abs, ◌*ℤ◌}
use Rattle.numbers.specs.Numbers.{valued}
use Rattle.flags.specs.{Szp.szp, declared.word.Flags.Flags}
use Rattle.numbers.proofs.{Powers.top_double, Powers.product_lt, SignLaws.plain, SignLaws.abs_sign, SignLaws.signed-wrapped, SignLaws.wrapped-sign}
use Rattle.multiply.specs.{Manual.significant, Multiply.negates, Multiply.multiply}
use Rattle.multiply.proofs.CarryLaws.{size_lt, product_value_is, manual_rule}

module _ (n x y : ℕ) (f : Flags) (hn : 0 < n) (hx : x < 2 ^ n) (hy : y < 2 ^ n) where
  -- without REP the 2n bits of the product, read as a number, are x times y, signed or not
  pub manual_product : (s : Bool) → valued s (n + n) (multiply n s false x y f).product ≡ valued s n x *ℤ valued s n y
  unfolding multiply
  manual_product true =
      let magnitude : nat_abs (valued true n x *ℤ valued true n y) ≡ plain n x * plain n y =
      ap nat_abs (product_value_is n false x y hn hx hy) ∙ abs_sign (negates n false x y) (plain n x * plain n y) in
      signed-wrapped (n + n) (valued true n x *ℤ valued true n y) (omega arith) (omega (arith, size_lt n false x y hn hx hy, top_double n hn, magnitude))
  manual_product false = ap pos (wrapped-sign (n + n) false (x * y) (product_lt n hx hy))

  -- C and O say of the upper half of what is returned, with REP or without, what the manual says
  pub manual_carries : (s rep : Bool) → ((multiply n s rep x y f).flags.carry ≡ significant n s (multiply n s rep x y f).product)
      × ((multiply n s rep x y f).flags.overflow ≡ significant n s (multiply n s rep x y f).product)
  unfolding multiply szp
  manual_carries true rep = (sym (manual_rule n rep x y hn hx hy), sym (manual_rule n rep x y hn hx hy))
  manual_carries false rep = (refl, refl)
