-- The digits of R and S above the width are 0. Assumes nothing.
use mathlib.Core.{Path.◌≡◌, Path.refl, Bool.Bool, Bool.true, Bool.false}
use Prim.Native.Nat.{ℕ, ◌+◌, ◌-◌, ◌^◌, ◌<◌}
use native.Mathlib.Nat.{mod-lt}
use lib.Pow.{pow_pos}
use Rattle.numbers.specs.Numbers.{bit}
use Rattle.flags.specs.declared.word.Flags.{Flags}
use Rattle.alu.specs.{Step.Shl, Step.Shr, Step.Sar, Step.Rol, Step.Ror, Step.Rcl, Step.Rcr, Step.before, Shift.leftward, Shift.rightward, Shift.downward, Sum.adc, Sum.sbb}
use Rattle.alu.proofs.StepLaws.{steps-keep}
use Rattle.multiply.proofs.CarryLaws.{wrapped_lt}
use Rattle.divide.specs.Divide.{accepts, quotient_of, remainder_of, quotient_returned, divide}
use Rattle.request.specs.declared.operation.Alu.{Alu}
use Rattle.request.specs.declared.operation.Alu.TheVariants as Ops
use Rattle.answer.specs.Charted.{alu_of, of_divided}

-- ---- R of an ALU operation

pub alu_fits : (n : ℕ) (alu : Alu) (x y : ℕ) (f : Flags) → x < 2 ^ n → (alu_of n alu x y f).r < 2 ^ n
unfolding adc sbb leftward rightward downward
alu_fits n Ops.Add x y f h = mod-lt (x + y + 0) (pow_pos n)
alu_fits n Ops.Adc x y f h = mod-lt (x + y + bit f.carry) (pow_pos n)
alu_fits n Ops.Sub x y f h = mod-lt (2 ^ n + x - (y + 0)) (pow_pos n)
alu_fits n Ops.Sbb x y f h = mod-lt (2 ^ n + x - (y + bit f.carry)) (pow_pos n)
alu_fits n Ops.Neg x y f h = mod-lt (2 ^ n + 0 - (x + 0)) (pow_pos n)
alu_fits n Ops.Shl x y f h = steps-keep n Shl y (before x false) h
alu_fits n Ops.Shr x y f h = steps-keep n Shr y (before x false) h
alu_fits n Ops.Sar x y f h = steps-keep n Sar y (before x false) h
alu_fits n Ops.Rol x y f h = steps-keep n Rol y (before x false) h
alu_fits n Ops.Ror x y f h = steps-keep n Ror y (before x false) h
alu_fits n Ops.Rcl x y f h = steps-keep n Rcl y (before x f.carry) h
alu_fits n Ops.Rcr x y f h = steps-keep n Rcr y (before x f.carry) h
alu_fits n Ops.ShlAf x y f h = steps-keep n Shl y (before x false) h

-- ---- R and S of a divide

module _ (n : ℕ) (s rep : Bool) (d b : ℕ) (f : Flags) where
  by : (x : Bool) → accepts n s d b ≡ x → ((of_divided (divide n s rep d b f)).r < 2 ^ n) × ((of_divided (divide n s rep d b f)).s < 2 ^ n)
  unfolding divide
  by true e = rw e (wrapped_lt n (quotient_returned s rep (quotient_of n s d b)), wrapped_lt n (remainder_of n s d b))
  by false e = rw e (pow_pos n, pow_pos n)

  pub divided-fits : ((of_divided (divide n s rep d b f)).r < 2 ^ n) × ((of_divided (divide n s rep d b f)).s < 2 ^ n)
  divided-fits = by (accepts n s d b) refl
