-- What holds of the number of each op holds of the one that is chosen. Assumes nothing.
use mathlib.Core.{Path.◌≡◌, Path.refl, Bool.Bool, Bool.true, Bool.false, Bool.cond}
use Prim.Native.Nat.{ℕ}
use lib.Dec.{eqb}
use Rattle.numbers.specs.Numbers.{is_set}
use Rattle.registers.specs.Over.{by_op}

-- of an 8-bit divide's it may be known from the op and the mode alone
pub by_op_lem : (op mode multiply8 multiply16 divide8 divide16 adjust : ℕ) (P : ℕ → Type 0) → P multiply8 → P multiply16 → (eqb op 0x11 ≡ true → is_set 0 mode ≡ false → P divide8) → P divide16
    → P adjust → P (by_op op mode multiply8 multiply16 divide8 divide16 adjust)
by_op_lem op mode multiply8 multiply16 divide8 divide16 adjust P m8 m16 d8 d16 a = by (eqb op 0x10) (eqb op 0x11) (is_set 0 mode) d8
  where
    by : (m d w : Bool) → (d ≡ true → w ≡ false → P divide8) → P (cond m (cond w multiply16 multiply8) (cond d (cond w divide16 divide8) adjust))
    by true d true h = m16
    by true d false h = m8
    by false true true h = d16
    by false true false h = h refl refl
    by false false w h = a
