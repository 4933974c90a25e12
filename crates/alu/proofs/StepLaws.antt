-- Shifts and rotates over the width n: steps keep n bits, and a flag of the last step is as the code tests it.
-- Assumes nothing.
use mathlib.Core.{Path.◌≡◌, Path.refl, Path.ap, Path.◌∙◌, Bool.Bool, Bool.true, Bool.false, Bool.not}
use Prim.Native.Nat.{ℕ, zero, suc, ◌+◌, ◌-◌, ◌*◌, ◌/◌, ◌^◌, ◌<◌}
use native.Mathlib.{Nat.mod-lt, Nat.div-eq_of_lt, Omega.arith}
use lib.{Arith.digits_div, Bits.bit_and, Dec.eqb, Pow.pow_pos}
use borrow.Author.Tests.{le-leb, lt-leb}
use Rattle.numbers.specs.Numbers.{bit, is_set, top, top_set}
use Rattle.numbers.proofs.{Powers.top_twice, Masks.mask_bit, SignedLaws.TopIs, SignedLaws.top_is}
use Rattle.alu.specs.Result.{ResultCo, ResultCoa}
use Rattle.alu.specs.Step.{Shift, Shl, Shr, Sar, Rol, Ror, Rcl, Rcr, Step, before, left, right, step, steps}
use Rattle.alu.specs.Shift.{of_last, with_a, shl, shl_af}

-- n bits stay n bits
right_keeps : (n : ℕ) (enters : Bool) (x : ℕ) → x < 2 ^ n → (bit enters * 2 ^ n + x) / 2 < 2 ^ n
right_keeps n true x h = omega arith
right_keeps n false x h = omega arith

step_keeps : (n : ℕ) (shift : Shift) (s : Step) → s.value < 2 ^ n → (step n shift s).value < 2 ^ n
unfolding step left right
step_keeps n Shl s h = mod-lt (s.value * 2 + 0) (pow_pos n)
step_keeps n Rol s h = mod-lt (s.value * 2 + bit (top_set n s.value)) (pow_pos n)
step_keeps n Rcl s h = mod-lt (s.value * 2 + bit s.carry) (pow_pos n)
step_keeps n Shr s h = right_keeps n false s.value h
step_keeps n Sar s h = right_keeps n (top_set n s.value) s.value h
step_keeps n Ror s h = right_keeps n (is_set 0 s.value) s.value h
step_keeps n Rcr s h = right_keeps n s.carry s.value h

pub steps-keep : (n : ℕ) (shift : Shift) (k : ℕ) (s : Step) → s.value < 2 ^ n → (steps n shift k s).value < 2 ^ n
unfolding steps
steps-keep n shift zero s h = h
steps-keep n shift (suc k) s h = step_keeps n shift (steps n shift k s) (steps-keep n shift k s h)

-- the top bit as a digit
pub top_digit : (n x : ℕ) → 0 < n → x < 2 ^ n → x / top n ≡ bit (top_set n x)
top_digit n x hn hx = by (top_set n x) (top_is n x)
  where
    by : (t : Bool) → TopIs t (top n) x → x / top n ≡ bit t
    by true h =
        let m = top_twice n hn in
        let all : x ≡ 1 * top n + (x - top n) = omega arith in
        ap (λ (y : ℕ). y / top n) all ∙ digits_div 1 (omega arith)
    by false h = div-eq_of_lt h

-- SAR leaves the sign as it is
module _ (n x : ℕ) (hn : 0 < n) where
  kept : top_set n (right n (top_set n x) x).value ≡ top_set n x
  unfolding right
  kept = by (top_set n x) (top_is n x)
    where
      by : (s : Bool) → TopIs s (top n) x → top_set n ((bit s * 2 ^ n + x) / 2) ≡ s
      by true h = let m = top_twice n hn in le-leb (top n) ((1 * 2 ^ n + x) / 2) (omega arith)
      by false h = lt-leb (top n) ((0 * 2 ^ n + x) / 2) (omega arith)

pub stays : (n x : ℕ) (c : Bool) → 0 < n → (k : ℕ) → top_set n (steps n Sar k (before x c)).value ≡ top_set n x
unfolding step steps
stays n x c hn zero = refl
stays n x c hn (suc k) = kept n (steps n Sar k (before x c)).value hn ∙ stays n x c hn k

-- a flag of the last step, where there is one
pub some_step : (count : ℕ) (flag : Bool) → 0 < count → flag ≡ of_last count flag
some_step zero flag h = absurd (omega arith)
some_step (suc k) flag h = refl

-- A of op 0C, on what SHL gave
pub with_a_lem : (n x count : ℕ) {r : ResultCo} {a : Bool} → r ≡ shl n x count → a ≡ of_last count (not (eqb (bit_and r.result 16) 0))
    → ◌≡◌ {A = ResultCoa} (record { result = r.result; carry = r.carry; overflow = r.overflow; aux_carry = a }) (shl_af n x count)
with_a_lem n x count {r} e ea =
    let flag = ea ∙ ap (of_last count) (mask_bit 4 r.result) in
    (λ i. record { result = r.result; carry = r.carry; overflow = r.overflow; aux_carry = flag i }) ∙ ap (with_a count) e
