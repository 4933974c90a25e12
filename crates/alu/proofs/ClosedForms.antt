-- The shifts and rotates of n bits in closed form: what the steps of a whole count come to, for every number of n bits and
-- every count, 0 included. The definitions stay the single step repeated; these are laws about them.
-- Assumes nothing.
use mathlib.Core.{Path.◌≡◌, Path.refl, Path.sym, Path.ap, Path.◌∙◌, Bool.Bool, Bool.true, Bool.false}
use Prim.Native.Nat.{ℕ, zero, suc, ◌+◌, ◌-◌, ◌*◌, ◌/◌, ◌%◌, ◌^◌, ◌<◌}
use native.Mathlib.{Nat.mul-div-mul_right, Nat.div-div-eq-div-mul, Nat.pow-suc, Nat.mod-mod, Nat.mul_assoc, Nat.div-one, Omega.arith}
use lib.{Arith.digits_mod, Arith.digits_div, Dec.eqb, Dec.lit<, Pow.mod-mod-pow, Pow.field}
use Rattle.numbers.specs.Numbers.{bit, is_set, top_set}
use Rattle.numbers.proofs.BitLaws.{bit_le, flag_of}
use Rattle.alu.specs.Step.{Shift, Shl, Shr, Sar, Rol, Ror, Rcl, Rcr, Step, before, steps}
use Rattle.alu.specs.Shift.{of_last, leftward, rightward}
use Rattle.alu.proofs.{StepLaws.steps-keep, TurnLaws.turned}
use Rattle.alu.proofs.CountLaws.{signs, shl-value, shr-value, sar-value, ror-value, rol-value}
use Rattle.alu.proofs.OneBitMore.{above, below, below_top, shl_above, rcl_above, rcr_above, shr_below, sar_below, rol_carry, ror_carry}

-- a number of n + 1 bits whose top bit is C, and one whose lowest is
abbrev pub c_above : ℕ → ℕ → Step
c_above n w = before (w % 2 ^ n) (is_set n w)

abbrev pub c_below : ℕ → Step
c_below w = before (w / 2) (is_set 0 w)

pub from_above : (n : ℕ) (t : Step) → t.value < 2 ^ n → {w : ℕ} → w ≡ above n t → c_above n w ≡ t
from_above n t h {w} e =
    let value : w % 2 ^ n ≡ t.value = ap (λ (y : ℕ). y % 2 ^ n) e ∙ digits_mod (bit t.carry) h in
    let digit : w / 2 ^ n % 2 ≡ bit t.carry = ap (λ (y : ℕ). y / 2 ^ n % 2) e ∙ ap (λ (y : ℕ). y % 2) (digits_div (bit t.carry) h) ∙ omega (arith, bit_le t.carry) in
    let carry = flag_of t.carry digit in
    λ i. record { value = value i; carry = carry i }

pub from_below : (t : Step) {w : ℕ} → w ≡ below t → c_below w ≡ t
from_below t {w} e =
    let half : w / 2 ≡ t.value = omega (arith, e, bit_le t.carry) in
    let digit : w / 2 ^ 0 % 2 ≡ bit t.carry = omega (arith, e, bit_le t.carry, div-one w) in
    let carry = flag_of t.carry digit in
    λ i. record { value = half i; carry = carry i }

-- what stands above n + 1 bits does not matter
pub kept : (n y : ℕ) → c_above n y ≡ c_above n (y % 2 ^ suc n)
kept n y =
    let one : 1 + n ≡ suc n = omega arith in
    let value = sym (mod-mod-pow y 1 n) ∙ ap (λ (m : ℕ). y % 2 ^ m % 2 ^ n) one in
    let digit : y / 2 ^ n % 2 ≡ y % 2 ^ suc n / 2 ^ n % 2 = sym (mod-mod (y / 2 ^ n) 2) ∙ ap (λ (d : ℕ). d % 2) (sym (field y 1 n) ∙ ap (λ (m : ℕ). y % 2 ^ m / 2 ^ n) one) in
    λ i. record { value = value i; carry = eqb (digit i) 1 }

-- C below a number that was doubled first
pub halved : (y k : ℕ) → c_below (y * 2 / 2 ^ k) ≡ before (y / 2 ^ k) (is_set k (y * 2))
halved y k =
    let value = div-div-eq-div-mul (y * 2) (2 ^ k) 2 ∙ mul-div-mul_right y (2 ^ k) (lit< tt) in
    let digit : y * 2 / 2 ^ k / 2 ^ 0 % 2 ≡ y * 2 / 2 ^ k % 2 = ap (λ (d : ℕ). d % 2) (div-one (y * 2 / 2 ^ k)) in
    λ i. record { value = value i; carry = eqb (digit i) 1 }

-- for k from 1 on, bit k of twice a number is bit k - 1 of the number
pub last_out : (k x : ℕ) → is_set (suc k) (x * 2) ≡ is_set k x
last_out k x = ap (λ (y : ℕ). eqb (y % 2) 1) (ap (λ (p : ℕ). x * 2 / p) (pow-suc 2 k) ∙ mul-div-mul_right x (2 ^ k) (lit< tt))

-- with C above it a number of n bits is one of n + 1
pub whole_lt : (n x : ℕ) (c : Bool) → x < 2 ^ n → bit c * 2 ^ n + x < 2 ^ suc n
whole_lt n x true h = omega (arith, pow-suc 2 n)
whole_lt n x false h = omega (arith, pow-suc 2 n)

-- a count of 0 makes no step: number and C as they came, and O clear
module _ (n : ℕ) (shift : Shift) (x : ℕ) (c : Bool) where
  pub left-none : leftward n shift x 0 c ≡ record { result = x; carry = c; overflow = false }
  unfolding leftward steps
  left-none = refl

  pub right-none : rightward n shift x 0 c ≡ record { result = x; carry = c; overflow = false }
  unfolding rightward steps
  right-none = refl

module _ (n x k : ℕ) (hn : 0 < n) (hx : x < 2 ^ n) where
  -- SHL: the number times 2 ^ k, of which n bits are kept; C, the bit that last left, is the one above them
  pub shl-closed : steps n Shl k (before x false) ≡ before (x * 2 ^ k % 2 ^ n) (is_set n (x * 2 ^ k))
  shl-closed =
      let none : x ≡ 0 * 2 ^ n + x = omega arith in
      let more : x < 2 ^ suc n = omega (arith, pow-suc 2 n) in
      sym
      (kept n (x * 2 ^ k)
      ∙ from_above n (steps n Shl k (before x false)) (steps-keep n Shl k (before x false) hx)
      (sym (shl-value (suc n) x false more k) ∙ ap (λ (y : ℕ). (steps (suc n) Shl k (before y false)).value) none ∙ sym (shl_above n hn (before x false) hx k)))

  -- SHR: the number over 2 ^ k; C is the bit that last left, bit k of twice the number
  pub shr-closed : steps n Shr k (before x false) ≡ before (x / 2 ^ k) (is_set k (x * 2))
  shr-closed =
      let none : x * 2 ≡ below (before x false) = omega arith in
      let small : x * 2 < 2 ^ suc n = omega (arith, pow-suc 2 n) in
      sym
      (from_below (steps n Shr k (before x false))
      (sym (shr-value (suc n) (x * 2) false small k) ∙ ap (λ (y : ℕ). (steps (suc n) Shr k (before y false)).value) none ∙ sym (shr_below n hn (before x false) hx k)))
      ∙ halved x k

  -- SAR: the same with the sign above the number, as often as there are steps
  pub sar-closed : steps n Sar k (before x false) ≡ before ((signs n k x + x) / 2 ^ k) (is_set k ((signs n k x + x) * 2))
  sar-closed =
      let small : below (before x false) < 2 ^ suc n = omega (arith, pow-suc 2 n) in
      sym
      (from_below (steps n Sar k (before x false))
      (ap (λ (y : ℕ). y / 2 ^ k) (sym twice) ∙ sym (sar-value (suc n) (below (before x false)) false (omega arith) small k) ∙ sym (sar_below n hn (before x false) hx k)))
      ∙ halved (signs n k x + x) k
    where
      over : signs (suc n) k (below (before x false)) ≡ signs n k x * 2
      over =
          ap (λ (t : Bool). bit t * (2 ^ k - 1) * 2 ^ suc n) (below_top n hn (before x false) hx) ∙ ap (λ (p : ℕ). bit (top_set n x) * (2 ^ k - 1) * p) (pow-suc 2 n)
          ∙ sym (mul_assoc (bit (top_set n x) * (2 ^ k - 1)) (2 ^ n) 2)

      twice : signs (suc n) k (below (before x false)) + below (before x false) ≡ (signs n k x + x) * 2
      twice = omega (arith, over)

  module _ (c : Bool) where
    -- RCL and RCR: the number with C above it, turned left or right by k mod (n + 1)
    pub rcl-closed : steps n Rcl k (before x c) ≡ c_above n (turned (k % suc n) (suc n - k % suc n) (bit c * 2 ^ n + x))
    rcl-closed =
        sym (from_above n (steps n Rcl k (before x c)) (steps-keep n Rcl k (before x c) hx)
        (sym (rol-value (suc n) (bit c * 2 ^ n + x) false (whole_lt n x c hx) (omega arith) k) ∙ sym (rcl_above n hn (before x c) hx k)))

    pub rcr-closed : steps n Rcr k (before x c) ≡ c_above n (turned (suc n - k % suc n) (k % suc n) (bit c * 2 ^ n + x))
    rcr-closed =
        sym (from_above n (steps n Rcr k (before x c)) (steps-keep n Rcr k (before x c) hx)
        (sym (ror-value (suc n) (bit c * 2 ^ n + x) false (whole_lt n x c hx) (omega arith) k) ∙ sym (rcr_above n hn (before x c) hx k)))

-- ROL and ROR: the number turned left or right by k mod n; C is the bit that last came round, and clear where k is 0
module _ (n x : ℕ) (hn : 0 < n) (hx : x < 2 ^ n) where
  pub rol-closed : (k : ℕ) → steps n Rol k (before x false) ≡ before (turned (k % n) (n - k % n) x) (of_last k (is_set 0 (turned (k % n) (n - k % n) x)))
  unfolding steps
  rol-closed zero = let value = rol-value n x false hx hn 0 in λ i. record { value = value i; carry = false }
  rol-closed (suc k) =
      let value = rol-value n x false hx hn (suc k) in
      let carry = rol_carry n hn (before x false) hx k ∙ ap (is_set 0) value in
      λ i. record { value = value i; carry = carry i }

  pub ror-closed : (k : ℕ) → steps n Ror k (before x false) ≡ before (turned (n - k % n) (k % n) x) (of_last k (top_set n (turned (n - k % n) (k % n) x)))
  unfolding steps
  ror-closed zero = let value = ror-value n x false hx hn 0 in λ i. record { value = value i; carry = false }
  ror-closed (suc k) =
      let value = ror-value n x false hx hn (suc k) in
      let carry = ror_carry n hn (before x false) hx k ∙ ap (top_set n) value in
      λ i. record { value = value i; carry = carry i }
