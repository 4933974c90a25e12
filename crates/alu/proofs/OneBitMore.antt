-- C as one bit more: with it, steps of n bits are steps of n + 1. RCL so is ROL, and RCR is ROR. Assumes nothing.
use mathlib.Core.{Path.◌≡◌, Path.refl, Path.sym, Path.ap, Path.◌∙◌, Bool.Bool, Bool.true, Bool.false}
use Prim.Native.Nat.{ℕ, zero, suc, ◌+◌, ◌*◌, ◌/◌, ◌%◌, ◌^◌, ◌<◌}
use native.Mathlib.{Nat.pow-suc, Nat.mod-eq_of_lt, Nat.div-one, Nat.div-add-mod', Omega.arith}
use lib.{Arith.digits_mod, Dec.eqb}
use borrow.Author.Tests.{le-leb, lt-leb}
use Rattle.numbers.specs.Numbers.{bit, is_set, top, top_set}
use Rattle.numbers.proofs.{Powers.top_twice, Powers.rest_small, Powers.rest_large, SignedLaws.TopIs, SignedLaws.top_is, BitLaws.bit_le, BitLaws.bit-is_set, BitLaws.flag_of}
use Rattle.alu.specs.Step.{Shift, Shl, Shr, Sar, Rol, Ror, Rcl, Rcr, Step, before, left, right, step, steps}
use Rattle.alu.proofs.StepLaws.{steps-keep}

-- C above the value, and C below it
abbrev pub above : ℕ → Step → ℕ
above n s = bit s.carry * 2 ^ n + s.value

abbrev pub below : Step → ℕ
below s = s.value * 2 + bit s.carry

-- with C one bit more, a step of n bits is a step of n + 1
module _ (n : ℕ) (hn : 0 < n) (s : Step) (hs : s.value < 2 ^ n) where
  left_above : (e : Bool) → above n (left n e s.value) ≡ (left (suc n) e (above n s)).value
  unfolding left
  left_above e = by (top_set n s.value) (top_is n s.value) ∙ sym (rest s.carry)
    where
      by : (t : Bool) → TopIs t (top n) s.value → bit t * 2 ^ n + (s.value * 2 + bit e) % 2 ^ n ≡ s.value * 2 + bit e
      by true g =
          let t = top_twice n hn in
          let b = bit_le e in
          let r = rest_large (s.value * 2 + bit e) (2 ^ n) (omega arith) (omega arith) in
          omega arith
      by false g =
          let t = top_twice n hn in
          let b = bit_le e in
          let r = rest_small (s.value * 2 + bit e) (2 ^ n) (omega arith) in
          omega arith

      small : s.value * 2 + bit e < 2 ^ suc n
      small = omega (arith, pow-suc 2 n, bit_le e)

      rest : (c : Bool) → ((bit c * 2 ^ n + s.value) * 2 + bit e) % 2 ^ suc n ≡ s.value * 2 + bit e
      rest true = let all : (1 * 2 ^ n + s.value) * 2 + bit e ≡ 1 * 2 ^ suc n + (s.value * 2 + bit e) = omega (arith, pow-suc 2 n) in ap (λ (y : ℕ). y % 2 ^ suc n) all ∙ digits_mod 1 small
      rest false = let all : (0 * 2 ^ n + s.value) * 2 + bit e ≡ s.value * 2 + bit e = omega arith in ap (λ (y : ℕ). y % 2 ^ suc n) all ∙ mod-eq_of_lt small

  right_below : (e : Bool) → below (right n e s.value) ≡ (right (suc n) e (below s)).value
  unfolding right
  right_below true = omega (arith, top_twice n hn, pow-suc 2 n, bit-is_set 0 s.value, div-one s.value, bit_le s.carry)
  right_below false = omega (arith, bit-is_set 0 s.value, div-one s.value, bit_le s.carry)

  -- what enters: the bit that leaves n + 1 bits above is C, and the one that leaves below is that of the value
  above_top : top_set (suc n) (above n s) ≡ s.carry
  above_top = by s.carry
    where
      by : (c : Bool) → top_set (suc n) (bit c * 2 ^ n + s.value) ≡ c
      by true = le-leb (top (suc n)) (1 * 2 ^ n + s.value) (omega (arith, top_twice (suc n) (omega arith), pow-suc 2 n))
      by false = lt-leb (top (suc n)) (0 * 2 ^ n + s.value) (omega (arith, top_twice (suc n) (omega arith), pow-suc 2 n))

  above_low : is_set 0 (above n s) ≡ is_set 0 s.value
  above_low = ap (λ (d : ℕ). eqb d 1) (by s.carry)
    where
      by : (c : Bool) → (bit c * 2 ^ n + s.value) / 2 ^ 0 % 2 ≡ s.value / 2 ^ 0 % 2
      by true = omega (arith, top_twice n hn, div-one (1 * 2 ^ n + s.value), div-one s.value)
      by false = omega (arith, div-one (0 * 2 ^ n + s.value), div-one s.value)

  pub below_top : top_set (suc n) (below s) ≡ top_set n s.value
  below_top = by (top_set n s.value) (top_is n s.value)
    where
      by : (t : Bool) → TopIs t (top n) s.value → top_set (suc n) (below s) ≡ t
      by true g = le-leb (top (suc n)) (below s) (omega (arith, top_twice n hn, top_twice (suc n) (omega arith), pow-suc 2 n))
      by false g = lt-leb (top (suc n)) (below s) (omega (arith, top_twice n hn, top_twice (suc n) (omega arith), pow-suc 2 n, bit_le s.carry))

  right_above : above n (right n s.carry s.value) ≡ (right (suc n) (is_set 0 (above n s)) (above n s)).value
  unfolding right
  right_above = by (is_set 0 s.value) ∙ ap (λ (b : Bool). (bit b * 2 ^ suc n + above n s) / 2) (sym above_low)
    where
      by : (b : Bool) → bit b * 2 ^ n + above n s / 2 ≡ (bit b * 2 ^ suc n + above n s) / 2
      by true = omega (arith, pow-suc 2 n)
      by false = omega arith

-- and so of all steps of a count, by what one of them does
module _ (n : ℕ) (a b : Shift) (with-c : Step → ℕ)
    (one : (s t : Step) → s.value < 2 ^ n → with-c s ≡ t.value → with-c (step n a s) ≡ (step (suc n) b t).value) (s : Step) (hs : s.value < 2 ^ n) where
  all_steps : (k : ℕ) → with-c (steps n a k s) ≡ (steps (suc n) b k (before (with-c s) false)).value
  unfolding steps
  all_steps zero = refl
  all_steps (suc k) = one (steps n a k s) (steps (suc n) b k (before (with-c s) false)) (steps-keep n a k s hs) (all_steps k)

module _ (n : ℕ) (hn : 0 < n) (s : Step) (hs : s.value < 2 ^ n) where
  -- SHL with C above it is SHL of n + 1 bits
  pub shl_above : (k : ℕ) → above n (steps n Shl k s) ≡ (steps (suc n) Shl k (before (above n s) false)).value
  unfolding step
  shl_above = all_steps n Shl Shl (above n) (λ s t h e. left_above n hn s h false ∙ ap (λ (w : ℕ). (left (suc n) false w).value) e) s hs

  -- RCL is ROL of n + 1 bits, C above the others, and RCR is ROR of them
  pub rcl_above : (k : ℕ) → above n (steps n Rcl k s) ≡ (steps (suc n) Rol k (before (above n s) false)).value
  unfolding step
  rcl_above =
      all_steps n Rcl Rol (above n)
      (λ s t h e. left_above n hn s h s.carry ∙ ap (λ (b : Bool). (left (suc n) b (above n s)).value) (sym (above_top n hn s h))
      ∙ ap (λ (w : ℕ). (left (suc n) (top_set (suc n) w) w).value) e) s hs

  pub rcr_above : (k : ℕ) → above n (steps n Rcr k s) ≡ (steps (suc n) Ror k (before (above n s) false)).value
  unfolding step
  rcr_above = all_steps n Rcr Ror (above n) (λ s t h e. right_above n hn s h ∙ ap (λ (w : ℕ). (right (suc n) (is_set 0 w) w).value) e) s hs

  -- SHR and SAR with C below them are those of n + 1 bits
  pub shr_below : (k : ℕ) → below (steps n Shr k s) ≡ (steps (suc n) Shr k (before (below s) false)).value
  unfolding step
  shr_below = all_steps n Shr Shr below (λ s t h e. right_below n hn s h false ∙ ap (λ (w : ℕ). (right (suc n) false w).value) e) s hs

  pub sar_below : (k : ℕ) → below (steps n Sar k s) ≡ (steps (suc n) Sar k (before (below s) false)).value
  unfolding step
  sar_below =
      all_steps n Sar Sar below
      (λ s t h e. right_below n hn s h (top_set n s.value) ∙ ap (λ (b : Bool). (right (suc n) b (below s)).value) (sym (below_top n hn s h))
      ∙ ap (λ (w : ℕ). (right (suc n) (top_set (suc n) w) w).value) e) s hs

-- ROL and ROR: C is the bit that last came round, which now stands below or above
module _ (n : ℕ) (hn : 0 < n) (s : Step) (hs : s.value < 2 ^ n) (k : ℕ) where
  pub rol_carry : (steps n Rol (suc k) s).carry ≡ is_set 0 (steps n Rol (suc k) s).value
  unfolding steps step left
  rol_carry = by (steps n Rol k s).value (top_set n (steps n Rol k s).value)
    where
      by : (v : ℕ) (t : Bool) → t ≡ is_set 0 ((v * 2 + bit t) % 2 ^ n)
      by v t =
          let d = v * 2 + bit t in
          let even : d / 2 ^ n * 2 ^ n ≡ d / 2 ^ n * top n * 2 = ap (λ (p : ℕ). d / 2 ^ n * p) (sym (top_twice n hn)) ∙ omega arith in
          let low : d % 2 ^ n / 2 ^ 0 % 2 ≡ bit t = omega (arith, even, div-add-mod' d (2 ^ n), div-one (d % 2 ^ n), bit_le t) in
          sym (flag_of t low)

  pub ror_carry : (steps n Ror (suc k) s).carry ≡ top_set n (steps n Ror (suc k) s).value
  unfolding steps step right
  ror_carry = by (steps n Ror k s).value (steps-keep n Ror k s hs) (is_set 0 (steps n Ror k s).value)
    where
      by : (v : ℕ) → v < 2 ^ n → (t : Bool) → t ≡ top_set n ((bit t * 2 ^ n + v) / 2)
      by v h true = sym (le-leb (top n) ((1 * 2 ^ n + v) / 2) (omega (arith, top_twice n hn)))
      by v h false = sym (lt-leb (top n) ((0 * 2 ^ n + v) / 2) (omega (arith, top_twice n hn)))
