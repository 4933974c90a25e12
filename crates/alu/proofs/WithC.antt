-- A result and its C, read off a number that was moved at once, are those of the last step. Assumes nothing.
use mathlib.Core.{Path.◌≡◌, Path.sym, Path.ap, Path.ap₂, Path.◌∙◌, Bool.Bool, Bool.true, Bool.false, Bool.not}
use Prim.Native.Nat.{ℕ, zero, suc, ◌+◌, ◌*◌, ◌/◌, ◌%◌, ◌^◌, ◌≤◌, ◌<◌}
use native.Mathlib.{Nat.lt_of_lt_of_le, Nat.mod-eq_of_lt, Nat.pow-le-pow_right, Omega.arith}
use lib.{Arith.digits_mod, Bits.bit_and, Dec.eqb, Dec.ltb, Dec.lit<}
use borrow.Author.Tests.{lt-ltb, le-ltb}
use Rattle.std.proofs.Common.{Fits, w32}
use Rattle.numbers.specs.Numbers.{bit, is_set, top_set}
use Rattle.numbers.proofs.Masks.{mask_bit}
use Rattle.alu.specs.Result.{ResultC, ResultCo}
use Rattle.alu.specs.Step.{Shift, Shl, Shr, Sar, Rol, Ror, Rcl, Rcr, Step, before, steps}
use Rattle.alu.specs.Shift.{of_last, left_o, right_o, carry_only, leftward, rightward, downward, shl, shr, sar, rol, rcl, ror, rcr}
use Rattle.alu.proofs.{StepLaws.steps-keep, ClosedForms.from_above, ClosedForms.from_below}
use Rattle.alu.proofs.OneBitMore.{above, below, shl_above, rcl_above, rcr_above, shr_below, sar_below, rol_carry, ror_carry}

-- a number of at most 17 bits has no more once it is moved
pub moved_fits : (m : ℕ) (shift : Shift) (k x : ℕ) {w : ℕ} → w ≡ (steps m shift k (before x false)).value → x < 2 ^ m → m ≤ 17 → Fits w32 w
moved_fits m shift k x e h most =
    let few = lt_of_lt_of_le (steps-keep m shift k (before x false) h) (pow-le-pow_right (lit< tt) most) in
    omega (arith, e, few)

-- C above the value, as the code reads it: r is cut from w, and C is whether w is larger than a value can be
read_above : (n max : ℕ) (t : Step) → t.value < 2 ^ n → max + 1 ≡ 2 ^ n → {w r : ℕ} → w ≡ above n t → r ≡ w % 2 ^ n → before r (ltb max w) ≡ t
read_above n max t h em {w} {r} ew er = λ i. record { value = value i; carry = carry t.carry ew i }
  where
    value : r ≡ t.value
    value = er ∙ ap (λ (y : ℕ). y % 2 ^ n) ew ∙ digits_mod (bit t.carry) h

    carry : (c : Bool) → w ≡ bit c * 2 ^ n + t.value → ltb max w ≡ c
    carry true e = lt-ltb max w (omega arith)
    carry false e = le-ltb max w (omega arith)

-- and below it: r is cut from half of w
read_below : (n : ℕ) (t : Step) → t.value < 2 ^ n → {w r : ℕ} → w ≡ below t → r ≡ w / 2 % 2 ^ n → ◌≡◌ {A = ResultC} (record { result = r; carry = not (eqb (bit_and w 1) 0) }) (carry_only t)
read_below n t h {w} {r} ew er =
    (λ i. record { result = value i; carry = mask_bit 0 w i }) ∙ ap carry_only (from_below t ew)
  where
    half : w / 2 ≡ t.value
    half = ap (λ (s : Step). s.value) (from_below t ew)

    value : r ≡ w / 2
    value = er ∙ mod-eq_of_lt (omega (arith, half))

-- a number of n + 1 bits, moved at once
module _ (n : ℕ) (hn : 0 < n) (k m : ℕ) (em : m ≡ n + 1) where
  same_moves : (shift : Shift) {x y : ℕ} → y ≡ x → (steps m shift k (before y false)).value ≡ (steps (suc n) shift k (before x false)).value
  same_moves shift {x} {y} ey =
      let one : m ≡ suc n = omega arith in
      ap₂ (λ (v z : ℕ). (steps v shift k (before z false)).value) one ey

  module _ (x : ℕ) (hx : x < 2 ^ n) where
    module _ (max : ℕ) (e-max : max + 1 ≡ 2 ^ n) where
      pub shl-done : (y : ℕ) {w r : ℕ} {o : ResultCo} → w ≡ (steps m Shl k (before y false)).value → y ≡ x → r ≡ w % 2 ^ n
          → o ≡ left_o n k (before r (ltb max w)) → o ≡ shl n x k
      unfolding leftward
      shl-done y ew ey er eo =
          let none : y ≡ 0 * 2 ^ n + x = omega arith in
          eo
          ∙ ap (left_o n k)
          (read_above n max (steps n Shl k (before x false)) (steps-keep n Shl k (before x false) hx) e-max
          (ew ∙ same_moves Shl none ∙ sym (shl_above n hn (before x false) hx k)) er)

      module _ (c : Bool) (j : ℕ) (ej : j ≡ k) where
        pub rcl-made : (y : ℕ) {w r : ℕ} {o : ResultCo} → w ≡ (steps m Rol j (before y false)).value → y ≡ bit c * 2 ^ n + x → r ≡ w % 2 ^ n
            → o ≡ left_o n k (before r (ltb max w)) → o ≡ rcl n x k c
        unfolding leftward
        rcl-made y ew ey er eo =
            eo
            ∙ ap (left_o n k)
            (read_above n max (steps n Rcl k (before x c)) (steps-keep n Rcl k (before x c) hx) e-max
            (ew ∙ ap (λ (i : ℕ). (steps m Rol i (before y false)).value) ej ∙ same_moves Rol ey ∙ sym (rcl_above n hn (before x c) hx k)) er)

        pub rcr-done : (y : ℕ) {w r : ℕ} {o : ResultCo} → w ≡ (steps m Ror j (before y false)).value → y ≡ bit c * 2 ^ n + x → r ≡ w % 2 ^ n
            → o ≡ right_o n k (before r (ltb max w)) → o ≡ rcr n x k c
        unfolding rightward
        rcr-done y ew ey er eo =
            eo
            ∙ ap (right_o n k)
            (read_above n max (steps n Rcr k (before x c)) (steps-keep n Rcr k (before x c) hx) e-max
            (ew ∙ ap (λ (i : ℕ). (steps m Ror i (before y false)).value) ej ∙ same_moves Ror ey ∙ sym (rcr_above n hn (before x c) hx k)) er)

    module _ (y : ℕ) {w r : ℕ} where
      pub shr-done : w ≡ (steps m Shr k (before y false)).value → y ≡ x * 2 → r ≡ w / 2 % 2 ^ n
          → ◌≡◌ {A = ResultC} (record { result = r; carry = not (eqb (bit_and w 1) 0) }) (shr n x k)
      unfolding downward
      shr-done ew ey er =
          let clear : y ≡ below (before x false) = omega arith in
          read_below n (steps n Shr k (before x false)) (steps-keep n Shr k (before x false) hx) (ew ∙ same_moves Shr clear ∙ sym (shr_below n hn (before x false) hx k)) er

      pub sar-done : w ≡ (steps m Sar k (before y false)).value → y ≡ x * 2 → r ≡ w / 2 % 2 ^ n
          → ◌≡◌ {A = ResultC} (record { result = r; carry = not (eqb (bit_and w 1) 0) }) (sar n x k)
      unfolding downward
      sar-done ew ey er =
          let clear : y ≡ below (before x false) = omega arith in
          read_below n (steps n Sar k (before x false)) (steps-keep n Sar k (before x false) hx) (ew ∙ same_moves Sar clear ∙ sym (sar_below n hn (before x false) hx k)) er

-- ROL and ROR have it in the result itself, unless no step was made
module _ (n : ℕ) (hn : 0 < n) (m : ℕ) (em : m ≡ n) (y x : ℕ) (ey : y ≡ x) (hx : x < 2 ^ n) where
  whole : (shift : Shift) (k : ℕ) {w r : ℕ} → w ≡ (steps m shift k (before y false)).value → r ≡ w % 2 ^ n → r ≡ (steps n shift k (before x false)).value
  whole shift k ew er =
      er ∙ ap (λ (v : ℕ). v % 2 ^ n) (ew ∙ ap₂ (λ (b v : ℕ). (steps b shift k (before v false)).value) em ey)
      ∙ mod-eq_of_lt (steps-keep n shift k (before x false) hx)

  came_round_below : (k r : ℕ) {c : Bool} → r ≡ (steps n Rol k (before x false)).value → c ≡ of_last k (not (eqb (bit_and r 1) 0)) → before r c ≡ steps n Rol k (before x false)
  unfolding steps
  came_round_below zero r er ec = λ i. record { value = er i; carry = ec i }
  came_round_below (suc k) r er ec =
      let carry = ec ∙ mask_bit 0 r ∙ ap (is_set 0) er ∙ sym (rol_carry n hn (before x false) hx k) in
      λ i. record { value = er i; carry = carry i }

  came_round_above : (k r : ℕ) {c : Bool} → r ≡ (steps n Ror k (before x false)).value → c ≡ of_last k (top_set n r) → before r c ≡ steps n Ror k (before x false)
  unfolding steps
  came_round_above zero r er ec = λ i. record { value = er i; carry = ec i }
  came_round_above (suc k) r er ec =
      let carry = ec ∙ ap (top_set n) er ∙ sym (ror_carry n hn (before x false) hx k) in
      λ i. record { value = er i; carry = carry i }

  pub rol-done : (k : ℕ) {w r : ℕ} {c : Bool} {o : ResultCo} → w ≡ (steps m Rol k (before y false)).value → r ≡ w % 2 ^ n → c ≡ of_last k (not (eqb (bit_and r 1) 0))
      → o ≡ left_o n k (before r c) → o ≡ rol n x k
  unfolding leftward
  rol-done k ew er ec eo = eo ∙ ap (left_o n k) (came_round_below k _ (whole Rol k ew er) ec)

  pub ror-done : (k : ℕ) {w r : ℕ} {c : Bool} {o : ResultCo} → w ≡ (steps m Ror k (before y false)).value → r ≡ w % 2 ^ n → c ≡ of_last k (top_set n r)
      → o ≡ right_o n k (before r c) → o ≡ ror n x k
  unfolding rightward
  ror-done k ew er ec eo = eo ∙ ap (right_o n k) (came_round_above k _ (whole Ror k ew er) ec)

-- RCL as the steps of the definition, whatever count was handed on, with C read by the mask of bit n
module _ (n x k : ℕ) (hn : 0 < n) (hx : x < 2 ^ n) (c : Bool) where
  pub rcl-done : (j : ℕ) {w : ℕ} → w ≡ (steps (suc n) Rol j (before (bit c * 2 ^ n + x) false)).value → j ≡ k
      → before (w % 2 ^ n) (not (eqb (bit_and w (2 ^ n)) 0)) ≡ steps n Rcl k (before x c)
  rcl-done j {w} e ej =
      let told = e ∙ ap (λ (i : ℕ). (steps (suc n) Rol i (before (bit c * 2 ^ n + x) false)).value) ej ∙ sym (rcl_above n hn (before x c) hx k) in
      (λ i. record { value = w % 2 ^ n; carry = mask_bit n w i }) ∙ from_above n (steps n Rcl k (before x c)) (steps-keep n Rcl k (before x c) hx) told
