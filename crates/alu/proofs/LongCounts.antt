-- Long counts: a shift by the width and past it, and a rotate by full turns. Assumes nothing.
use mathlib.Core.{Path.◌≡◌, Path.refl, Path.sym, Path.ap, Path.◌∙◌, Bool.Bool, Bool.true, Bool.false, Bool.xor}
use Prim.Native.Nat.{ℕ, suc, ◌+◌, ◌-◌, ◌*◌, ◌/◌, ◌%◌, ◌^◌, ◌≤◌, ◌<◌}
use native.Mathlib.{Nat.sub-zero, Nat.mul-mod_left, Nat.mul-div-mul_right, Nat.zero-mod, Nat.zero-div, Nat.pow-suc, Nat.div-one, Omega.arith}
use lib.{Dec.eqb, Dec.lit<, Pow.pow_pos, Pow.shl-shr}
use Rattle.numbers.specs.Numbers.{bit, is_set, top, top_set}
use Rattle.numbers.proofs.Powers.{top_twice}
use Rattle.alu.specs.Step.{Shl, Shr, Sar, before, steps}
use Rattle.alu.specs.Shift.{of_last, left_o, right_o, leftward, rightward, rol, ror, rcl, rcr}
use Rattle.alu.proofs.{StepLaws.top_digit, StepLaws.some_step, TurnLaws.turned, TurnLaws.none_turned, TurnLaws.all_turned}
use Rattle.alu.proofs.{CountLaws.sar-value, CountLaws.shl_past, CountLaws.shr_past, CountLaws.sar_past, OneBitMore.below, OneBitMore.below_top, OneBitMore.sar_below}
use Rattle.alu.proofs.ClosedForms.{c_above, c_below, from_above, from_below, kept, halved, whole_lt, shl-closed, shr-closed, rol-closed, ror-closed, rcl-closed, rcr-closed}

clear : (n : ℕ) → c_above n 0 ≡ before 0 false
clear n =
    let digit : 0 / 2 ^ n % 2 ≡ 0 = ap (λ (y : ℕ). y % 2) (zero-div (2 ^ n)) in
    λ i. record { value = zero-mod (2 ^ n) i; carry = eqb (digit i) 1 }

full_left : (m k w : ℕ) → w < 2 ^ m → k % m ≡ 0 → turned (k % m) (m - k % m) w ≡ w
full_left m k w h e = ap (λ (r : ℕ). turned r (m - r) w) e ∙ ap (λ (u : ℕ). turned 0 u w) (sub-zero m) ∙ all_turned m w h

full_right : (m k w : ℕ) → k % m ≡ 0 → turned (m - k % m) (k % m) w ≡ w
full_right m k w e = ap (λ (r : ℕ). turned (m - r) r w) e ∙ none_turned (m - 0) w

module _ (n x : ℕ) (hn : 0 < n) (hx : x < 2 ^ n) where
  -- the last bit to leave is the lowest leftward and the top one rightward, and it leaves at exactly n steps
  pub shl_at_width : steps n Shl n (before x false) ≡ before 0 (is_set 0 x)
  shl_at_width =
      let digit : x * 2 ^ n / 2 ^ n % 2 ≡ x / 2 ^ 0 % 2 = ap (λ (y : ℕ). y % 2) (shl-shr x n ∙ sym (div-one x)) in
      shl-closed n x n hn hx ∙ (λ i. record { value = mul-mod_left x (2 ^ n) i; carry = eqb (digit i) 1 })

  pub shr_at_width : steps n Shr n (before x false) ≡ before 0 (top_set n x)
  shr_at_width = shr-closed n x n hn hx ∙ sym (halved x n) ∙ ap c_below (ap (λ (p : ℕ). x * 2 / p) (sym (top_twice n hn)) ∙ mul-div-mul_right x (top n) (lit< tt) ∙ top_digit n x hn hx) ∙ by (top_set n x)
    where
      by : (t : Bool) → c_below (bit t) ≡ before 0 t
      by true = refl
      by false = refl

  module _ (k : ℕ) where
    -- past it nothing is left, not even C
    pub shl_past_width : n < k → steps n Shl k (before x false) ≡ before 0 false
    shl_past_width p = shl-closed n x k hn hx ∙ kept n (x * 2 ^ k) ∙ ap (c_above n) (shl_past (suc n) x k (omega (arith, pow-suc 2 n)) (omega arith)) ∙ clear n

    pub shr_past_width : n < k → steps n Shr k (before x false) ≡ before 0 false
    shr_past_width p = shr-closed n x k hn hx ∙ sym (halved x k) ∙ ap c_below (shr_past (suc n) (x * 2) k (omega (arith, pow-suc 2 n)) (omega arith))

    -- from n steps on SAR has the sign at all places, and in C
    pub sar_past_width : n ≤ k → steps n Sar k (before x false) ≡ before (bit (top_set n x) * (2 ^ n - 1)) (top_set n x)
    sar_past_width p =
        let s = before x false in
        let small : below s < 2 ^ suc n = omega (arith, pow-suc 2 n) in
        let whole =
        sar_below n hn s hx k ∙ sar-value (suc n) (below s) false (omega arith) small k ∙ sar_past (suc n) (below s) k (omega arith) small (omega arith)
        ∙ ap (λ (t : Bool). bit t * (2 ^ suc n - 1)) (below_top n hn s hx) in
        sym (from_below (steps n Sar k s) (sym whole)) ∙ by (top_set n x)
      where
        by : (t : Bool) → c_below (bit t * (2 ^ suc n - 1)) ≡ before (bit t * (2 ^ n - 1)) t
        by true = from_below (before (1 * (2 ^ n - 1)) true) (omega (arith, pow-suc 2 n, pow_pos n))
        by false = from_below (before (0 * (2 ^ n - 1)) false) (omega arith)

    -- full turns, one or more, change nothing of the number; C and O are those of the last step, which a count of 0 does not make
    module _ (some : 0 < k) where
      left-last : (c : Bool) → left_o n k (before x c) ≡ record { result = x; carry = c; overflow = xor c (top_set n x) }
      left-last c = let o = sym (some_step k (xor c (top_set n x)) some) in λ i. record { result = x; carry = c; overflow = o i }

      right-last : (c : Bool) → right_o n k (before x c) ≡ record { result = x; carry = c; overflow = xor (top_set n x) (is_set (n - 2) x) }
      right-last c = let o = sym (some_step k (xor (top_set n x) (is_set (n - 2) x)) some) in λ i. record { result = x; carry = c; overflow = o i }

      pub rol_full : k % n ≡ 0 → rol n x k ≡ record { result = x; carry = is_set 0 x; overflow = xor (is_set 0 x) (top_set n x) }
      unfolding leftward
      rol_full e =
          let turn : before (turned (k % n) (n - k % n) x) (of_last k (is_set 0 (turned (k % n) (n - k % n) x))) ≡ before x (is_set 0 x) =
          ap (λ (w : ℕ). before w (of_last k (is_set 0 w))) (full_left n k x hx e) ∙ ap (before x) (sym (some_step k (is_set 0 x) some)) in
          ap (left_o n k) (rol-closed n x hn hx k ∙ turn) ∙ left-last (is_set 0 x)

      pub ror_full : k % n ≡ 0 → ror n x k ≡ record { result = x; carry = top_set n x; overflow = xor (top_set n x) (is_set (n - 2) x) }
      unfolding rightward
      ror_full e =
          let turn : before (turned (n - k % n) (k % n) x) (of_last k (top_set n (turned (n - k % n) (k % n) x))) ≡ before x (top_set n x) =
          ap (λ (w : ℕ). before w (of_last k (top_set n w))) (full_right n k x e) ∙ ap (before x) (sym (some_step k (top_set n x) some)) in
          ap (right_o n k) (ror-closed n x hn hx k ∙ turn) ∙ right-last (top_set n x)

      pub rcl_full : (c : Bool) → k % suc n ≡ 0 → rcl n x k c ≡ record { result = x; carry = c; overflow = xor c (top_set n x) }
      unfolding leftward
      rcl_full c e = ap (left_o n k) (rcl-closed n x k hn hx c ∙ ap (c_above n) (full_left (suc n) k (bit c * 2 ^ n + x) (whole_lt n x c hx) e) ∙ from_above n (before x c) hx refl) ∙ left-last c

      pub rcr_full : (c : Bool) → k % suc n ≡ 0 → rcr n x k c ≡ record { result = x; carry = c; overflow = xor (top_set n x) (is_set (n - 2) x) }
      unfolding rightward
      rcr_full c e = ap (right_o n k) (rcr-closed n x k hn hx c ∙ ap (c_above n) (full_right (suc n) k (bit c * 2 ^ n + x) e) ∙ from_above n (before x c) hx refl) ∙ right-last c
