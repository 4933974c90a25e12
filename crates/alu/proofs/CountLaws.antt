-- The result after a whole count of steps, over the width n, and how long a count matters. Assumes nothing.
use mathlib.Core.{Path.◌≡◌, Path.refl, Path.sym, Path.ap, Path.◌∙◌, Bool.Bool, Bool.true, Bool.false}
use Prim.Native.Nat.{ℕ, zero, suc, ◌+◌, ◌-◌, ◌*◌, ◌/◌, ◌%◌, ◌^◌, ◌≤◌, ◌<◌, min}
use native.Mathlib.Nat.{mul-mod_left, pow-le-pow_right, min-eq_left, min-eq_right, pow-suc, mod-eq_of_lt, div-one, div-eq_of_lt, div-add-mod', div-div-eq-div-mul, mul-add-div_right, mul-add-mod_self_right}
use native.Mathlib.Omega.{arith}
use lib.{Arith.digits_div, Dec.leb, Dec.lit<, Pow.pow-add, Pow.pow_pos}
use borrow.Author.Tests.{leb-true, leb-false}
use Rattle.numbers.specs.Numbers.{bit, is_set, top, top_set}
use Rattle.numbers.proofs.{Powers.top_twice, SignedLaws.TopIs, SignedLaws.top_is}
use Rattle.alu.specs.Step.{Shl, Shr, Sar, Rol, Ror, before, left, right, step, steps}
use Rattle.alu.proofs.{StepLaws.stays, TurnLaws.turned, TurnLaws.none_turned, TurnLaws.all_turned, TurnLaws.right-turn, TurnLaws.left-turn, TurnLaws.period}

-- the signs that enter at k steps, above n bits
abbrev pub signs : ℕ → ℕ → ℕ → ℕ
signs n k x = bit (top_set n x) * (2 ^ k - 1) * 2 ^ n

module _ (n x : ℕ) (c : Bool) (h : x < 2 ^ n) where
  -- SHL: times 2 for each step, and n bits of it are kept
  pub shl-value : (k : ℕ) → (steps n Shl k (before x c)).value ≡ x * 2 ^ k % 2 ^ n
  unfolding step steps left
  shl-value zero = let all : x * 2 ^ 0 ≡ x = omega arith in sym (ap (λ (y : ℕ). y % 2 ^ n) all ∙ mod-eq_of_lt h)
  shl-value (suc k) =
      ap (λ (v : ℕ). (v * 2 + 0) % 2 ^ n) (shl-value k) ∙ sym (mul-add-mod_self_right (x * 2 ^ k / 2 ^ n * 2) (2 ^ n) (x * 2 ^ k % 2 ^ n * 2 + 0)) ∙ ap (λ (y : ℕ). y % 2 ^ n) twice
    where
      twice : x * 2 ^ k / 2 ^ n * 2 * 2 ^ n + (x * 2 ^ k % 2 ^ n * 2 + 0) ≡ x * 2 ^ suc k
      twice = omega (arith, div-add-mod' (x * 2 ^ k) (2 ^ n), ap (λ (p : ℕ). x * p) (pow-suc 2 k))

  -- SHR: halved at each step
  pub shr-value : (k : ℕ) → (steps n Shr k (before x c)).value ≡ x / 2 ^ k
  unfolding step steps right
  shr-value zero = sym (div-one x)
  shr-value (suc k) =
      let half : (0 * 2 ^ n + x / 2 ^ k) / 2 ≡ x / 2 ^ k / 2 = omega arith in
      ap (λ (v : ℕ). (0 * 2 ^ n + v) / 2) (shr-value k) ∙ half ∙ div-div-eq-div-mul x (2 ^ k) 2 ∙ ap (λ (p : ℕ). x / p) (sym (pow-suc 2 k))

  -- ROR and ROL: turned by what the count leaves of full turns, from below or from above
  pub ror-value : 0 < n → (k : ℕ) → (steps n Ror k (before x c)).value ≡ turned (n - k % n) (k % n) x
  unfolding step steps right
  ror-value hn = period n hn (λ u k. turned u k x) (λ k. (steps n Ror k (before x c)).value) (sym (none_turned n x)) (all_turned n x h ∙ sym (none_turned n x)) next
    where
      next : (u j k : ℕ) → suc u + j ≡ n → (steps n Ror k (before x c)).value ≡ turned (suc u) j x → (steps n Ror (suc k) (before x c)).value ≡ turned u (suc j) x
      next u j k w e = ap (λ (v : ℕ). (bit (is_set 0 v) * 2 ^ n + v) / 2) e ∙ ap (λ (m : ℕ). (bit (is_set 0 (turned (suc u) j x)) * 2 ^ m + turned (suc u) j x) / 2) (sym w) ∙ right-turn u j x

  pub rol-value : 0 < n → (k : ℕ) → (steps n Rol k (before x c)).value ≡ turned (k % n) (n - k % n) x
  unfolding step steps left
  rol-value hn = period n hn (λ u k. turned k u x) (λ k. (steps n Rol k (before x c)).value) (sym (all_turned n x h)) (none_turned n x ∙ sym (all_turned n x h)) next
    where
      next : (u j k : ℕ) → suc u + j ≡ n → (steps n Rol k (before x c)).value ≡ turned j (suc u) x → (steps n Rol (suc k) (before x c)).value ≡ turned (suc j) u x
      next u j k w e =
          let all : suc j + u ≡ n = omega arith in
          ap (λ (v : ℕ). (v * 2 + bit (top_set n v)) % 2 ^ n) e ∙ ap (λ (m : ℕ). (turned j (suc u) x * 2 + bit (top_set m (turned j (suc u) x))) % 2 ^ m) (sym all) ∙ left-turn j u x (omega (arith, h, ap (λ (m : ℕ). 2 ^ m) all))

-- SAR: the sign enters at each step, and stays as it is
module _ (n x : ℕ) (c : Bool) (hn : 0 < n) (h : x < 2 ^ n) where
  ones_twice : (k : ℕ) → (2 ^ suc k - 1) * 2 ^ n ≡ 2 ^ n * 2 ^ k + (2 ^ k - 1) * 2 ^ n
  ones_twice k =
      let e : 2 ^ suc k - 1 ≡ 2 ^ k + (2 ^ k - 1) = omega (arith, pow-suc 2 k, pow_pos k) in
      ap (λ (p : ℕ). p * 2 ^ n) e ∙ omega arith

  -- with the sign that entered at k steps above the number, one more above both
  entered : (t : Bool) (k : ℕ) → (bit t * 2 ^ n + (bit t * (2 ^ k - 1) * 2 ^ n + x) / 2 ^ k) / 2 ≡ (bit t * (2 ^ suc k - 1) * 2 ^ n + x) / 2 ^ suc k
  entered t k =
      ap (λ (y : ℕ). y / 2) (sym (mul-add-div_right (pow_pos k) (bit t * 2 ^ n) (bit t * (2 ^ k - 1) * 2 ^ n + x)))
      ∙ div-div-eq-div-mul (bit t * 2 ^ n * 2 ^ k + (bit t * (2 ^ k - 1) * 2 ^ n + x)) (2 ^ k) 2
      ∙ ap (λ (p : ℕ). (bit t * 2 ^ n * 2 ^ k + (bit t * (2 ^ k - 1) * 2 ^ n + x)) / p) (sym (pow-suc 2 k))
      ∙ ap (λ (y : ℕ). y / 2 ^ suc k) (all t)
    where
      all : (t : Bool) → bit t * 2 ^ n * 2 ^ k + (bit t * (2 ^ k - 1) * 2 ^ n + x) ≡ bit t * (2 ^ suc k - 1) * 2 ^ n + x
      all true = omega (arith, ones_twice k)
      all false = omega arith

  pub sar-value : (k : ℕ) → (steps n Sar k (before x c)).value ≡ (signs n k x + x) / 2 ^ k
  unfolding step steps right
  sar-value zero = let none : signs n 0 x + x ≡ x = omega arith in sym (ap (λ (y : ℕ). y / 2 ^ 0) none ∙ div-one x)
  sar-value (suc k) =
      ap (λ (t : Bool). (bit t * 2 ^ n + (steps n Sar k (before x c)).value) / 2) (stays n x c hn k)
      ∙ ap (λ (v : ℕ). (bit (top_set n x) * 2 ^ n + v) / 2) (sar-value k) ∙ entered (top_set n x) k

-- ---- past the width

pred_mul : (p q : ℕ) → 0 < p → (p - 1) * q + q ≡ p * q
pred_mul p q h = let e : p - 1 + 1 ≡ p = omega arith in sym (add-mul-one (p - 1) q) ∙ ap (λ (r : ℕ). r * q) e
  where
    add-mul-one : (r q : ℕ) → (r + 1) * q ≡ r * q + q
    add-mul-one r q = omega arith

module _ (n x k : ℕ) (h : x < 2 ^ n) (p : n ≤ k) where
  pub shl_past : x * 2 ^ k % 2 ^ n ≡ 0
  shl_past = ap (λ (y : ℕ). y % 2 ^ n) all ∙ mul-mod_left (x * 2 ^ (k - n)) (2 ^ n)
    where
      split : 2 ^ k ≡ 2 ^ (k - n) * 2 ^ n
      split = let e : k ≡ k - n + n = omega arith in ap (λ (j : ℕ). 2 ^ j) e ∙ pow-add 2 (k - n) n

      all : x * 2 ^ k ≡ x * 2 ^ (k - n) * 2 ^ n
      all = ap (λ (y : ℕ). x * y) split ∙ omega arith

  pub shr_past : x / 2 ^ k ≡ 0
  shr_past = div-eq_of_lt (omega (arith, pow-le-pow_right {n = 2} (lit< tt) p))

-- SAR: the sign at all places, already a step before
module _ (n x k : ℕ) (hn : 0 < n) (h : x < 2 ^ n) (p : n ≤ suc k) where
  most : 2 ^ n ≤ 2 ^ k * 2
  most = omega (arith, pow-le-pow_right {n = 2} (lit< tt) p, pow-suc 2 k)

  pub sar_past : (signs n k x + x) / 2 ^ k ≡ bit (top_set n x) * (2 ^ n - 1)
  sar_past = by (top_set n x) (top_is n x)
    where
      by : (t : Bool) → TopIs t (top n) x → (bit t * (2 ^ k - 1) * 2 ^ n + x) / 2 ^ k ≡ bit t * (2 ^ n - 1)
      by true g =
          let half = top_twice n hn in
          let whole : 1 * (2 ^ k - 1) * 2 ^ n + x ≡ (2 ^ n - 1) * 2 ^ k + (2 ^ k + x - 2 ^ n) = omega (arith, most, half, pred_mul (2 ^ k) (2 ^ n) (pow_pos k), pred_mul (2 ^ n) (2 ^ k) (pow_pos n)) in
          ap (λ (y : ℕ). y / 2 ^ k) whole ∙ digits_div (2 ^ n - 1) (omega (arith, most, half)) ∙ omega arith
      by false g =
          let half = top_twice n hn in
          let none : 0 * (2 ^ k - 1) * 2 ^ n + x ≡ x = omega arith in
          ap (λ (y : ℕ). y / 2 ^ k) none ∙ div-eq_of_lt (omega (arith, most, half)) ∙ omega arith

-- so a count may be cut to the width
module _ (n x : ℕ) (c : Bool) (h : x < 2 ^ n) (k : ℕ) where
  cut : (f : ℕ → ℕ) → (n ≤ k → f n ≡ f k) → f (min k n) ≡ f k
  cut f past = by (leb k n) refl
    where
      by : (t : Bool) → leb k n ≡ t → f (min k n) ≡ f k
      by true e = ap f (min-eq_left (leb-true k n e))
      by false e = let p : n ≤ k = omega (arith, leb-false k n e) in ap f (min-eq_right p) ∙ past p

  here : n ≤ n
  here = omega arith

  pub shl-cut : (steps n Shl (min k n) (before x c)).value ≡ (steps n Shl k (before x c)).value
  shl-cut = cut (λ k. (steps n Shl k (before x c)).value) (λ p. shl-value n x c h n ∙ shl_past n x n h here ∙ sym (shl-value n x c h k ∙ shl_past n x k h p))

  pub shr-cut : (steps n Shr (min k n) (before x c)).value ≡ (steps n Shr k (before x c)).value
  shr-cut = cut (λ k. (steps n Shr k (before x c)).value) (λ p. shr-value n x c h n ∙ shr_past n x n h here ∙ sym (shr-value n x c h k ∙ shr_past n x k h p))

  pub sar_cut : 0 < n → (steps n Sar (min k n) (before x c)).value ≡ (steps n Sar k (before x c)).value
  sar_cut hn = cut (λ k. (steps n Sar k (before x c)).value) (λ p. sar-value n x c hn h n ∙ sar_past n x n hn h (omega arith) ∙ sym (sar-value n x c hn h k ∙ sar_past n x k hn h (omega arith)))
