-- CORX as the chip walks it, over the width n, comes to what it is defined to leave. Assumes nothing.
use mathlib.Core.{Path.◌≡◌, Path.sym, Path.ap, Path.◌∙◌, Bool.Bool, Bool.true, Bool.false, Bool.cond}
use Prim.Native.Nat.{ℕ, zero, suc, ◌+◌, ◌*◌, ◌/◌, ◌%◌, ◌^◌, ◌<◌}
use native.Mathlib.{Nat.pow-suc, Nat.div-add-mod', Omega.arith}
use lib.{Arith.digits_lt, Arith.digits_div, Arith.digits_mod, Count.ones, Count.ones_cat}
use Rattle.numbers.specs.Numbers.{bit, top, is_set}
use Rattle.numbers.proofs.{Powers.top_twice, BitLaws.bit_le, BitLaws.bit-is_set}
use Rattle.corx.specs.{Corx.Halves, Corx.corx, Corx.CorxRound, Corx.added, Corx.corx_round, ChipWalk.chip_start, ChipWalk.chip_rounds, ChipWalk.chip_corx}
use Rattle.corx.proofs.CorxLaws.{once_le, ones-digit}

-- the halves as one number, with the carry below it
abbrev pair : ℕ → CorxRound → ℕ
pair n s = (s.tmpa * 2 ^ n + s.tmpc) * 2 + bit s.carry

-- after k rounds the digits q of the multiplier m are used
record Walked (n b m start k : ℕ) (s : CorxRound) : Type 0 where
  q : ℕ
  used : q < 2 ^ k
  whole : pair n s * 2 ^ k + q ≡ m + b * q * (2 ^ n * 2)
  small : s.tmpc < 2 ^ n
  paid : s.steps ≡ start + 2 + 6 * k + ones q

module _ (n b : ℕ) (s : CorxRound) (hn : 0 < n) where
  chosen : (x : Bool) → cond x b 0 ≡ b * bit x
  chosen true = omega arith
  chosen false = omega arith

  -- a round puts the sum above the lower half, and moves both right by one
  moved : pair n (corx_round n b s) ≡ added b s * 2 ^ n + s.tmpc
  unfolding corx_round
  moved =
      let u = added b s in
      let even : u % 2 * 2 ^ n ≡ u % 2 * top n * 2 = ap (λ (x : ℕ). u % 2 * x) (sym (top_twice n hn)) ∙ omega arith in
      let low : (u % 2 * 2 ^ n + s.tmpc) / 2 * 2 + s.tmpc % 2 ≡ u % 2 * 2 ^ n + s.tmpc = omega arith in
      let out : bit (is_set 0 s.tmpc) ≡ s.tmpc % 2 = bit-is_set 0 s.tmpc ∙ omega arith in
      let split : (u / 2 * 2 + u % 2) * 2 ^ n ≡ u * 2 ^ n = ap (λ (x : ℕ). x * 2 ^ n) (omega arith) in
      omega arith

  turned : pair n (corx_round n b s) * 2 + bit s.carry ≡ pair n s + b * bit s.carry * (2 ^ n * 2)
  turned =
      let sum : added b s * 2 ^ n ≡ (s.tmpa + b * bit s.carry) * 2 ^ n = ap (λ (x : ℕ). (s.tmpa + x) * 2 ^ n) (chosen s.carry) in
      omega (arith, moved)

  still_small : s.tmpc < 2 ^ n → (corx_round n b s).tmpc < 2 ^ n
  unfolding corx_round
  still_small h = omega (arith, once_le (2 ^ n) (added b s % 2) (omega arith))

module _ (n b c : ℕ) (carry : Bool) (start : ℕ) (hn : 0 < n) (hc : c < 2 ^ n) where
  abbrev m : ℕ
  m = bit carry * 2 ^ n + c

  abbrev after : ℕ → CorxRound
  after k = chip_rounds n b k (chip_start n c carry start)

  -- before the rounds, whatever carry enters
  entered : (x : Bool) → ((bit x * 2 ^ n + c) / 2 * 2 + c % 2 ≡ bit x * 2 ^ n + c) × ((bit x * 2 ^ n + c) / 2 < 2 ^ n)
  entered true = let t = top_twice n hn in (omega arith, omega arith)
  entered false = (omega arith, omega arith)

  walked : (k : ℕ) → Walked n b m start k (after k)
  unfolding corx_round chip_rounds ones
  walked zero =
      let out : bit (is_set 0 c) ≡ c % 2 = bit-is_set 0 c ∙ omega arith in
      let e = entered carry in
      record { q = 0; used = omega arith; whole = omega arith; small = e.1; paid = omega arith }
  walked (suc k) =
      let s = after k in
      let w = walked k in
      let d = bit s.carry in
      let hd = bit_le s.carry in
      let twok : 2 ^ suc k ≡ 2 ^ k * 2 = pow-suc 2 k in
      let on = turned n b s hn in
      let gathered : (pair n (corx_round n b s) * 2 + d) * 2 ^ k + w.q ≡ (pair n s + b * d * (2 ^ n * 2)) * 2 ^ k + w.q = ap (λ (x : ℕ). x * 2 ^ k + w.q) on in
      record {
        q = d * 2 ^ k + w.q;
        used = rw twok (omega (arith, digits_lt {q = d} {m = 2} (omega arith) w.used));
        whole = rw twok (omega (arith, gathered, w.whole));
        small = still_small n b s hn w.small;
        paid = omega (arith, w.paid, ones_cat k d w.q w.used, ones-digit d (omega arith));
      }

  -- the walk's halves and steps
  pub chip_walks : chip_corx n b c carry start ≡ corx n b c start
  unfolding corx
  chip_walks =
      let s = after n in
      let w = walked n in
      let z = bit carry in
      let sides : pair n s * 2 ^ n + w.q ≡ (z + b * w.q * 2) * 2 ^ n + c = w.whole ∙ omega arith in
      let all : w.q ≡ c = sym (digits_mod (pair n s) w.used) ∙ ap (λ (x : ℕ). x % 2 ^ n) sides ∙ digits_mod (z + b * w.q * 2) hc in
      let above : pair n s ≡ z + b * w.q * 2 = sym (digits_div (pair n s) w.used) ∙ ap (λ (x : ℕ). x / 2 ^ n) sides ∙ digits_div (z + b * w.q * 2) hc in
      let product : b * c ≡ s.tmpa * 2 ^ n + s.tmpc = ap (λ (x : ℕ). b * x) (sym all) ∙ omega (arith, above, bit_le carry, bit_le s.carry) in
      let paid : s.steps + 1 ≡ start + (3 + 6 * n + ones c) = omega (arith, w.paid, ap ones all) in
      let upper : s.tmpa ≡ b * c / 2 ^ n = sym (ap (λ (x : ℕ). x / 2 ^ n) product ∙ digits_div s.tmpa w.small) in
      let lower : s.tmpc ≡ b * c % 2 ^ n = sym (ap (λ (x : ℕ). x % 2 ^ n) product ∙ digits_mod s.tmpa w.small) in
      λ i. record { tmpa = upper i; tmpc = lower i; steps = paid i }

  -- so it multiplies exactly, whatever carry enters
  pub chip_multiplies : (chip_corx n b c carry start).tmpa * 2 ^ n + (chip_corx n b c carry start).tmpc ≡ b * c
  unfolding corx
  chip_multiplies = ap (λ (h : Halves). h.tmpa * 2 ^ n + h.tmpc) chip_walks ∙ div-add-mod' (b * c) (2 ^ n)
