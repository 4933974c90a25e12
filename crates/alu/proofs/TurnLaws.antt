-- A rotation of a number of u + k bits: its lower k places come to stand above the upper u. One place more is a step
-- of ROR, one place less a step of ROL, and a count of such steps ends where its remainder by the bits ends.
-- Assumes nothing.
use mathlib.Core.{Path.◌≡◌, Path.refl, Path.sym, Path.ap, Path.◌∙◌, Bool.Bool, Bool.true, Bool.false}
use Prim.Native.Nat.{ℕ, zero, suc, ◌+◌, ◌-◌, ◌*◌, ◌/◌, ◌%◌, ◌^◌, ◌<◌}
use native.Mathlib.{Nat.pow-suc, Nat.pow-succ', Nat.mod-one, Nat.div-one, Nat.mod-lt, Nat.mod-eq_of_lt, Nat.div-eq_of_lt, Nat.div-div-eq-div-mul, Omega.arith}
use lib.{Arith.digits_lt, Arith.digits_mod, Arith.mod-mul, Dec.lit<, Pow.pow-add, Pow.pow_pos, Pow.shr_lt}
use borrow.Author.Tests.{le-leb, lt-leb}
use Rattle.numbers.specs.Numbers.{bit, is_set, top, top_set}
use Rattle.numbers.proofs.{Powers.top_twice, BitLaws.bit-is_set}

abbrev pub turned : ℕ → ℕ → ℕ → ℕ
turned u k w = w % 2 ^ k * 2 ^ u + w / 2 ^ k

pub none_turned : (m w : ℕ) → turned m 0 w ≡ w
none_turned m w = ap (λ (d : ℕ). d * 2 ^ m + w / 2 ^ 0) (mod-one w) ∙ omega (arith, div-one w)

pub all_turned : (m w : ℕ) → w < 2 ^ m → turned 0 m w ≡ w
all_turned m w h = omega (arith, mod-eq_of_lt h, div-eq_of_lt h)

turned_lt : (u k w : ℕ) → w < 2 ^ (u + k) → turned u k w < 2 ^ (u + k)
turned_lt u k w h = omega (arith, pow-add 2 u k, digits_lt (mod-lt w (pow_pos k)) (shr_lt u k h))

-- the digit that stands below moves above: one place more is turned
digit_turns : (u k w : ℕ) → (turned (suc u) k w % 2 * 2 ^ (suc u + k) + turned (suc u) k w) / 2 ≡ turned u (suc k) w
digit_turns u k w = by (w / 2 ^ k % 2) (mod-lt (w / 2 ^ k) (lit< tt)) refl
  where
    above : 2 ^ suc u ≡ 2 ^ u * 2
    above = pow-suc 2 u

    all : 2 ^ (suc u + k) ≡ 2 ^ u * 2 * 2 ^ k
    all = pow-add 2 (suc u) k ∙ ap (λ (p : ℕ). p * 2 ^ k) above

    rest : w / 2 ^ suc k ≡ w / 2 ^ k / 2
    rest = ap (λ (p : ℕ). w / p) (pow-suc 2 k) ∙ sym (div-div-eq-div-mul w (2 ^ k) 2)

    low : w % 2 ^ suc k ≡ w / 2 ^ k % 2 * 2 ^ k + w % 2 ^ k
    low = ap (λ (p : ℕ). w % p) (pow-succ' 2 k) ∙ mod-mul w (lit< tt) (pow_pos k)

    here : turned (suc u) k w ≡ w % 2 ^ k * 2 ^ u * 2 + w / 2 ^ k
    here = ap (λ (p : ℕ). w % 2 ^ k * p + w / 2 ^ k) above ∙ omega arith

    by : (b : ℕ) → b < 2 → w / 2 ^ k % 2 ≡ b → (turned (suc u) k w % 2 * 2 ^ (suc u + k) + turned (suc u) k w) / 2 ≡ turned u (suc k) w
    by zero h e =
        let even : turned (suc u) k w % 2 ≡ 0 = omega (arith, here, e) in
        let moved : w % 2 ^ suc k * 2 ^ u ≡ w % 2 ^ k * 2 ^ u = ap (λ (x : ℕ). x * 2 ^ u) (low ∙ ap (λ (d : ℕ). d * 2 ^ k + w % 2 ^ k) e ∙ omega arith) in
        ap (λ (d : ℕ). (d * 2 ^ (suc u + k) + turned (suc u) k w) / 2) even ∙ omega (arith, here, e, rest, moved)
    by (suc zero) h e =
        let odd : turned (suc u) k w % 2 ≡ 1 = omega (arith, here, e) in
        let moved : w % 2 ^ suc k * 2 ^ u ≡ (1 * 2 ^ k + w % 2 ^ k) * 2 ^ u = ap (λ (x : ℕ). x * 2 ^ u) (low ∙ ap (λ (d : ℕ). d * 2 ^ k + w % 2 ^ k) e) in
        ap (λ (d : ℕ). (d * 2 ^ (suc u + k) + turned (suc u) k w) / 2) odd ∙ omega (arith, here, e, rest, moved, all)
    by (suc (suc b)) h e = absurd (omega arith)

-- a step of ROR on a number that is turned, in the words of the definition
pub right-turn : (u k w : ℕ) → (bit (is_set 0 (turned (suc u) k w)) * 2 ^ (suc u + k) + turned (suc u) k w) / 2 ≡ turned u (suc k) w
right-turn u k w =
    ap (λ (d : ℕ). (d * 2 ^ (suc u + k) + turned (suc u) k w) / 2) (bit-is_set 0 (turned (suc u) k w) ∙ ap (λ (x : ℕ). x % 2) (div-one (turned (suc u) k w)))
    ∙ digit_turns u k w

-- what a step of ROR did a step of ROL undoes
undone : (m z : ℕ) → 0 < m → z < 2 ^ m → ((bit (is_set 0 z) * 2 ^ m + z) / 2 * 2 + bit (top_set m ((bit (is_set 0 z) * 2 ^ m + z) / 2))) % 2 ^ m ≡ z
undone m z hm h = by (is_set 0 z) (bit-is_set 0 z ∙ ap (λ (x : ℕ). x % 2) (div-one z))
  where
    by : (b : Bool) → bit b ≡ z % 2 → ((bit b * 2 ^ m + z) / 2 * 2 + bit (top_set m ((bit b * 2 ^ m + z) / 2))) % 2 ^ m ≡ z
    by true e =
        let t = top_twice m hm in
        rw (le-leb (top m) ((1 * 2 ^ m + z) / 2) (omega arith))
        (let all : (1 * 2 ^ m + z) / 2 * 2 + 1 ≡ 1 * 2 ^ m + z = omega arith in
        ap (λ (x : ℕ). x % 2 ^ m) all ∙ digits_mod 1 h)
    by false e =
        let t = top_twice m hm in
        rw (lt-leb (top m) ((0 * 2 ^ m + z) / 2) (omega arith))
        (let all : (0 * 2 ^ m + z) / 2 * 2 + 0 ≡ z = omega arith in
        ap (λ (x : ℕ). x % 2 ^ m) all ∙ mod-eq_of_lt h)

-- a step of ROL on a number that is turned: one place less
pub left-turn : (u k w : ℕ) → w < 2 ^ (suc u + k) → (turned u (suc k) w * 2 + bit (top_set (suc u + k) (turned u (suc k) w))) % 2 ^ (suc u + k) ≡ turned (suc u) k w
left-turn u k w h =
    ap (λ (y : ℕ). (y * 2 + bit (top_set (suc u + k) y)) % 2 ^ (suc u + k)) (sym (right-turn u k w)) ∙ undone (suc u + k) (turned (suc u) k w) (omega arith) (turned_lt (suc u) k w h)

-- A sequence that goes from f m 0 by f (m - 1) 1 to f 0 m, which is f m 0 again, is at the remainder of its count.
module _ (m : ℕ) (hm : 0 < m) (f : ℕ → ℕ → ℕ) (v : ℕ → ℕ) (start : v 0 ≡ f m 0) (round : f 0 m ≡ f m 0)
    (next : (u j k : ℕ) → suc u + j ≡ m → v k ≡ f (suc u) j → v (suc k) ≡ f u (suc j)) where
  record At (k : ℕ) : Type 0 where
    turns : ℕ
    ahead : ℕ
    made : ℕ
    counted : k ≡ turns * m + made
    whole : suc ahead + made ≡ m
    here : v k ≡ f (suc ahead) made

  begun : (k q : ℕ) → k ≡ q * m → v k ≡ f m 0 → At k
  begun k q c e =
      let all : suc (m - 1) ≡ m = omega arith in
      record { turns = q; ahead = m - 1; made = 0; counted = omega arith; whole = omega arith; here = e ∙ ap (λ (u : ℕ). f u 0) (sym all) }

  further : (k : ℕ) → At k → At (suc k)
  further k a = by a.ahead a.whole a.here
    where
      by : (u : ℕ) → suc u + a.made ≡ m → v k ≡ f (suc u) a.made → At (suc k)
      by zero w e =
          let all : suc a.made ≡ m = omega arith in
          begun (suc k) (a.turns + 1) (omega (arith, a.counted)) (next 0 a.made k w e ∙ ap (f 0) all ∙ round)
      by (suc u) w e =
          record { turns = a.turns; ahead = u; made = suc a.made; counted = omega (arith, a.counted); whole = omega arith; here = next (suc u) a.made k w e }

  at : (k : ℕ) → At k
  at zero = begun zero zero (omega arith) start
  at (suc k) = further k (at k)

  pub period : (k : ℕ) → v k ≡ f (m - k % m) (k % m)
  period k =
      let a = at k in
      let rest : k % m ≡ a.made = ap (λ (x : ℕ). x % m) a.counted ∙ digits_mod a.turns (omega (arith, a.whole)) in
      let still : suc a.ahead ≡ m - k % m = omega (arith, a.whole, rest) in
      a.here ∙ ap (λ (u : ℕ). f u a.made) still ∙ ap (f (m - k % m)) (sym rest)
