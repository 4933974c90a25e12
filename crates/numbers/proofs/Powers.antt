-- The top bit of n bits, as a number, products of n bits, and remainders of numbers that pass a modulus at most once. Assumes nothing.
use mathlib.Core.Path.{◌≡◌, sym, ap, ◌∙◌}
use Prim.Native.Nat.{ℕ, zero, suc, ◌+◌, ◌-◌, ◌*◌, ◌/◌, ◌%◌, ◌^◌, ◌≤◌, ◌<◌}
use native.Mathlib.{Nat.le_of_lt, Nat.pow-suc, Nat.mul-le-mul_left, Nat.mul-lt-mul_of_pos_right, Nat.mod-lt, Nat.mod-eq_of_lt, Nat.div-add-mod', Omega.arith}
use lib.Pow.{pow-add, pow_pos}
use Rattle.numbers.specs.Numbers.{top}

-- twice the top bit is 2 ^ n
pub top_twice : (n : ℕ) → 0 < n → top n * 2 ≡ 2 ^ n
top_twice zero h = absurd (omega arith)
top_twice (suc m) h = ap (λ (k : ℕ). 2 ^ k * 2) pred_suc ∙ sym (pow-suc 2 m)
  where
    pred_suc : suc m - 1 ≡ m
    pred_suc = omega arith

-- the top bit of 2n bits is that of their upper half
pub top_double : (n : ℕ) → 0 < n → top (n + n) ≡ top n * 2 ^ n
top_double n hn =
    let a = top_twice n hn in
    let b = top_twice (n + n) (omega arith) in
    let c : 2 ^ (n + n) ≡ top n * 2 * 2 ^ n = pow-add 2 n n ∙ ap (λ (x : ℕ). x * 2 ^ n) (sym a) in
    omega arith

-- the product of two numbers of n bits has 2n bits
pub product_lt : (n : ℕ) {x y : ℕ} → x < 2 ^ n → y < 2 ^ n → x * y < 2 ^ (n + n)
product_lt n {x} {y} hx hy = omega (arith, pow-add 2 n n, mul-le-mul_left x (le_of_lt hy), mul-lt-mul_of_pos_right hx (pow_pos n))

-- the remainder of a number below twice m
pub rest_small : (u m : ℕ) → u < m → u ≡ u % m
rest_small u m h = sym (mod-eq_of_lt h)

pub rest_large : (u m : ℕ) → u < m + m → m ≤ u → u ≡ u % m + m
rest_large u m h i = by (u / m) (div-add-mod' u m)
  where
    rest : u % m < m
    rest = mod-lt u (omega arith)

    by : (d : ℕ) → d * m + u % m ≡ u → u ≡ u % m + m
    by zero e = absurd (omega (arith, rest))
    by (suc zero) e = omega arith
    by (suc (suc d)) e = absurd (omega arith)
