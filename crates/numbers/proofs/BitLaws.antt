-- A flag as a digit, and back. Assumes nothing.
use mathlib.Core.{Path.◌≡◌, Path.refl, Path.ap, Bool.Bool, Bool.true, Bool.false}
use Prim.Native.Nat.{ℕ, zero, suc, ◌/◌, ◌%◌, ◌^◌, ◌≤◌, ◌<◌}
use native.Mathlib.{Nat.mod-lt, Omega.arith}
use lib.Dec.{eqb, lit<}
use Rattle.numbers.specs.Numbers.{bit, is_set}

pub bit_le : (b : Bool) → bit b ≤ 1
bit_le true = omega arith
bit_le false = omega arith

-- a flag is its digit tested
pub flag_of : (b : Bool) {d : ℕ} → d ≡ bit b → eqb d 1 ≡ b
flag_of true e = ap (λ (x : ℕ). eqb x 1) e
flag_of false e = ap (λ (x : ℕ). eqb x 1) e

digit_of_lem : (d : ℕ) → d < 2 → bit (eqb d 1) ≡ d
digit_of_lem zero h = refl
digit_of_lem (suc zero) h = refl
digit_of_lem (suc (suc d)) h = absurd (omega arith)

pub bit-is_set : (k w : ℕ) → bit (is_set k w) ≡ w / 2 ^ k % 2
bit-is_set k w = digit_of_lem (w / 2 ^ k % 2) (mod-lt (w / 2 ^ k) (lit< tt))
