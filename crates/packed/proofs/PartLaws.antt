-- A sum and a difference by parts: first the last two digits, then the rest with their carry or borrow. Assumes nothing.
use mathlib.Core.{Path.◌≡◌, Path.refl, Path.◌∙◌, Bool.Bool, Bool.true, Bool.false}
use Prim.Native.Nat.{ℕ, ◌+◌, ◌-◌, ◌*◌, ◌/◌, ◌%◌, ◌≤◌, ◌<◌}
use native.Mathlib.{Nat.mod-lt, Omega.arith}
use lib.{Arith.mod-mul, Dec.leb, Dec.ltb, Dec.lit<}
use borrow.Author.Tests.{leb-true, leb-false, le-leb, lt-leb, ltb-true, ltb-false, lt-ltb, le-ltb}
use Rattle.numbers.specs.Numbers.{bit}
use Rattle.numbers.proofs.{Powers.rest_small, Powers.rest_large, SignedLaws.same_test, BitLaws.bit_le}
use Rattle.packed.specs.Sum.{Worked, Operation, plus, minus, operation_of}

-- a number of the rest above two digits, and the rest's carry
abbrev pub above : Worked → Worked → Worked
above two rest = record { number = two.number + rest.number * 100; carry = rest.carry }

-- what the laws of strings ask of an operation
pub record ByParts (op : Operation) : Type 0 where
  pub below : (m x y : ℕ) (c : Bool) → 0 < m → (op m x y c).number < m
  pub none : (c : Bool) → (op 1 0 0 c).carry ≡ c
  pub parts : (m a b x y : ℕ) (c : Bool) → a < 100 → b < 100 → y < m
      → op (m * 100) (a + x * 100) (b + y * 100) c ≡ above (op 100 a b c) (op m x y (op 100 a b c).carry)

-- a number below m * 100, from its two last digits and the rest
number_above : (m t : ℕ) {two rest : ℕ} → 0 < m → t % 100 ≡ two → t / 100 ≡ rest → t % (m * 100) ≡ two + rest % m * 100
number_above m t h e d = mod-mul t h (lit< tt) ∙ (λ i. (d i % m) * 100 + e i) ∙ omega arith

-- a carry out of numbers below m is one m of their sum
pub carried : (m s : ℕ) → s < m + m → s % m + bit (leb m s) * m ≡ s
carried m s h = by (leb m s) refl
  where
    by : (k : Bool) → leb m s ≡ k → s % m + bit k * m ≡ s
    by true e = omega (arith, rest_large s m h (leb-true m s e))
    by false e = omega (arith, rest_small s m (leb-false m s e))

-- and a borrow one m that is lent
pub borrowed : (m a t : ℕ) → a < m → t ≤ m → (m + a - t) % m + t ≡ a + bit (ltb a t) * m
borrowed m a t ha ht = by (ltb a t) refl
  where
    by : (k : Bool) → ltb a t ≡ k → (m + a - t) % m + t ≡ a + bit k * m
    by true e = let l = ltb-true a t e in omega (arith, rest_small (m + a - t) m (omega arith))
    by false e = let l = ltb-false a t e in omega (arith, rest_large (m + a - t) m (omega arith) (omega arith))

module _ (m a b x y : ℕ) (c : Bool) (ha : a < 100) (hb : b < 100) (hy : y < m) where
  sum_parts : plus (m * 100) (a + x * 100) (b + y * 100) c ≡ above (plus 100 a b c) (plus m x y (leb 100 (a + b + bit c)))
  sum_parts =
      let one = bit_le c in
      let k = bit (leb 100 (a + b + bit c)) in
      let hundred = carried 100 (a + b + bit c) (omega arith) in
      let t = a + x * 100 + (b + y * 100) + bit c in
      let two : t % 100 ≡ (a + b + bit c) % 100 = omega arith in
      let rest : t / 100 ≡ x + y + k = omega arith in
      λ i. record {
        number = number_above m t (omega arith) two rest i;
        carry = same_test (leb (m * 100) t) (leb m (x + y + k)) (λ h. le-leb m (x + y + k) (omega (arith, leb-true (m * 100) t h))) (λ h. lt-leb m (x + y + k) (omega (arith, leb-false (m * 100) t h))) i;
      }

  difference_parts : minus (m * 100) (a + x * 100) (b + y * 100) c ≡ above (minus 100 a b c) (minus m x y (ltb a (b + bit c)))
  difference_parts =
      let one = bit_le c in
      let k = bit (ltb a (b + bit c)) in
      let lent = borrowed 100 a (b + bit c) ha (omega arith) in
      let t = m * 100 + (a + x * 100) - (b + y * 100 + bit c) in
      let two : t % 100 ≡ (100 + a - (b + bit c)) % 100 = omega arith in
      let rest : t / 100 ≡ m + x - (y + k) = omega arith in
      λ i. record {
        number = number_above m t (omega arith) two rest i;
        carry = same_test (ltb (a + x * 100) (b + y * 100 + bit c)) (ltb x (y + k)) (λ h. lt-ltb x (y + k) (omega (arith, ltb-true (a + x * 100) (b + y * 100 + bit c) h))) (λ h. le-ltb x (y + k) (omega (arith, ltb-false (a + x * 100) (b + y * 100 + bit c) h))) i;
      }

-- so both are done by parts
pub by_parts : (subtract : Bool) → ByParts (operation_of subtract)
by_parts false = record { below = λ m x y c h. mod-lt (x + y + bit c) h; none = out; parts = sum_parts }
  where
    out : (c : Bool) → leb 1 (0 + 0 + bit c) ≡ c
    out true = refl
    out false = refl
by_parts true = record { below = λ m x y c h. mod-lt (m + x - (y + bit c)) h; none = out; parts = difference_parts }
  where
    out : (c : Bool) → ltb 0 (0 + bit c) ≡ c
    out true = refl
    out false = refl
