-- Tens and units of a byte, by hexadecimal numbers: what 6 for the units and 60 for the tens make of a sum or difference of bytes.
-- Assumes nothing.
use mathlib.Core.{Path.◌≡◌, Path.refl, Path.sym, Path.ap, Path.◌∙◌, Bool.Bool, Bool.true, Bool.false}
use Prim.Native.Nat.{ℕ, ◌+◌, ◌-◌, ◌*◌, ◌/◌, ◌%◌, ◌≤◌, ◌<◌}
use native.Mathlib.Omega.{arith}
use lib.Dec.{ltb}
use borrow.Author.Tests.{ltb-true, ltb-false, lt-ltb, le-ltb}
use Rattle.numbers.proofs.SignedLaws.{same_test}
use Rattle.packed.specs.Digits.{byte_of}

byte_by_lem : (u v : ℕ) → u ≤ 9 → v ≤ 9 → byte_of (u * 10 + v) ≡ u * 16 + v
byte_by_lem u v hu hv =
    let upper : (u * 10 + v) / 10 ≡ u = omega arith in
    let lower : (u * 10 + v) % 10 ≡ v = omega arith in
    λ i. upper i * 16 + lower i

-- a sum of bytes whose tens are u with the carry q and whose units are v with the carry p
pub summed : (s t p q u v : ℕ) → u ≤ 9 → v ≤ 9 → s + p * 6 + q * 96 ≡ q * 256 + u * 16 + v → t ≡ q * 100 + u * 10 + v
    → (s % 256 + (p * 6 + q * 96)) % 256 ≡ byte_of (t % 100)
summed s t p q u v hu hv e d =
    let number : t % 100 ≡ u * 10 + v = omega arith in
    let byte : (s % 256 + (p * 6 + q * 96)) % 256 ≡ u * 16 + v = omega arith in
    byte ∙ sym (byte_by_lem u v hu hv) ∙ ap byte_of (sym number)

-- a difference made of w less d, by bytes: q times 256 were lent and come back
lent : (w d q k : ℕ) → d ≤ 256 → k < 256 → 256 + w ≡ d + k + (2 - q) * 256 → (256 + w % 256 - d) % 256 ≡ k
lent w d q k hd hk e =
    let whole : (256 + w % 256 - d) % 256 ≡ (256 + w - d) % 256 = omega arith in
    whole ∙ omega arith

-- and a difference with the borrows q and p
pub taken : (x y tx ty p q u v : ℕ) → u ≤ 9 → v ≤ 9 → p ≤ 1 → q ≤ 1 → y ≤ 154 → x + q * 160 ≡ y + u * 16 + v + p * 6 → tx + q * 100 ≡ ty + u * 10 + v
    → (256 + (256 + x - y) % 256 - (p * 6 + q * 96)) % 256 ≡ byte_of ((100 + tx - ty) % 100)
taken x y tx ty p q u v hu hv hp hq hy e d =
    let number : (100 + tx - ty) % 100 ≡ u * 10 + v = omega arith in
    lent (256 + x - y) (p * 6 + q * 96) q (u * 16 + v) (omega arith) (omega arith) (omega arith) ∙ sym (byte_by_lem u v hu hv) ∙ ap byte_of (sym number)

-- bytes of two digits are in the order of their numbers
pub in_order : (a b u v : ℕ) → u ≤ 9 → v ≤ 10 → ltb (a * 16 + u) (b * 16 + v) ≡ ltb (a * 10 + u) (b * 10 + v)
in_order a b u v hu hv = same_test (ltb (a * 16 + u) (b * 16 + v)) (ltb (a * 10 + u) (b * 10 + v)) (λ h. lt-ltb (a * 10 + u) (b * 10 + v) (less (ltb-true (a * 16 + u) (b * 16 + v) h))) (λ h. le-ltb (a * 10 + u) (b * 10 + v) (more (ltb-false (a * 16 + u) (b * 16 + v) h)))
  where
    less : a * 16 + u < b * 16 + v → a * 10 + u < b * 10 + v
    less h = by (ltb a b) refl
      where
        by : (t : Bool) → ltb a b ≡ t → a * 10 + u < b * 10 + v
        by true e = omega (arith, ltb-true a b e)
        by false e = omega (arith, ltb-false a b e)

    more : b * 16 + v ≤ a * 16 + u → b * 10 + v ≤ a * 10 + u
    more h = by (ltb b a) refl
      where
        by : (t : Bool) → ltb b a ≡ t → b * 10 + v ≤ a * 10 + u
        by true e = omega (arith, ltb-true b a e)
        by false e = omega (arith, ltb-false b a e)
