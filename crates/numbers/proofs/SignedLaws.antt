-- Signed numbers, read as differences of two naturals, on which linear arithmetic decides.
-- Assumes nothing.
use mathlib.Core.{Path.◌≡◌, Path.refl, Path.sym, Path.ap, Bool.Bool, Bool.true, Bool.false, Bool.cond, Bool.◌&&◌}
use Prim.Native.Nat.{ℕ, zero, suc, ◌+◌, ◌-◌, ◌*◌, ◌^◌, ◌≤◌, ◌<◌}
use native.Mathlib.Omega.{arith}
use lib.{Dec.leb, Dec.ltb, IntN.ℤ, IntN.pos, IntN.negsuc, IntN.neg_ℤ, IntN.sub_ℕ, IntN.◌+ℤ◌, Pow.pow_pos, Signed.le_z, Signed.lt_z}
use borrow.Author.Tests.{ltb-true, ltb-false, leb-true, leb-false, le-leb, lt-leb, lt-ltb, le-ltb}
use Rattle.numbers.specs.Numbers.{bit, top, top_set, signed, fits_signed}

-- z is u less v
pub data Diff : ℤ → ℕ → ℕ → Type 0 where
  above : (m u v : ℕ) → u ≡ v + m → Diff (pos m) u v
  below : (m u v : ℕ) → v ≡ u + suc m → Diff (negsuc m) u v

-- a pair with the same difference
pub diff_as : {z : ℤ} {u v : ℕ} → Diff z u v → (p q : ℕ) → u + q ≡ v + p → Diff z p q
diff_as (above m u v d) p q e = above m p q (omega arith)
diff_as (below m u v d) p q e = below m p q (omega arith)

pub diff_sub : (u v : ℕ) → Diff (sub_ℕ u v) u v
diff_sub u v = by (ltb u v) refl
  where
    by : (x : Bool) → ltb u v ≡ x → Diff (cond x (negsuc (v - suc u)) (pos (u - v))) u v
    by true e = below (v - suc u) u v (omega (arith, ltb-true u v e))
    by false e = above (u - v) u v (omega (arith, ltb-false u v e))

pub diff_neg : {z : ℤ} {u v : ℕ} → Diff z u v → Diff (neg_ℤ z) v u
diff_neg (above m u v d) = by m d
  where
    by : (m : ℕ) → u ≡ v + m → Diff (neg_ℤ (pos m)) v u
    by zero d = above 0 v u (omega arith)
    by (suc m) d = below m v u d
diff_neg (below m u v d) = above (suc m) v u d

pub diff_add : {z w : ℤ} {u v p q : ℕ} → Diff z u v → Diff w p q → Diff (z +ℤ w) (u + p) (v + q)
diff_add (above a u v d) (above b p q e) = above (a + b) (u + p) (v + q) (omega arith)
diff_add (above a u v d) (below b p q e) = diff_as (diff_sub a (suc b)) (u + p) (v + q) (omega arith)
diff_add (below a u v d) (above b p q e) = diff_as (diff_sub b (suc a)) (u + p) (v + q) (omega arith)
diff_add (below a u v d) (below b p q e) = below (suc (a + b)) (u + p) (v + q) (omega arith)

-- a number of n bits, by its top bit
pub diff_signed : (n x : ℕ) → Diff (signed n x) x (bit (top_set n x) * 2 ^ n)
unfolding signed
diff_signed n x = by (top_set n x)
  where
    by : (s : Bool) → Diff (cond s (sub_ℕ x (2 ^ n)) (pos x)) x (bit s * 2 ^ n)
    by true = diff_as (diff_sub x (2 ^ n)) x (1 * 2 ^ n) (omega arith)
    by false = above x x (0 * 2 ^ n) (omega arith)

-- a test that holds as another does
pub same_test : (x y : Bool) → (x ≡ true → y ≡ true) → (x ≡ false → y ≡ false) → x ≡ y
same_test true y f g = sym (f refl)
same_test false y f g = sym (g refl)

-- the signed range of n bits, on a difference
pub fits_diff : (n : ℕ) {z : ℤ} {u v : ℕ} → Diff z u v → fits_signed n z ≡ leb v (u + top n) && ltb u (v + top n)
unfolding fits_signed
fits_diff n d = by (top n) (pow_pos (n - 1)) d
  where
    by : (t : ℕ) → 0 < t → {z : ℤ} {u v : ℕ} → Diff z u v → le_z (neg_ℤ (pos t)) z && lt_z z (pos t) ≡ leb v (u + t) && ltb u (v + t)
    by zero h d = absurd (omega arith)
    by (suc t) h (above m u v d) =
        rw (le-leb v (u + suc t) (omega arith))
        (same_test (ltb m (suc t)) (ltb u (v + suc t))
        (λ e. lt-ltb u (v + suc t) (omega (arith, ltb-true m (suc t) e)))
        (λ e. le-ltb u (v + suc t) (omega (arith, ltb-false m (suc t) e))))
    by (suc t) h (below m u v d) =
        rw (lt-ltb u (v + suc t) (omega arith))
        (ap (λ (y : Bool). y && true)
        (same_test (leb m t) (leb v (u + suc t))
        (λ e. le-leb v (u + suc t) (omega (arith, leb-true m t e)))
        (λ e. lt-leb v (u + suc t) (omega (arith, leb-false m t e)))))

-- where a number stands by its top bit t
abbrev pub TopIs : Bool → ℕ → ℕ → Type 0
TopIs true t x = t ≤ x
TopIs false t x = x < t

pub top_is : (n x : ℕ) → TopIs (top_set n x) (top n) x
top_is n x = by (top_set n x) refl
  where
    by : (s : Bool) → top_set n x ≡ s → TopIs s (top n) x
    by true e = leb-true (top n) x e
    by false e = leb-false (top n) x e
