-- The roads of CORD's rounds over the width n: which are never taken, how many ones come by them, and how the steps add up road by road.
-- Assumes nothing.
use mathlib.Core.{Path.◌≡◌, Path.refl, Path.sym, Path.ap, Path.◌∙◌, Bool.Bool, Bool.true, Bool.false, Bool.cond, Bool.true≢false}
use Prim.Native.Nat.{ℕ, zero, suc, ◌+◌, ◌-◌, ◌*◌, ◌/◌, ◌%◌, ◌^◌, ◌≤◌, ◌<◌}
use native.Mathlib.{Nat.add-zero, Nat.pow-suc, Nat.div-add-mod', Nat.div-eq_of_lt, Nat.mod-lt, Nat.div-div-eq-div-mul, Nat.mul_comm, Omega.arith}
use lib.{Count.ones, Count.ones_cat, Dec.leb, Dec.eqb, Dec.lit<}
use borrow.Author.Tests.{leb-true, leb-false, lt-leb}
use Rattle.cord.specs.Cord.{Results, CordOutcome, accepted, refused, cord, shifted, Road, shifted_out, no_borrow, borrow as borrows, road_by, road, tally, by_shifted_out, shifted_outs, by_no_borrow, no_borrows, cord_steps}
use Rattle.cord.specs.ByRoad.{road_steps, walk_steps, steps_by_road}
use Rattle.cord.proofs.CordLaws.{fits_once, fits_not}

-- what a round compares is less than twice the divisor
shifted_lt : (b p : ℕ) → 0 < b → shifted b p < b * 2
shifted_lt b p pos = omega (arith, mod-lt (p / 2) {m = b} pos, mod-lt p {m = 2} (lit< tt))

-- a divisor of at most half the range: no bit is ever shifted out
pub never_out : (n b p : ℕ) → 0 < b → b * 2 ≤ 2 ^ n → road n b p ≡ road_by false (leb b (shifted b p))
unfolding road
never_out n b p pos h = ap (λ (x : Bool). road_by x (leb b (shifted b p))) (lt-leb (2 ^ n) (shifted b p) (omega (arith, shifted_lt b p pos)))

-- a quotient with one bit more
ones_odd : (q : ℕ) → ones (q * 2 + 1) ≡ ones q + 1
unfolding ones
ones_odd q = ones_cat 1 q 1 (lit< tt)

ones_even : (q : ℕ) → ones (q * 2) ≡ ones q
unfolding ones
ones_even q = let z : q * 2 ≡ q * 2 ^ 1 + 0 = omega arith in ap ones z ∙ ones_cat 1 q 0 (lit< tt) ∙ omega arith

-- with the bit that a round takes in, the quotient has one more exactly if the round took one of the two roads that make one
one_more : (n b p : ℕ) → 0 < b → b ≤ 2 ^ n → ones (p / 2 / b) + (by_shifted_out (road n b p) + by_no_borrow (road n b p)) ≡ ones (p / b)
unfolding road
one_more n b p pos hb = by (leb (2 ^ n) (shifted b p)) (leb b (shifted b p)) refl refl
  where
    whole : p / 2 * 2 + p % 2 ≡ p
    whole = div-add-mod' p 2

    odd : b ≤ shifted b p → ones (p / 2 / b) + 1 ≡ ones (p / b)
    odd h =
        let q = (fits_once b (p / 2) (p % 2) (shifted b p) refl (mod-lt p (lit< tt)) h (mod-lt (p / 2) pos)).0 in
        sym (ones_odd (p / 2 / b)) ∙ ap ones (sym q ∙ ap (λ (x : ℕ). x / b) whole)

    by : (x y : Bool) → leb (2 ^ n) (shifted b p) ≡ x → leb b (shifted b p) ≡ y → ones (p / 2 / b) + (by_shifted_out (road_by x y) + by_no_borrow (road_by x y)) ≡ ones (p / b)
    by true y ex ey = odd (omega (arith, leb-true (2 ^ n) (shifted b p) ex))
    by false true ex ey = odd (leb-true b (shifted b p) ey)
    by false false ex ey =
        let q = (fits_not b (p / 2) (p % 2) (shifted b p) refl (leb-false b (shifted b p) ey)).0 in
        add-zero (ones (p / 2 / b)) ∙ sym (ones_even (p / 2 / b)) ∙ ap ones (sym q ∙ ap (λ (x : ℕ). x / b) whole)

-- so every one of the quotient comes by one of the two
pub all_ones : (n b k p : ℕ) → 0 < b → b ≤ 2 ^ n → p / 2 ^ k < b → shifted_outs n b k p + no_borrows n b k p ≡ ones (p / b)
unfolding tally ones
all_ones n b zero p pos hb small = let none : p / b ≡ 0 = div-eq_of_lt (omega arith) in sym (ap ones none)
all_ones n b (suc k) p pos hb small = omega (arith, all_ones n b k (p / 2) pos hb halved, one_more n b p pos hb)
  where
    halved : p / 2 / 2 ^ k < b
    halved = rw div-div-eq-div-mul (rw (mul_comm 2 (2 ^ k), ← pow-suc 2 k) small)

-- with a divisor of at most half the range none comes by a bit shifted out
pub none_out : (n b k p : ℕ) → 0 < b → b * 2 ≤ 2 ^ n → shifted_outs n b k p ≡ 0
unfolding tally
none_out n b zero p pos h = refl
none_out n b (suc k) p pos h = omega (arith, none_out n b k (p / 2) pos h, ap by_shifted_out (never_out n b p pos h), by (leb b (shifted b p)))
  where
    by : (y : Bool) → by_shifted_out (road_by false y) ≡ 0
    by true = refl
    by false = refl

-- and so all come by no borrow
pub plain-ones : (n b k p : ℕ) → 0 < b → b * 2 ≤ 2 ^ n → p / 2 ^ k < b → no_borrows n b k p ≡ ones (p / b)
plain-ones n b k p pos h small = omega (arith, all_ones n b k p pos (omega arith) small, none_out n b k p pos h)

-- ---- the steps

walk_steps_lem : (n b k p : ℕ) → walk_steps n b k p ≡ 8 * k + no_borrows n b k p
unfolding tally
walk_steps_lem n b zero p = refl
walk_steps_lem n b (suc k) p = omega (arith, walk_steps_lem n b k (p / 2), by (road n b p))
  where
    by : (r : Road) → road_steps r ≡ 8 + by_no_borrow r
    by shifted_out = refl
    by no_borrow = refl
    by borrows = refl

-- road by road they come to the chart's total
pub road_by-road : (n b d : ℕ) → 0 < n → steps_by_road n b d ≡ cord_steps n b d
road_by-road n b d hn = omega (arith, walk_steps_lem n b n d)

-- and in the chart's words the total is 7 + 8n and the count of ones by no borrow, plus 1 if the quotient is odd, else minus 1
pub as_charted : (n b d : ℕ) → cond (eqb (d / b % 2) 1) (7 + 8 * n + no_borrows n b n d + 1) (7 + 8 * n + no_borrows n b n d - 1) ≡ cord_steps n b d
as_charted n b d = by (d / b % 2) (mod-lt (d / b) {m = 2} (lit< tt))
  where
    by : (k : ℕ) → k < 2 → cond (eqb k 1) (7 + 8 * n + no_borrows n b n d + 1) (7 + 8 * n + no_borrows n b n d - 1) ≡ 6 + 8 * n + no_borrows n b n d + 2 * k
    by zero h = omega arith
    by (suc zero) h = omega arith
    by (suc (suc k)) h = absurd (omega arith)

-- ---- of CORD's answer

-- the two tallies of one that it accepts add up to the ones of its quotient
pub cord_adds_up : (n b d steps : ℕ) {r : Results} → b ≤ 2 ^ n → (cord n b d steps).outcome ≡ accepted r
    → (cord n b d steps).roads.shifted_out + (cord n b d steps).roads.no_borrow ≡ ones r.quotient
unfolding cord
cord_adds_up n b d steps {r} hb e = by (leb b (d / 2 ^ n)) refl
  where
    is_refused : CordOutcome → Bool
    is_refused (accepted r) = false
    is_refused refused = true

    by : (x : Bool) → leb b (d / 2 ^ n) ≡ x → (cord n b d steps).roads.shifted_out + (cord n b d steps).roads.no_borrow ≡ ones r.quotient
    by true h = let e' = rw h at e in absurd (true≢false (ap is_refused e'))
    by false h =
        let e' = rw h at e in
        let same : r ≡ record { quotient = d / b; remainder = d % b } = cc in
        let first = leb-false b (d / 2 ^ n) h in
        rw h (all_ones n b n d (omega arith) hb first ∙ ap (λ (w : Results). ones w.quotient) (sym same))
