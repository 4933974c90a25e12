-- What is returned of a quotient has its magnitude, with REP or without. Assumes nothing.
use mathlib.Core.{Path.◌≡◌, Path.refl, Path.sym, Path.ap, Path.◌∙◌, Bool.Bool, Bool.true, Bool.false, Bool.not, Bool.and-eq-true_iff}
use Prim.Native.Nat.{ℕ, zero, suc, ◌/◌, ◌^◌, ◌<◌}
use native.Mathlib.{Nat.mod-eq_of_lt, Omega.arith}
use lib.{Dec.ltb, Dec.eqb, IntN.ℤ, IntN.pos, IntN.negsuc, IntN.neg_ℤ, IntN.nat_abs}
use borrow.Author.Tests.{ltb-true}
use Rattle.numbers.specs.Numbers.{top, magnitude, wrapped}
use Rattle.numbers.proofs.SignLaws.{signed-wrapped}
use Rattle.divide.specs.Divide.{accepts, quotient_of, quotient_returned, results_of}
use Rattle.divide.proofs.Manual.{quotient_fits}

abs_neg : (z : ℤ) → nat_abs (neg_ℤ z) ≡ nat_abs z
abs_neg (pos zero) = refl
abs_neg (pos (suc k)) = refl
abs_neg (negsuc k) = refl

abs_returned : (s rep : Bool) (q : ℤ) → nat_abs (quotient_returned s rep q) ≡ nat_abs q
abs_returned true true q = abs_neg q
abs_returned true false q = refl
abs_returned false rep q = refl

pub returned_magnitude : (n : ℕ) (s rep : Bool) (d b : ℕ) → 0 < n → accepts n s d b ≡ true → magnitude s n (results_of n s rep d b).quotient ≡ nat_abs (quotient_of n s d b)
unfolding wrapped
returned_magnitude n true rep d b hn e =
    let q = quotient_of n true d b in
    let fits = ltb-true (nat_abs q) (top n) ((and-eq-true_iff (not (eqb b 0)) (ltb (nat_abs q) (top n))).0 e).1 in
    ap nat_abs (signed-wrapped n (quotient_returned true rep q) hn (omega (arith, abs_returned true rep q))) ∙ abs_returned true rep q
returned_magnitude n false rep d b hn e =
    let fits = ltb-true (d / b) (2 ^ n) ((and-eq-true_iff (not (eqb b 0)) (ltb (d / b) (2 ^ n))).0 (sym (quotient_fits n d b) ∙ e)).1 in
    mod-eq_of_lt fits
