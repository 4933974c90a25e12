-- The manual on what a divide answers: n bits, read as a number that is signed or not. Assumes nothing.
use mathlib.Core.Path.{◌≡◌, refl, sym, ap, ◌∙◌}
use mathlib.Core.Bool.{Bool, true, false, not, cond, ◌&&◌, ◌||◌, true≢false, false≢true, and-eq-true_iff}
use Prim.Native.Nat.{ℕ, ◌+◌, ◌-◌, ◌%◌, ◌^◌, ◌<◌}
use native.Mathlib.{Nat.mod-lt, Omega.arith}
use lib.{Dec.eqb, IntN.ℤ, IntN.pos, IntN.negsuc, IntN.nat_abs, Pow.pow_pos}
use borrow.Author.Tests.{ltb-true, lt-ltb, lt-leb, eqb-false, ne_eqb, not-true}
use Rattle.numbers.specs.Numbers.{top, top_set, signed, valued, magnitude, wrapped}
use Rattle.flags.specs.declared.word.Flags.{Flags}
use Rattle.numbers.proofs.SignLaws.{magnitude-plain, plain_lt, signed-wrapped, wrapped-sign}
use Rattle.divide.specs.Divide.{accepted, accepts, quotient_of, remainder_of, quotient_returned, divide}
use Rattle.divide.specs.Manual.{Division, in_range, is_refused}
use Rattle.cord.specs.Cord.{Results}
use Rattle.divide.proofs.Manual.{quotient_determined, division_holds, range_signed, range_unsigned, manual_accepts}

-- a divide is refused exactly if it is not accepted, whatever the flags, REP or not
pub not_accepted_refused : (n : ℕ) (s rep : Bool) (d b : ℕ) (f : Flags) → is_refused (divide n s rep d b f).outcome ≡ not (accepts n s d b)
unfolding divide
not_accepted_refused n s rep d b f = by (accepts n s d b) refl
  where
    by : (c : Bool) → accepts n s d b ≡ c → is_refused (divide n s rep d b f).outcome ≡ not c
    by true e = rw e
    by false e = rw e

-- a divide is refused exactly if the divisor is 0 or the quotient is out of the manual's range, signed or not; REP changes nothing of that
pub manual_refuses : (n : ℕ) (s rep : Bool) (d b : ℕ) (f : Flags) → is_refused (divide n s rep d b f).outcome ≡ eqb b 0 || not (in_range n s (quotient_of n s d b))
manual_refuses n s rep d b f = not_accepted_refused n s rep d b f ∙ ap not (manual_accepts n s d b) ∙ either (eqb b 0) (in_range n s (quotient_of n s d b))
  where
    either : (x y : Bool) → not (not x && y) ≡ x || not y
    either true y = refl
    either false y = refl

-- 0 is 0, signed or not
pub nothing : (n : ℕ) (s : Bool) → magnitude s n 0 ≡ 0
unfolding signed
nothing n true = rw (lt-leb (top n) 0 (pow_pos (n - 1)))
nothing n false = refl

-- where there is a division, the divisor is not 0, and the quotient is that of the definitions
module _ (n : ℕ) (s : Bool) (d b : ℕ) {q r : ℤ} (h : Division (valued s (n + n) d) (valued s n b) q r) where
  pub not_by_zero : b ≡ 0 → ⊥
  not_by_zero e = omega (arith, h.smaller, ap (magnitude s n) e, nothing n s)

  pub quotient_is : quotient_of n s d b ≡ q
  quotient_is = sym (quotient_determined (valued s (n + n) d) (valued s n b) q r h)

-- the same in the manual's own words: where there is a division, the divide is refused exactly if its quotient is out of range
pub manual_traps : (n : ℕ) (s rep : Bool) (d b : ℕ) (f : Flags) {q r : ℤ} → Division (valued s (n + n) d) (valued s n b) q r
    → is_refused (divide n s rep d b f).outcome ≡ not (in_range n s q)
manual_traps n s rep d b f h =
    manual_refuses n s rep d b f
    ∙ ap (λ (z : Bool). z || not (in_range n s (quotient_of n s d b))) (ne_eqb b 0 (not_by_zero n s d b h))
    ∙ ap (λ (z : ℤ). not (in_range n s z)) (quotient_is n s d b h)

-- without REP the quotient is returned as it is
pub without_rep : (s : Bool) (q : ℤ) → quotient_returned s false q ≡ q
without_rep true q = refl
without_rep false q = refl

-- a number in the manual's range is what its n bits stand for
back : (n : ℕ) (s : Bool) (z : ℤ) → 0 < n → in_range n s z ≡ true → valued s n (wrapped n z) ≡ z
back n true z hn e = signed-wrapped n z hn (ltb-true (nat_abs z) (top n) (sym (range_signed n z) ∙ e))
back n false (pos k) hn e = ap pos (wrapped-sign n false k (ltb-true k (2 ^ n) (sym (range_unsigned n k) ∙ e)))
back n false (negsuc k) hn e = absurd (false≢true e)

-- a divisor that is not 0 has a magnitude
some : (n : ℕ) (s : Bool) (b : ℕ) → b < 2 ^ n → (b ≡ 0 → ⊥) → 0 < magnitude s n b
some n false b hb h = omega arith
some n true b hb h = rw (magnitude-plain n b hb) (by (top_set n b))
  where
    by : (t : Bool) → 0 < cond t (2 ^ n - b) b
    by true = omega arith
    by false = omega arith

-- a remainder is smaller than the divisor, so that it is in range too
rest_in_range : (n : ℕ) (s : Bool) (d b : ℕ) → 0 < n → b < 2 ^ n → 0 < magnitude s n b → in_range n s (remainder_of n s d b) ≡ true
rest_in_range n true d b hn hb h =
    let small = (division_holds (valued true (n + n) d) (valued true n b) h).smaller in
    range_signed n (remainder_of n true d b) ∙ lt-ltb _ (top n) (omega (arith, small, magnitude-plain n b hb, plain_lt n b hn hb))
rest_in_range n false d b hn hb h = range_unsigned n (d % b) ∙ lt-ltb (d % b) (2 ^ n) (omega (arith, mod-lt d h))

-- a divide without REP that is accepted
module _ (n : ℕ) (s : Bool) (d b : ℕ) (f : Flags) {r : Results} (e : (divide n s false d b f).outcome ≡ accepted r) where
  -- the bits that are answered
  answered : (accepts n s d b ≡ true) × (r.quotient ≡ wrapped n (quotient_of n s d b)) × (r.remainder ≡ wrapped n (remainder_of n s d b))
  unfolding divide
  answered = by (accepts n s d b) refl
    where
      by : (c : Bool) → accepts n s d b ≡ c → (c ≡ true) × (r.quotient ≡ wrapped n (quotient_of n s d b)) × (r.remainder ≡ wrapped n (remainder_of n s d b))
      by true x =
          let e' = rw (x, without_rep s (quotient_of n s d b)) at e in
          let same : r ≡ record { quotient = wrapped n (quotient_of n s d b); remainder = wrapped n (remainder_of n s d b) } = cc in
          (refl, ap (λ (w : Results). w.quotient) same, ap (λ (w : Results). w.remainder) same)
      by false x = let e' = rw x at e in absurd (true≢false (ap is_refused e'))

  -- its quotient and its remainder, read as numbers of n bits, are those of the manual's division, signed or not
  pub manual_divides : 0 < n → b < 2 ^ n → Division (valued s (n + n) d) (valued s n b) (valued s n r.quotient) (valued s n r.remainder)
  manual_divides hn hb =
      let ok = (and-eq-true_iff (not (eqb b 0)) (in_range n s (quotient_of n s d b))).0 (sym (manual_accepts n s d b) ∙ answered.0) in
      let there = some n s b hb (eqb-false b 0 (not-true (eqb b 0) ok.0)) in
      let quotient : valued s n r.quotient ≡ quotient_of n s d b = ap (valued s n) answered.1 ∙ back n s (quotient_of n s d b) hn ok.1 in
      let remainder : valued s n r.remainder ≡ remainder_of n s d b = ap (valued s n) answered.2 ∙ back n s (remainder_of n s d b) hn (rest_in_range n s d b hn hb there) in
      rw (quotient, remainder) (division_holds (valued s (n + n) d) (valued s n b) there)
