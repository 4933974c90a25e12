-- The roads of a divide over the width n: the two tallies add up to the ones of the quotient's magnitude, signed the first is 0, and the steps
-- follow from them. Assumes nothing.
use mathlib.Core.{Path.◌≡◌, Path.refl, Path.sym, Path.ap, Path.◌∙◌, Bool.Bool, Bool.true, Bool.false, Bool.not, Bool.◌||◌, Bool.false≢true, Logic.inl, Logic.inr}
use Prim.Native.Nat.{ℕ, ◌+◌, ◌*◌, ◌/◌, ◌%◌, ◌^◌, ◌≤◌, ◌<◌}
use native.Mathlib.Omega.{arith}
use lib.{Count.ones, IntN.nat_abs}
use borrow.Author.Tests.{leb-false}
use Rattle.flags.specs.declared.word.Flags.{Flags}
use Rattle.cord.specs.Cord.{Roads, no_roads}
use Rattle.cord.proofs.RoadLaws.{all_ones, none_out}
use Rattle.divide.specs.Divide.{Divided, refused, accepts, applies, quotient_of, dividend_of, divisor_of, at_first, accepted_steps, accepted_roads, divide}
use Rattle.divide.specs.{StepLog.logged, StepLog.other_steps, declared.div.Refusal.Refusal}
use Rattle.divide.specs.declared.div.Refusal.TheVariants.{ZeroDivisor, TooWide, SignRange}
use Rattle.divide.proofs.DivLaws.{divisor_half, ByMagnitudes, compared_first, known}
use Rattle.divide.proofs.Refusals.{three_cover, refused-whole, refused_for_lem}

module _ (n : ℕ) (s : Bool) (d b : ℕ) where
  -- those of an accepted divide are CORD's, whatever REP and the flags are
  pub accepted_roads_lem : (rep : Bool) (f : Flags) → accepts n s d b ≡ true → (divide n s rep d b f).roads ≡ accepted_roads n s d b
  unfolding divide
  accepted_roads_lem rep f e = rw e

  unaccepted_roads : (rep : Bool) (f : Flags) → accepts n s d b ≡ false → (divide n s rep d b f).roads ≡ no_roads
  unfolding divide
  unaccepted_roads rep f e = rw e

  -- a refused one has none, for whatever reason
  pub refused-roads : 0 < n → (rep : Bool) (f : Flags) (why : Refusal) → (divide n s rep d b f).outcome ≡ refused why → (divide n s rep d b f).roads ≡ no_roads
  refused-roads hn rep f why h = ap (λ (a : Divided). a.roads) (refused-whole n s d b hn f rep why ((refused_for_lem n s d b hn f rep why).0 h))

  -- REP and the flags handed in change nothing of them
  pub roads_alike : (rep other : Bool) (f g : Flags) → (divide n s rep d b f).roads ≡ (divide n s other d b g).roads
  roads_alike rep other f g = by (accepts n s d b) refl
    where
      by : (x : Bool) → accepts n s d b ≡ x → (divide n s rep d b f).roads ≡ (divide n s other d b g).roads
      by true e = accepted_roads_lem rep f e ∙ sym (accepted_roads_lem other g e)
      by false e = unaccepted_roads rep f e ∙ sym (unaccepted_roads other g e)

-- ---- accepted

-- what is known of the operands: there is a divisor, the first compare passed, and the quotient is that of the magnitudes
record Passed (n : ℕ) (s : Bool) (d b : ℕ) : Type 0 where
  pub some : 0 < divisor_of n s b
  pub first : dividend_of n s d / 2 ^ n < divisor_of n s b
  pub shelf : nat_abs (quotient_of n s d b) ≡ dividend_of n s d / divisor_of n s b

passed : (n : ℕ) (s : Bool) (d b : ℕ) → 0 < n → d < 2 ^ (n + n) → b < 2 ^ n → accepts n s d b ≡ true → Passed n s d b
passed n s d b hn hd hb agreed = by (known n s d b hn hd hb)
  where
    none : (z w r : Bool) → z || w || r ≡ false → (z ≡ false) × (z || w ≡ false)
    none true w r e = absurd (false≢true (sym e))
    none false true r e = absurd (false≢true (sym e))
    none false false r e = (refl, refl)

    neither : (applies ZeroDivisor n s d b ≡ false) × (applies ZeroDivisor n s d b || applies TooWide n s d b ≡ false)
    neither = none _ _ (applies SignRange n s d b) (sym (three_cover n s d b hn) ∙ ap not agreed)

    later : at_first n s d b ≡ false
    later = compared_first n s d b (known n s d b hn hd hb) ∙ neither.1

    by : ByMagnitudes n s d b → Passed n s d b
    by (inl (z, m)) = absurd (false≢true (sym neither.0 ∙ z))
    by (inr (z, m, q)) = record { some = m; first = leb-false (divisor_of n s b) (dividend_of n s d / 2 ^ n) later; shelf = q }

module _ (n : ℕ) (s rep : Bool) (d b : ℕ) (f : Flags) (hn : 0 < n) (hd : d < 2 ^ (n + n)) (hb : b < 2 ^ n) (agreed : accepts n s d b ≡ true) where
  p : Passed n s d b
  p = passed n s d b hn hd hb agreed

  fits : (s : Bool) → divisor_of n s b ≤ 2 ^ n
  fits true = omega (arith, divisor_half n b hn hb)
  fits false = omega arith

  -- the two tallies add up to the ones of the quotient's magnitude
  pub roads_add_up : (divide n s rep d b f).roads.shifted_out + (divide n s rep d b f).roads.no_borrow ≡ ones (nat_abs (quotient_of n s d b))
  roads_add_up =
      ap (λ (w : Roads). w.shifted_out + w.no_borrow) (accepted_roads_lem n s d b rep f agreed)
      ∙ all_ones n (divisor_of n s b) n (dividend_of n s d) p.some (fits s) p.first
      ∙ ap ones (sym p.shelf)

  charted : (divide n s rep d b f).steps ≡ accepted_steps n s d b
  unfolding divide
  charted = rw agreed

  by_chart : (s : Bool) → accepted_steps n s d b ≡ other_steps n s d b + (accepted_roads n s d b).no_borrow + 2 * (dividend_of n s d / divisor_of n s b % 2)
  by_chart true = omega arith
  by_chart false = omega arith

  -- the steps: a one by no borrow adds 1, and an odd quotient 2
  pub steps_by_roads : (divide n s rep d b f).steps ≡ other_steps n s d b + (divide n s rep d b f).roads.no_borrow + 2 * (nat_abs (quotient_of n s d b) % 2)
  steps_by_roads = charted ∙ by_chart s ∙ sym (λ i. other_steps n s d b + (accepted_roads_lem n s d b rep f agreed i).no_borrow + 2 * (p.shelf i % 2))

  -- so a one by a bit shifted out is missing from what is logged of the quotient
  pub steps_and_shifted_out : (divide n s rep d b f).steps + (divide n s rep d b f).roads.shifted_out ≡ other_steps n s d b + logged (nat_abs (quotient_of n s d b))
  steps_and_shifted_out = omega (arith, steps_by_roads, roads_add_up)

-- ---- no bit is shifted out

-- with a divisor's magnitude of at most half the range, accepted or refused
pub none_shifted_out : (n : ℕ) (s rep : Bool) (d b : ℕ) (f : Flags) → 0 < n → d < 2 ^ (n + n) → b < 2 ^ n → divisor_of n s b * 2 ≤ 2 ^ n → (divide n s rep d b f).roads.shifted_out ≡ 0
none_shifted_out n s rep d b f hn hd hb h = by (accepts n s d b) refl
  where
    by : (x : Bool) → accepts n s d b ≡ x → (divide n s rep d b f).roads.shifted_out ≡ 0
    by true e = ap (λ (w : Roads). w.shifted_out) (accepted_roads_lem n s d b rep f e) ∙ none_out n (divisor_of n s b) n (dividend_of n s d) (passed n s d b hn hd hb e).some h
    by false e = ap (λ (w : Roads). w.shifted_out) (unaccepted_roads n s d b rep f e)

-- and so never of a signed divide
pub signed_none_out : (n : ℕ) (rep : Bool) (d b : ℕ) (f : Flags) → 0 < n → d < 2 ^ (n + n) → b < 2 ^ n → (divide n true rep d b f).roads.shifted_out ≡ 0
signed_none_out n rep d b f hn hd hb = none_shifted_out n true rep d b f hn hd hb (divisor_half n b hn hb)
