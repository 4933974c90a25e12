-- The steps of an accepted signed divide, by its quotient's magnitude and the two signs alone; and the most that a divide takes.
-- Assumes nothing.
use mathlib.Core.{Path.◌≡◌, Path.refl, Path.sym, Path.ap, Path.◌∙◌, Bool.Bool, Bool.true, Bool.false, Bool.not, Bool.xor, Bool.◌&&◌, Bool.false≢true, Logic.⊎_elim}
use Prim.Native.Nat.{ℕ, ◌+◌, ◌-◌, ◌*◌, ◌/◌, ◌^◌, ◌≤◌, ◌<◌}
use native.Mathlib.Omega.{arith}
use lib.{Count.ones, Count.ones-le, Dec.ltb, IntN.nat_abs}
use borrow.Author.Tests.{ltb-true}
use Rattle.numbers.specs.Numbers.{top, top_set}
use Rattle.flags.specs.declared.word.Flags.{Flags}
use Rattle.numbers.proofs.{Powers.top_twice, SignLaws.abs_sign}
use Rattle.divide.specs.Divide.{accepts, quotient_of, dividend_of, divisor_of, at_first, pre_steps, refused_steps, divide}
use Rattle.divide.specs.StepLog.{shelf_magnitude, logged}
use Rattle.cord.specs.Cord.{no_borrows}
use Rattle.divide.proofs.DivLaws.{below, divisor_half, pre_most, zero_or_not, rule, quotient_by}
use Rattle.cord.proofs.{CordLaws.most_ones, RoadLaws.plain-ones}

module _ (n d b : ℕ) (rep : Bool) (f : Flags) (hn : 0 < n) (hd : d < 2 ^ (n + n)) (hb : b < 2 ^ n) (agreed : accepts n true d b ≡ true) where
  divisor_pos : 0 < divisor_of n true b
  divisor_pos = ⊎_elim (λ h. h) (λ z. absurd (false≢true (sym (ap (λ (x : Bool). not x && ltb (nat_abs (quotient_of n true d b)) (top n)) z) ∙ agreed))) (zero_or_not n d b rep hn hd hb)

  quotient_is : nat_abs (quotient_of n true d b) ≡ dividend_of n true d / divisor_of n true b
  quotient_is = ap nat_abs (quotient_by n d b rep hn hd hb divisor_pos) ∙ abs_sign (xor (top_set (n + n) d) (top_set n b)) (dividend_of n true d / divisor_of n true b)

  in_range_lem : dividend_of n true d / divisor_of n true b < top n
  in_range_lem = ltb-true (dividend_of n true d / divisor_of n true b) (top n) (sym (rule n d b rep hn hd hb divisor_pos) ∙ agreed)

  by_no_borrow_lem : no_borrows n (divisor_of n true b) n (dividend_of n true d) ≡ ones (dividend_of n true d / divisor_of n true b)
  by_no_borrow_lem =
      plain-ones n (divisor_of n true b) n (dividend_of n true d) divisor_pos (divisor_half n b hn hb)
      (below (dividend_of n true d) (2 ^ n) (divisor_of n true b) divisor_pos (omega (arith, in_range_lem, top_twice n hn)))

  -- what the log shows of an accepted signed divide
  pub steps-logged : (divide n true rep d b f).steps ≡ 25 + pre_steps n d b + 8 * n + logged (shelf_magnitude n d b)
  unfolding divide
  steps-logged = rw (agreed, quotient_is) (omega (arith, by_no_borrow_lem))

  few_ones : ones (dividend_of n true d / divisor_of n true b) + 1 ≤ n
  few_ones = omega (arith, ones-le (n - 1) (dividend_of n true d / divisor_of n true b) in_range_lem)

-- ---- the most that a divide takes: 39 + 9n steps

module _ (n d b : ℕ) (rep : Bool) (f : Flags) (hn : 0 < n) (hd : d < 2 ^ (n + n)) (hb : b < 2 ^ n) where
  most_unsigned : (x : Bool) → accepts n false d b ≡ x → (divide n false rep d b f).steps ≤ 39 + 9 * n
  unfolding divide
  most_unsigned true e = rw e (omega (arith, most_ones n b n d))
  most_unsigned false e = rw e (omega arith)

  most_refused : (first : Bool) → at_first n true d b ≡ first → refused_steps n true d b ≤ 39 + 9 * n
  most_refused true e = rw e (omega (arith, pre_most n d b))
  most_refused false e = rw e (omega (arith, pre_most n d b, most_ones n (divisor_of n true b) n (dividend_of n true d)))

  most_signed : (x : Bool) → accepts n true d b ≡ x → (divide n true rep d b f).steps ≤ 39 + 9 * n
  unfolding divide
  most_signed true e =
      rw e (omega (arith, pre_most n d b, by_no_borrow_lem n d b rep f hn hd hb e, few_ones n d b rep f hn hd hb e))
  most_signed false e = rw e (most_refused (at_first n true d b) refl)

  -- signed or not, accepted or refused
  pub most_steps : (s : Bool) → (divide n s rep d b f).steps ≤ 39 + 9 * n
  most_steps true = most_signed (accepts n true d b) refl
  most_steps false = most_unsigned (accepts n false d b) refl

-- at 8 bits
pub most_steps_8 : (d b : ℕ) (rep : Bool) (f : Flags) → d < 2 ^ 16 → b < 2 ^ 8 → (s : Bool) → (divide 8 s rep d b f).steps ≤ 111
most_steps_8 d b rep f hd hb = most_steps 8 d b rep f (omega arith) hd hb

-- and at 16
pub most_steps_16 : (d b : ℕ) (rep : Bool) (f : Flags) → d < 2 ^ 32 → b < 2 ^ 16 → (s : Bool) → (divide 16 s rep d b f).steps ≤ 183
most_steps_16 d b rep f hd hb = most_steps 16 d b rep f (omega arith) hd hb
