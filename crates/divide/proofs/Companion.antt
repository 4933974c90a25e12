-- What the step log tells of an unsigned divide: the companion of demand 3.
--
-- Two unsigned divides with one quotient take equal steps exactly when equally many of their ones came by a bit shifted out. That depends on the
-- divisor and the remainder, so whoever reads the log of such a divide may learn of more than the quotient: 00FF / FF and 0100 / C8 both have the
-- quotient 1, and take 80 and 79 steps (M7 and M8). No bit is shifted out where the divisor is at most 2 ^ (n - 1); then the log tells of the
-- quotient alone. Assumes nothing.
use mathlib.Core.{Path.◌≡◌, Path.ap, Path.sym, Path.◌∙◌, Bool.Bool, Bool.true, Bool.false, Logic.◌↔◌}
use Prim.Native.Nat.{ℕ, ◌+◌, ◌-◌, ◌*◌, ◌^◌, ◌≤◌, ◌<◌}
use native.Mathlib.Omega.{arith}
use lib.IntN.{ℤ, nat_abs}
use Rattle.flags.specs.declared.word.Flags.{Flags}
use Rattle.numbers.proofs.Powers.{top_twice}
use Rattle.divide.specs.{Divide.accepts, Divide.quotient_of, Divide.divide, StepLog.logged}
use Rattle.divide.proofs.RoadsOfDivides.{steps_and_shifted_out, none_shifted_out}

-- two accepted unsigned divides of one width, REP and flags either way on each, with equal quotients
module _ (n : ℕ) (hn : 0 < n) (d b d' b' : ℕ) (rep rep' : Bool) (f f' : Flags)
    (hd : d < 2 ^ (n + n)) (hb : b < 2 ^ n) (hd' : d' < 2 ^ (n + n)) (hb' : b' < 2 ^ n)
    (yes-1 : accepts n false d b ≡ true) (yes-2 : accepts n false d' b' ≡ true)
    (quotients : quotient_of n false d b ≡ quotient_of n false d' b') where
  -- steps and first tally come to the same sum
  one_sum : (divide n false rep d b f).steps + (divide n false rep d b f).roads.shifted_out ≡ (divide n false rep' d' b' f').steps + (divide n false rep' d' b' f').roads.shifted_out
  one_sum =
      steps_and_shifted_out n false rep d b f hn hd hb yes-1
      ∙ ap (λ (q : ℤ). 13 + 8 * n + logged (nat_abs q)) quotients
      ∙ sym (steps_and_shifted_out n false rep' d' b' f' hn hd' hb' yes-2)

  -- their steps are equal exactly when their first tallies are
  pub unsigned_companion : ((divide n false rep d b f).steps ≡ (divide n false rep' d' b' f').steps) ↔ ((divide n false rep d b f).roads.shifted_out ≡ (divide n false rep' d' b' f').roads.shifted_out)
  unsigned_companion = (λ e. omega (arith, e, one_sum), λ e. omega (arith, e, one_sum))

  -- and always are with divisors of at most 2 ^ (n - 1)
  pub small_divisors_alike : b ≤ 2 ^ (n - 1) → b' ≤ 2 ^ (n - 1) → (divide n false rep d b f).steps ≡ (divide n false rep' d' b' f').steps
  small_divisors_alike h h' =
      let none = none_shifted_out n false rep d b f hn hd hb (omega (arith, top_twice n hn)) in
      let none' = none_shifted_out n false rep' d' b' f' hn hd' hb' (omega (arith, top_twice n hn)) in
      omega (arith, one_sum, none, none')
