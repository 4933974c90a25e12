-- What the step log tells of a signed divide.
--
-- The steps of an accepted signed divide tell of the quotient's magnitude, and of the signs of dividend and divisor: nothing else. So
-- whoever reads the public log learns of the shelf's magnitude and the two signs, and of the keeper, the remainder, nothing beyond its sign.
--
-- Together with its companion (`Companion.antt`) that is what a published log can tell. Of a signed divide: the shelf's magnitude and the
-- signs. Of an unsigned one by a divisor of at most 2 ^ (n - 1): the quotient. Of an unsigned one by a larger divisor also, to whoever
-- knows the quotient, how many of its ones came by a bit shifted out, which depends on divisor and remainder; so it then can tell of more than
-- the shelf.
-- Assumes nothing.
use mathlib.Core.{Path.◌≡◌, Path.ap, Path.ap₂, Bool.Bool, Bool.true, Bool.cond, Logic.◌↔◌}
use Prim.Native.Nat.{ℕ, ◌+◌, ◌*◌, ◌^◌, ◌<◌}
use native.Mathlib.Omega.{arith}
use Rattle.numbers.specs.Numbers.{top_set}
use Rattle.flags.specs.declared.word.Flags.{Flags}
use Rattle.divide.specs.{Divide.accepts, Divide.pre_steps, Divide.divide, StepLog.shelf_magnitude, StepLog.logged}
use Rattle.divide.proofs.Logged.{steps-logged}

-- two accepted signed divides of one width, REP and flags either way on each, with dividends of equal sign and divisors of equal sign
module _ (n : ℕ) (hn : 0 < n) (d b d' b' : ℕ) (rep rep' : Bool) (f f' : Flags)
    (hd : d < 2 ^ (n + n)) (hb : b < 2 ^ n) (hd' : d' < 2 ^ (n + n)) (hb' : b' < 2 ^ n)
    (yes-1 : accepts n true d b ≡ true) (yes-2 : accepts n true d' b' ≡ true)
    (dividends : top_set (n + n) d ≡ top_set (n + n) d') (divisors : top_set n b ≡ top_set n b') where
  -- their steps are equal exactly when what is logged of their shelves is
  pub demand_3 : ((divide n true rep d b f).steps ≡ (divide n true rep' d' b' f').steps) ↔ (logged (shelf_magnitude n d b) ≡ logged (shelf_magnitude n d' b'))
  demand_3 = (λ e. omega (arith, e, one_side, other_side, same_signs), λ e. omega (arith, e, one_side, other_side, same_signs))
    where
      one_side : (divide n true rep d b f).steps ≡ 25 + pre_steps n d b + 8 * n + logged (shelf_magnitude n d b)
      one_side = steps-logged n d b rep f hn hd hb yes-1

      other_side : (divide n true rep' d' b' f').steps ≡ 25 + pre_steps n d' b' + 8 * n + logged (shelf_magnitude n d' b')
      other_side = steps-logged n d' b' rep' f' hn hd' hb' yes-2

      same_signs : pre_steps n d b ≡ pre_steps n d' b'
      same_signs = ap₂ (λ (s t : Bool). cond s 7 3 + cond t 5 6) dividends divisors

  -- what it was bought for: shelves of one magnitude and the same signs take the same steps, whoever the keepers are
  pub keepers_stay_hidden : shelf_magnitude n d b ≡ shelf_magnitude n d' b' → (divide n true rep d b f).steps ≡ (divide n true rep' d' b' f').steps
  keepers_stay_hidden e = demand_3.1 (ap logged e)
