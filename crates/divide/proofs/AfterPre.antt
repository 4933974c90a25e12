-- A signed divide over the width n once PREIDIV has answered: what CORD has to answer then, and what the rest makes of it. Assumes nothing.
use mathlib.Core.{Path.◌≡◌, Path.◌∙◌, Bool.Bool, Bool.true}
use Prim.Native.Nat.{ℕ, ◌+◌, ◌*◌, ◌/◌, ◌^◌, ◌≤◌, ◌<◌}
use native.Mathlib.Omega.{arith}
use lib.{Arith.digits_lt, Arith.digits_div, Arith.digits_mod, Pow.pow-add}
use Rattle.flags.specs.declared.word.Flags.{Flags}
use Rattle.negate.specs.Negate.{Negate}
use Rattle.cord.specs.Cord as Cord
use Rattle.cord.specs.Cord.{Results, CordAnswer, no_roads, cord}
use Rattle.idiv.specs.Idiv.{PostAnswer, pre_idiv, post_idiv}
use Rattle.divide.specs.{Flags.compare_flags, Divide.refused, Divide.dividend_of, Divide.divisor_of, Divide.pre_steps, Divide.Divided, Divide.divide, Finish.first_refusal, Finish.finished}
use Rattle.divide.specs.declared.div.Refusal.{Refusal}
use Rattle.divide.proofs.DivLaws.{few_steps, halves, pre_divisor, pre_flag, pre_few, pre_most, cord_of_pre, signed-refused, signed-finished}

-- the operands, the dividend by its halves, and what PREIDIV hands on
pub record AfterPre (n : ℕ) : Type 0 where
  pub upper : ℕ
  pub lower : ℕ
  pub divisor : ℕ
  pub rep : Bool
  pub pre : Negate
  pub some : 0 < n
  pub upper_fits : upper < 2 ^ n
  pub lower_fits : lower < 2 ^ n
  pub fits : divisor < 2 ^ n
  pub given : pre ≡ pre_idiv n (record { tmpa = upper; tmpc = lower; neg_flag = rep; steps = 4 }) divisor

module _ (n : ℕ) (s : AfterPre n) where
  abbrev pub dividend : ℕ
  dividend = s.upper * 2 ^ n + s.lower

  wide : dividend < 2 ^ (n + n)
  wide = rw pow-add (digits_lt s.upper_fits s.lower_fits)

  upper_is : dividend / 2 ^ n ≡ s.upper
  upper_is = digits_div s.upper s.lower_fits

  handed : s.pre ≡ pre_idiv n (halves n dividend s.divisor s.rep s.some wide s.fits) s.divisor
  handed = rw (upper_is, digits_mod s.upper s.lower_fits) s.given

  -- what CORD has to answer
  abbrev pub onward : CordAnswer
  onward = cord n (divisor_of n true s.divisor) (dividend_of n true dividend) (6 + pre_steps n dividend s.divisor)

  pub few_before : s.pre.steps ≤ 17
  few_before = pre_few n dividend s.divisor s.rep s.some wide s.fits handed

  pub goes_on : {a : CordAnswer} → a ≡ cord n s.pre.tmpb (s.pre.tmpa * 2 ^ n + s.pre.tmpc) (s.pre.steps + 2) → a ≡ onward
  goes_on = cord_of_pre n dividend s.divisor s.rep s.some wide s.fits handed

  -- the right side of every compare
  right : s.pre.tmpb ≡ divisor_of n true s.divisor
  right = pre_divisor n dividend s.divisor s.rep s.some wide s.fits handed

  module _ {a : CordAnswer} (e : a ≡ onward) where
    pub refuses : (f : Flags) → a.outcome ≡ Cord.refused → {why : Refusal} → why ≡ first_refusal s.divisor
        → {g : Flags} → g ≡ compare_flags n a.compared s.pre.tmpb a.carry f
        → record { outcome = refused why; flags = g; roads = no_roads; steps = a.steps } ≡ divide n true s.rep dividend s.divisor f
    refuses f h ew = signed-refused n dividend s.divisor s.rep s.some wide s.fits f e h ew right

    pub few_after : n ≤ 16 → {r : Results} → a.outcome ≡ Cord.accepted r → a.steps ≤ 175
    few_after hn h = omega (arith, few_steps n _ _ (6 + pre_steps n dividend s.divisor) hn e h, pre_most n dividend s.divisor)

    pub finishes : (f : Flags) {r : Results} → a.outcome ≡ Cord.accepted r
        → (p : PostAnswer) → p ≡ post_idiv n r s.upper a.carry s.pre.neg_flag (a.steps + 3)
        → {g : Flags} → g ≡ compare_flags n a.compared s.pre.tmpb a.carry f
        → {out : Divided} → out ≡ finished p g a.roads → out ≡ divide n true s.rep dividend s.divisor f
    finishes f h p ep eg eo =
        eo ∙ signed-finished n dividend s.divisor s.rep s.some wide s.fits f e h
        (pre_flag n dividend s.divisor s.rep s.some wide s.fits handed) p (rw upper_is ep) right eg
