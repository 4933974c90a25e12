-- `divide::div::signed_div` meets its contract, by what PREIDIV, CORD and POSTIDIV tell. Assumes nothing.
use mathlib.Core.{Path.ap}
use Prim.Native.Nat.{◌≤◌}
use native.Mathlib.Omega.{arith}
use Rattle.negate.specs.Views.{negate_of}
use Rattle.cord.specs.Views.{cord_outcome}
use Rattle.numbers.proofs.Widths.{some_bits, most_bits}
use Rattle.idiv.specs.Views.{post_answer}
use Rattle.divide.proofs.AfterPre.{AfterPre, few_before, goes_on, refuses, few_after, finishes}
use Rattle.divide.proofs.div.signed_div.Given.{Over}
use Rattle.divide.proofs.div.signed_div.Goals as goal
use Rattle.divide.proofs.div.signed_div.Goals.{After-pre_idiv-tmpa, In-Some}

-- what PREIDIV hands on
abbrev handed : (g : Over) → After-pre_idiv-tmpa g → AfterPre g.N.Number.BITS
handed g c =
    record {
      upper = g.N.Number.value c.args.upper;
      lower = g.N.Number.value c.args.lower;
      divisor = g.N.Number.value c.args.divisor;
      rep = c.args.negate;
      pre = negate_of g.N.Number.value c.pre_idiv-tmpa.result;
      some = some_bits _ g.met.N.Number.is_8_or_16;
      upper_fits = omega arith;
      lower_fits = omega arith;
      fits = omega arith;
      given = c.pre_idiv-tmpa.ensures;
    }

-- CORD took few steps
few : (g : Over) (c : In-Some g) → c.cord-outcome.result.steps ≤ 175
few g c =
    let n = g.N.Number in
    let s = handed g (goal.at.overflow_add-steps-in-Some g c).After-pre_idiv-tmpa in
    few_after n.BITS s (goes_on n.BITS s c.cord-outcome.ensures) (most_bits _ g.met.N.Number.is_8_or_16) (ap (cord_outcome n.value) c.in-Some.is)

pub overflow_add-steps : goal.overflow_add-steps
overflow_add-steps g c = omega (arith, few_before g.N.Number.BITS (handed g c))

pub cord-outcome-requires : goal.cord-outcome-requires
cord-outcome-requires g c = omega (arith, few_before g.N.Number.BITS (handed g c))

pub overflow_add-steps-in-Some : goal.overflow_add-steps-in-Some
overflow_add-steps-in-Some g c = omega (arith, few g c)

pub post_idiv-post-requires : goal.post_idiv-post-requires
post_idiv-post-requires g c = omega (arith, few g c)

pub returns-in-Some : goal.returns-in-Some
returns-in-Some g c =
    let n = g.N.Number in
    let s = handed g (goal.at.returns-in-Some g c).After-pre_idiv-tmpa in
    finishes n.BITS s (goes_on n.BITS s c.cord-outcome.ensures) _ (ap (cord_outcome n.value) c.in-Some.is) (post_answer n.value c.post_idiv-post.result)
    c.post_idiv-post.ensures c.compare_flags-compare.ensures c.finish.ensures

pub returns-in-None : goal.returns-in-None
returns-in-None g c =
    let n = g.N.Number in
    let s = handed g (goal.at.returns-in-None g c).After-pre_idiv-tmpa in
    refuses n.BITS s (goes_on n.BITS s c.cord-outcome.ensures) _ (ap (cord_outcome n.value) c.in-None.is) c.first_refusal.ensures c.compare_flags-compare.ensures
