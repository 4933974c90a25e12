-- CORD's loop over the width n: what holds at its head, and what a turn makes of it. Assumes nothing.
use mathlib.Core.{Path.◌≡◌, Path.◌∙◌, Path.subst, Bool.Bool, Bool.not}
use Prim.Native.Nat.{ℕ, ◌+◌, ◌*◌, ◌%◌, ◌^◌, ◌≤◌, ◌<◌}
use native.Mathlib.{Nat.mod-eq_of_lt, Omega.arith}
use lib.{Arith.digits_div, Arith.digits_mod}
use Rattle.std.proofs.Common.{add-one}
use Rattle.numbers.specs.Numbers.{top_set}
use Rattle.cord.specs.{Round.Round, Round.cord_round, Cord.CordAnswer, Cord.accepted, Cord.both_roads, Cord.cord}
use Rattle.cord.proofs.CordLaws.{halved, Walked, begin, next, compared_lt, ready, cord-accepts}

-- so many rounds are made, of operands that passed the first compare
pub record Turning (n a b c : ℕ) (at : Round) (rounds : ℕ) : Type 0 where
  pub walked : Walked n b (a * 2 ^ n + c) rounds at
  pub within : at.compared < 2 ^ n
  pub passed : a < b
  pub divisor : b < 2 ^ n
  pub lower : c < 2 ^ n
  pub narrow : n ≤ 16

-- from one number that holds the dividend
pub starts : (n a b c : ℕ) → n ≤ 16 → a < b → b < 2 ^ n → c < 2 ^ n → Turning n a b c (halved n (a * 2 ^ n + c) (a * 2 ^ n + c) 0 0) 0
starts n a b c h16 ha hb hc =
    rw (digits_div a hc, digits_mod a hc)
    (record { walked = begin n b a c ha hc; within = omega arith; passed = ha; divisor = hb; lower = hc; narrow = h16 })

module _ {n a b c : ℕ} {at : Round} {rounds : ℕ} (t : Turning n a b c at rounds) where
  -- what a round asks for
  pub may_turn : (at.tmpa < b) × (at.shifted_out + at.no_borrow ≤ 16)
  may_turn =
      let r = ready n b (a * 2 ^ n + c) rounds at (omega (arith, t.passed)) t.walked in
      (r.0, omega (arith, r.1, t.walked.count, t.narrow))

  -- the halves and the last compare fit, and there are few ones
  pub few_at : (at.tmpa < 2 ^ n) × (at.compared < 2 ^ n) × (at.no_borrow ≤ 16)
  few_at = (omega (arith, may_turn, t.divisor), t.within, omega (arith, may_turn))

  pub turns : {r : Round} → r ≡ cord_round n b at → rounds < n → Turning n a b c r (rounds + 1)
  turns {r} e more =
      record {
        walked = rw add-one (next n b (a * 2 ^ n + c) rounds at r t.divisor (omega (arith, t.passed)) more t.walked e);
        within = compared_lt n b at e t.within;
        passed = t.passed;
        divisor = t.divisor;
        lower = t.lower;
        narrow = t.narrow;
      }

  -- after the last round its state, cut to the width, is the answer
  pub ends : (steps : ℕ) → rounds ≡ n → {quotient remainder compared all : ℕ} {carry : Bool} → quotient ≡ at.tmpc → remainder ≡ at.tmpa % 2 ^ n
      → compared ≡ at.compared % 2 ^ n → carry ≡ not (top_set n quotient) → all ≡ steps + 6 + 8 * n + at.no_borrow + 2 * (quotient % 2)
      → ◌≡◌ {A = CordAnswer}
      (record {
        outcome = accepted (record { quotient = quotient; remainder = remainder });
        carry = carry;
        compared = compared;
        roads = both_roads at.shifted_out at.no_borrow;
        steps = all;
      })
      (cord n b (a * 2 ^ n + c) steps)
  ends steps whole eq er em =
      cord-accepts n b a c steps t.passed t.lower at (subst (λ (k : ℕ). Walked n b (a * 2 ^ n + c) k at) whole t.walked)
      eq (er ∙ mod-eq_of_lt few_at.0) (em ∙ mod-eq_of_lt few_at.1)
