-- The code's values, read as those of the definitions over n; value is what a number of the code stands for.
-- Assumes nothing.
use Rattle.std.specs.Prelude.{ℕ, ◌/◌, ◌%◌, ◌^◌, Option, Some, None}
use Rattle.cord.specs.Round.{Round}
use Rattle.cord.specs.Cord as Cord
use Rattle.cord.specs.declared.CordRound.{CordRound}
use Rattle.cord.specs.declared.Roads as Declared
use Rattle.cord.specs.declared.Results as Results
use Rattle.cord.specs.declared.CordAnswer as CordAnswer

abbrev pub round : ℕ → CordRound → Round
round n s =
    record {
      tmpa = s.both / 2 ^ n;
      tmpc = s.both % 2 ^ n;
      compared = s.compared / 2 ^ n;
      shifted_out = s.shifted_out;
      no_borrow = s.no_borrow;
    }

abbrev pub roads : Declared.Roads → Cord.Roads
roads r = Cord.both_roads r.shifted_out r.no_borrow

abbrev pub results : {N : Type 0} → (N → ℕ) → Results.Results N → Cord.Results
results value r = record { quotient = value r.quotient; remainder = value r.remainder }

abbrev pub cord_outcome : {N : Type 0} → (N → ℕ) → Option (Results.Results N) → Cord.CordOutcome
cord_outcome value (Some r) = Cord.accepted (results value r)
cord_outcome value None = Cord.refused

abbrev pub cord_answer : {N : Type 0} → (N → ℕ) → CordAnswer.CordAnswer N → Cord.CordAnswer
cord_answer value a =
    record {
      outcome = cord_outcome value a.outcome;
      carry = a.carry;
      compared = value a.compared;
      roads = roads a.roads;
      steps = a.steps;
    }
