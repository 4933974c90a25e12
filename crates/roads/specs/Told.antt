-- The roads of a divide given as numbers: a status, and by which of two roads the ones of its quotient came. Assumes nothing.
use Rattle.std.specs.Prelude.{Bool, false, cond, List, [], ◌∷◌, ℕ, eqb, Result, Ok, Err}
use Rattle.numbers.specs.Numbers.{is_set}
use Rattle.flags.specs.Word.{flags_of}
use Rattle.cord.specs.Cord.{Roads, no_roads}
use Rattle.cord.specs.Views.{roads as tallies}
use Rattle.cord.specs.declared.Roads as Ones
use Rattle.divide.specs.Divide.{Divided, divide, accepts, refusal_of}
use Rattle.divide.specs.declared.div.Refusal as Div
use Rattle.answer.specs.Charted.{of_divided, refusal_status}
use Rattle.answer.specs.Asked.{status_of as asked_status}
use Rattle.answer.specs.Table.{width_by}
use Rattle.trap.specs.declared.Unasked.TheVariants.{WrongMode, TooLarge}
use Rattle.roads.specs.declared.Refusal.{Refusal}
use Rattle.roads.specs.declared.Refusal.TheVariants.{Unasked, Divide}

-- a status, and the two tallies
pub record Tallied : Type 0 where
  pub status : ℕ
  pub roads : List ℕ

-- the two together
abbrev pub tallied : ℕ → List ℕ → Tallied
tallied status ones = record { status = status; roads = ones }

-- ones by a bit shifted out, then ones by no borrow
abbrev pub listed : Roads → List ℕ
listed w = w.shifted_out ∷ w.no_borrow ∷ []

-- what a divide's answer tells
abbrev pub told_of : Divided → Tallied
told_of a = tallied (of_divided a).status (listed a.roads)

-- what is told of a divide that can be asked, at the width n. It has no REP and no flags, which change nothing
abbrev pub told_by : ℕ → Bool → ℕ → ℕ → Tallied
told_by n s dividend divisor = told_of (divide n s false dividend divisor (flags_of 0))

-- the divide that a mode names: bit 0 is its width, bit 1 its sign rule, bit 2 REP. No flag is set; the law `roads_alike` has it for all that may be set
abbrev pub divide_by : ℕ → ℕ → ℕ → Divided
divide_by mode dividend divisor = divide (width_by mode) (is_set 1 mode) (is_set 2 mode) dividend divisor (flags_of 0)

-- the roads where the status is 0, and else none
abbrev pub roads_by : ℕ → Roads → Tallied
roads_by status w = tallied status (listed (cond (eqb status 0) w no_roads))

-- by the status that the divide itself is given, op 11
unfoldable pub roads_told : ℕ → ℕ → ℕ → Tallied
roads_told mode dividend divisor = roads_by (asked_status 0x11 mode 0 dividend divisor) (divide_by mode dividend divisor).roads

-- the number of a refusal
abbrev pub status_of : Refusal → ℕ
status_of (Unasked WrongMode) = 4
status_of (Unasked TooLarge) = 5
status_of (Divide why) = refusal_status why

-- what an answer comes to: the roads, or the status of a refusal with none
abbrev pub told_as : Result Ones.Roads Refusal → Tallied
told_as (Ok ones) = tallied 0 (listed (tallies ones))
told_as (Err why) = tallied (status_of why) (0 ∷ 0 ∷ [])

-- whether the chip refuses, and why
abbrev pub judged_by : ℕ → Bool → ℕ → ℕ → Result Unit Div.Refusal
judged_by n s dividend divisor = cond (accepts n s dividend divisor) (Ok tt) (Err (refusal_of n s dividend divisor))
