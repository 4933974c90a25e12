-- `text::fields::four_at` meets its contract: four digits, and their number, or the first that is none. Assumes nothing.
use mathlib.Core.Path.{◌∙◌}
use Rattle.text.specs.Fields.{four_at}
use Rattle.text.proofs.Below.{four_are, first_none, second_none, third_none, fourth_none}
use Rattle.text.proofs.fields.four_at.Goals as goal

pub returns-in_err-a : goal.returns-in_err-a
unfolding four_at
returns-in_err-a c = c.from_residual.ensures ∙ first_none _ _ _ _ (c.in_err-a.ensures)

pub returns-in_err-b : goal.returns-in_err-b
unfolding four_at
returns-in_err-b c = c.from_residual-in_err-b.ensures ∙ second_none _ _ _ _ (c.in_err-b.ensures)

pub returns-in_err-c : goal.returns-in_err-c
unfolding four_at
returns-in_err-c c = c.from_residual-in_err-c.ensures ∙ third_none _ _ _ _ (c.in_err-c.ensures)

pub returns-in_err-d : goal.returns-in_err-d
unfolding four_at
returns-in_err-d c = c.from_residual-in_err-d.ensures ∙ fourth_none _ _ _ _ (c.in_err-d.ensures)

pub returns : goal.returns
unfolding four_at
returns c = four_are _ _ _ _ (c.in_ok-a.ensures) (c.in_ok-b.ensures) (c.in_ok-c.ensures) (c.in_ok-d.ensures)
