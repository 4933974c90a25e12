-- The code's values, read as those of the definitions over n; value is what a number of the code stands for.
-- Assumes nothing.
use Rattle.std.specs.Prelude.{ℕ, Option, Some, None}
use Rattle.cord.specs.declared.Results
use Rattle.idiv.specs.Idiv as Idiv
use Rattle.idiv.specs.declared.PostIdiv

abbrev pub post_outcome : {N : Type 0} → (N → ℕ) → Option (Results.Results N) → ℕ → Idiv.PostAnswer
post_outcome value (Some r) t = Idiv.accepted (value r.quotient) (value r.remainder) t
post_outcome value None t = Idiv.refused t

abbrev pub post_answer : {N : Type 0} → (N → ℕ) → PostIdiv.PostIdiv N → Idiv.PostAnswer
post_answer value p = post_outcome value p.outcome p.steps
