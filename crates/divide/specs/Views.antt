-- The code's values, read as those of the definitions over n; value is what a number of the code stands for.
-- Assumes nothing.
use Rattle.std.specs.Prelude.{ℕ, Result, Ok, Err}
use Rattle.cord.specs.Views.{results, roads}
use Rattle.cord.specs.declared.Results
use Rattle.divide.specs.Divide as Divide
use Rattle.divide.specs.declared.div.Divided
use Rattle.divide.specs.declared.div.Refusal.{Refusal}

abbrev pub outcome : {N : Type 0} → (N → ℕ) → Result (Results.Results N) Refusal → Divide.DivideOutcome
outcome value (Ok r) = Divide.accepted (results value r)
outcome value (Err why) = Divide.refused why

abbrev pub divided : {N : Type 0} → (N → ℕ) → Divided.Divided N → Divide.Divided
divided value d = record { outcome = outcome value d.outcome; flags = d.flags; roads = roads d.roads; steps = d.steps }
