-- A table of statuses, row by row in its order: which status it gives. Assumes nothing.
use Rattle.std.specs.Prelude.{◌≡◌, Bool, true, false, cond, List, [], ◌∷◌, ◌⊎◌, ℕ, eqb}

-- a row is a status and whether it applies. Status k is given: k's row applies and none before it does; 0 where none applies
abbrev pub Given : ℕ → List (ℕ × Bool) → Type 0
Given k [] = k ≡ 0
Given k (row ∷ rows) = cond (eqb k row.0) (row.1 ≡ true) ((row.1 ≡ false) × Given k rows)

-- one of the numbers listed
abbrev pub OneOf : ℕ → List ℕ → Type 0
OneOf k [] = ⊥
OneOf k (j ∷ js) = (k ≡ j) ⊎ OneOf k js
