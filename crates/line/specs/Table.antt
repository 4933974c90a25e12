-- The whole table of statuses, of a line and the room for its answer: its rows in their order 7, 1, 2, 3, 4, 5, 6, 8, 9. Assumes nothing.
use Rattle.std.specs.Prelude.{Bool, not, List, ◌∷◌, ℕ, ltb, eqb, length}
use Rattle.text.specs.Plain.{all_digits, fields_in}
use Rattle.answer.specs.Asked.{Raw}
use Rattle.answer.specs.Table.{rows}
use Rattle.line.specs.One.{raw_of}

-- the raw request that stands in a line
abbrev pub raw_in : List ℕ → Raw
raw_in line = raw_of (fields_in line)

-- line is not 20 bytes; a byte is no hexadecimal digit; then the rows of the raw request
abbrev pub line_rows : List ℕ → List (ℕ × Bool)
line_rows line = (1, not (eqb (length line) 20)) ∷ (2, not (all_digits line)) ∷ rows (raw_in line)

-- answer room under 19 bytes, before them
abbrev pub table : ℕ → List ℕ → List (ℕ × Bool)
table room line = (7, ltb room 19) ∷ line_rows line
