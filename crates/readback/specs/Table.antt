-- The refusals of a line as rows, in their order: a number and whether it applies. Assumes nothing.
use Rattle.std.specs.Prelude.{Bool, not, List, [], ◌∷◌, ℕ, eqb, length}
use Rattle.text.specs.Plain.{all_digits}
use Rattle.readback.specs.Judge.{record_in, is_status, outside, not_zero}

-- not 18 bytes; a byte is no digit; the status is not 0 to 6, 8 or 9; flags outside 08D5; not zero where it has to be
abbrev pub rows : List ℕ → List (ℕ × Bool)
rows line =
    (30, not (eqb (length line) 18))
    ∷ (31, not (all_digits line))
    ∷ (32, not (is_status (record_in line).status))
    ∷ (33, outside (record_in line).flags)
    ∷ (34, not_zero (record_in line))
    ∷ []
