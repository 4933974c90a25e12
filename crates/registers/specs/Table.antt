-- The table of statuses over the record, row by row in its order: 3, 4, 5, 10, 6, 8, 9. Assumes nothing.
use Rattle.std.specs.Prelude.{Bool, not, List, [], ◌∷◌, ℕ, ◌+◌, ltb}
use Rattle.divide.specs.declared.div.Refusal.TheVariants.{ZeroDivisor, TooWide, SignRange}
use Rattle.answer.specs.Asked.{Raw, asked}
use Rattle.answer.specs.Table.{wrong_mode, too_large, refused_for}
use Rattle.registers.specs.Over.{is_over}
use Rattle.registers.specs.declared.record.Registers.{Registers}

-- q is its request: the op does not work on the record; 4 and 5 as for any request; the total would pass 4,294,967,295; a divide is refused
abbrev pub over_rows : Registers → Raw → List (ℕ × Bool)
over_rows r q =
    (3, not (is_over q.op))
    ∷ (4, wrong_mode q.op q.mode)
    ∷ (5, too_large q)
    ∷ (10, ltb 4_294_967_295 (r.total + (asked q).steps))
    ∷ (6, refused_for ZeroDivisor q)
    ∷ (8, refused_for TooWide q)
    ∷ (9, refused_for SignRange q)
    ∷ []
