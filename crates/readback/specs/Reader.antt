-- A reader of many answer lines: what it hands out at a place of a text, and the place where it stands then. Assumes nothing.
use Rattle.std.specs.Prelude.{true, cond, List, Option, Some, None, Result, Ok, Err, ℕ, ◌+◌, ltb, length, drop}
use Rattle.text.specs.Lines.{line_at, takes}
use Rattle.readback.specs.Judge.{Read, read_back}
use Rattle.readback.specs.declared.reader.BadLine.{BadLine}
use Rattle.answer.specs.declared.answer.Answer.{Answer}
use Rattle.readback.specs.declared.reader.Stepped.{Stepped}

-- what is handed out: a record, a line that is refused, or the end
abbrev pub Handed : Type 0
Handed = Option (Result Answer BadLine)

-- the record of a line; or the refusal, with the byte where that line starts
abbrev pub hand_out : Read → ℕ → Handed
hand_out (Ok a) start = Some (Ok a)
hand_out (Err why) start = Some (Err (record { why = why; start = start }))

-- that, and the place where the next line starts
abbrev pub stepped : Read → ℕ → ℕ → Stepped
stepped read start place = record { handed = hand_out read start; place = place }

-- the next line from a place on, and the place past it, its line feed included: lines end as in a run with the mark. Where no byte is left it is the
-- end, and the place stays
unfoldable pub next_at : List ℕ → ℕ → Stepped
next_at text at =
    cond (ltb at (length text))
    (record { handed = hand_out (read_back (line_at text at)) at; place = at + takes true (drop at text) })
    (record { handed = None; place = at })
