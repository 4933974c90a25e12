-- What a program in another language is told: a number for what was read, and the record as five numbers. Assumes nothing.
use Rattle.std.specs.Prelude.{List, ◌∷◌, Some, None, Ok, Err, ℕ}
use Rattle.answer.specs.Asked.{parts}
use Rattle.answer.specs.declared.answer.Answer.{Answer}
use Rattle.readback.specs.Judge.{Read, refusal_status}
use Rattle.readback.specs.Reader.{Handed, next_at}

-- status, flags, steps, R, S
abbrev pub five_of : Answer → List ℕ
five_of a = a.status ∷ parts a

-- 0, or the number of the refusal
abbrev pub status_of : Read → ℕ
status_of (Ok a) = 0
status_of (Err why) = refusal_status why

-- the five numbers; a refusal leaves them as they were
abbrev pub record_left : Read → List ℕ → List ℕ
record_left (Ok a) was = five_of a
record_left (Err why) was = was

-- what is left of a reader's turn: the status, its place, the five numbers and where the line starts
pub record Turn : Type 0 where
  pub status : ℕ
  pub place : ℕ
  pub numbers : List ℕ
  pub start : ℕ

-- the four together
abbrev pub turn : ℕ → ℕ → List ℕ → ℕ → Turn
turn status place numbers start = record { status = status; place = place; numbers = numbers; start = start }

-- of what is handed out, the place past the line, the place before it, and the record and the start as they were: 0 with the record, or the number
-- of the refusal with the record as it was; the place past the line, and where the line starts. 255 at the end, with everything as it was
abbrev pub turn_by : Handed → ℕ → ℕ → List ℕ → ℕ → Turn
turn_by (Some (Ok a)) past at was start = turn 0 past (five_of a) at
turn_by (Some (Err line)) past at was start = turn (refusal_status line.why) past was line.start
turn_by None past at was start = turn 255 at was start

-- of the next line of a text
abbrev pub turn_at : List ℕ → ℕ → List ℕ → ℕ → Turn
turn_at text at was start = let o = next_at text at in turn_by o.handed o.place at was start
