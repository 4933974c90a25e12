-- What a line is answered, and the bytes that say it. Assumes nothing.
use Rattle.std.specs.Prelude.{cond, List, Ok, Err, ◌++◌, ℕ, ltb, length, drop}
use Rattle.text.specs.Digits.{capital_of}
use Rattle.text.specs.Fields.{Read, read_of}
use Rattle.text.specs.Written.{written}
use Rattle.text.specs.declared.fields.Fields.{Fields}
use Rattle.text.specs.declared.fields.Malformed.TheVariants.{Length, Digit}
use Rattle.answer.specs.Asked.{Raw, raw, zeros, asked}
use Rattle.answer.specs.declared.answer.Answer.{Answer}

-- the fields of a line as a raw request
abbrev pub raw_of : Fields → Raw
raw_of f = raw f.op f.mode f.flags f.x f.y

-- what a line that was read is answered: status 1, status 2, or by the rest of the table
abbrev pub answer_by : Read → Answer
answer_by (Ok f) = asked (raw_of f)
answer_by (Err Length) = zeros 1
answer_by (Err Digit) = zeros 2

-- what a line is answered
unfoldable pub answer_of : List ℕ → Answer
answer_of line = answer_by (read_of line)

-- the 19 bytes of an answer, in capitals
abbrev pub text_by : Answer → List ℕ
text_by a = written capital_of a.status a.flags a.steps a.r a.s

-- the 19 bytes of what a line is answered
unfoldable pub text_of : List ℕ → List ℕ
text_of line = text_by (answer_of line)

-- the status that is returned: 7 where the room is under 19 bytes
abbrev pub status_in : ℕ → List ℕ → ℕ
status_in room line = cond (ltb room 19) 7 (answer_of line).status

-- the room afterwards: the answer, and what stood after its 19 bytes; as it was where it is too small
abbrev pub answered : List ℕ → List ℕ → List ℕ
answered line out = cond (ltb (length out) 19) out (text_of line ++ drop 19 out)
