-- An answer line read back: the record that stands in it, what is refused, and the numbers of the refusals. Assumes nothing.
use Rattle.std.specs.Prelude.{Bool, not, cond, ◌&&◌, ◌||◌, List, Result, Ok, Err, ℕ, leb, eqb, length}
use Rattle.std.specs.Int.Bits.{bit_and}
use Rattle.numbers.specs.Numbers.{between}
use Rattle.text.specs.Plain.{all_digits, field_at}
use Rattle.answer.specs.declared.answer.Answer.{Answer}
use Rattle.readback.specs.declared.judge.Refusal.{Refusal}
use Rattle.readback.specs.declared.judge.Refusal.TheVariants.{Length, Digit, Status, Flags, NotZero}

-- what is read of a line: its record, or why it is refused
abbrev pub Read : Type 0
Read = Result Answer Refusal

-- status (2), flags (4), steps (4), R (4), S (4), the high digit first
abbrev pub record_in : List ℕ → Answer
record_in line =
    record { status = field_at 0 2 line; flags = field_at 2 4 line; steps = field_at 6 4 line; r = field_at 10 4 line; s = field_at 14 4 line }

-- 0 to 6, 8 or 9
abbrev pub is_status : ℕ → Bool
is_status k = leb k 6 || eqb k 8 || eqb k 9

-- 6, 8 or 9: a refused divide
abbrev pub refuses_divide : ℕ → Bool
refuses_divide k = eqb k 6 || eqb k 8 || eqb k 9

-- a flag outside 08D5
abbrev pub outside : ℕ → Bool
outside w = not (eqb (bit_and w 0x08D5) w)

-- R and S are 0
abbrev pub no_result : Answer → Bool
no_result a = eqb a.r 0 && eqb a.s 0

-- and so are flags and steps
abbrev pub all_zeros : Answer → Bool
all_zeros a = eqb a.flags 0 && eqb a.steps 0 && no_result a

-- a status of 1 to 5 with anything but zeros, or a refused divide with R or S not 0
abbrev pub not_zero : Answer → Bool
not_zero a = (between 1 5 a.status && not (all_zeros a)) || (refuses_divide a.status && not (no_result a))

-- of a record: the status, then the flags, then the zeros. Steps are not judged, but that they are 0 after 1 to 5
unfoldable pub judged : Answer → Read
judged a =
    cond (not (is_status a.status)) (Err Status) (cond (outside a.flags) (Err Flags) (cond (not_zero a) (Err NotZero) (Ok a)))

-- of a line, before these: its length, then its digits
unfoldable pub read_back : List ℕ → Read
read_back line = cond (not (eqb (length line) 18)) (Err Length) (cond (not (all_digits line)) (Err Digit) (judged (record_in line)))

-- the number of each
abbrev pub refusal_status : Refusal → ℕ
refusal_status Length = 30
refusal_status Digit = 31
refusal_status Status = 32
refusal_status Flags = 33
refusal_status NotZero = 34
