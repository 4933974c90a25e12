-- How a line is found and a record judged, for functions inside the crate: by 18 digits and what stands behind them, and by all tests at once.
-- Assumes nothing.
use Rattle.std.specs.Prelude.{Bool, not, cond, ◌&&◌, ◌||◌, List, ℕ, eqb, length, get_or}
use Rattle.text.specs.Plain.{all_digits}
use Rattle.answer.specs.declared.answer.Answer.{Answer}
use Rattle.readback.specs.Judge.{is_status, outside}
use Rattle.readback.specs.declared.judge.Refusal.{Refusal}
use Rattle.readback.specs.declared.judge.Refusal.TheVariants.{Status, Flags, NotZero}

-- a line is 18 digits
abbrev pub is_digits : List ℕ → Bool
is_digits line = eqb (length line) 18 && all_digits line

-- a line that reaches so far ends there: the text does, or a line feed stands there
abbrev pub ends_at : List ℕ → ℕ → Bool
ends_at text at = eqb at (length text) || eqb (get_or text at 0) 0x0A

-- of a record that is refused, why
abbrev pub reason_of : Answer → Refusal
reason_of a = cond (not (is_status a.status)) Status (cond (outside a.flags) Flags NotZero)
