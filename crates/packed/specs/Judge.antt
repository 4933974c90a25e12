-- What is refused, and the numbers of the refusals. Assumes nothing.
use Rattle.std.specs.Prelude.{cond, not, ◌&&◌, Result, Ok, Err, List, ℕ, ltb, eqb, length}
use Rattle.numbers.specs.Numbers.{between}
use Rattle.packed.specs.Digits.{all_packed}
use Rattle.packed.specs.declared.judge.Refusal.{Refusal}
use Rattle.packed.specs.declared.judge.Refusal.TheVariants.{LengthsDiffer, Length, Digit, Room}

-- admitted, or why not
abbrev pub Judged : Type 0
Judged = Result (Unit {0}) Refusal

-- two operands, and how many bytes there is room for: lengths differ; length 0 or over 32; a digit over 9 in either operand; less room than they
-- are long
unfoldable pub judged : List ℕ → List ℕ → ℕ → Judged
judged x y room =
    cond (not (eqb (length x) (length y)))
    (Err LengthsDiffer)
    (cond (not (between 1 32 (length x)))
    (Err Length)
    (cond (not (all_packed x && all_packed y)) (Err Digit) (cond (ltb room (length x)) (Err Room) (Ok tt))))

-- the number of each
abbrev pub refusal_status : Refusal → ℕ
refusal_status LengthsDiffer = 20
refusal_status Length = 21
refusal_status Digit = 22
refusal_status Room = 23
