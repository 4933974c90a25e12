-- The answer to a raw request: the table of statuses from 3 on. Assumes nothing.
use Rattle.std.specs.Prelude.{List, [], ◌∷◌, ℕ}
pub use Rattle.request.specs.Judge.{raw}
pub use Rattle.request.specs.declared.raw.Raw.{Raw}
use Rattle.request.specs.Judge.{judged, Judged, Admitted, Unlisted, WrongMode, TooLarge}
pub use Rattle.answer.specs.Charted.{zeros}
use Rattle.answer.specs.Charted.{charted}
use Rattle.answer.specs.declared.answer.Answer.{Answer}

-- an admitted request by the charts, else the status of its refusal
abbrev pub of_judged : Judged → Answer
of_judged (Admitted request) = charted request
of_judged Unlisted = zeros 3
of_judged WrongMode = zeros 4
of_judged TooLarge = zeros 5

-- judged, then answered
unfoldable pub asked : Raw → Answer
asked r = of_judged (judged r)

-- in parts: the status
abbrev pub status_of : ℕ → ℕ → ℕ → ℕ → ℕ → ℕ
status_of op mode flags x y = (asked (raw op mode flags x y)).status

-- flags, steps, R and S, in the order of an answer line
abbrev pub parts : Answer → List ℕ
parts a = a.flags ∷ a.steps ∷ a.r ∷ a.s ∷ []

-- those of the answer to a raw request
abbrev pub parts_of : ℕ → ℕ → ℕ → ℕ → ℕ → List ℕ
parts_of op mode flags x y = parts (asked (raw op mode flags x y))
