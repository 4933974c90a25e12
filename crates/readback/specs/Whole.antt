-- A whole text read, turn by turn. Assumes nothing.
use Rattle.std.specs.Prelude.{List, ℕ, zero, suc}
use Rattle.readback.specs.Reader.{next_at}

-- where a reader stands after so many turns
abbrev pub place_after : List ℕ → ℕ → ℕ
place_after text zero = 0
place_after text (suc k) = (next_at text (place_after text k)).place
