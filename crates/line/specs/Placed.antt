-- The answers of a text's lines, each at its own place. Assumes nothing.
use Rattle.std.specs.Prelude.{Bool, ℕ, ◌*◌, min, length, take, drop}
use mathlib.Core.List.{List, ◌++◌, flat_map}
use Rattle.text.specs.Lines.{lines_of, bytes_in}
use Rattle.line.specs.Run.{Done, done}

-- what a run leaves that answers a text's first m lines. Each has a line feed after it, or ends with the text
abbrev pub placed : (List ℕ → List ℕ) → ℕ → Bool → List ℕ → List ℕ → Done
placed answer m atEnd text out =
    let lines = take m (lines_of atEnd text) in
    done (flat_map answer lines ++ drop (m * 19) out) m (min (bytes_in lines) (length text))
