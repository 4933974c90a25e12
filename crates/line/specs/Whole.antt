-- A run over all of a text. Assumes nothing.
use Rattle.std.specs.Prelude.{Bool, List, [], ℕ, length}
use Rattle.line.specs.Run.{Done, run_of}

-- room for as many answers as there are bytes: a text has no more lines than that
abbrev pub whole : Bool → List ℕ → Done
whole atEnd text = run_of (length text) atEnd text []
