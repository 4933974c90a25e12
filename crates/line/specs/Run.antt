-- A run over many lines, by recursion on how many answers there is room for. Assumes nothing.
use Rattle.std.specs.Prelude.{Bool, cond, List, ◌++◌, ℕ, zero, suc, ◌+◌, eqb, drop}
use Rattle.text.specs.Lines.{line_at, takes}
use Rattle.line.specs.One.{text_of}

-- what a run leaves: the answer bytes, the lines answered and the bytes used
pub record Done : Type 0 where
  pub bytes : List ℕ
  pub lines : ℕ
  pub used : ℕ

-- the three together
abbrev pub done : List ℕ → ℕ → ℕ → Done
done bytes lines used = record { bytes = bytes; lines = lines; used = used }

-- first these bytes, so many lines and so many used; then the rest
abbrev pub after : List ℕ → ℕ → ℕ → Done → Done
after bytes lines used rest = done (bytes ++ rest.bytes) (lines + rest.lines) (used + rest.used)

-- how a line is answered, in 19 bytes; room for so many answers; the mark that the text is at its end; the text; the answer bytes. The next line's
-- answer goes in first; the rest is a run over what follows that line. Bytes after the last answer are unchanged
unfoldable pub run_by : (List ℕ → List ℕ) → ℕ → Bool → List ℕ → List ℕ → Done
run_by answer zero atEnd text out = done out 0 0
run_by answer (suc room) atEnd text out =
    cond (eqb (takes atEnd text) 0)
    (done out 0 0)
    (after (answer (line_at text 0)) 1 (takes atEnd text) (run_by answer room atEnd (drop (takes atEnd text) text) (drop 19 out)))

-- the run that answers each line by the table of statuses
abbrev pub run_of : ℕ → Bool → List ℕ → List ℕ → Done
run_of = run_by text_of
