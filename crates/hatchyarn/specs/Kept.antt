-- What may be kept of a text that was answered, to read on behind it. Assumes nothing.
use Rattle.std.specs.Prelude.{◌≡◌, Bool, true, false, List, [], ◌++◌, ℕ}
use Rattle.line.specs.Whole.{whole}

-- at the end of the input nothing. Before it, bytes that stand for what the text leaves unanswered: whatever more is read, up to the end or not, the
-- text with it gets the answers of the text alone, and then those of the kept bytes with it
abbrev pub Keeps : Bool → List ℕ → List ℕ → Type 0
Keeps true text kept = kept ≡ []
Keeps false text kept = (atEnd : Bool) (more : List ℕ) → (whole atEnd (text ++ more)).bytes ≡ (whole false text).bytes ++ (whole atEnd (kept ++ more)).bytes

-- what is kept, the input that is still to be read, and what is written for it: turn by turn a block is read behind the kept bytes and answered
-- without the mark; where nothing is left to read, what is kept is answered with it
pub data Turns : List ℕ → List ℕ → List ℕ → Type 0 where
  last : (kept : List ℕ) → Turns kept [] (whole true kept).bytes
  turn : (kept block next rest written : List ℕ) → Keeps false (kept ++ block) next → Turns next rest written
      → Turns kept (block ++ rest) ((whole false (kept ++ block)).bytes ++ written)
