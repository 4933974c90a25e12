-- The lines of a text: a line ends before a line feed; a tail is a line too with the mark that the text is at its end. Assumes nothing.
use Rattle.std.specs.Prelude.{Bool, true, false, not, cond, ◌&&◌, List, [], ◌∷◌, Option, Some, None, ℕ, suc, ◌+◌, ltb, eqb, length, take, drop}
use Rattle.text.specs.Fields.{read_of}
use Rattle.text.specs.declared.found.Found.{Found}

-- how many bytes stand before the first line feed; all of them where there is none
abbrev pub line_length : List ℕ → ℕ
line_length [] = 0
line_length (b ∷ text) = cond (eqb b 0x0A) 0 (suc (line_length text))

-- the line that starts at a place, without its line feed
abbrev pub line_at : List ℕ → ℕ → List ℕ
line_at text from = take (line_length (drop from text)) (drop from text)

-- where that line ends
abbrev pub line_end : List ℕ → ℕ → ℕ
line_end text from = from + line_length (drop from text)

-- that line, read, and its end
abbrev pub found_of : List ℕ → ℕ → Found
found_of text from = record { read = read_of (line_at text from); end = line_end text from }

-- where the line after the next one starts, in a text of this size whose next line runs from `from` to `end`: past its line feed, or at the text's
-- end where the tail is a line too; `from` itself where no line is left
abbrev pub next_of : ℕ → ℕ → ℕ → Bool → ℕ
next_of from end size atEnd = cond (ltb end size) (suc end) (cond atEnd size from)

-- the same, where a line is left
abbrev pub next_line : ℕ → ℕ → ℕ → Bool → Option ℕ
next_line from end size atEnd = cond (ltb end size) (Some (suc end)) (cond (atEnd && not (eqb from size)) (Some size) None)

-- the bytes that a text's first line takes, its line feed with it; 0 where there is no line
abbrev pub takes : Bool → List ℕ → ℕ
takes atEnd text = next_of 0 (line_length text) (length text) atEnd

-- these lines with a byte before them that is no line feed: it begins the first. Where there is none it is a tail: a line with the mark, else none
abbrev pub with_byte : Bool → ℕ → List (List ℕ) → List (List ℕ)
with_byte atEnd b (line ∷ lines) = (b ∷ line) ∷ lines
with_byte true b [] = (b ∷ []) ∷ []
with_byte false b [] = []

-- the lines of a text, each without its line feed: a line feed ends one
abbrev pub lines_of : Bool → List ℕ → List (List ℕ)
lines_of atEnd [] = []
lines_of atEnd (b ∷ text) = cond (eqb b 0x0A) ([] ∷ lines_of atEnd text) (with_byte atEnd b (lines_of atEnd text))

-- how many bytes lines are, with a line feed after each
abbrev pub bytes_in : List (List ℕ) → ℕ
bytes_in [] = 0
bytes_in (line ∷ lines) = suc (length line) + bytes_in lines
