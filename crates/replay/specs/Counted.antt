-- The records of a text, and what is counted of them. Assumes nothing.
use Rattle.std.specs.Prelude.{ℕ, ◌+◌, ◌%◌, ◌^◌, false, cond, List, [], ◌∷◌, length}
use Rattle.text.specs.Lines.{lines_of, bytes_in}
use Rattle.replay.specs.Record.{right}
use Rattle.replay.specs.declared.Replayed.{Replayed}

-- a record is a line; what stands behind the last line feed is none
abbrev pub records_in : List ℕ → List (List ℕ)
records_in text = lines_of false text

-- how many of them are wrong
abbrev pub wrong : List (List ℕ) → ℕ
wrong [] = 0
wrong (r ∷ rs) = cond (right r) 0 1 + wrong rs

-- what was counted before, and then a text: the two counts go up by its records and by those that are wrong, as numbers of 64 bits
abbrev pub count_on : Replayed → List ℕ → Replayed
count_on before text =
    record {
      used = bytes_in (records_in text);
      records = (before.records + length (records_in text)) % 2 ^ 64;
      differ = (before.differ + wrong (records_in text)) % 2 ^ 64;
    }
