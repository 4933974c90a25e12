-- A record: an answer's 18 digits, a space, and the request as it was sent. Assumes nothing.
use Rattle.std.specs.Prelude.{ℕ, Bool, true, false, cond, List, [], ◌∷◌, length, take, drop, ◌==◌, nat_lt}
use Rattle.line.specs.One.{text_of}

-- whether two texts are the same, byte by byte
abbrev pub same_text : List ℕ → List ℕ → Bool
same_text [] [] = true
same_text [] (b ∷ t) = false
same_text (a ∷ s) [] = false
same_text (a ∷ s) (b ∷ t) = cond (a == b) (same_text s t) false

-- whether the digits are those of the answer that the request gets; a record that ends before its request is wrong
unfoldable pub right : List ℕ → Bool
right line = cond (nat_lt (length line) 19) false (same_text (take 18 line) (take 18 (text_of (drop 19 line))))
