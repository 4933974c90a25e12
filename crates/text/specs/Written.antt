-- An answer line: status (2), flags (4), steps (4), R (4), S (4) in the letters that are given, and a line feed. Assumes nothing.
use Rattle.std.specs.Prelude.{List, [], ◌∷◌, ◌++◌, ℕ, ◌/◌, ◌%◌}

-- the high digit first; `letter` gives the byte that stands for a digit
abbrev pub two : (ℕ → ℕ) → ℕ → List ℕ
two letter k = letter (k / 16) ∷ letter (k % 16) ∷ []

-- four digits
abbrev pub four : (ℕ → ℕ) → ℕ → List ℕ
four letter k = letter (k / 0x1000) ∷ letter (k / 0x100 % 16) ∷ letter (k / 0x10 % 16) ∷ letter (k % 16) ∷ []

-- status, flags, steps, R, S and the line feed
unfoldable pub written : (ℕ → ℕ) → ℕ → ℕ → ℕ → ℕ → ℕ → List ℕ
written letter status flags steps r s =
    two letter status ++ (four letter flags ++ (four letter steps ++ (four letter r ++ (four letter s ++ (0x0A ∷ [])))))
