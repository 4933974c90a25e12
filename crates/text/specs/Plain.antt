-- A request line in plain words: which bytes are digits, and the number that each field stands for. Assumes nothing.
use Rattle.std.specs.Prelude.{Bool, true, ◌&&◌, ◌||◌, List, [], ◌∷◌, ℕ, ◌+◌, ◌*◌, ◌^◌, length, take, drop}
use Rattle.numbers.specs.Numbers.{between}
use Rattle.text.specs.Digits.{digit_of}
use Rattle.text.specs.declared.fields.Fields.{Fields}

-- 0 to 9, A to F, a to f
abbrev pub is_digit : ℕ → Bool
is_digit b = between 0x30 0x39 b || between 0x41 0x46 b || between 0x61 0x66 b

-- no byte is anything else
abbrev pub all_digits : List ℕ → Bool
all_digits [] = true
all_digits (b ∷ bytes) = is_digit b && all_digits bytes

-- the number that digits stand for, the high digit first
abbrev pub number_of : List ℕ → ℕ
number_of [] = 0
number_of (b ∷ bytes) = digit_of b * 16 ^ length bytes + number_of bytes

-- that of so many digits from a place on
abbrev pub field_at : ℕ → ℕ → List ℕ → ℕ
field_at from digits line = number_of (take digits (drop from line))

-- op (2), mode (2), flags (4), X (8), Y (4)
abbrev pub fields_in : List ℕ → Fields
fields_in line =
    record { op = field_at 0 2 line; mode = field_at 2 2 line; flags = field_at 4 4 line; x = field_at 8 8 line; y = field_at 16 4 line }
