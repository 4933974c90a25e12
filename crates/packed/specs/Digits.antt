-- Packed decimal digits: two a byte, the upper one in its upper half, and the lowest byte first. Assumes nothing.
use Rattle.std.specs.Prelude.{Bool, true, ◌&&◌, List, [], ◌∷◌, ℕ, zero, suc, ◌+◌, ◌*◌, ◌/◌, ◌%◌, leb}

-- neither half of the byte is over 9
abbrev pub is_packed : ℕ → Bool
is_packed b = leb (b / 16) 9 && leb (b % 16) 9

-- nor is any in these bytes
unfoldable pub all_packed : List ℕ → Bool
all_packed [] = true
all_packed (b ∷ bytes) = is_packed b && all_packed bytes

-- the two digits of a byte as a number
abbrev pub two_digits : ℕ → ℕ
two_digits b = b / 16 * 10 + b % 16

-- the byte that has the two digits of a number below 100
abbrev pub byte_of : ℕ → ℕ
byte_of k = k / 10 * 16 + k % 10

-- the decimal number that packed bytes stand for
unfoldable pub number_of : List ℕ → ℕ
number_of [] = 0
number_of (b ∷ bytes) = two_digits b + number_of bytes * 100

-- the packed bytes, so many, of a number: its last two digits, and then those of the rest
unfoldable pub bytes_of : ℕ → ℕ → List ℕ
bytes_of zero k = []
bytes_of (suc l) k = byte_of (k % 100) ∷ bytes_of l (k / 100)
