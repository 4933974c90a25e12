-- A request line of 20 digits, the high digit first: op (2), mode (2), flags (4), X (8), Y (4). Assumes nothing.
use Rattle.std.specs.Prelude.{cond, ◌&&◌, List, Result, Ok, Err, ℕ, ◌+◌, ◌*◌, ◌/◌, ◌%◌, ltb, eqb, length, get_or}
use Rattle.text.specs.Digits.{digit_of}
use Rattle.text.specs.declared.fields.Fields.{Fields}
use Rattle.text.specs.declared.fields.Malformed.{Malformed}
use Rattle.text.specs.declared.fields.Malformed.TheVariants.{Length, Digit}

-- what is read of a line: its fields, or why it has none
abbrev pub Read : Type 0
Read = Result Fields Malformed

-- four digits; 65,536 where one of them is none
unfoldable pub four_of : ℕ → ℕ → ℕ → ℕ → ℕ
four_of a b c d = cond (ltb a 16 && ltb b 16 && ltb c 16 && ltb d 16) (a * 0x1000 + b * 0x100 + c * 0x10 + d) 0x1_0000

-- the four from a place on
unfoldable pub four_at : List ℕ → ℕ → ℕ
four_at line at = four_of (digit_of (get_or line at 0)) (digit_of (get_or line (at + 1) 0)) (digit_of (get_or line (at + 2) 0)) (digit_of (get_or line (at + 3) 0))

-- five fours, the first of them op and mode, the third and fourth X
unfoldable pub fields_of : ℕ → ℕ → ℕ → ℕ → ℕ → Read
fields_of head flags upper lower y =
    cond (ltb head 0x1_0000 && ltb flags 0x1_0000 && ltb upper 0x1_0000 && ltb lower 0x1_0000 && ltb y 0x1_0000)
    (Ok (record { op = head / 0x100; mode = head % 0x100; flags = flags; x = upper * 0x1_0000 + lower; y = y }))
    (Err Digit)

-- the 20 bytes from a place on
unfoldable pub fields_at : List ℕ → ℕ → Read
fields_at text from = fields_of (four_at text from) (four_at text (from + 4)) (four_at text (from + 8)) (four_at text (from + 12)) (four_at text (from + 16))

-- the length comes before the digits
unfoldable pub read_of : List ℕ → Read
read_of line = cond (eqb (length line) 20) (fields_at line 0) (Err Length)
