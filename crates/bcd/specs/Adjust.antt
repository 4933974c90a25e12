-- What the decimal adjusts share. Assumes nothing.
use Rattle.std.specs.Prelude.{ℕ, ◌/◌, ◌%◌, Bool, ◌||◌, nat_lt}

-- the upper half of AX
abbrev pub ah_of : ℕ → ℕ
ah_of ax = ax / 256

-- the lower half
abbrev pub al_of : ℕ → ℕ
al_of ax = ax % 256

-- the low digit's test: it is above 9, or A is set
abbrev pub adjusts : ℕ → Bool → Bool
adjusts al a = nat_lt 9 (al % 16) || a
