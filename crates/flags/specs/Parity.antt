-- P, the parity flag, looks at a result's low byte alone.
-- Assumes nothing.
use Rattle.std.specs.Prelude.{Bool, List, ℕ, ◌%◌, eqb}
use Rattle.std.specs.Int.Count.{ones}
use Rattle.numbers.specs.Numbers.{bit}
use Rattle.numbers.specs.Table.{Holds}

-- the ones in that byte are even in number
unfoldable pub even_ones : ℕ → Bool
even_ones x = eqb (ones (x % 256) % 2) 0

-- the rule at every byte, 1 for even and 0 for odd
abbrev pub ParityTable : List ℕ → Type 0
ParityTable = Holds (λ x. bit (even_ones x)) 256
