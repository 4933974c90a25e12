-- What the public step log may tell of a divide. Assumes nothing.
use Rattle.std.specs.Prelude.{ℕ, ◌+◌, ◌*◌, ◌%◌, Bool, true, false, nat_abs}
use Rattle.std.specs.Int.Count.{ones}
use Rattle.divide.specs.Divide.{quotient_of, pre_steps}

-- the magnitude of a signed divide's quotient: the shelf
abbrev pub shelf_magnitude : ℕ → ℕ → ℕ → ℕ
shelf_magnitude n d b = nat_abs (quotient_of n true d b)

-- the ones in it, and 2 more where it is odd
abbrev pub logged : ℕ → ℕ
logged q = ones q + 2 * (q % 2)

-- the steps of an accepted divide besides those that its quotient's ones add: 13 and 8 a round; signed, 25 and PREIDIV's and 8 a round
abbrev pub other_steps : ℕ → Bool → ℕ → ℕ → ℕ
other_steps n false d b = 13 + 8 * n
other_steps n true d b = 25 + pre_steps n d b + 8 * n
