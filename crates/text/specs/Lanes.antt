-- Several numbers packed into one, each in its own lane of bits. Assumes nothing.
use Rattle.std.specs.Prelude.{List, [], ◌∷◌, ℕ, ◌+◌, ◌*◌, ◌^◌}

-- lanes of so many bits, with the first number in the lowest lane
abbrev pub lanes : ℕ → List ℕ → ℕ
lanes bits [] = 0
lanes bits (b ∷ bs) = lanes bits bs * 2 ^ bits + b
