-- What a fold over bytes gathers: whether all of them are digits. Assumes nothing.
use mathlib.Core.{Path.◌≡◌, Path.sym, Path.◌∙◌, Bool.Bool, Bool.true, Bool.◌&&◌, Bool.and_assoc, Bool.and-true, List.List, List.[], List.◌∷◌}
use Prim.Native.Nat.{ℕ}
use Rattle.std.specs.List.{fold}
use Rattle.text.specs.{Plain.is_digit, Plain.all_digits}

-- no byte is anything else than a digit, with what was seen before
gathered : (a : Bool) (bs : List ℕ) → fold (λ (all : Bool) (b : ℕ). all && is_digit b) a bs ≡ a && all_digits bs
gathered a [] = sym (and-true a)
gathered a (b ∷ bs) = gathered (a && is_digit b) bs ∙ and_assoc a (is_digit b) (all_digits bs)

pub all_folded : (bs : List ℕ) → fold (λ (all : Bool) (b : ℕ). all && is_digit b) true bs ≡ all_digits bs
all_folded = gathered true
