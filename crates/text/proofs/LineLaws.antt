-- The length of the line that starts at a place: at a line feed, before another byte, and at the text's end. Assumes nothing.
use mathlib.Core.{Path.◌≡◌, Bool.Bool, Bool.true, Bool.false, Bool.cond, List.List, List.[], List.◌∷◌}
use Prim.Native.Nat.{ℕ, suc, ◌+◌, ◌<◌, ◌≤◌}
use native.Mathlib.{Nat.le_refl, Numerals.add-one, Omega.arith}
use lib.{Dec.eqb, ListN.length, ListN.get_or, ListN.drop, ListN.length-drop, ListN.drop_of_length-le, Seq.drop-cons}
use borrow.Author.Tests.{eq-eqb, ne_eqb}
use Rattle.text.specs.Lines.{line_length, line_end}

module _ (text : List ℕ) (at : ℕ) where
  pub at_feed : at < length text → get_or text at 0 ≡ 0x0A → line_length (drop at text) ≡ 0
  at_feed h e = rw (drop-cons text at 0 h, eq-eqb _ _ e)

  pub at_byte : at < length text → (get_or text at 0 ≡ 0x0A → ⊥) → line_length (drop at text) ≡ suc (line_length (drop (at + 1) text))
  at_byte h n = rw (add-one, drop-cons text at 0 h, ne_eqb _ _ n)

  pub at_end : length text ≤ at → line_length (drop at text) ≡ 0
  at_end h = rw (drop_of_length-le text h)

shorter : (x : Bool) (n m : ℕ) → n ≤ m → cond x 0 (suc n) ≤ suc m
shorter true n m h = omega arith
shorter false n m h = omega arith

pub length_within : (text : List ℕ) → line_length text ≤ length text
length_within [] = le_refl 0
length_within (b ∷ text) = shorter (eqb b 0x0A) (line_length text) (length text) (length_within text)

-- a line ends in its text
pub end_within : (text : List ℕ) (from : ℕ) → from ≤ length text → line_end text from ≤ length text
end_within text from h = omega (arith, length_within (drop from text), length-drop from text)
