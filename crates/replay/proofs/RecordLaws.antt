-- Two texts are the same byte by byte exactly if they are equal; so a comparison that tells whether they are tells whether a record is right.
-- Assumes nothing.
use mathlib.Core.{Path.◌≡◌, Path.refl, Path.sym, Bool.Bool, Bool.true, Bool.false, Bool.cond, Bool.false≢true, List.List, List.[], List.◌∷◌}
use Rattle.std.proofs.Common.{ℕ, eqb, eq-eqb, eqb-true}
use Rattle.replay.specs.Record.{same_text}

same_itself : (s : List ℕ) → same_text s s ≡ true
same_itself [] = refl
same_itself (a ∷ s) = rw (eq-eqb a a refl) (same_itself s)

same_equal : (s t : List ℕ) → same_text s t ≡ true → s ≡ t
same_equal [] [] h = refl
same_equal [] (b ∷ t) h = absurd (false≢true h)
same_equal (a ∷ s) [] h = absurd (false≢true h)
same_equal (a ∷ s) (b ∷ t) h = by (eqb a b) refl (same_equal s t) h
  where
    by : (x : Bool) → eqb a b ≡ x → (same_text s t ≡ true → s ≡ t) → cond x (same_text s t) false ≡ true → a ∷ s ≡ b ∷ t
    by true q r h = let first = eqb-true a b q in let rest = r h in λ i. first i ∷ rest i
    by false q r h = absurd (false≢true h)

pub tells : (r : Bool) (s t : List ℕ) → (r ≡ true → s ≡ t) → (s ≡ t → r ≡ true) → r ≡ same_text s t
tells true s t equal told = rw (equal refl) (sym (same_itself t))
tells false s t equal told = by (same_text s t) refl
  where
    by : (x : Bool) → same_text s t ≡ x → false ≡ same_text s t
    by true q = absurd (false≢true (told (same_equal s t q)))
    by false q = sym q
