-- The first row that applies, and the status that is given. Assumes nothing.
use mathlib.Core.{Path.◌≡◌, Path.refl, Path.sym, Path.◌∙◌, Bool.Bool, Bool.true, Bool.false, Bool.not, Bool.cond, Bool.◌&&◌, Bool.false≢true, List.List, List.[], List.◌∷◌}
use mathlib.Core.Logic.{inl, inr, ◌↔◌}
use Prim.Native.Nat.{ℕ}
use lib.Dec.{eqb}
use borrow.Author.Tests.{eqb-true, eqb-false, not-true}
use Rattle.numbers.specs.Rows.{Given, OneOf}
use Rattle.numbers.proofs.BoolLaws.{both}

-- the status of the first row that applies
abbrev pub first_of : List (ℕ × Bool) → ℕ
first_of [] = 0
first_of (row ∷ rows) = cond row.1 row.0 (first_of rows)

-- no row has status k
abbrev pub lacks : ℕ → List (ℕ × Bool) → Bool
lacks k [] = true
lacks k (row ∷ rows) = not (eqb k row.0) && lacks k rows

-- each status has one row, and 0 has none
abbrev pub distinct : List (ℕ × Bool) → Bool
distinct [] = true
distinct (row ∷ rows) = not (eqb 0 row.0) && lacks row.0 rows && distinct rows

not_first : (k : ℕ) (rows : List (ℕ × Bool)) → (k ≡ 0 → ⊥) → lacks k rows ≡ true → first_of rows ≡ k → ⊥
not_first k [] n l e = n (sym e)
not_first k ((j, true) ∷ rows) n l e = eqb-false k j (not-true (eqb k j) (both (not (eqb k j)) (lacks k rows) l).0) (sym e)
not_first k ((j, false) ∷ rows) n l e = not_first k rows n (both (not (eqb k j)) (lacks k rows) l).1 e

-- that status is the one that is given
pub first_given : (rows : List (ℕ × Bool)) → distinct rows ≡ true → (k : ℕ) → first_of rows ≡ k ↔ Given k rows
first_given [] d k = (sym, sym)
first_given ((j, applies) ∷ rows) d k =
    let c = both (not (eqb 0 j) && lacks j rows) (distinct rows) d in
    let b = both (not (eqb 0 j)) (lacks j rows) c.0 in
    by (eqb k j) applies refl (first_given rows c.1 k) (not-true (eqb 0 j) b.0) b.1
  where
    by : (same applies : Bool) → eqb k j ≡ same → first_of rows ≡ k ↔ Given k rows → eqb 0 j ≡ false → lacks j rows ≡ true
        → cond applies j (first_of rows) ≡ k ↔ cond same (applies ≡ true) ((applies ≡ false) × Given k rows)
    by true true e rest n l = (λ z. refl, λ z. sym (eqb-true k j e))
    by true false e rest n l =
        let mine = eqb-true k j e in
        (λ z. absurd (not_first j rows (λ none. eqb-false 0 j n (sym none)) l (z ∙ mine)), λ z. absurd (false≢true z))
    by false true e rest n l = (λ z. absurd (eqb-false k j e (sym z)), λ z. absurd (false≢true (sym z.0)))
    by false false e rest n l = (λ z. (refl, rest.0 z), λ z. rest.1 z.1)

-- there is no other: it is 0 or that of a row
abbrev pub numbers : List (ℕ × Bool) → List ℕ
numbers [] = []
numbers (row ∷ rows) = row.0 ∷ numbers rows

pub first_one_of : (rows : List (ℕ × Bool)) → OneOf (first_of rows) (0 ∷ numbers rows)
first_one_of [] = inl refl
first_one_of ((j, true) ∷ rows) = inr (inl refl)
first_one_of ((j, false) ∷ rows) = by (first_one_of rows)
  where
    by : OneOf (first_of rows) (0 ∷ numbers rows) → OneOf (first_of rows) (0 ∷ j ∷ numbers rows)
    by (inl e) = inl e
    by (inr h) = inr (inr h)
