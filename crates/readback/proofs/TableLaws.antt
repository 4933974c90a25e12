-- Each refusal of a line is given exactly when its row applies and none before it does, 0 where none applies, and there is no other. Assumes nothing.
use mathlib.Core.{Path.◌≡◌, Path.refl, Path.sym, Path.subst, Path.◌∙◌, Bool.Bool, Bool.true, Bool.false, Bool.not, Bool.cond, List.List, List.[], List.◌∷◌, Logic.◌↔◌}
use Prim.Native.Nat.{ℕ}
use lib.{Dec.eqb, ListN.length}
use Rattle.std.proofs.Common.{Ok, Err}
use Rattle.text.specs.Plain.{all_digits}
use Rattle.numbers.specs.Rows.{Given, OneOf}
use Rattle.numbers.proofs.RowLaws.{first_of, first_given, first_one_of}
use Rattle.readback.specs.{Judge.record_in, Judge.is_status, Judge.outside, Judge.not_zero, Judge.judged, Judge.read_back, Table.rows, Told.status_of}
use Rattle.readback.specs.declared.judge.Refusal.TheVariants.{Length, Digit, Status, Flags, NotZero}

module _ (line : List ℕ) where
  first_row : status_of (read_back line) ≡ first_of (rows line)
  unfolding read_back judged
  first_row = by (not (eqb (length line) 18)) (not (all_digits line)) (not (is_status (record_in line).status)) (outside (record_in line).flags) (not_zero (record_in line))
    where
      by : (l d s f z : Bool)
          → status_of (cond l (Err Length) (cond d (Err Digit) (cond s (Err Status) (cond f (Err Flags) (cond z (Err NotZero) (Ok (record_in line)))))))
          ≡ cond l 30 (cond d 31 (cond s 32 (cond f 33 (cond z 34 0))))
      by true d s f z = refl
      by false true s f z = refl
      by false false true f z = refl
      by false false false true z = refl
      by false false false false true = refl
      by false false false false false = refl

  -- refusal k exactly when its row applies and none before it does
  pub read_statuses : (k : ℕ) → status_of (read_back line) ≡ k ↔ Given k (rows line)
  read_statuses k = let first = first_given (rows line) refl k in (λ e. first.0 (sym first_row ∙ e), λ g. first_row ∙ first.1 g)

  -- no other
  pub read_no_other : OneOf (status_of (read_back line)) (0 ∷ 30 ∷ 31 ∷ 32 ∷ 33 ∷ 34 ∷ [])
  read_no_other = subst (λ (k : ℕ). OneOf k (0 ∷ 30 ∷ 31 ∷ 32 ∷ 33 ∷ 34 ∷ [])) (sym first_row) (first_one_of (rows line))
