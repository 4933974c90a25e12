-- The table of statuses for lines: each status exactly when its row applies and none before it does; no other status; zeros after 1 to 5;
-- and demand 1. Assumes nothing.
use mathlib.Core.{Path.◌≡◌, Path.refl, Path.sym, Path.ap, Path.subst, Path.◌∙◌, Bool.Bool, Bool.true, Bool.false, Bool.not, Bool.cond, List.List, List.[], List.◌∷◌, Logic.◌↔◌}
use Prim.Native.Nat.{ℕ, ◌≤◌}
use lib.{Dec.ltb, Dec.eqb, ListN.length}
use borrow.Author.Tests.{eqb-true, eqb-false, eq-eqb, ne_eqb, not-true, not-false}
use Rattle.std.proofs.Common.{Ok, Err}
use Rattle.text.specs.Plain.{all_digits, fields_in}
use Rattle.text.specs.declared.fields.Malformed.TheVariants.{Length, Digit}
use Rattle.text.proofs.Plain.{read_plainly}
use Rattle.answer.specs.{Charted.refusal_status, Asked.zeros, Asked.asked, Table.rows}
use Rattle.answer.specs.{Refused.Refusal, Refused.ZeroDivisor, Refused.TooWide, Refused.SignRange, Refused.RefusedDivide, Refused.refusal, declared.answer.Answer.Answer}
use Rattle.numbers.specs.Rows.{Given, OneOf}
use Rattle.numbers.proofs.RowLaws.{first_of, first_given, first_one_of}
use Rattle.answer.proofs.{Table.by_table, Table.rest_zeros, Demand1.demand_1}
use Rattle.line.specs.{One.answer_by, One.answer_of, One.status_in, Table.raw_in, Table.line_rows, Table.table}

module _ (line : List ℕ) where
  -- what a line is answered by its length, then by its digits
  abbrev plain : Bool → Bool → Answer
  plain long digits = cond long (cond digits (asked (raw_in line)) (zeros 2)) (zeros 1)

  plainly : answer_of line ≡ plain (eqb (length line) 20) (all_digits line)
  unfolding answer_of
  plainly = rw (read_plainly line) (by (eqb (length line) 20) (all_digits line))
    where
      by : (a b : Bool) → answer_by (cond a (cond b (Ok (fields_in line)) (Err Digit)) (Err Length)) ≡ plain a b
      by true true = refl
      by true false = refl
      by false b = refl

  first_row : (answer_of line).status ≡ first_of (line_rows line)
  first_row = ap (λ (a : Answer). a.status) plainly ∙ by (eqb (length line) 20) (all_digits line)
    where
      by : (a b : Bool) → (plain a b).status ≡ cond (not a) 1 (cond (not b) 2 (first_of (rows (raw_in line))))
      by true true = by_table (raw_in line)
      by true false = refl
      by false b = refl

  -- status k exactly when its row applies and none before it does
  pub line_statuses : (k : ℕ) → (answer_of line).status ≡ k ↔ Given k (line_rows line)
  line_statuses k = let first = first_given (line_rows line) refl k in (λ e. first.0 (sym first_row ∙ e), λ g. first_row ∙ first.1 g)

  -- the same with the room
  pub statuses : (room k : ℕ) → status_in room line ≡ k ↔ Given k (table room line)
  statuses room k =
      let first = first_given (table room line) refl k in
      let row = ap (cond (ltb room 19) 7) first_row in
      (λ e. first.0 (sym row ∙ e), λ g. row ∙ first.1 g)

  -- no other status exists
  pub line_no_other : OneOf (answer_of line).status (0 ∷ 1 ∷ 2 ∷ 3 ∷ 4 ∷ 5 ∷ 6 ∷ 8 ∷ 9 ∷ [])
  line_no_other = subst (λ (k : ℕ). OneOf k (0 ∷ 1 ∷ 2 ∷ 3 ∷ 4 ∷ 5 ∷ 6 ∷ 8 ∷ 9 ∷ [])) (sym first_row) (first_one_of (line_rows line))

  pub no_other : (room : ℕ) → OneOf (status_in room line) (0 ∷ 7 ∷ 1 ∷ 2 ∷ 3 ∷ 4 ∷ 5 ∷ 6 ∷ 8 ∷ 9 ∷ [])
  no_other room =
      subst (λ (k : ℕ). OneOf (cond (ltb room 19) 7 k) (0 ∷ 7 ∷ 1 ∷ 2 ∷ 3 ∷ 4 ∷ 5 ∷ 6 ∷ 8 ∷ 9 ∷ [])) (sym first_row) (first_one_of (table room line))

  -- after 1 to 5 the rest is zeros
  pub line_zeros : 1 ≤ (answer_of line).status → (answer_of line).status ≤ 5 → answer_of line ≡ zeros (answer_of line).status
  line_zeros = subst (λ (a : Answer). 1 ≤ a.status → a.status ≤ 5 → a ≡ zeros a.status) (sym plainly) (by (eqb (length line) 20) (all_digits line))
    where
      by : (a b : Bool) → 1 ≤ (plain a b).status → (plain a b).status ≤ 5 → plain a b ≡ zeros (plain a b).status
      by true true = rest_zeros (raw_in line)
      by true false = λ low high. refl
      by false b = λ low high. refl

  -- a line of 20 digits is answered as the raw request in it
  pub as_asked : length line ≡ 20 → all_digits line ≡ true → answer_of line ≡ asked (raw_in line)
  as_asked long digits = rw (eq-eqb (length line) 20 long, digits) at plainly

  -- where rows 1 and 2 do not apply there are 20 digits
  twenty_digits : not (eqb (length line) 20) ≡ false → not (all_digits line) ≡ false → (length line ≡ 20) × (all_digits line ≡ true)
  twenty_digits one two = (eqb-true (length line) 20 (not-false (eqb (length line) 20) one), not-false (all_digits line) two)

  -- and a refused divide stands in them
  read : (why : Refusal) → (answer_of line).status ≡ refusal_status why → (length line ≡ 20) × (all_digits line ≡ true)
  read ZeroDivisor e = let g = (line_statuses 6).0 e in twenty_digits g.0 g.1.0
  read TooWide e = let g = (line_statuses 8).0 e in twenty_digits g.0 g.1.0
  read SignRange e = let g = (line_statuses 9).0 e in twenty_digits g.0 g.1.0

  -- demand 1: the status of a reason, 6, 8 or 9, exactly for a line with a divide that is refused for it, and then the answer is its refusal
  pub line_demand_1 : (why : Refusal)
      → ((answer_of line).status ≡ refusal_status why ↔ (length line ≡ 20) × (all_digits line ≡ true) × RefusedDivide why (raw_in line))
      × ((answer_of line).status ≡ refusal_status why → answer_of line ≡ refusal why (raw_in line))
  line_demand_1 why = (
    (λ e. let h = read why e in (h.0, h.1, refused e), λ h. ap (λ (a : Answer). a.status) (as_asked h.0 h.1) ∙ (demand_1 why (raw_in line)).0.1 h.2),
    λ e. let h = read why e in as_asked h.0 h.1 ∙ (demand_1 why (raw_in line)).1 (refused e),
  )
    where
      refused : (answer_of line).status ≡ refusal_status why → RefusedDivide why (raw_in line)
      refused e = let h = read why e in (demand_1 why (raw_in line)).0.0 (ap (λ (a : Answer). a.status) (sym (as_asked h.0 h.1)) ∙ e)

  -- rows 1 and 2 in other words
  pub status_1 : (answer_of line).status ≡ 1 ↔ (length line ≡ 20 → ⊥)
  status_1 =
      (λ e. eqb-false (length line) 20 (not-true (eqb (length line) 20) ((line_statuses 1).0 e)), λ n. (line_statuses 1).1 (rw (ne_eqb (length line) 20 n)))

  pub status_2 : (answer_of line).status ≡ 2 ↔ (length line ≡ 20) × (all_digits line ≡ false)
  status_2 = (
    λ e. let g = (line_statuses 2).0 e in (eqb-true (length line) 20 (not-false (eqb (length line) 20) g.0), not-true (all_digits line) g.1),
    λ h. (line_statuses 2).1 (rw (eq-eqb (length line) 20 h.0), rw h.1),
  )
