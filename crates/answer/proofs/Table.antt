-- The status of a raw request is that of the first row of the table that applies. Assumes nothing.
use mathlib.Core.Path.{◌≡◌, refl, sym, ap, subst, ◌∙◌}
use mathlib.Core.{Bool.Bool, Bool.true, Bool.false, Bool.not, Bool.cond, Bool.◌&&◌, Bool.◌||◌, Bool.beq, Bool.false≢true, List.[], List.◌∷◌, Logic.◌↔◌}
use Prim.Native.Nat.{ℕ, ◌+◌, ◌^◌, ◌≤◌, ◌<◌}
use native.Mathlib.Omega.{arith}
use lib.Dec.{leb, eqb}
use borrow.Author.Tests.{leb-true, leb-false, eqb-true, le-leb, lt-leb, not-true}
use Rattle.numbers.specs.{Numbers.is_set, Rows.Given, Rows.OneOf}
use Rattle.flags.specs.{Word.flags_of, declared.word.Flags.Flags}
use Rattle.flags.proofs.WordLaws.{is_masked}
use Rattle.divide.specs.Divide.{DivideOutcome, accepted, refused, applies, results_of, divide}
use Rattle.divide.specs.declared.div.Refusal.TheVariants.{ZeroDivisor, TooWide, SignRange}
use Rattle.divide.proofs.Refusals.{by_reason_lem}
use Rattle.request.specs.{Operation.operation_of, Limits.x_most, Limits.y_most, Judge.request_of, Judge.judged_by, Judge.judged, Limits.in_limits, declared.operation.Width.Width}
use Rattle.request.specs.{declared.operation.Width.TheVariants.Byte, declared.operation.Width.TheVariants.Word, declared.operation.Alu.Alu}
use Rattle.request.specs.declared.operation.Operation.{Operation}
use Rattle.request.specs.declared.operation.Operation.TheVariants.{Alu as OfAlu, Multiply as OfMultiply, Divide as OfDivide, Decimal as OfDecimal}
use Rattle.std.specs.declared.result.Result.TheVariants.{Ok, Err}
use Rattle.request.specs.Operation.{Decoded}
use Rattle.request.specs.declared.decode.Undecoded.TheVariants.{Unlisted as NotListed, WrongMode as BadMode}
use Rattle.request.specs.{Judge.Judged, Judge.Admitted, Judge.Unlisted, Judge.WrongMode, Judge.TooLarge}
use Rattle.request.specs.declared.operation.Alu.TheVariants as Alus
use Rattle.multiply.specs.{Routines.Multiplied, Multiply.multiply}
use Rattle.answer.specs.Charted.{bits, alu_of, multiplied_by, of_outcome, of_divided, charted_by, charted}
use Rattle.answer.specs.Asked.{Raw, zeros, of_judged, asked}
use Rattle.answer.specs.Table.{unlisted, wrong_mode, width_by, x_bits, y_bits, too_large, refused_for, rows}
use Rattle.answer.proofs.Agreement.{divides, agrees, agreed}
use Rattle.numbers.proofs.{BoolLaws.both, RowLaws.first_of, RowLaws.first_given, RowLaws.first_one_of}

-- ---- the limits

-- at most m, or at least the number above it
past : (m above x : ℕ) → m + 1 ≡ above → leb above x ≡ not (leb x m)
past m above x e = by (leb x m) refl
  where
    by : (k : Bool) → leb x m ≡ k → leb above x ≡ not k
    by true h = lt-leb above x (omega (arith, leb-true x m h))
    by false h = le-leb above x (omega (arith, leb-false x m h))

any_not_all : (a b c : Bool) → not a || not b || not c ≡ not (a && b && c)
any_not_all true true c = refl
any_not_all true false c = refl
any_not_all false b c = refl

-- ---- the charts

alu_status : (n : ℕ) (alu : Alu) (x y : ℕ) (f : Flags) → (alu_of n alu x y f).status ≡ 0
alu_status n Alus.Add x y f = refl
alu_status n Alus.Adc x y f = refl
alu_status n Alus.Sub x y f = refl
alu_status n Alus.Sbb x y f = refl
alu_status n Alus.Neg x y f = refl
alu_status n Alus.Shl x y f = refl
alu_status n Alus.Shr x y f = refl
alu_status n Alus.Sar x y f = refl
alu_status n Alus.Rol x y f = refl
alu_status n Alus.Ror x y f = refl
alu_status n Alus.Rcl x y f = refl
alu_status n Alus.Rcr x y f = refl
alu_status n Alus.ShlAf x y f = refl

product_status : (w : Width) (m : Multiplied) → (multiplied_by w m).status ≡ 0
product_status Byte m = refl
product_status Word m = refl

-- the rows of a divide
abbrev pub by_reason : Bool → Bool → Bool → ℕ
by_reason zero wide range = cond zero 6 (cond wide 8 (cond range 9 0))

divide_status : (n : ℕ) (s rep : Bool) (d b : ℕ) (f : Flags) → 0 < n
    → (of_divided (divide n s rep d b f)).status ≡ by_reason (applies ZeroDivisor n s d b) (applies TooWide n s d b) (applies SignRange n s d b)
divide_status n s rep d b f hn =
    ap (λ (o : DivideOutcome). (of_outcome o (divide n s rep d b f).flags (divide n s rep d b f).steps).status) (by_reason_lem n s d b hn f rep)
    ∙ by (applies ZeroDivisor n s d b) (applies TooWide n s d b) (applies SignRange n s d b)
  where
    by : (z w r : Bool)
        → (of_outcome (cond z (refused ZeroDivisor) (cond w (refused TooWide) (cond r (refused SignRange) (accepted (results_of n s rep d b))))) (divide n s rep d b f).flags (divide n s rep d b f).steps).status
        ≡ by_reason z w r
    by true w r = refl
    by false true r = refl
    by false false true = refl
    by false false false = refl

some_bits : (w : Width) → 0 < bits w
some_bits Byte = omega arith
some_bits Word = omega arith

-- the charts give none of 1 to 5
never_1_to_5 : (o : Operation) (x y : ℕ) (f : Flags) → 1 ≤ (charted_by o x y f).status → (charted_by o x y f).status ≤ 5 → ⊥
never_1_to_5 (OfAlu alu w) x y f low high = omega (arith, alu_status (bits w) alu x y f)
never_1_to_5 (OfMultiply m) x y f low high = omega (arith, product_status m.width (multiply (bits m.width) m.signed m.rep x y f))
never_1_to_5 (OfDivide m) x y f low high =
    let n = bits m.width in
    by (applies ZeroDivisor n m.signed x y) (applies TooWide n m.signed x y) (applies SignRange n m.signed x y) (divide_status n m.signed m.rep x y f (some_bits m.width)) low high
  where
    by : (z w r : Bool) {status : ℕ} → status ≡ by_reason z w r → 1 ≤ status → status ≤ 5 → ⊥
    by true w r e low high = omega arith
    by false true r e low high = omega arith
    by false false true e low high = omega arith
    by false false false e low high = omega arith
never_1_to_5 (OfDecimal decimal) x y f low high = omega arith

same : (a b : Bool) → beq a b ≡ true → a ≡ b
same true true e = refl
same true false e = absurd (false≢true e)
same false true e = absurd (false≢true e)
same false false e = refl

-- ---- the table

module _ (r : Raw) where
  abbrev of_divide : ℕ
  of_divide = by_reason (refused_for ZeroDivisor r) (refused_for TooWide r) (refused_for SignRange r)

  charted_status : (o : Operation) → divides r.op r.mode o ≡ true → (charted_by o r.x r.y (flags_of r.flags)).status ≡ of_divide
  charted_status (OfAlu alu w) d = rw (not-true (eqb r.op 0x11) d) (alu_status (bits w) alu r.x r.y (flags_of r.flags))
  charted_status (OfMultiply m) d =
      rw (not-true (eqb r.op 0x11) d) (product_status m.width (multiply (bits m.width) m.signed m.rep r.x r.y (flags_of r.flags)))
  charted_status (OfDivide m) d =
      let a = both (eqb r.op 0x11 && eqb (bits m.width) (width_by r.mode)) (beq m.signed (is_set 1 r.mode)) d in
      let b = both (eqb r.op 0x11) (eqb (bits m.width) (width_by r.mode)) a.0 in
      let n = eqb-true (bits m.width) (width_by r.mode) b.1 in
      let s = same m.signed (is_set 1 r.mode) a.1 in
      rw (b.0, ← n, ← s) (divide_status (bits m.width) m.signed m.rep r.x r.y (flags_of r.flags) (some_bits m.width))
  charted_status (OfDecimal decimal) d = rw (not-true (eqb r.op 0x11) d)

  -- of an operation: its limits, then its chart
  named_status : (o : Operation) → x_most o + 1 ≡ 2 ^ x_bits r.op r.mode → y_most o + 1 ≡ 2 ^ y_bits r.op r.mode → divides r.op r.mode o ≡ true
      → (of_judged (judged_by (Ok o) r)).status ≡ cond (too_large r) 5 of_divide
  unfolding charted
  named_status o ex ey d =
      rw (past (x_most o) (2 ^ x_bits r.op r.mode) r.x ex, past (y_most o) (2 ^ y_bits r.op r.mode) r.y ey, ← is_masked r.flags, any_not_all)
      (by (in_limits o r.flags r.x r.y))
    where
      by : (k : Bool) → (of_judged (cond k (Admitted (request_of o r)) TooLarge)).status ≡ cond (not k) 5 of_divide
      by true = charted_status o d
      by false = refl

  -- the first row that applies
  pub by_table : (asked r).status ≡ first_of (rows r)
  unfolding asked judged
  by_table = by (operation_of r.op r.mode) (agreed r.op r.mode)
    where
      by : (n : Decoded) → agrees r.op r.mode n ≡ true → (of_judged (judged_by n r)).status ≡ first_of (rows r)
      by (Err NotListed) e = rw e
      by (Err BadMode) e = let h = both (not (unlisted r.op)) (wrong_mode r.op r.mode) e in rw (not-true (unlisted r.op) h.0, h.1)
      by (Ok o) e =
          let w = not (wrong_mode r.op r.mode) in
          let l = not (unlisted r.op) in
          let x = eqb (x_most o + 1) (2 ^ x_bits r.op r.mode) in
          let y = eqb (y_most o + 1) (2 ^ y_bits r.op r.mode) in
          let d = both (w && l && x && y) (divides r.op r.mode o) e in
          let c = both (w && l && x) y d.0 in
          let b = both (w && l) x c.0 in
          let a = both w l b.0 in
          rw (not-true (unlisted r.op) a.1, not-true (wrong_mode r.op r.mode) a.0) (named_status o (eqb-true _ _ b.1) (eqb-true _ _ c.1) d.1)

  -- status k exactly when its row applies and none before it does
  pub statuses : (k : ℕ) → (asked r).status ≡ k ↔ Given k (rows r)
  statuses k = let first = first_given (rows r) refl k in (λ e. first.0 (sym by_table ∙ e), λ g. by_table ∙ first.1 g)

  -- no other status exists
  pub no_other : OneOf (asked r).status (0 ∷ 3 ∷ 4 ∷ 5 ∷ 6 ∷ 8 ∷ 9 ∷ [])
  no_other = subst (λ (k : ℕ). OneOf k (0 ∷ 3 ∷ 4 ∷ 5 ∷ 6 ∷ 8 ∷ 9 ∷ [])) (sym by_table) (first_one_of (rows r))

  -- after 1 to 5 the rest is zeros
  pub rest_zeros : 1 ≤ (asked r).status → (asked r).status ≤ 5 → asked r ≡ zeros (asked r).status
  unfolding asked charted
  rest_zeros = by (judged r)
    where
      by : (j : Judged) → 1 ≤ (of_judged j).status → (of_judged j).status ≤ 5 → of_judged j ≡ zeros (of_judged j).status
      by (Admitted q) low high = absurd (never_1_to_5 q.operation q.x q.y (flags_of q.flags) low high)
      by Unlisted low high = refl
      by WrongMode low high = refl
      by TooLarge low high = refl
