-- Which status an op over the record is given, and that X is never too large. Assumes nothing.
use mathlib.Core.{Path.◌≡◌, Path.refl, Path.sym, Path.ap, Path.subst, Path.◌∙◌, Bool.Bool, Bool.true, Bool.false, Bool.not, Bool.cond, Bool.◌||◌, List.[], List.◌∷◌, Logic.◌↔◌}
use Prim.Native.Nat.{ℕ, ◌+◌, ◌<◌, ◌^◌}
use native.Mathlib.Omega.{arith}
use lib.Dec.{leb, ltb, eqb}
use borrow.Author.Tests.{ltb-true, ltb-false, leb-true, eqb-true, eqb-false}
use Rattle.numbers.specs.{Numbers.between, Numbers.is_set, Rows.Given, Rows.OneOf}
use Rattle.bcd.specs.Adjust.{al_of}
use Rattle.divide.specs.declared.div.Refusal.TheVariants.{ZeroDivisor, TooWide, SignRange}
use Rattle.answer.specs.{Asked.Raw, Asked.asked, Table.is_mul_div, Table.is_adjust, Table.unlisted, Table.wrong_mode, Table.x_bits, Table.too_large, Table.refused_for}
use Rattle.answer.specs.declared.answer.Answer.{Answer}
use Rattle.numbers.proofs.{BoolLaws.both, RowLaws.first_of, RowLaws.first_given, RowLaws.first_one_of}
use Rattle.answer.proofs.Table.{by_table}
use Rattle.registers.specs.{Over.is_over, Over.dx_ax, Over.read_by, Over.counted_of, Over.settled_of, Over.settled_by, Over.request_over, Over.stays, Over.over, Table.over_rows}
use Rattle.registers.specs.{declared.record.Registers.Registers, declared.record.Settled.Settled}
use Rattle.registers.proofs.SettleLaws.{count_not_done, count_past, count_stored, settled_counted}

-- an op over the record is listed
pub listed-over : (op : ℕ) → is_over op ≡ true → unlisted op ≡ false
listed-over op e = by (leb op 0x0C) (is_mul_div op) (is_adjust op) e
  where
    by : (a m d : Bool) → m || d ≡ true → not (a || m || d) ≡ false
    by true m d e = refl
    by false true d e = refl
    by false false d e = ap not e

-- what is told, by the answer's status and the total
settled_status : (r : Registers) (a : Answer) (ax dx : ℕ) → (settled_of r a ax dx).status ≡ cond (between 1 5 a.status) a.status (cond (ltb 4_294_967_295 (r.total + a.steps)) 10 a.status)
settled_status r a ax dx =
    settled_counted r a ax dx (λ (o : Settled). o.status ≡ cond (between 1 5 a.status) a.status (cond (ltb 4_294_967_295 (r.total + a.steps)) 10 a.status))
    (λ x y. by (between 1 5 a.status) (ltb 4_294_967_295 (r.total + a.steps)) refl refl)
  where
    by : (b p : Bool) → between 1 5 a.status ≡ b → ltb 4_294_967_295 (r.total + a.steps) ≡ p → (counted_of r.flags r.total a).status ≡ cond b a.status (cond p 10 a.status)
    by true p e h = rw (count_not_done r.flags r.total a e)
    by false true e h = rw (count_past r.flags r.total a e (ltb-true _ _ h))
    by false false e h = rw (← count_stored r.flags r.total a e (ltb-false _ _ h) refl)

module _ (op mode y : ℕ) (r : Registers) where
  abbrev q : Raw
  q = request_over op mode y r

  -- the row of 10 put in between
  in_order : (w t p z b s : Bool) (k : ℕ) → k ≡ cond w 4 (cond t 5 (cond z 6 (cond b 8 (cond s 9 0)))) → cond (between 1 5 k) k (cond p 10 k) ≡ cond w 4 (cond t 5 (cond p 10 (cond z 6 (cond b 8 (cond s 9 0)))))
  in_order true t p z b s k e = rw e
  in_order false true p z b s k e = rw e
  in_order false false true true b s k e = rw e
  in_order false false true false true s k e = rw e
  in_order false false true false false true k e = rw e
  in_order false false true false false false k e = rw e
  in_order false false false true b s k e = rw e
  in_order false false false false true s k e = rw e
  in_order false false false false false true k e = rw e
  in_order false false false false false false k e = rw e

  -- the first row that applies
  first_row : (over op mode y r).status ≡ first_of (over_rows r q)
  unfolding over
  first_row = by (is_over op) refl
    where
      by : (l : Bool) → is_over op ≡ l → (cond l (settled_by op mode r (asked q)) (stays 3 r)).status ≡ cond (not l) 3 (first_of ((4, wrong_mode op mode) ∷ (5, too_large q) ∷ (10, ltb 4_294_967_295 (r.total + (asked q).steps)) ∷ (6, refused_for ZeroDivisor q) ∷ (8, refused_for TooWide q) ∷ (9, refused_for SignRange q) ∷ []))
      by false e = refl
      by true e = settled_status r (asked q) _ _ ∙ in_order (wrong_mode op mode) (too_large q) (ltb 4_294_967_295 (r.total + (asked q).steps)) (refused_for ZeroDivisor q) (refused_for TooWide q) (refused_for SignRange q) (asked q).status (by_table q ∙ ap (λ (u : Bool). cond u 3 (first_of ((4, wrong_mode op mode) ∷ (5, too_large q) ∷ (6, refused_for ZeroDivisor q) ∷ (8, refused_for TooWide q) ∷ (9, refused_for SignRange q) ∷ []))) (listed-over op e))

  -- status k exactly when its row applies and none before it does
  pub over_statuses : (k : ℕ) → (over op mode y r).status ≡ k ↔ Given k (over_rows r q)
  over_statuses k = let first = first_given (over_rows r q) refl k in (λ e. first.0 (sym first_row ∙ e), λ g. first_row ∙ first.1 g)

  -- no other status exists
  pub over_no_other : OneOf (over op mode y r).status (0 ∷ 3 ∷ 4 ∷ 5 ∷ 10 ∷ 6 ∷ 8 ∷ 9 ∷ [])
  over_no_other = subst (λ (k : ℕ). OneOf k (0 ∷ 3 ∷ 4 ∷ 5 ∷ 10 ∷ 6 ∷ 8 ∷ 9 ∷ [])) (sym first_row) (first_one_of (over_rows r q))

-- X is never too large: it is read from registers of 16 bits
pub x_in_limits : (op mode ax dx : ℕ) → is_over op ≡ true → ax < 0x1_0000 → dx < 0x1_0000 → read_by op mode ax dx < 2 ^ x_bits op mode
x_in_limits op mode ax dx listed hax hdx = by (is_adjust op) (eqb op 0x10) (eqb op 0x11) (is_set 0 mode) refl refl refl listed
  where
    neither : is_adjust op ≡ false → eqb op 0x10 ≡ false → eqb op 0x11 ≡ false → is_mul_div op || false ≡ true → ⊥
    neither d m v e = let b = both (leb 0x10 op) (leb op 0x11) (subst (λ (k : Bool). k ≡ true) (or_false (is_mul_div op)) e) in omega (arith, leb-true 0x10 op b.0, leb-true op 0x11 b.1, eqb-false op 0x10 m, eqb-false op 0x11 v)
      where
        or_false : (k : Bool) → k || false ≡ k
        or_false true = refl
        or_false false = refl

    by : (d m v w : Bool) → is_adjust op ≡ d → eqb op 0x10 ≡ m → eqb op 0x11 ≡ v → is_mul_div op || d ≡ true → cond m (cond w ax (al_of ax)) (cond v (cond w (dx_ax ax dx) ax) ax) < 2 ^ cond d 16 (cond v (cond w 16 8 + cond w 16 8) (cond w 16 8))
    by true true v w d m n e = let b = both (leb 0x18 op) (leb op 0x1C) d in absurd (omega (arith, leb-true 0x18 op b.0, eqb-true op 0x10 m))
    by true false true w d m n e = let b = both (leb 0x18 op) (leb op 0x1C) d in absurd (omega (arith, leb-true 0x18 op b.0, eqb-true op 0x11 n))
    by true false false w d m n e = hax
    by false true true true d m n e = omega arith
    by false true true false d m n e = omega arith
    by false true false true d m n e = omega arith
    by false true false false d m n e = omega arith
    by false false true true d m n e = omega arith
    by false false true false d m n e = omega arith
    by false false false w d m n e = absurd (neither d m n e)
