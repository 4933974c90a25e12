-- An operation over the record and the request that it is: one law ties what is told and left to the answer. Besides: what is left where nothing
-- is done, demand 1 over the record, and the steps told. Assumes nothing.
use mathlib.Core.{Path.◌≡◌, Path.refl, Path.sym, Path.ap, Path.subst, Path.◌∙◌, Bool.Bool, Bool.true, Bool.false, Bool.cond, Bool.true≢false, List.[], List.◌∷◌}
use mathlib.Core.Logic.{◌⊎◌, inl, inr, ◌↔◌}
use Prim.Native.Nat.{ℕ, ◌+◌, ◌≤◌, ◌<◌}
use native.Mathlib.Omega.{arith}
use lib.Dec.{ltb, eqb}
use borrow.Author.Tests.{ltb-true, ltb-false, le-leb, lt-leb, eqb-true, eqb-false}
use Rattle.numbers.specs.{Numbers.between, Rows.OneOf}
use Rattle.divide.specs.declared.div.Refusal.{Refusal}
use Rattle.divide.specs.declared.div.Refusal.TheVariants.{ZeroDivisor, TooWide, SignRange}
use Rattle.answer.specs.{Charted.refusal_status, Asked.Raw, Asked.asked, Refused.RefusedDivide, Refused.refusal, declared.answer.Answer.Answer}
use Rattle.answer.proofs.{Table.statuses, Table.no_other, Table.rest_zeros, Demand1.demand_1}
use Rattle.registers.specs.{Over.is_over, Over.ax_by, Over.dx_by, Over.stays, Over.settled_by, Over.request_over, Over.over, Tied.Tied, declared.record.Registers.Registers}
use Rattle.registers.specs.declared.record.Settled.{Settled}
use Rattle.registers.proofs.{OverLaws.not_over, TableLaws.listed-over, TableLaws.over_statuses}
use Rattle.registers.proofs.SettleLaws.{stored, not_done, past, done, refused}

-- ---- statuses as numbers

-- one of two or three statuses lies between the least and the greatest of them
of_two : {k : ℕ} → OneOf k (4 ∷ 5 ∷ []) → (4 ≤ k) × (k ≤ 5)
of_two (inl e) = (omega arith, omega arith)
of_two (inr (inl e)) = (omega arith, omega arith)
of_two (inr (inr e)) = absurd e

of_three : {k : ℕ} → OneOf k (6 ∷ 8 ∷ 9 ∷ []) → (6 ≤ k) × (k ≤ 9)
of_three (inl e) = (omega arith, omega arith)
of_three (inr (inl e)) = (omega arith, omega arith)
of_three (inr (inr (inl e))) = (omega arith, omega arith)
of_three (inr (inr (inr e))) = absurd e

within : {k : ℕ} → 1 ≤ k → k ≤ 5 → between 1 5 k ≡ true
within {k} low high = rw (le-leb 1 k low, le-leb k 5 high)

zero_outside : {k : ℕ} → k ≡ 0 → between 1 5 k ≡ false
zero_outside e = rw e

above_outside : {k : ℕ} → 6 ≤ k → between 1 5 k ≡ false
above_outside {k} h = rw (le-leb 1 k (omega arith), lt-leb k 5 (omega arith))

-- ---- the five cases

abbrev answer : ℕ → ℕ → ℕ → Registers → Answer
answer op mode y r = asked (request_over op mode y r)

-- the total that it would come to
abbrev sum : ℕ → ℕ → ℕ → Registers → ℕ
sum op mode y r = r.total + (answer op mode y r).steps

data Case (op mode y : ℕ) (r : Registers) : Type 0 where
  other : is_over op ≡ false → over op mode y r ≡ stays 3 r → Case op mode y r
  wrong : is_over op ≡ true → OneOf (answer op mode y r).status (4 ∷ 5 ∷ []) → over op mode y r ≡ stays (answer op mode y r).status r → Case op mode y r
  full : is_over op ≡ true → OneOf (answer op mode y r).status (0 ∷ 6 ∷ 8 ∷ 9 ∷ []) → 4_294_967_295 < sum op mode y r → over op mode y r ≡ stays 10 r → Case op mode y r
  whole : is_over op ≡ true → (answer op mode y r).status ≡ 0 → sum op mode y r ≤ 4_294_967_295
      → over op mode y r ≡ stored (answer op mode y r) (ax_by op mode (answer op mode y r)) (dx_by op mode r.dx (answer op mode y r)) (sum op mode y r) → Case op mode y r
  chip : is_over op ≡ true → OneOf (answer op mode y r).status (6 ∷ 8 ∷ 9 ∷ []) → sum op mode y r ≤ 4_294_967_295
      → over op mode y r ≡ stored (answer op mode y r) r.ax r.dx (sum op mode y r) → Case op mode y r

module _ (op mode y : ℕ) (r : Registers) where
  abbrev a : Answer
  a = answer op mode y r

  by_answer : is_over op ≡ true → over op mode y r ≡ settled_by op mode r a
  unfolding over
  by_answer listed = rw listed

  -- 3 is not given to an op that is listed
  not_3 : is_over op ≡ true → a.status ≡ 3 → ⊥
  not_3 listed e = true≢false (sym ((statuses (request_over op mode y r) 3).0 e) ∙ listed-over op listed)

  case_of : Case op mode y r
  case_of = by (is_over op) refl
    where
      by_sum : is_over op ≡ true → (k : Bool) → ltb 4_294_967_295 (sum op mode y r) ≡ k → (a.status ≡ 0) ⊎ OneOf a.status (6 ∷ 8 ∷ 9 ∷ []) → Case op mode y r
      by_sum l true h (inl e) = let p = ltb-true _ _ h in full l (inl e) p (by_answer l ∙ past r a _ _ (zero_outside e) p)
      by_sum l true h (inr o) = let p = ltb-true _ _ h in full l (inr o) p (by_answer l ∙ past r a _ _ (above_outside (of_three o).0) p)
      by_sum l false h (inl e) = let p = ltb-false _ _ h in whole l e p (by_answer l ∙ done r a _ _ (zero_outside e) p e)
      by_sum l false h (inr o) =
          let p = ltb-false _ _ h in
          let least = (of_three o).0 in
          chip l o p (by_answer l ∙ refused r a _ _ (above_outside least) p (λ e. omega arith))

      stayed : is_over op ≡ true → OneOf a.status (4 ∷ 5 ∷ []) → Case op mode y r
      stayed l o = let b = of_two o in wrong l o (by_answer l ∙ not_done r a _ _ (within (omega (arith, b.0)) b.1))

      by_status : is_over op ≡ true → OneOf a.status (0 ∷ 3 ∷ 4 ∷ 5 ∷ 6 ∷ 8 ∷ 9 ∷ []) → Case op mode y r
      by_status l (inl e) = by_sum l (ltb 4_294_967_295 (sum op mode y r)) refl (inl e)
      by_status l (inr (inl e)) = absurd (not_3 l e)
      by_status l (inr (inr (inl e))) = stayed l (inl e)
      by_status l (inr (inr (inr (inl e)))) = stayed l (inr (inl e))
      by_status l (inr (inr (inr (inr o)))) = by_sum l (ltb 4_294_967_295 (sum op mode y r)) refl (inr o)

      by : (k : Bool) → is_over op ≡ k → Case op mode y r
      by true l = by_status l (no_other (request_over op mode y r))
      by false l = other l (not_over op mode y r l)

  -- what each case says of status, steps and record
  status_of_lem : {o p : Settled} → o ≡ p → o.status ≡ p.status
  status_of_lem e = ap (λ (o : Settled). o.status) e

  steps_of : {o p : Settled} → o ≡ p → o.steps ≡ p.steps
  steps_of e = ap (λ (o : Settled). o.steps) e

  regs_of : {o p : Settled} → o ≡ p → o.regs ≡ p.regs
  regs_of e = ap (λ (o : Settled). o.regs) e

  -- ---- the law

  -- after 4 and 5 an answer has no step
  no_steps : OneOf a.status (4 ∷ 5 ∷ []) → a.steps ≡ 0
  no_steps o = let b = of_two o in ap (λ (q : Answer). q.steps) (rest_zeros (request_over op mode y r) (omega (arith, b.0)) b.1)

  -- what an op over the record tells and leaves is what its request is answered, unless the status is 10
  pub tied : is_over op ≡ true → ((over op mode y r).status ≡ 10 → ⊥) → Tied op mode r (asked (request_over op mode y r)) (over op mode y r)
  tied listed not-10 = by case_of
    where
      by : Case op mode y r → Tied op mode r a (over op mode y r)
      by (other l e) = absurd (true≢false (sym listed ∙ l))
      by (wrong l o e) =
          let b = of_two o in
          record {
            status = status_of_lem e;
            steps = steps_of e ∙ sym (no_steps o);
            done = λ z. absurd (omega (arith, b.0));
            refused = λ w. let c = of_three w in absurd (omega (arith, b.1, c.0));
            stayed = λ _. regs_of e;
          }
      by (full l o h e) = absurd (not-10 (status_of_lem e))
      by (whole l z h e) =
          record {
            status = status_of_lem e;
            steps = steps_of e;
            done = λ _. regs_of e;
            refused = λ w. let c = of_three w in absurd (omega (arith, c.0));
            stayed = λ w. let c = of_two w in absurd (omega (arith, c.0));
          }
      by (chip l o h e) =
          let b = of_three o in
          record {
            status = status_of_lem e;
            steps = steps_of e;
            done = λ z. absurd (omega (arith, b.0));
            refused = λ _. regs_of e;
            stayed = λ w. let c = of_two w in absurd (omega (arith, b.0, c.1));
          }

  -- ---- what is left where nothing is done

  -- after 3, 4, 5 and 10 the record is wholly as it was, and no step is told
  pub stays_after : OneOf (over op mode y r).status (3 ∷ 4 ∷ 5 ∷ 10 ∷ []) → over op mode y r ≡ stays (over op mode y r).status r
  stays_after o = by case_of
    where
      one : {k : ℕ} → OneOf k (3 ∷ 4 ∷ 5 ∷ 10 ∷ []) → k ≡ 0 → ⊥
      one (inl e) z = omega arith
      one (inr (inl e)) z = omega arith
      one (inr (inr (inl e))) z = omega arith
      one (inr (inr (inr (inl e)))) z = omega arith
      one (inr (inr (inr (inr e)))) z = absurd e

      none : {k : ℕ} → OneOf k (3 ∷ 4 ∷ 5 ∷ 10 ∷ []) → OneOf k (6 ∷ 8 ∷ 9 ∷ []) → ⊥
      none (inl e) w = let b = of_three w in omega (arith, b.0)
      none (inr (inl e)) w = let b = of_three w in omega (arith, b.0)
      none (inr (inr (inl e))) w = let b = of_three w in omega (arith, b.0)
      none (inr (inr (inr (inl e)))) w = let b = of_three w in omega (arith, b.1)
      none (inr (inr (inr (inr e)))) w = absurd e

      same : {k : ℕ} → over op mode y r ≡ stays k r → over op mode y r ≡ stays (over op mode y r).status r
      same e = e ∙ ap (λ (k : ℕ). stays k r) (sym (status_of_lem e))

      by : Case op mode y r → over op mode y r ≡ stays (over op mode y r).status r
      by (other l e) = same e
      by (wrong l w e) = same e
      by (full l w p e) = same e
      by (whole l z p e) = absurd (one o (status_of_lem e ∙ z))
      by (chip l w p e) = absurd (none o (subst (λ (k : ℕ). OneOf k (6 ∷ 8 ∷ 9 ∷ [])) (sym (status_of_lem e)) w))

-- ---- demand 1

module _ (why : Refusal) (op mode y : ℕ) (r : Registers) where
  abbrev q : Raw
  q = request_over op mode y r

  outside : (why : Refusal) → between 1 5 (refusal_status why) ≡ false
  outside ZeroDivisor = refl
  outside TooWide = refl
  outside SignRange = refl

  some : (why : Refusal) → (6 ≤ refusal_status why) × (refusal_status why ≤ 9)
  some ZeroDivisor = (omega arith, omega arith)
  some TooWide = (omega arith, omega arith)
  some SignRange = (omega arith, omega arith)

  is_divide : RefusedDivide why q → is_over op ≡ true
  is_divide d = ap is_over d.op

  left : RefusedDivide why q → r.total + (refusal why q).steps ≤ 4_294_967_295 → over op mode y r ≡ stored (refusal why q) r.ax r.dx (r.total + (refusal why q).steps)
  left d room = by_answer op mode y r (is_divide d) ∙ ap (settled_by op mode r) ((demand_1 why q).1 d) ∙ refused r (refusal why q) _ _ (outside why) room (λ z. let b = some why in omega (arith, b.0, z))

  is_refused_lem : (over op mode y r).status ≡ refusal_status why → RefusedDivide why q × (r.total + (refusal why q).steps ≤ 4_294_967_295)
  is_refused_lem e = by (case_of op mode y r)
    where
      b : (6 ≤ refusal_status why) × (refusal_status why ≤ 9)
      b = some why

      by : Case op mode y r → RefusedDivide why q × (r.total + (refusal why q).steps ≤ 4_294_967_295)
      by (other l c) = absurd (omega (arith, b.0, sym e ∙ status_of_lem op mode y r c))
      by (wrong l o c) = absurd (omega (arith, b.0, (of_two o).1, sym e ∙ status_of_lem op mode y r c))
      by (full l o p c) = absurd (omega (arith, b.1, sym e ∙ status_of_lem op mode y r c))
      by (whole l z p c) = absurd (omega (arith, b.0, sym e ∙ status_of_lem op mode y r c ∙ z))
      by (chip l o p c) =
          let d = (demand_1 why q).0.0 (sym (status_of_lem op mode y r c) ∙ e) in
          (d, subst (λ (a : Answer). r.total + a.steps ≤ 4_294_967_295) ((demand_1 why q).1 d) p)

  -- 6, 8 or 9 exactly for a divide that is refused for that reason and whose steps the total has room for; then its flags are stored and its steps go into
  -- the total, and AX and DX are as they were
  pub demand_1_over : ((over op mode y r).status ≡ refusal_status why ↔ RefusedDivide why q × (r.total + (refusal why q).steps ≤ 4_294_967_295))
      × (RefusedDivide why q → r.total + (refusal why q).steps ≤ 4_294_967_295 → over op mode y r ≡ stored (refusal why q) r.ax r.dx (r.total + (refusal why q).steps))
  demand_1_over = ((is_refused_lem, λ (d, room). ap (λ (o : Settled). o.status) (left d room)), left)

-- ---- the steps

-- those told are the answer's, but 0 after 10: a refused divide tells its own, and after 4 and 5 there are none
pub steps-told : (op mode y : ℕ) (r : Registers) → is_over op ≡ true → (over op mode y r).steps ≡ cond (eqb (over op mode y r).status 10) 0 (asked (request_over op mode y r)).steps
steps-told op mode y r l = by (eqb (over op mode y r).status 10) refl
  where
    by : (k : Bool) → eqb (over op mode y r).status 10 ≡ k → (over op mode y r).steps ≡ cond k 0 (asked (request_over op mode y r)).steps
    by true e = ap (λ (o : Settled). o.steps) (stays_after op mode y r (inr (inr (inr (inl (eqb-true _ 10 e))))))
    by false e = (tied op mode y r l (eqb-false _ 10 e)).steps

-- an op with no step is never 10
pub no_step_no_ten : (op mode y : ℕ) (r : Registers) → r.total ≤ 4_294_967_295 → (asked (request_over op mode y r)).steps ≡ 0 → (over op mode y r).status ≡ 10 → ⊥
no_step_no_ten op mode y r h z e =
    let past : 4_294_967_295 < r.total + (asked (request_over op mode y r)).steps = ltb-true 4_294_967_295 _ ((over_statuses op mode y r 10).0 e).1.1.1 in
    omega arith

-- and 10 is no answer's
pub ten_never_asked : (q : Raw) → (asked q).status ≡ 10 → ⊥
ten_never_asked q e = omega (arith, ((statuses q 10).0 e).1.1.1.1.1.1)
