-- Each view of a value over the numbers of one width as one over n loses nothing, where `value` loses nothing: `number` says that no two
-- numbers of the width stand for the same. Assumes nothing.
use mathlib.Core.Path.{◌≡◌, ap, sym, subst, ◌∙◌}
use Prim.Native.Nat.{ℕ, ◌/◌, ◌%◌, ◌^◌, ◌<◌}
use Rattle.std.specs.Prelude.{Option, Some, None, Ok, Err}
use Rattle.alu.specs.Views.{c, co, coa, stepped}
use Rattle.corx.specs.Views.{halves}
use Rattle.cord.specs.Cord as Cord
use Rattle.cord.specs.declared.Results as Results
use Rattle.cord.specs.Views.{results, cord_outcome, cord_answer}
use Rattle.negate.specs.Views.{negate_of}
use Rattle.idiv.specs.Idiv as Idiv
use Rattle.idiv.specs.declared.PostIdiv as PostIdiv
use Rattle.idiv.specs.Views.{post_outcome, post_answer}
use Rattle.divide.specs.Divide as Divide
use Rattle.divide.specs.declared.div.Refusal.{Refusal}
use Rattle.divide.specs.Views.{outcome, divided}
use lib.Arith.{digits_div, digits_mod}
use Rattle.multiply.specs.Routines.{Multiplied}
use Rattle.multiply.specs.declared.mul.Product as Product
use Rattle.multiply.specs.Views.{product}
use Rattle.tight.proofs.Law.{Faithful}

-- what an outcome that is accepted holds
abbrev cord_results : Cord.Results → Cord.CordOutcome → Cord.Results
cord_results none (Cord.accepted r) = r
cord_results none Cord.refused = none

abbrev IsAccepted : Cord.CordOutcome → Type 0
IsAccepted (Cord.accepted r) = Unit {0}
IsAccepted Cord.refused = ⊥

-- what POSTIDIV's answer holds, and k where it holds none
abbrev post_quotient : ℕ → Idiv.PostAnswer → ℕ
post_quotient k (Idiv.accepted q r t) = q
post_quotient k (Idiv.refused t) = k

abbrev post_remainder : ℕ → Idiv.PostAnswer → ℕ
post_remainder k (Idiv.accepted q r t) = r
post_remainder k (Idiv.refused t) = k

abbrev post_steps : Idiv.PostAnswer → ℕ
post_steps (Idiv.accepted q r t) = t
post_steps (Idiv.refused t) = t

abbrev IsPosted : Idiv.PostAnswer → Type 0
IsPosted (Idiv.accepted q r t) = Unit {0}
IsPosted (Idiv.refused t) = ⊥

-- what a divide's outcome holds
abbrev divide_results : Cord.Results → Divide.DivideOutcome → Cord.Results
divide_results none (Divide.accepted r) = r
divide_results none (Divide.refused why) = none

abbrev divide_refusal : Refusal → Divide.DivideOutcome → Refusal
divide_refusal none (Divide.accepted r) = none
divide_refusal none (Divide.refused why) = why

abbrev IsDivided : Divide.DivideOutcome → Type 0
IsDivided (Divide.accepted r) = Unit {0}
IsDivided (Divide.refused why) = ⊥

module _ {N : Type 0} (value : N → ℕ) (number : Faithful value) where
  pub c_faithful : Faithful (c value)
  c_faithful r s e = let x = number r.result s.result (λ i. (e i).result) in λ i. record { result = x i; carry = (e i).carry }

  pub co_faithful : Faithful (co value)
  co_faithful r s e =
      let x = number r.result s.result (λ i. (e i).result) in
      λ i. record { result = x i; carry = (e i).carry; overflow = (e i).overflow }

  pub coa_faithful : Faithful (coa value)
  coa_faithful r s e =
      let x = number r.result s.result (λ i. (e i).result) in
      λ i. record { result = x i; carry = (e i).carry; overflow = (e i).overflow; aux_carry = (e i).aux_carry }

  pub stepped_faithful : Faithful (stepped value)
  stepped_faithful r s e = let x = number r.value s.value (λ i. (e i).value) in λ i. record { value = x i; carry = (e i).carry }

  pub halves_faithful : Faithful (halves value)
  halves_faithful r s e =
      let a = number r.tmpa s.tmpa (λ i. (e i).tmpa) in
      let c = number r.tmpc s.tmpc (λ i. (e i).tmpc) in
      λ i. record { tmpa = a i; tmpc = c i; steps = (e i).steps }

  pub results_faithful : Faithful (results value)
  results_faithful r s e =
      let q = number r.quotient s.quotient (λ i. (e i).quotient) in
      let m = number r.remainder s.remainder (λ i. (e i).remainder) in
      λ i. record { quotient = q i; remainder = m i }

  pub cord_outcome_faithful : Faithful (cord_outcome value)
  cord_outcome_faithful (Some r) (Some s) e =
      ap (λ (x : Results.Results N). Some x) (results_faithful r s (ap (cord_results (results value r)) e))
  cord_outcome_faithful None None e = λ i. None
  cord_outcome_faithful (Some r) None e = absurd (subst IsAccepted e tt)
  cord_outcome_faithful None (Some s) e = absurd (subst IsAccepted (sym e) tt)

  pub cord_answer_faithful : Faithful (cord_answer value)
  cord_answer_faithful r s e =
      let o = cord_outcome_faithful r.outcome s.outcome (λ i. (e i).outcome) in
      let c = number r.compared s.compared (λ i. (e i).compared) in
      λ i. record {
        outcome = o i;
        carry = (e i).carry;
        compared = c i;
        roads = record { shifted_out = (e i).roads.shifted_out; no_borrow = (e i).roads.no_borrow };
        steps = (e i).steps;
      }

  pub negate_faithful : Faithful (negate_of value)
  negate_faithful r s e =
      let a = number r.tmpa s.tmpa (λ i. (e i).tmpa) in
      let b = number r.tmpb s.tmpb (λ i. (e i).tmpb) in
      let c = number r.tmpc s.tmpc (λ i. (e i).tmpc) in
      λ i. record { tmpa = a i; tmpb = b i; tmpc = c i; carry = (e i).carry; neg_flag = (e i).neg_flag; steps = (e i).steps }

  pub post_answer_faithful : Faithful (post_answer value)
  post_answer_faithful r s e = by r.outcome s.outcome e
    where
      by : (o p : Option (Results.Results N)) → post_outcome value o r.steps ≡ post_outcome value p s.steps
          → ◌≡◌ {A = PostIdiv.PostIdiv N} (record { outcome = o; steps = r.steps }) (record { outcome = p; steps = s.steps })
      by (Some x) (Some y) e =
          let q = number x.quotient y.quotient (ap (post_quotient 0) e) in
          let m = number x.remainder y.remainder (ap (post_remainder 0) e) in
          λ i. record { outcome = Some (record { quotient = q i; remainder = m i }); steps = post_steps (e i) }
      by None None e = λ i. record { outcome = None; steps = post_steps (e i) }
      by (Some x) None e = absurd (subst IsPosted e tt)
      by None (Some y) e = absurd (subst IsPosted (sym e) tt)

  pub outcome_faithful : Faithful (outcome value)
  outcome_faithful (Ok r) (Ok s) e =
      ap (λ (x : Results.Results N). Ok x) (results_faithful r s (ap (divide_results (results value r)) e))
  outcome_faithful (Err r) (Err s) e = ap (λ (x : Refusal). Err x) (ap (divide_refusal r) e)
  outcome_faithful (Ok r) (Err why) e = absurd (subst IsDivided e tt)
  outcome_faithful (Err why) (Ok s) e = absurd (subst IsDivided (sym e) tt)

  pub divided_faithful : Faithful (divided value)
  divided_faithful r s e =
      let o = outcome_faithful r.outcome s.outcome (λ i. (e i).outcome) in
      λ i. record {
        outcome = o i;
        flags = (e i).flags;
        roads = record { shifted_out = (e i).roads.shifted_out; no_borrow = (e i).roads.no_borrow };
        steps = (e i).steps;
      }

  -- the halves are read back from a product whose lower half is below 2 ^ n
  pub product_tight : (n : ℕ) (r s : Product.Product N) → value r.lower < 2 ^ n → value s.lower < 2 ^ n → product n value r ≡ product n value s → r ≡ s
  product_tight n r s b c e =
      let both = ap (λ (m : Multiplied). m.product) e in
      let high = sym (digits_div (value r.upper) b) ∙ ap (λ (p : ℕ). p / 2 ^ n) both ∙ digits_div (value s.upper) c in
      let low = sym (digits_mod (value r.upper) b) ∙ ap (λ (p : ℕ). p % 2 ^ n) both ∙ digits_mod (value s.upper) c in
      let u = number r.upper s.upper high in
      let l = number r.lower s.lower low in
      λ i. record { upper = u i; lower = l i; flags = (e i).flags; steps = (e i).steps }
