-- Why a divide is refused, over the width n: each reason exactly when it applies; they rule each other out and cover all refusals; REP changes
-- none; the first compare refuses for the first two. Assumes nothing.
use mathlib.Core.Path.{◌≡◌, refl, sym, ap, subst, ◌∙◌}
use mathlib.Core.Bool.{Bool, true, false, not, cond, ◌&&◌, ◌||◌, and-eq-true_iff, false≢true, true≢false}
use mathlib.Core.Logic.{◌⊎◌, inl, inr, ◌↔◌}
use Prim.Native.Nat.{ℕ, ◌+◌, ◌/◌, ◌^◌, ◌≤◌, ◌<◌}
use native.Mathlib.Omega.{arith}
use lib.{Dec.ltb, Dec.eqb, IntN.ℤ, IntN.nat_abs}
use borrow.Author.Tests.{ne_eqb, not-true}
use Rattle.numbers.specs.Numbers.{top, valued}
use Rattle.flags.specs.declared.word.Flags.{Flags}
use Rattle.cord.specs.Cord.{no_roads}
use Rattle.divide.specs.Divide.{Divided, accepted, refused, accepts, too_wide, sign_range, applies, refusal_of, quotient_of, at_first, refused_steps, refused_flags, results_of, divide}
use Rattle.divide.specs.{Manual.Division, Manual.is_refused, declared.div.Refusal.Refusal}
use Rattle.divide.specs.declared.div.Refusal.TheVariants.{ZeroDivisor, TooWide, SignRange}
use Rattle.divide.proofs.Borders.{true_wide, wide_true, true_range, range_true, wide_or_range, wide_unfit}
use Rattle.divide.proofs.{DivLaws.compared_first, DivLaws.refused_is, DivLaws.known, Manual.quotient_fits, Answers.not_by_zero, Answers.quotient_is}

-- the first compare refuses for the first two reasons, and for no other
pub first_two : (n : ℕ) (s : Bool) (d b : ℕ) → 0 < n → d < 2 ^ (n + n) → b < 2 ^ n → at_first n s d b ≡ applies ZeroDivisor n s d b || applies TooWide n s d b
first_two n s d b hn hd hb = compared_first n s d b (known n s d b hn hd hb)

not_zero_lem : (b : ℕ) → eqb b 0 ≡ true → not (eqb b 0) ≡ true → ⊥
not_zero_lem b e f = true≢false (sym e ∙ not-true (eqb b 0) f)

module _ (n : ℕ) (s : Bool) (d b : ℕ) where
  -- the quotient's magnitude
  abbrev far : ℕ
  far = nat_abs (quotient_of n s d b)

  wide_is : applies TooWide n s d b ≡ true → (not (eqb b 0) ≡ true) × (too_wide n far ≡ true)
  wide_is = (and-eq-true_iff (not (eqb b 0)) (too_wide n far)).0

  range_is : applies SignRange n s d b ≡ true → (s ≡ true) × (not (eqb b 0) ≡ true) × (sign_range n far ≡ true)
  range_is e =
      let h = (and-eq-true_iff (s && not (eqb b 0)) (sign_range n far)).0 e in
      let g = (and-eq-true_iff s (not (eqb b 0))).0 h.0 in
      (g.0, g.1, h.1)

  apart : too_wide n far ≡ true → sign_range n far ≡ true → ⊥
  apart wide range = omega (arith, wide_true n far wide, (range_true n far range).1)

  -- two reasons do not apply at once
  pub one_alone : (v w : Refusal) → applies v n s d b ≡ true → applies w n s d b ≡ true → v ≡ w
  one_alone ZeroDivisor ZeroDivisor e f = refl
  one_alone ZeroDivisor TooWide e f = absurd (not_zero_lem b e (wide_is f).0)
  one_alone ZeroDivisor SignRange e f = absurd (not_zero_lem b e (range_is f).1)
  one_alone TooWide ZeroDivisor e f = absurd (not_zero_lem b f (wide_is e).0)
  one_alone TooWide TooWide e f = refl
  one_alone TooWide SignRange e f = absurd (apart (wide_is e).1 (range_is f).2)
  one_alone SignRange ZeroDivisor e f = absurd (not_zero_lem b f (range_is e).1)
  one_alone SignRange TooWide e f = absurd (apart (wide_is f).1 (range_is e).2)
  one_alone SignRange SignRange e f = refl

-- a divide is refused, exactly as before there were three reasons, where one of them applies
pub three_cover : (n : ℕ) (s : Bool) (d b : ℕ) → 0 < n → not (accepts n s d b) ≡ applies ZeroDivisor n s d b || applies TooWide n s d b || applies SignRange n s d b
three_cover n true d b hn = by (eqb b 0)
  where
    q : ℕ
    q = nat_abs (quotient_of n true d b)

    by : (z : Bool) → not (not z && ltb q (top n)) ≡ z || not z && too_wide n q || true && not z && sign_range n q
    by true = refl
    by false = wide_or_range n q hn
three_cover n false d b hn = ap not (quotient_fits n d b) ∙ by (eqb b 0) (ltb (d / b) (2 ^ n)) ∙ ap (λ (x : Bool). eqb b 0 || not (eqb b 0) && x || false) (wide_unfit n (d / b))
  where
    by : (z x : Bool) → not (not z && x) ≡ z || not z && not x || false
    by true x = refl
    by false true = refl
    by false false = refl

accepted_outcome : (n : ℕ) (s rep : Bool) (d b : ℕ) (f : Flags) → accepts n s d b ≡ true → (divide n s rep d b f).outcome ≡ accepted (results_of n s rep d b)
unfolding divide
accepted_outcome n s rep d b f e = rw e

module _ (n : ℕ) (s : Bool) (d b : ℕ) (hn : 0 < n) where
  -- what is told of a refused divide applies to it
  told-applies : accepts n s d b ≡ false → applies (refusal_of n s d b) n s d b ≡ true
  unfolding refusal_of
  told-applies e = by (applies ZeroDivisor n s d b) (applies TooWide n s d b) refl refl (sym (three_cover n s d b hn) ∙ ap not e)
    where
      by : (z w : Bool) → applies ZeroDivisor n s d b ≡ z → applies TooWide n s d b ≡ w → z || w || applies SignRange n s d b ≡ true
          → applies (cond z ZeroDivisor (cond w TooWide SignRange)) n s d b ≡ true
      by true w ez ew h = ez
      by false true ez ew h = ew
      by false false ez ew h = h

  -- to none that is accepted does a reason apply
  not_accepted : (why : Refusal) → applies why n s d b ≡ true → accepts n s d b ≡ false
  not_accepted why e = not-true (accepts n s d b) (three_cover n s d b hn ∙ one why e)
    where
      second : (z w r : Bool) → w ≡ true → z || w || r ≡ true
      second true w r e = refl
      second false true r e = refl
      second false false r e = absurd (false≢true e)

      third : (z w r : Bool) → r ≡ true → z || w || r ≡ true
      third true w r e = refl
      third false true r e = refl
      third false false r e = e

      one : (why : Refusal) → applies why n s d b ≡ true → applies ZeroDivisor n s d b || applies TooWide n s d b || applies SignRange n s d b ≡ true
      one ZeroDivisor e = rw e
      one TooWide e = second (applies ZeroDivisor n s d b) (applies TooWide n s d b) (applies SignRange n s d b) e
      one SignRange e = third (applies ZeroDivisor n s d b) (applies TooWide n s d b) (applies SignRange n s d b) e

  -- the order in which the three are tested cannot be seen
  pub any_order : (u v w : Refusal) → ((why : Refusal) → (why ≡ u) ⊎ (why ≡ v) ⊎ (why ≡ w)) → accepts n s d b ≡ false
      → cond (applies u n s d b) u (cond (applies v n s d b) v w) ≡ refusal_of n s d b
  any_order u v w all e = by (applies u n s d b) (applies v n s d b) refl refl (all (refusal_of n s d b))
    where
      told : applies (refusal_of n s d b) n s d b ≡ true
      told = told-applies e

      -- what is told is none that does not apply
      none : {v : Refusal} → refusal_of n s d b ≡ v → applies v n s d b ≡ false → ⊥
      none p f = true≢false (sym told ∙ ap (λ (x : Refusal). applies x n s d b) p ∙ f)

      by : (x y : Bool) → applies u n s d b ≡ x → applies v n s d b ≡ y → (refusal_of n s d b ≡ u) ⊎ (refusal_of n s d b ≡ v) ⊎ (refusal_of n s d b ≡ w)
          → cond x u (cond y v w) ≡ refusal_of n s d b
      by true y ex ey h = one_alone n s d b u (refusal_of n s d b) ex told
      by false true ex ey h = one_alone n s d b v (refusal_of n s d b) ey told
      by false false ex ey (inl p) = absurd (none p ex)
      by false false ex ey (inr (inl p)) = absurd (none p ey)
      by false false ex ey (inr (inr p)) = sym p

  module _ (f : Flags) (rep : Bool) where
    -- the whole answer where a reason applies
    pub refused-whole : (why : Refusal) → applies why n s d b ≡ true
        → divide n s rep d b f ≡ record { outcome = refused why; flags = refused_flags n s d b f; roads = no_roads; steps = refused_steps n s d b }
    refused-whole why e =
        let no = not_accepted why e in
        sym (refused_is n s d b rep f no (one_alone n s d b why (refusal_of n s d b) e (told-applies no)) refl refl)

    -- the outcome, reason by reason in their order
    pub by_reason_lem : (divide n s rep d b f).outcome
        ≡ cond (applies ZeroDivisor n s d b) (refused ZeroDivisor)
        (cond (applies TooWide n s d b) (refused TooWide) (cond (applies SignRange n s d b) (refused SignRange) (accepted (results_of n s rep d b))))
    by_reason_lem =
        by (applies ZeroDivisor n s d b) (applies TooWide n s d b) (applies SignRange n s d b) (accepts n s d b) refl refl refl refl (three_cover n s d b hn)
      where
        outcome : (why : Refusal) → applies why n s d b ≡ true → (divide n s rep d b f).outcome ≡ refused why
        outcome why e = ap (λ (a : Divided). a.outcome) (refused-whole why e)

        by : (z w r c : Bool) → applies ZeroDivisor n s d b ≡ z → applies TooWide n s d b ≡ w → applies SignRange n s d b ≡ r → accepts n s d b ≡ c → not c ≡ z || w || r
            → (divide n s rep d b f).outcome ≡ cond z (refused ZeroDivisor) (cond w (refused TooWide) (cond r (refused SignRange) (accepted (results_of n s rep d b))))
        by true w r c ez ew er ec h = outcome ZeroDivisor ez
        by false true r c ez ew er ec h = outcome TooWide ew
        by false false true c ez ew er ec h = outcome SignRange er
        by false false false true ez ew er ec h = accepted_outcome n s rep d b f ec
        by false false false false ez ew er ec h = absurd (true≢false h)

    -- refused for a reason exactly if it applies, whatever the flags, REP or not
    pub refused_for_lem : (why : Refusal) → (divide n s rep d b f).outcome ≡ refused why ↔ applies why n s d b ≡ true
    refused_for_lem why = (to (accepts n s d b) refl, λ e. ap (λ (a : Divided). a.outcome) (refused-whole why e))
      where
        to : (c : Bool) → accepts n s d b ≡ c → (divide n s rep d b f).outcome ≡ refused why → applies why n s d b ≡ true
        to true e h = absurd (false≢true (ap is_refused (sym (accepted_outcome n s rep d b f e) ∙ h)))
        to false e h =
            let told = told-applies e in
            let both : refused (refusal_of n s d b) ≡ refused why = sym (ap (λ (a : Divided). a.outcome) (refused-whole (refusal_of n s d b) told)) ∙ h in
            let same : refusal_of n s d b ≡ why = cc in
            subst (λ (w : Refusal). applies w n s d b ≡ true) same told

-- REP changes nothing of a refusal
pub rep_refuses_alike : (n : ℕ) (s : Bool) (d b : ℕ) → 0 < n → (f : Flags) (rep other : Bool) (why : Refusal)
    → (divide n s rep d b f).outcome ≡ refused why → divide n s other d b f ≡ divide n s rep d b f
rep_refuses_alike n s d b hn f rep other why h =
    let e = (refused_for_lem n s d b hn f rep why).0 h in
    refused-whole n s d b hn f other why e ∙ sym (refused-whole n s d b hn f rep why e)

-- an unsigned divide is never refused for sign range
pub never_unsigned : (n d b : ℕ) → 0 < n → (f : Flags) (rep : Bool) → (divide n false rep d b f).outcome ≡ refused SignRange → ⊥
never_unsigned n d b hn f rep h = false≢true ((refused_for_lem n false d b hn f rep SignRange).0 h)

-- in the manual's own words: where there is a division, the quotient's magnitude tells why it is refused
module _ (n : ℕ) (s : Bool) (d b : ℕ) (hn : 0 < n) (f : Flags) (rep : Bool) {q r : ℤ} (h : Division (valued s (n + n) d) (valued s n b) q r) where
  there : eqb b 0 ≡ false
  there = ne_eqb b 0 (not_by_zero n s d b h)

  far_is : nat_abs (quotient_of n s d b) ≡ nat_abs q
  far_is = ap nat_abs (quotient_is n s d b h)

  pub division_too_wide : (divide n s rep d b f).outcome ≡ refused TooWide ↔ 2 ^ n ≤ nat_abs q
  division_too_wide =
      let told = refused_for_lem n s d b hn f rep TooWide in
      (λ e. omega (arith, far_is, wide_true n _ (wide_is n s d b (told.0 e)).1), λ l. told.1 (rw (there, far_is, true_wide n (nat_abs q) l)))

  pub division_sign_range : (divide n s rep d b f).outcome ≡ refused SignRange ↔ (s ≡ true) × (top n ≤ nat_abs q) × (nat_abs q < 2 ^ n)
  division_sign_range =
      let told = refused_for_lem n s d b hn f rep SignRange in (
        λ e. let range = range_is n s d b (told.0 e) in let ends = range_true n (nat_abs (quotient_of n s d b)) range.2 in (range.0, omega (arith, far_is, ends.0), omega (arith, far_is, ends.1)),
        λ k. told.1 (rw (far_is, there, k.0, true_range n (nat_abs q) k.1 k.2)),
      )
