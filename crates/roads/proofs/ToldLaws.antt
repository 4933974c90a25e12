-- What is told of a divide at the width n: the status of its refusal with no roads, or the roads of CORD's walk over the magnitudes. Assumes
-- nothing.
use mathlib.Core.{Path.◌≡◌, Path.refl, Path.sym, Path.ap, Path.◌∙◌, Bool.Bool, Bool.true, Bool.false, Bool.not, Bool.cond, Bool.◌||◌, Bool.false≢true}
use mathlib.Core.{List.[], List.◌∷◌}
use Prim.Native.Nat.{ℕ, ◌+◌, ◌/◌, ◌^◌, ◌<◌}
use native.Mathlib.{Omega.arith}
use borrow.Author.Tests.{ltb-true, ltb-false, le-leb, lt-leb, eq-eqb, ne_eqb}
use lib.Dec.{leb, ltb}
use Rattle.cord.specs.Cord.{cord}
use Rattle.divide.specs.Divide.{accepts, applies, refusal_of, dividend_of, divisor_of, at_first, accepted_roads, divide}
use Rattle.divide.specs.declared.div.Refusal.{Refusal}
use Rattle.divide.specs.declared.div.Refusal.TheVariants.{ZeroDivisor, TooWide, SignRange}
use Rattle.divide.proofs.{DivLaws.compared_first, DivLaws.first_refusal_lem, DivLaws.later_refusal, DivLaws.known, Refusals.three_cover}
use Rattle.answer.specs.Charted.{refusal_status}
use Rattle.std.specs.declared.result.Result.{Result}
use Rattle.std.specs.declared.result.Result.TheVariants.{Ok, Err}
use Rattle.roads.specs.Told.{Tallied, tallied, listed, judged_by, told_by}

told_status : {t u : Tallied} → t ≡ u → t.status ≡ u.status
told_status e = ap (λ (w : Tallied). w.status) e

-- no refusal has status 0
never_zero : (why : Refusal) → refusal_status why ≡ 0 → ⊥
never_zero ZeroDivisor e = omega arith
never_zero TooWide e = omega arith
never_zero SignRange e = omega arith

module _ (n : ℕ) (s : Bool) (d b : ℕ) where
  -- an accepted divide has status 0 and its roads
  accepted_told : accepts n s d b ≡ true → told_by n s d b ≡ tallied 0 (listed (accepted_roads n s d b))
  unfolding divide
  accepted_told e = rw e

  -- a refused one has the status of its reason and no roads
  refused-told : accepts n s d b ≡ false → told_by n s d b ≡ tallied (refusal_status (refusal_of n s d b)) (0 ∷ 0 ∷ [])
  unfolding divide
  refused-told e = rw e

  -- ---- the status, from the comparison that refuses

  module _ {t : Bool} (e : t ≡ not (accepts n s d b)) where
    -- a divide is accepted where the comparison does not refuse
    accepts_is : accepts n s d b ≡ not t
    accepts_is = by (accepts n s d b) ∙ ap not (sym e)
      where
        by : (x : Bool) → x ≡ not (not x)
        by true = refl
        by false = refl

    pub status_accepted : not t ≡ true → 0 ≡ (told_by n s d b).status
    status_accepted h = told_status (sym (accepted_told (accepts_is ∙ h)))

    pub status_refused : not t ≡ false → {why : Refusal} → why ≡ refusal_of n s d b → refusal_status why ≡ (told_by n s d b).status
    status_refused h ew = ap refusal_status ew ∙ told_status (sym (refused-told (accepts_is ∙ h)))

  -- a divisor of 0 is the reason, whatever the dividend
  pub zero_refused : b ≡ 0 → ZeroDivisor ≡ refusal_of n s d b
  unfolding refusal_of
  zero_refused h = rw (eq-eqb b 0 h)

  -- another status than 0 is told with no roads
  pub told-refused : {k : ℕ} → k ≡ (told_by n s d b).status → (k ≡ 0 → ⊥) → tallied k (0 ∷ 0 ∷ []) ≡ told_by n s d b
  told-refused {k} e h = by (accepts n s d b) refl
    where
      by : (x : Bool) → accepts n s d b ≡ x → tallied k (0 ∷ 0 ∷ []) ≡ told_by n s d b
      by true x = absurd (h (e ∙ told_status (accepted_told x)))
      by false x = ap (λ (j : ℕ). tallied j (0 ∷ 0 ∷ [])) (e ∙ told_status (refused-told x)) ∙ sym (refused-told x)

-- ---- whether the chip refuses, and why

-- the reason of a refusal
abbrev reason : Refusal → Result Unit Refusal → Refusal
reason other (Ok u) = other
reason other (Err why) = why

abbrev refuses : Result Unit Refusal → Bool
refuses (Ok u) = false
refuses (Err why) = true

-- accepted or not
abbrev either : Bool → Refusal → Result Unit Refusal
either accepted why = cond accepted (Ok tt) (Err why)

-- the chip refuses for a reason, which is told with no roads
pub judged_refused : (n : ℕ) (s : Bool) (d b : ℕ) {why : Refusal} → Err why ≡ judged_by n s d b → tallied (refusal_status why) (0 ∷ 0 ∷ []) ≡ told_by n s d b
judged_refused n s d b {why} e = by (accepts n s d b) refl e
  where
    by : (x : Bool) → accepts n s d b ≡ x → Err why ≡ either x (refusal_of n s d b) → tallied (refusal_status why) (0 ∷ 0 ∷ []) ≡ told_by n s d b
    by true x e = absurd (false≢true (sym (ap refuses e)))
    by false x e = ap (λ (w : Refusal). tallied (refusal_status w) (0 ∷ 0 ∷ [])) (ap (reason why) e) ∙ sym (refused-told n s d b x)

-- the chip accepts, and the status is 0
judged_accepted : (n : ℕ) (s : Bool) (d b : ℕ) → Ok tt ≡ judged_by n s d b → 0 ≡ (told_by n s d b).status
judged_accepted n s d b e = by (accepts n s d b) refl e
  where
    by : (x : Bool) → accepts n s d b ≡ x → Ok tt ≡ either x (refusal_of n s d b) → 0 ≡ (told_by n s d b).status
    by true x e = told_status (sym (accepted_told n s d b x))
    by false x e = absurd (false≢true (ap refuses e))

-- the comparison of magnitudes with no sign is CORD's first compare
first_compare : (x y : ℕ) → not (ltb x y) ≡ leb y x
first_compare x y = by (ltb x y) refl
  where
    by : (t : Bool) → ltb x y ≡ t → not t ≡ leb y x
    by true e = sym (lt-leb y x (ltb-true x y e))
    by false e = sym (le-leb y x (ltb-false x y e))

module _ (n : ℕ) (s : Bool) (d b : ℕ) (hn : 0 < n) (hd : d < 2 ^ (n + n)) (hb : b < 2 ^ n) where
  -- ---- the reason, if the divisor is not 0, from that comparison

  module _ {whole tmpb : ℕ} {t : Bool} (ew : whole ≡ dividend_of n s d) (eb : tmpb ≡ divisor_of n s b) (e : t ≡ not (accepts n false whole tmpb)) where
    at_first_lem : at_first n s d b ≡ t
    at_first_lem = sym (e ∙ first_compare (whole / 2 ^ n) tmpb ∙ λ i. leb (eb i) (ew i / 2 ^ n))

    pub wide_refused : (b ≡ 0 → ⊥) → t ≡ true → TooWide ≡ refusal_of n s d b
    wide_refused z h = ap (λ (x : Bool). cond x ZeroDivisor TooWide) (sym (ne_eqb b 0 z)) ∙ first_refusal_lem n s d b (known n s d b hn hd hb) (at_first_lem ∙ h)

    pub range_refused : t ≡ false → SignRange ≡ refusal_of n s d b
    range_refused h = later_refusal n s d b (known n s d b hn hd hb) (at_first_lem ∙ h)

  -- ---- the roads, from CORD's walk

  -- CORD accepts every divide that is accepted
  passed : accepts n s d b ≡ true → at_first n s d b ≡ false
  passed e = by (at_first n s d b) refl
    where
      covered : not (accepts n s d b) ≡ at_first n s d b || applies SignRange n s d b
      covered = three_cover n s d b hn ∙ ap (λ (x : Bool). x || applies SignRange n s d b) (sym (compared_first n s d b (known n s d b hn hd hb)))

      by : (x : Bool) → at_first n s d b ≡ x → x ≡ false
      by true x = absurd (false≢true (ap not (sym e) ∙ covered ∙ ap (λ (y : Bool). y || applies SignRange n s d b) x))
      by false x = refl

  -- status 0 is told with the roads of CORD's walk
  pub told_accepted : {k : ℕ} → k ≡ (told_by n s d b).status → k ≡ 0 → {whole tmpb : ℕ} → whole ≡ dividend_of n s d → tmpb ≡ divisor_of n s b
      → tallied 0 (listed (cord n tmpb whole 0).roads) ≡ told_by n s d b
  unfolding cord
  told_accepted e h ew eb = (λ i. tallied 0 (listed (cord n (eb i) (ew i) 0).roads)) ∙ by (accepts n s d b) refl
    where
      by : (x : Bool) → accepts n s d b ≡ x → tallied 0 (listed (cord n (divisor_of n s b) (dividend_of n s d) 0).roads) ≡ told_by n s d b
      by true x = rw (passed x) (sym (accepted_told n s d b x))
      by false x = absurd (never_zero (refusal_of n s d b) (told_status (sym (refused-told n s d b x)) ∙ sym e ∙ h))

  -- an accepted divide is told with the roads of CORD's walk
  pub judged_walked : Ok tt ≡ judged_by n s d b → {whole tmpb : ℕ} → whole ≡ dividend_of n s d → tmpb ≡ divisor_of n s b → tallied 0 (listed (cord n tmpb whole 0).roads) ≡ told_by n s d b
  judged_walked e = told_accepted (judged_accepted n s d b e) refl
