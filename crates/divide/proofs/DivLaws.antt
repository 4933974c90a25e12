-- Divide over the width n: what CORD, PREIDIV and POSTIDIV answer makes up the manual's quotient, remainder and refusals, and the chart's
-- flags and steps. Assumes nothing.
use mathlib.Core.Path.{◌≡◌, refl, sym, ap, ap₂, subst, ◌∙◌}
use mathlib.Core.Bool.{Bool, true, false, not, cond, xor, ◌&&◌, ◌||◌, false≢true, true≢false}
use mathlib.Core.Logic.{◌⊎◌, inl, inr, ⊎_elim}
use Prim.Native.Nat.{ℕ, zero, suc, ◌+◌, ◌-◌, ◌*◌, ◌/◌, ◌%◌, ◌^◌, ◌≤◌, ◌<◌}
use native.Mathlib.{Nat.mod-lt, Nat.mod-eq_of_lt, Nat.div-lt_iff_lt-mul, Nat.div-add-mod', Nat.mul_comm, Omega.arith}
use lib.{Dec.leb, Dec.ltb, Dec.eqb, IntN.ℤ, IntN.neg_ℤ, IntN.nat_abs, Pow.pow_pos, Signed.quot_z, Signed.rem_z}
use borrow.Author.Tests.{leb-true, leb-false, ltb-true, le-leb, lt-leb, lt-ltb, le-ltb, eq-eqb, ne_eqb}
use Rattle.numbers.specs.Numbers.{top, top_set, wrapped}
use Rattle.flags.specs.{Word.set_co, declared.word.Flags.Flags}
use Rattle.numbers.proofs.Powers.{top_twice}
use Rattle.numbers.proofs.SignLaws.{sign_of, plain, signed_by, abs_sign, quot_sign, rem_sign, wrapped-sign, plain_lt, plain_by, magnitude-plain, neg_once_more, xor_assoc, top_upper}
use Rattle.negate.specs.Negate.{Pair, Negate}
use Rattle.cord.proofs.CordLaws.{most_ones}
use Rattle.divide.proofs.Borders.{wide_true, wide_false}
use Rattle.cord.specs.Cord as Cord
use Rattle.cord.specs.Cord.{Results, CordAnswer, roads_of, no_roads, last_compare, cord_steps, cord_refused, cord_accepted, cord}
use Rattle.idiv.specs.Idiv as Idiv
use Rattle.idiv.specs.Idiv.{pre_idiv, with_sign, post_idiv}
use Rattle.divide.specs.Flags.{compare_flags}
use Rattle.divide.specs.Divide.{Divided, accepted, refused, accepts, too_wide, applies, refusal_of, quotient_of, remainder_of, dividend_of, divisor_of, at_first, pre_steps, accepted_steps, refused_steps, accepted_flags, refused_flags, divide}
use Rattle.divide.specs.{Finish.first_refusal, Finish.finished, declared.div.Refusal.Refusal}
use Rattle.divide.specs.declared.div.Refusal.TheVariants.{ZeroDivisor, TooWide, SignRange}

-- a quotient is below m where the dividend's part above m is below the divisor; m and b exchanged, the other way round
pub below : (d b m : ℕ) → 0 < m → d / m < b → d / b < m
below d b m hm h = let hb : 0 < b = omega arith in (div-lt_iff_lt-mul hb).1 (subst (λ (x : ℕ). d < x) (mul_comm b m) ((div-lt_iff_lt-mul hm).0 h))

-- a signed divisor's magnitude is at most half the range
pub divisor_half : (n b : ℕ) → 0 < n → b < 2 ^ n → divisor_of n true b * 2 ≤ 2 ^ n
divisor_half n b hn hb = omega (arith, magnitude-plain n b hb, plain_lt n b hn hb, top_twice n hn)

-- ---- what CORD's answer tells

-- of a divide that it accepts
pub record AcceptedBy (n b d before : ℕ) (a : CordAnswer) (r : Results) : Type 0 where
  pub passed : d / 2 ^ n < b
  pub quotient : r.quotient ≡ d / b
  pub remainder : r.remainder ≡ d % b
  pub carry : a.carry ≡ ltb (d / b) (top n)
  pub compared : a.compared ≡ last_compare n b n d
  pub roads : a.roads ≡ roads_of n b d
  pub steps : a.steps ≡ before + cord_steps n b d

-- of one that it refuses
pub record RefusedBy (n b d before : ℕ) (a : CordAnswer) : Type 0 where
  pub first : b ≤ d / 2 ^ n
  pub carry : a.carry ≡ false
  pub compared : a.compared ≡ d / 2 ^ n
  pub steps : a.steps ≡ before + 4

module _ (n b d before : ℕ) {a : CordAnswer} where
  pub when_accepted : a ≡ cord n b d before → {r : Results} → a.outcome ≡ Cord.accepted r → AcceptedBy n b d before a r
  unfolding cord
  when_accepted e {r} h = by (leb b (d / 2 ^ n)) refl e
    where
      by : (x : Bool) → leb b (d / 2 ^ n) ≡ x → a ≡ cond x (cord_refused n d before) (cord_accepted n b d before) → AcceptedBy n b d before a r
      by true x e =
          let differ : Cord.refused ≡ Cord.accepted r = sym (ap (λ (w : CordAnswer). w.outcome) e) ∙ h in
          let z : ◌≡◌ {A = ℕ} 0 1 = cc in
          absurd (omega arith)
      by false x e =
          let both : Cord.accepted (record { quotient = d / b; remainder = d % b }) ≡ Cord.accepted r = sym (ap (λ (w : CordAnswer). w.outcome) e) ∙ h in
          let results : r ≡ record { quotient = d / b; remainder = d % b } = cc in
          record {
            passed = leb-false b (d / 2 ^ n) x;
            quotient = ap (λ (w : Results). w.quotient) results;
            remainder = ap (λ (w : Results). w.remainder) results;
            carry = ap (λ (w : CordAnswer). w.carry) e;
            compared = ap (λ (w : CordAnswer). w.compared) e;
            roads = ap (λ (w : CordAnswer). w.roads) e;
            steps = ap (λ (w : CordAnswer). w.steps) e;
          }

  pub when_refused : a ≡ cord n b d before → a.outcome ≡ Cord.refused → RefusedBy n b d before a
  unfolding cord
  when_refused e h = by (leb b (d / 2 ^ n)) refl e
    where
      by : (x : Bool) → leb b (d / 2 ^ n) ≡ x → a ≡ cond x (cord_refused n d before) (cord_accepted n b d before) → RefusedBy n b d before a
      by true x e =
          record {
            first = leb-true b (d / 2 ^ n) x;
            carry = ap (λ (w : CordAnswer). w.carry) e;
            compared = ap (λ (w : CordAnswer). w.compared) e;
            steps = ap (λ (w : CordAnswer). w.steps) e;
          }
      by false x e =
          let differ : Cord.accepted (record { quotient = d / b; remainder = d % b }) ≡ Cord.refused = sym (ap (λ (w : CordAnswer). w.outcome) e) ∙ h in
          let z : ◌≡◌ {A = ℕ} 0 1 = cc in
          absurd (omega arith)

  -- and its steps are few
  pub few_steps : n ≤ 16 → a ≡ cord n b d before → {r : Results} → a.outcome ≡ Cord.accepted r → a.steps ≤ before + 152
  few_steps hn e h = omega (arith, (when_accepted e h).steps, most_ones n b n d)

-- ---- refusals

-- the upper half is at least the divisor, where that is not 0, exactly if the quotient is too wide
wide_first : (n d b : ℕ) → 0 < b → leb b (d / 2 ^ n) ≡ too_wide n (d / b)
wide_first n d b hb = by (leb b (d / 2 ^ n)) (too_wide n (d / b)) refl refl
  where
    by : (x y : Bool) → leb b (d / 2 ^ n) ≡ x → too_wide n (d / b) ≡ y → x ≡ y
    by true true e f = refl
    by false false e f = refl
    by true false e f = absurd (omega (arith, leb-true b (d / 2 ^ n) e, below d (2 ^ n) b hb (wide_false n (d / b) f)))
    by false true e f = absurd (omega (arith, wide_true n (d / b) f, below d b (2 ^ n) (pow_pos n) (leb-false b (d / 2 ^ n) e)))

module _ (n : ℕ) (s : Bool) (d b : ℕ) where
  -- what is known of the operands: the divisor's magnitude is 0 where it is 0, and else the quotient's is that of the magnitudes
  abbrev pub ByMagnitudes : Type 0
  ByMagnitudes = ((eqb b 0 ≡ true) × (divisor_of n s b ≡ 0))
      ⊎ ((eqb b 0 ≡ false) × (0 < divisor_of n s b) × (nat_abs (quotient_of n s d b) ≡ dividend_of n s d / divisor_of n s b))

  -- the first compare is that of the first two reasons
  pub compared_first : ByMagnitudes → at_first n s d b ≡ applies ZeroDivisor n s d b || applies TooWide n s d b
  compared_first (inl (z, m)) = rw (z, m) (le-leb 0 (dividend_of n s d / 2 ^ n) (omega arith))
  compared_first (inr (z, m, q)) = rw (z, q) (wide_first n (dividend_of n s d) (divisor_of n s b) m)

  module _ (known : ByMagnitudes) where
    pub first_refusal_lem : at_first n s d b ≡ true → first_refusal b ≡ refusal_of n s d b
    unfolding refusal_of
    first_refusal_lem e = by (eqb b 0) (too_wide n (nat_abs (quotient_of n s d b))) (sym (compared_first known) ∙ e)
      where
        by : (z w : Bool) → z || (not z && w) ≡ true → cond z ZeroDivisor TooWide ≡ cond z ZeroDivisor (cond (not z && w) TooWide SignRange)
        by true w e = refl
        by false true e = refl
        by false false e = absurd (false≢true e)

    pub later_refusal : at_first n s d b ≡ false → SignRange ≡ refusal_of n s d b
    unfolding refusal_of
    later_refusal e = by (eqb b 0) (too_wide n (nat_abs (quotient_of n s d b))) (sym (compared_first known) ∙ e)
      where
        by : (z w : Bool) → z || (not z && w) ≡ false → SignRange ≡ cond z ZeroDivisor (cond (not z && w) TooWide SignRange)
        by true w e = absurd (true≢false e)
        by false true e = absurd (true≢false e)
        by false false e = refl

  -- the flags, from the sides and the C of the compare that was made: the first, or the last
  module _ (f : Flags) {left right : ℕ} {carry : Bool} (er : right ≡ divisor_of n s b) (ec : carry ≡ false) where
    pub first_flags : at_first n s d b ≡ true → left ≡ dividend_of n s d / 2 ^ n → compare_flags n left right carry f ≡ refused_flags n s d b f
    first_flags e el = rw e (λ i. compare_flags n (el i) (er i) (ec i) f)

    pub later_flags : at_first n s d b ≡ false → left ≡ last_compare n (divisor_of n s b) n (dividend_of n s d) → compare_flags n left right carry f ≡ refused_flags n s d b f
    later_flags e el = rw e (λ i. compare_flags n (el i) (er i) (ec i) f)

  -- the answer, from its parts
  pub refused_is : (rep : Bool) (f : Flags) → accepts n s d b ≡ false → {why : Refusal} {g : Flags} {t : ℕ}
      → why ≡ refusal_of n s d b → g ≡ refused_flags n s d b f → t ≡ refused_steps n s d b
      → record { outcome = refused why; flags = g; roads = no_roads; steps = t } ≡ divide n s rep d b f
  unfolding divide
  refused_is rep f e ew eg et = rw e (λ i. record { outcome = refused (ew i); flags = eg i; roads = no_roads; steps = et i })

-- ---- unsigned

pub unsigned_known : (n d b : ℕ) → ByMagnitudes n false d b
unsigned_known n d zero = inl (eq-eqb 0 0 refl, refl)
unsigned_known n d (suc b) = inr (ne_eqb (suc b) 0 (λ e. omega arith), omega arith, refl)

module _ (n d b : ℕ) (rep : Bool) (f : Flags) {a : CordAnswer} (e : a ≡ cord n b d 5) where
  pub unsigned_refused : a.outcome ≡ Cord.refused → {why : Refusal} → why ≡ first_refusal b → {g : Flags} → g ≡ compare_flags n a.compared b a.carry f
      → record { outcome = refused why; flags = g; roads = no_roads; steps = a.steps } ≡ divide n false rep d b f
  unsigned_refused h ew eg =
      let w = when_refused n b d 5 e h in
      let first = le-leb b (d / 2 ^ n) w.first in
      let flags = first_flags n false d b f refl w.carry first w.compared in
      refused_is n false d b rep f (le-ltb (d / 2 ^ n) b w.first) (ew ∙ first_refusal_lem n false d b (unsigned_known n d b) first) (eg ∙ flags) w.steps

  pub unsigned_accepted : b < 2 ^ n → {r : Results} → a.outcome ≡ Cord.accepted r → {g : Flags} → g ≡ compare_flags n a.compared b a.carry f
      → record { outcome = accepted r; flags = g; roads = a.roads; steps = a.steps + 2 } ≡ divide n false rep d b f
  unfolding divide wrapped
  unsigned_accepted hb {r} h {g} eg =
      let w = when_accepted n b d 5 e h in
      let quotient = w.quotient ∙ sym (mod-eq_of_lt (below d b (2 ^ n) (pow_pos n) w.passed)) in
      let hr : d % b < 2 ^ n = omega (arith, mod-lt d {m = b} (omega (arith, w.passed))) in
      let remainder = w.remainder ∙ sym (mod-eq_of_lt hr) in
      let flags = eg ∙ ap₂ (λ (x : ℕ) (y : Bool). compare_flags n x b y f) w.compared w.carry in
      let steps : a.steps + 2 ≡ 7 + cord_steps n b d = omega (arith, w.steps) in
      rw (lt-ltb (d / 2 ^ n) b w.passed)
      (λ i. record { outcome = accepted (record { quotient = quotient i; remainder = remainder i }); flags = flags i; roads = w.roads i; steps = steps i })

-- ---- signed

pub pre_most : (n d b : ℕ) → pre_steps n d b ≤ 13
pre_most n d b = by (top_set (n + n) d) (top_set n b)
  where
    by : (s t : Bool) → cond {A = ℕ} s 7 3 + cond {A = ℕ} t 5 6 ≤ 13
    by true true = omega arith
    by true false = omega arith
    by false true = omega arith
    by false false = omega arith

-- PREIDIV hands CORD the magnitudes, the sign that the quotient is to have, and its steps
module _ (n d b : ℕ) (rep : Bool) (hn : 0 < n) (hd : d < 2 ^ (n + n)) (hb : b < 2 ^ n) where
  abbrev pub halves : Pair
  halves = record { tmpa = d / 2 ^ n; tmpc = d % 2 ^ n; neg_flag = rep; steps = 4 }

  dividend_is : with_sign (n + n) (top_set n (d / 2 ^ n)) (d / 2 ^ n * 2 ^ n + d % 2 ^ n) ≡ dividend_of n true d
  dividend_is =
      ap₂ (with_sign (n + n)) (top_upper n d hn) (div-add-mod' d (2 ^ n)) ∙ plain_by (n + n) d (omega arith) hd ∙ sym (magnitude-plain (n + n) d hd)

  module _ {pre : Negate} (e : pre ≡ pre_idiv n halves b) where
    pub pre_dividend : pre.tmpa * 2 ^ n + pre.tmpc ≡ dividend_of n true d
    unfolding pre_idiv
    pre_dividend =
        ap (λ (r : Negate). r.tmpa * 2 ^ n + r.tmpc) e
        ∙ div-add-mod' (with_sign (n + n) (top_set n (d / 2 ^ n)) (d / 2 ^ n * 2 ^ n + d % 2 ^ n)) (2 ^ n)
        ∙ dividend_is

    pub pre_divisor : pre.tmpb ≡ divisor_of n true b
    unfolding pre_idiv
    pre_divisor = ap (λ (r : Negate). r.tmpb) e ∙ plain_by n b hn hb ∙ sym (magnitude-plain n b hb)

    pub pre_flag : pre.neg_flag ≡ xor rep (xor (top_set (n + n) d) (top_set n b))
    unfolding pre_idiv
    pre_flag =
        ap (λ (r : Negate). r.neg_flag) e
        ∙ ap (λ (s : Bool). xor (xor rep s) (top_set n b)) (top_upper n d hn)
        ∙ xor_assoc rep (top_set (n + n) d) (top_set n b)

    pub pre_steps_lem : pre.steps ≡ 4 + pre_steps n d b
    unfolding pre_idiv
    pre_steps_lem =
        ap (λ (r : Negate). r.steps) e
        ∙ ap (λ (s : Bool). 4 + cond s 7 3 + cond (top_set n b) 5 6) (top_upper n d hn)
        ∙ omega arith

    -- CORD on what PREIDIV hands it
    pub cord_of_pre : {a : CordAnswer} → a ≡ cord n pre.tmpb (pre.tmpa * 2 ^ n + pre.tmpc) (pre.steps + 2)
        → a ≡ cord n (divisor_of n true b) (dividend_of n true d) (6 + pre_steps n d b)
    cord_of_pre f =
        let steps : pre.steps + 2 ≡ 6 + pre_steps n d b = omega (arith, pre_steps_lem) in
        f ∙ λ i. cord n (pre_divisor i) (pre_dividend i) (steps i)

    pub pre_few : pre.steps ≤ 17
    pre_few = omega (arith, pre_steps_lem, pre_most n d b)

  -- the numbers divided, by sign and magnitude
  pub quotient_by : 0 < divisor_of n true b → quotient_of n true d b ≡ sign_of (xor (top_set (n + n) d) (top_set n b)) (dividend_of n true d / divisor_of n true b)
  quotient_by h =
      ap₂ quot_z (signed_by (n + n) d hd) (signed_by n b hb)
      ∙ quot_sign (top_set (n + n) d) (top_set n b) (plain (n + n) d) (plain n b) (subst (λ (x : ℕ). 0 < x) (magnitude-plain n b hb) h)
      ∙ ap₂ (λ (x y : ℕ). sign_of (xor (top_set (n + n) d) (top_set n b)) (x / y)) (sym (magnitude-plain (n + n) d hd)) (sym (magnitude-plain n b hb))

  remainder_by : remainder_of n true d b ≡ sign_of (top_set (n + n) d) (dividend_of n true d % divisor_of n true b)
  remainder_by =
      ap₂ rem_z (signed_by (n + n) d hd) (signed_by n b hb)
      ∙ rem_sign (top_set (n + n) d) (top_set n b) (plain (n + n) d) (plain n b)
      ∙ ap₂ (λ (x y : ℕ). sign_of (top_set (n + n) d) (x % y)) (sym (magnitude-plain (n + n) d hd)) (sym (magnitude-plain n b hb))

  -- a divisor has the magnitude 0 exactly if it is 0
  nonzero : 0 < divisor_of n true b → eqb b 0 ≡ false
  nonzero h = ne_eqb b 0 (λ z. omega (arith, magnitude-plain n b hb, zero_plain z))
    where
      zero_plain : b ≡ 0 → plain n b ≡ 0
      zero_plain z = rw (lt-leb (top n) b (omega (arith, pow_pos (n - 1)))) z

  pub zero_or_not : (0 < divisor_of n true b) ⊎ (eqb b 0 ≡ true)
  zero_or_not = by (divisor_of n true b) refl
    where
      zero_of : (s : Bool) → cond s (2 ^ n - b) b ≡ 0 → b ≡ 0
      zero_of true z = absurd (omega arith)
      zero_of false z = z

      by : (k : ℕ) → divisor_of n true b ≡ k → (0 < divisor_of n true b) ⊎ (eqb b 0 ≡ true)
      by zero e = inr (eq-eqb b 0 (zero_of (top_set n b) (sym (magnitude-plain n b hb) ∙ e)))
      by (suc k) e = inl (omega arith)

  -- the manual's rule for a signed divide, where the divisor is not 0
  pub rule : 0 < divisor_of n true b → accepts n true d b ≡ ltb (dividend_of n true d / divisor_of n true b) (top n)
  rule h = rw (nonzero h) (ap (λ (z : ℤ). ltb (nat_abs z) (top n)) (quotient_by h) ∙ ap (λ (k : ℕ). ltb k (top n)) (abs_sign (xor (top_set (n + n) d) (top_set n b)) (dividend_of n true d / divisor_of n true b)))

  pub signed_known : ByMagnitudes n true d b
  signed_known = by (divisor_of n true b) refl zero_or_not
    where
      by : (k : ℕ) → divisor_of n true b ≡ k → (0 < divisor_of n true b) ⊎ (eqb b 0 ≡ true) → ByMagnitudes n true d b
      by zero e (inl p) = absurd (omega arith)
      by zero e (inr z) = inl (z, e)
      by (suc k) e h = let p : 0 < divisor_of n true b = omega arith in inr (nonzero p, p, ap nat_abs (quotient_by p) ∙ abs_sign (xor (top_set (n + n) d) (top_set n b)) (dividend_of n true d / divisor_of n true b))

  -- refused by the first compare, whatever the reason
  refused_first : divisor_of n true b ≤ dividend_of n true d / 2 ^ n → accepts n true d b ≡ false
  refused_first h = ⊎_elim (λ p. rule p ∙ by p (ltb (dividend_of n true d / divisor_of n true b) (top n)) refl) (λ z. rw z) zero_or_not
    where
      by : 0 < divisor_of n true b → (x : Bool) → ltb (dividend_of n true d / divisor_of n true b) (top n) ≡ x → x ≡ false
      by p true e =
          let q : dividend_of n true d / divisor_of n true b < 2 ^ n = omega (arith, ltb-true (dividend_of n true d / divisor_of n true b) (top n) e, top_twice n hn) in
          absurd (omega (arith, below (dividend_of n true d) (2 ^ n) (divisor_of n true b) p q))
      by p false e = refl

  module _ (f : Flags) {a : CordAnswer} (e : a ≡ cord n (divisor_of n true b) (dividend_of n true d) (6 + pre_steps n d b)) where
    pub signed-refused : a.outcome ≡ Cord.refused → {why : Refusal} → why ≡ first_refusal b
        → {k : ℕ} {g : Flags} → k ≡ divisor_of n true b → g ≡ compare_flags n a.compared k a.carry f
        → record { outcome = refused why; flags = g; roads = no_roads; steps = a.steps } ≡ divide n true rep d b f
    signed-refused h ew ek eg =
        let w = when_refused n (divisor_of n true b) (dividend_of n true d) (6 + pre_steps n d b) e h in
        let first = le-leb (divisor_of n true b) (dividend_of n true d / 2 ^ n) w.first in
        let flags = first_flags n true d b f ek w.carry first w.compared in
        refused_is n true d b rep f (refused_first w.first) (ew ∙ first_refusal_lem n true d b signed_known first) (eg ∙ flags) (w.steps ∙ rw first (omega arith))

    module _ {r : Results} (h : a.outcome ≡ Cord.accepted r) where
      w : AcceptedBy n (divisor_of n true b) (dividend_of n true d) (6 + pre_steps n d b) a r
      w = when_accepted n (divisor_of n true b) (dividend_of n true d) (6 + pre_steps n d b) e h

      ruled : accepts n true d b ≡ a.carry
      ruled = rule (omega (arith, w.passed)) ∙ sym w.carry

      -- refused for sign range
      range_refused : (negate : Bool) {u : ℕ} → Idiv.refused u ≡ post_idiv n r (d / 2 ^ n) a.carry negate (a.steps + 3)
          → {k : ℕ} {g : Flags} → k ≡ divisor_of n true b → g ≡ compare_flags n a.compared k a.carry f
          → record { outcome = refused SignRange; flags = g; roads = no_roads; steps = u } ≡ divide n true rep d b f
      unfolding post_idiv
      range_refused negate {u} = by a.carry ruled
        where
          by : (c : Bool) → accepts n true d b ≡ c
              → Idiv.refused u ≡ cond c (Idiv.accepted (with_sign n negate r.quotient) (with_sign n (top_set n (d / 2 ^ n)) r.remainder) (a.steps + 3 + 10)) (Idiv.refused (a.steps + 3 + 2))
              → {k : ℕ} {g : Flags} → k ≡ divisor_of n true b → g ≡ compare_flags n a.compared k c f
              → record { outcome = refused SignRange; flags = g; roads = no_roads; steps = u } ≡ divide n true rep d b f
          by true x p ek eg = let z : ◌≡◌ {A = ℕ} 0 1 = cc in absurd (omega arith)
          by false x p ek eg =
              let later = lt-leb (divisor_of n true b) (dividend_of n true d / 2 ^ n) w.passed in
              let steps : u ≡ a.steps + 3 + 2 = cc in
              let flags = later_flags n true d b f ek refl later w.compared in
              refused_is n true d b rep f x (later_refusal n true d b signed_known later) (eg ∙ flags) (steps ∙ rw later (omega (arith, w.steps)))

      -- accepted
      signed_accepted : {negate : Bool} → negate ≡ xor rep (xor (top_set (n + n) d) (top_set n b)) → {q' r' u : ℕ}
          → Idiv.accepted q' r' u ≡ post_idiv n r (d / 2 ^ n) a.carry negate (a.steps + 3)
          → {k : ℕ} {g h : Flags} → k ≡ divisor_of n true b → g ≡ compare_flags n a.compared k a.carry f → h ≡ set_co false false g
          → record { outcome = accepted (record { quotient = q'; remainder = r' }); flags = h; roads = a.roads; steps = u } ≡ divide n true rep d b f
      unfolding divide post_idiv
      signed_accepted {negate} en {q'} {r'} {u} = by a.carry ruled w.carry
        where
          quotient : dividend_of n true d / divisor_of n true b < top n
              → with_sign n negate r.quotient ≡ wrapped n (cond rep (neg_ℤ (quotient_of n true d b)) (quotient_of n true d b))
          quotient s =
              ap₂ (with_sign n) en w.quotient
              ∙ sym (wrapped-sign n (xor rep (xor (top_set (n + n) d) (top_set n b))) (dividend_of n true d / divisor_of n true b) (omega (arith, top_twice n hn)))
              ∙ ap (wrapped n) (sym (neg_once_more rep (xor (top_set (n + n) d) (top_set n b)) (dividend_of n true d / divisor_of n true b)))
              ∙ ap (λ (z : ℤ). wrapped n (cond rep (neg_ℤ z) z)) (sym (quotient_by (omega (arith, w.passed))))

          small_rest : dividend_of n true d % divisor_of n true b < 2 ^ n
          small_rest =
              omega (arith, mod-lt (dividend_of n true d) {m = divisor_of n true b} (omega (arith, w.passed)), magnitude-plain n b hb, plain_lt n b hn hb)

          remainder : with_sign n (top_set n (d / 2 ^ n)) r.remainder ≡ wrapped n (remainder_of n true d b)
          remainder =
              ap₂ (with_sign n) (top_upper n d hn) w.remainder
              ∙ sym (wrapped-sign n (top_set (n + n) d) (dividend_of n true d % divisor_of n true b) small_rest)
              ∙ ap (wrapped n) (sym remainder_by)

          by : (c : Bool) → accepts n true d b ≡ c → c ≡ ltb (dividend_of n true d / divisor_of n true b) (top n)
              → Idiv.accepted q' r' u ≡ cond c (Idiv.accepted (with_sign n negate r.quotient) (with_sign n (top_set n (d / 2 ^ n)) r.remainder) (a.steps + 3 + 10)) (Idiv.refused (a.steps + 3 + 2))
              → {k : ℕ} {g h : Flags} → k ≡ divisor_of n true b → g ≡ compare_flags n a.compared k c f → h ≡ set_co false false g
              → record { outcome = accepted (record { quotient = q'; remainder = r' }); flags = h; roads = a.roads; steps = u } ≡ divide n true rep d b f
          by false x y p ek eg eh = let z : ◌≡◌ {A = ℕ} 0 1 = cc in absurd (omega arith)
          by true x y p {k} {g} {h} ek eg eh =
              let s = ltb-true (dividend_of n true d / divisor_of n true b) (top n) (sym y) in
              let eq : q' ≡ with_sign n negate r.quotient = cc in
              let er : r' ≡ with_sign n (top_set n (d / 2 ^ n)) r.remainder = cc in
              let eu : u ≡ a.steps + 3 + 10 = cc in
              let flags : h ≡ accepted_flags n true d b f = eh ∙ ap (set_co false false) (eg ∙ λ i. compare_flags n (w.compared i) (ek i) (y i) f) in
              let steps : u ≡ accepted_steps n true d b = eu ∙ omega (arith, w.steps) in
              rw x (λ i. record { outcome = accepted (record { quotient = (eq ∙ quotient s) i; remainder = (er ∙ remainder) i }); flags = flags i; roads = w.roads i; steps = steps i })

      -- either way
      pub signed-finished : {negate : Bool} → negate ≡ xor rep (xor (top_set (n + n) d) (top_set n b)) → (p : Idiv.PostAnswer)
          → p ≡ post_idiv n r (d / 2 ^ n) a.carry negate (a.steps + 3)
          → {k : ℕ} {g : Flags} → k ≡ divisor_of n true b → g ≡ compare_flags n a.compared k a.carry f
          → finished p g a.roads ≡ divide n true rep d b f
      signed-finished en (Idiv.accepted q' r' u) ep ek eg = signed_accepted en ep ek eg refl
      signed-finished {negate} en (Idiv.refused u) ep ek eg = range_refused negate ep ek eg

-- ---- signed or not; REP changes nothing of an unsigned divide

pub known : (n : ℕ) (s : Bool) (d b : ℕ) → 0 < n → d < 2 ^ (n + n) → b < 2 ^ n → ByMagnitudes n s d b
known n true d b hn hd hb = signed_known n d b false hn hd hb
known n false d b hn hd hb = unsigned_known n d b

module _ (n d b : ℕ) (f : Flags) (rep : Bool) {s : Bool} {r : Divided} where
  pub when_signed : s ≡ true → r ≡ divide n true rep d b f → r ≡ divide n s rep d b f
  when_signed t e = rw t e

  pub when_unsigned : s ≡ false → r ≡ divide n false false d b f → r ≡ divide n s rep d b f
  unfolding divide
  when_unsigned t e = rw t e
