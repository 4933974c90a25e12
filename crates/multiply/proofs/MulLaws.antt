-- The multiplies over the width n: PREIMUL, CORX, NEGATE and the flag routines together give the product, the flags and the steps of the chart.
-- Assumes nothing.
use mathlib.Core.{Path.◌≡◌, Path.refl, Path.sym, Path.ap, Path.ap₂, Path.subst⁻¹, Path.◌∙◌, Bool.Bool, Bool.true, Bool.false, Bool.not, Bool.cond, Bool.xor}
use Prim.Native.Nat.{ℕ, ◌+◌, ◌-◌, ◌*◌, ◌/◌, ◌%◌, ◌^◌, ◌≤◌, ◌<◌}
use native.Mathlib.{Nat.mod-lt, Nat.mul_comm, Nat.div-add-mod', Omega.arith}
use lib.{Count.ones, Count.ones-le, Dec.leb, Dec.eqb, IntN.neg_ℤ, IntN.nat_abs, Pow.pow_pos}
use borrow.Author.Tests.{leb-true, leb-false, eq-eqb, ne_eqb, lt-leb}
use Rattle.numbers.specs.Numbers.{top, top_set, signed, magnitude, wrapped, negated}
use Rattle.flags.specs.{Word.set_co, Word.set_coa, Szp.szp, declared.word.Flags.Flags}
use Rattle.numbers.proofs.{Powers.top_twice, Powers.product_lt, SignedLaws.TopIs, SignedLaws.top_is, SignedLaws.same_test}
use Rattle.numbers.proofs.SignLaws.{sign_of, plain, signed_by, abs_sign, wrapped-sign, plain_by, xor_true, xor_false}
use Rattle.alu.specs.{Result.ResultCoa, Sum.adc, Sum.sbb, Sum.neg}
use Rattle.negate.specs.Negate.{Negate, pair, second, cor_negate}
use Rattle.corx.specs.Corx.{Halves, corx}
use Rattle.multiply.specs.Routines.{Multiplied, preimul, multiplied, mulcof, sign_sum, imulcof}
use Rattle.multiply.specs.Multiply.{product_of, halves_sum, carries, mul_flags, negates, mul_steps, multiply}
use Rattle.multiply.proofs.CarryLaws.{signed-bits, imulcof_rule}

cond_le : (s : Bool) (a b k : ℕ) → a ≤ k → b ≤ k → cond s a b ≤ k
cond_le true a b k h i = h
cond_le false a b k h i = i

-- ---- PREIMUL

-- what NEGATE leaves, entered past the pair
abbrev past : ℕ → ℕ → ℕ → Bool → ℕ → Negate
past n y c flag steps =
    record {
      tmpa = 0;
      tmpb = cond (top_set n y) (negated n y) y;
      tmpc = c;
      carry = top_set n y;
      neg_flag = xor flag (top_set n y);
      steps = steps + cond (top_set n y) 5 6;
    }

module _ (n x y : ℕ) (rep : Bool) {r : Negate} where
  pub first_negative : {positive : ResultCoa} → top_set n x ≡ true → positive ≡ neg n x
      → r ≡ cor_negate n (record { tmpa = 0; tmpc = positive.result; neg_flag = not rep; steps = 8 }) y true → r ≡ preimul n x y rep
  unfolding cor_negate second preimul sbb
  first_negative t ep er =
      rw t
      (er ∙ ap₂ (λ (c : ℕ) (f : Bool). past n y c f 8) (ap (λ (p : ResultCoa). p.result) ep ∙ ap (λ (k : ℕ). k % 2 ^ n) taken) (sym (xor_true rep)))
    where
      taken : 2 ^ n + 0 - (x + 0) ≡ 2 ^ n - x
      taken = omega arith

  pub first_positive : top_set n x ≡ false → r ≡ cor_negate n (record { tmpa = 0; tmpc = x; neg_flag = rep; steps = 6 }) y true → r ≡ preimul n x y rep
  unfolding cor_negate second preimul
  first_positive t er = rw t (er ∙ ap (λ (f : Bool). past n y x f 6) (sym (xor_false rep)))

pub preimul_few : (n x y : ℕ) (rep : Bool) {r : Negate} → r ≡ preimul n x y rep → r.steps < 100
unfolding preimul
preimul_few n x y rep e =
    omega (arith, ap (λ (r : Negate). r.steps) e, cond_le (top_set n x) 8 6 8 (omega arith) (omega arith), cond_le (top_set n y) 5 6 6 (omega arith) (omega arith))

pub preimul_fits : (n x y : ℕ) (rep : Bool) {r : Negate} → x < 2 ^ n → r ≡ preimul n x y rep → r.tmpc < 2 ^ n
unfolding preimul
preimul_fits n x y rep hx e = subst⁻¹ (λ (k : ℕ). k < 2 ^ n) (ap (λ (r : Negate). r.tmpc) e) (by (top_set n x))
  where
    by : (s : Bool) → cond s (negated n x) x < 2 ^ n
    by true = mod-lt (2 ^ n - x) (pow_pos n)
    by false = hx

-- ---- the product, negated or not

module _ (n : ℕ) (f : Negate) {product : Halves} (e : product ≡ corx n f.tmpb f.tmpc (f.steps + 2)) where
  corx_paid : product.steps ≡ f.steps + 2 + (3 + 6 * n + ones f.tmpc)
  unfolding corx
  corx_paid = ap (λ (h : Halves). h.steps) e

  pub corx_few : f.tmpc < 2 ^ n → n ≤ 16 → f.steps < 100 → product.steps < 300
  corx_few h i l = omega (arith, corx_paid, ones-le n f.tmpc h)

  pub kept : f.neg_flag ≡ false → ◌≡◌ {A = Halves} (record { tmpa = product.tmpa; tmpc = product.tmpc; steps = product.steps + 2 }) (multiplied n f)
  unfolding corx multiplied
  kept off =
      let paid : product.steps + 2 ≡ f.steps + 4 + (3 + 6 * n + ones f.tmpc) + 0 = omega (arith, corx_paid) in
      rw off (λ i. record { tmpa = (e i).tmpa; tmpc = (e i).tmpc; steps = paid i })

  module _ {r : Negate} (er : r ≡ cor_negate n (record { tmpa = product.tmpa; tmpc = product.tmpc; neg_flag = true; steps = product.steps + 2 }) f.tmpb false) where
    negate_paid : r.steps ≡ product.steps + 2 + 5 + cond (top_set n f.tmpb) 5 6
    unfolding cor_negate second pair
    negate_paid = ap (λ (q : Negate). q.steps) er

    pub negate_few : r.steps ≤ product.steps + 13
    negate_few = omega (arith, negate_paid, cond_le (top_set n f.tmpb) 5 6 6 (omega arith) (omega arith))

    pub turned : f.neg_flag ≡ true → ◌≡◌ {A = Halves} (record { tmpa = r.tmpa; tmpc = r.tmpc; steps = r.steps + 1 }) (multiplied n f)
    unfolding corx multiplied cor_negate second pair
    turned on =
        rw on (λ i. record { tmpa = above i; tmpc = below i; steps = paid i })
      where
        m : ℕ
        m = f.tmpb * f.tmpc

        whole : product.tmpa * 2 ^ n + product.tmpc ≡ m
        whole = ap (λ (h : Halves). h.tmpa * 2 ^ n + h.tmpc) e ∙ div-add-mod' m (2 ^ n)

        above : r.tmpa ≡ negated (n + n) m / 2 ^ n
        above = ap (λ (q : Negate). q.tmpa) er ∙ ap (λ (k : ℕ). negated (n + n) k / 2 ^ n) whole

        below : r.tmpc ≡ negated (n + n) m % 2 ^ n
        below = ap (λ (q : Negate). q.tmpc) er ∙ ap (λ (k : ℕ). negated (n + n) k % 2 ^ n) whole

        one_more : (s : Bool) → cond s 5 6 + 6 ≡ cond s 11 12
        one_more true = refl
        one_more false = refl

        paid : r.steps + 1 ≡ f.steps + 4 + (3 + 6 * n + ones f.tmpc) + cond (top_set n f.tmpb) 11 12
        paid = omega (arith, corx_paid, negate_paid, one_more (top_set n f.tmpb))

pub multiplied_few : (n : ℕ) (f : Negate) {h : Halves} → h ≡ multiplied n f → f.tmpc < 2 ^ n → n ≤ 16 → f.steps < 100 → h.steps < 300
unfolding corx multiplied
multiplied_few n f e hc i l =
    omega (arith, ap (λ (h : Halves). h.steps) e, ones-le n f.tmpc hc, cond_le f.neg_flag (cond (top_set n f.tmpb) 11 12) 0 12 (cond_le (top_set n f.tmpb) 11 12 12 (omega arith) (omega arith)) (omega arith))

pub lower_fits : (n : ℕ) (f : Negate) {h : Halves} → h ≡ multiplied n f → h.tmpc < 2 ^ n
unfolding multiplied
lower_fits n f e =
    subst⁻¹ (λ (k : ℕ). k < 2 ^ n) (ap (λ (h : Halves). h.tmpc) e) (mod-lt (cond f.neg_flag (negated (n + n) (f.tmpb * f.tmpc)) (f.tmpb * f.tmpc)) (pow_pos n))

-- ---- MULCOF and IMULCOF

-- the flags of a signed product, from IMULCOF's sum
abbrev flagged : Flags → ResultCoa → Flags
flagged f s = szp 16 s.result (set_coa (not (eqb s.result 0)) (not (eqb s.result 0)) s.aux_carry f)

abbrev answer : ℕ → Halves → Flags → ℕ → Multiplied
answer n h g tail = record { product = h.tmpa * 2 ^ n + h.tmpc; flags = g; steps = h.steps + tail }

module _ (n : ℕ) (h : Halves) (f : Flags) {g : Flags} {tail : ℕ} where
  pub mulcof_is : g ≡ set_co (not (eqb h.tmpa 0)) (not (eqb h.tmpa 0)) f → tail ≡ cond (not (eqb h.tmpa 0)) 9 10 → answer n h g tail ≡ mulcof n h f
  unfolding mulcof
  mulcof_is eg et = ap₂ (answer n h) eg et

  pub imulcof_is : {upper : ℕ} {sum : ResultCoa} {named : Flags} → upper ≡ wrapped 16 (signed n h.tmpa)
      → sum ≡ adc 16 upper 0 (top_set n h.tmpc) → named ≡ set_coa (not (eqb sum.result 0)) (not (eqb sum.result 0)) sum.aux_carry f
      → g ≡ szp 16 sum.result named → tail ≡ cond (not (eqb sum.result 0)) 9 10 → answer n h g tail ≡ imulcof n h f
  unfolding imulcof
  imulcof_is {sum = sum} eu es en eg et =
      let whole : sum ≡ sign_sum n h.tmpa h.tmpc = es ∙ ap (λ (u : ℕ). adc 16 u 0 (top_set n h.tmpc)) eu in
      ap₂ (answer n h) (eg ∙ ap (szp 16 sum.result) en ∙ ap (flagged f) whole) (et ∙ ap (λ (s : ResultCoa). cond (not (eqb s.result 0)) 9 10) whole)

-- ---- the whole multiplies

-- the flag routines' 9 or 10 steps, less the 6 that stand with the others
tail_split : (s : Bool) → cond s 9 10 ≡ cond s 3 4 + 6
tail_split true = refl
tail_split false = refl

head_split : (s : Bool) → cond s 8 6 ≡ cond s 3 1 + 5
head_split true = refl
head_split false = refl

-- the second factor's magnitude has its top bit set for the most negative number alone
top_kept : (n y : ℕ) → 0 < n → y < 2 ^ n → top_set n (plain n y) ≡ eqb y (top n)
top_kept n y hn hy = by (top_set n y) (top_is n y)
  where
    by : (s : Bool) → TopIs s (top n) y → top_set n (cond s (2 ^ n - y) y) ≡ eqb y (top n)
    by true t =
        let m = top_twice n hn in
        same_test (leb (top n) (2 ^ n - y)) (eqb y (top n)) (λ e. eq-eqb y (top n) (omega (arith, leb-true (top n) (2 ^ n - y) e)))
        (λ e. ne_eqb y (top n) (λ f. omega (arith, leb-false (top n) (2 ^ n - y) e)))
    by false t = lt-leb (top n) y t ∙ sym (ne_eqb y (top n) (λ e. omega arith))

-- the factors of an unsigned multiply
abbrev pub factors : ℕ → ℕ → Bool → Bool → Negate
factors x y carry rep = record { tmpa = 0; tmpb = y; tmpc = x; carry = carry; neg_flag = rep; steps = 2 }

module _ (n : ℕ) (rep : Bool) (x y : ℕ) (flags : Flags) (hn : 0 < n) (hx : x < 2 ^ n) (hy : y < 2 ^ n) {h : Halves} {r : Multiplied} where
  pub unsigned_is : (carry : Bool) {s : Bool} → s ≡ false → h ≡ multiplied n (factors x y carry rep) → r ≡ mulcof n h flags → r ≡ multiply n s rep x y flags
  unfolding multiplied corx mulcof multiply
  unsigned_is carry off eh er =
      rw off (er ∙ ap (λ (k : Halves). mulcof n k flags) eh ∙ (λ i. record { product = product i; flags = named i; steps = paid i }))
    where
      bits : ℕ
      bits = cond rep (negated (n + n) (y * x)) (y * x)

      by : (s : Bool) → wrapped (n + n) (cond s (neg_ℤ (sign_of false (x * y))) (sign_of false (x * y))) ≡ cond s (negated (n + n) (x * y)) (x * y)
      by true = wrapped-sign (n + n) true (x * y) (product_lt n hx hy)
      by false = wrapped-sign (n + n) false (x * y) (product_lt n hx hy)

      same : bits ≡ product_of n false rep x y
      same = ap (λ (k : ℕ). cond rep (negated (n + n) k) k) (mul_comm y x) ∙ sym (by rep)

      product : bits / 2 ^ n * 2 ^ n + bits % 2 ^ n ≡ product_of n false rep x y
      product = div-add-mod' bits (2 ^ n) ∙ same

      upper : not (eqb (bits / 2 ^ n) 0) ≡ carries n false rep x y
      upper = ap (λ (k : ℕ). not (eqb (k / 2 ^ n) 0)) same

      named : set_co (not (eqb (bits / 2 ^ n) 0)) (not (eqb (bits / 2 ^ n) 0)) flags ≡ mul_flags n false rep x y flags
      named = ap (λ (c : Bool). set_co c c flags) upper

      paid : 2 + 4 + (3 + 6 * n + ones x) + cond rep (cond (top_set n y) 11 12) 0 + cond (not (eqb (bits / 2 ^ n) 0)) 9 10 ≡ mul_steps n false rep x y
      paid = ap (λ (c : Bool). 2 + 4 + (3 + 6 * n + ones x) + cond rep (cond (top_set n y) 11 12) 0 + cond c 9 10) upper ∙ omega (arith, tail_split (carries n false rep x y))

  pub signed_is : {s : Bool} {f : Negate} → n ≤ 16 → s ≡ true → f ≡ preimul n x y rep → h ≡ multiplied n f → r ≡ imulcof n h flags → r ≡ multiply n s rep x y flags
  unfolding multiplied corx imulcof preimul multiply
  signed_is h16 on ef eh er =
      rw on (er ∙ ap (λ (k : Halves). imulcof n k flags) (eh ∙ ap (multiplied n) ef) ∙ (λ i. record { product = product i; flags = named i; steps = paid i }))
    where
      first : ℕ
      first = cond (top_set n x) (negated n x) x

      second_factor : ℕ
      second_factor = cond (top_set n y) (negated n y) y

      turns : Bool
      turns = negates n rep x y

      bits : ℕ
      bits = cond turns (negated (n + n) (second_factor * first)) (second_factor * first)

      same : bits ≡ product_of n true rep x y
      same =
          ap (λ (k : ℕ). cond turns (negated (n + n) k) k) (ap₂ (λ (b c : ℕ). b * c) (plain_by n y hn hy) (plain_by n x hn hx) ∙ mul_comm (plain n y) (plain n x))
          ∙ sym (signed-bits n rep x y hn hx hy)

      product : bits / 2 ^ n * 2 ^ n + bits % 2 ^ n ≡ product_of n true rep x y
      product = div-add-mod' bits (2 ^ n) ∙ same

      sum : ℕ → ResultCoa
      sum k = halves_sum n k

      told : not (eqb (sum bits).result 0) ≡ carries n true rep x y
      told = ap (λ (k : ℕ). not (eqb (sum k).result 0)) same ∙ imulcof_rule n rep x y hn hx hy h16

      named : flagged flags (sum bits) ≡ mul_flags n true rep x y flags
      named = ap₂ (λ (k : ℕ) (c : Bool). szp 16 (sum k).result (set_coa c c (sum k).aux_carry flags)) same told

      digits : ones first ≡ ones (magnitude true n x)
      digits = ap ones (plain_by n x hn hx ∙ sym (ap nat_abs (signed_by n x hx) ∙ abs_sign (top_set n x) (plain n x)))

      again : ◌≡◌ {A = ℕ} (cond turns (cond (top_set n second_factor) 11 12) 0) (cond turns (cond (eqb y (top n)) 11 12) 0)
      again = ap (λ (s : Bool). cond turns (cond s 11 12) 0) (ap (top_set n) (plain_by n y hn hy) ∙ top_kept n y hn hy)

      tail : cond (not (eqb (sum bits).result 0)) 9 10 ≡ cond (carries n true rep x y) 3 4 + 6
      tail = ap (λ (c : Bool). cond c 9 10) told ∙ tail_split (carries n true rep x y)

      paid : cond (top_set n x) 8 6 + cond (top_set n y) 5 6 + 4 + (3 + 6 * n + ones first) + cond turns (cond (top_set n second_factor) 11 12) 0 + cond (not (eqb (sum bits).result 0)) 9 10
          ≡ mul_steps n true rep x y
      paid = omega (arith, digits, again, tail, head_split (top_set n x))
