-- NEGATE over the width n: two halves taken from 0 with a borrow between them are the pair taken from 0.
-- Assumes nothing.
use mathlib.Core.{Path.◌≡◌, Path.refl, Path.sym, Path.ap, Path.ap₂, Path.◌∙◌, Bool.Bool, Bool.true, Bool.false, Bool.not}
use Prim.Native.Nat.{ℕ, zero, suc, ◌+◌, ◌-◌, ◌*◌, ◌/◌, ◌%◌, ◌^◌, ◌<◌}
use native.Mathlib.{Nat.add-zero, Nat.mod-lt, Nat.mod-eq_of_lt, Nat.mod_self, Omega.arith}
use lib.{Arith.digits_div, Arith.digits_mod, Dec.ltb, Pow.pow-add, Pow.pow_pos}
use borrow.Author.Tests.{ltb-true, ltb-false}
use Rattle.numbers.specs.Numbers.{bit, top_set, negated}
use Rattle.numbers.proofs.SignLaws.{xor_true, xor_false}
use Rattle.alu.specs.{Result.ResultCoa, Sum.neg, Sum.sbb}
use Rattle.alu.proofs.SumLaws.{neg-result}
use Rattle.negate.specs.Negate.{Pair, Negate, pair, second, cor_negate}

-- two digits to the base m, taken from 0
module _ (m a c : ℕ) (ha : a < m) (hc : c < m) where
  whole : m % m ≡ 0
  whole = mod_self m

  no_borrow : c ≡ 0 → (a : ℕ) → a < m → (m * m - (a * m + c)) % (m * m) ≡ (m - (a + 0)) % m * m + (m - c) % m
  no_borrow e zero h =
      let lower : (m - c) % m ≡ 0 = ap (λ (x : ℕ). x % m) (omega arith) ∙ whole in
      let upper : (m - (0 + 0)) % m ≡ 0 = ap (λ (x : ℕ). x % m) (omega arith) ∙ whole in
      ap (λ (x : ℕ). x % (m * m)) (omega arith) ∙ mod_self (m * m) ∙ sym (ap₂ (λ (x y : ℕ). x * m + y) upper lower ∙ omega arith)
  no_borrow e (suc a) h =
      let parts : m * m ≡ (m - (suc a + 0)) * m + suc a * m = ap (λ (x : ℕ). x * m) rest ∙ omega arith in
      let lower : (m - c) % m ≡ 0 = ap (λ (x : ℕ). x % m) (omega arith) ∙ whole in
      let upper : (m - (suc a + 0)) % m ≡ m - (suc a + 0) = mod-eq_of_lt (omega arith) in
      mod-eq_of_lt (omega arith) ∙ omega arith ∙ sym (ap₂ (λ (x y : ℕ). x * m + y) upper lower)
    where
      rest : m ≡ (m - (suc a + 0)) + suc a
      rest = omega arith

  borrowed : 0 < c → (m * m - (a * m + c)) % (m * m) ≡ (m - (a + 1)) % m * m + (m - c) % m
  borrowed h =
      let parts : m * m ≡ (m - (a + 1)) * m + (a + 1) * m = ap (λ (x : ℕ). x * m) rest ∙ omega arith in
      let lower : (m - c) % m ≡ m - c = mod-eq_of_lt (omega arith) in
      let upper : (m - (a + 1)) % m ≡ m - (a + 1) = mod-eq_of_lt (omega arith) in
      mod-eq_of_lt (omega arith) ∙ omega arith ∙ sym (ap₂ (λ (x y : ℕ). x * m + y) upper lower)
    where
      rest : m ≡ (m - (a + 1)) + (a + 1)
      rest = omega arith

  from_zero : (s : Bool) → ltb 0 c ≡ s → (m * m - (a * m + c)) % (m * m) ≡ (m - (a + bit s)) % m * m + (m - c) % m
  from_zero true e = borrowed (ltb-true 0 c e)
  from_zero false e = no_borrow (omega (arith, ltb-false 0 c e)) a ha

-- the code's two subtractions make the pair
pub pair_is : (n : ℕ) (p : Pair) {lower upper : ResultCoa} → p.tmpa < 2 ^ n → p.tmpc < 2 ^ n → lower ≡ neg n p.tmpc → upper ≡ sbb n 0 p.tmpa lower.carry
    → ◌≡◌ {A = Pair} (record { tmpa = upper.result; tmpc = lower.result; neg_flag = not p.neg_flag; steps = p.steps + 5 }) (pair n p)
unfolding pair sbb
pair_is n p {lower} {upper} ha hc el eu =
    λ i. record { tmpa = above i; tmpc = below i; neg_flag = not p.neg_flag; steps = p.steps + 5 }
  where
    m : ℕ
    m = 2 ^ n

    a : ℕ
    a = p.tmpa

    c : ℕ
    c = p.tmpc

    lower_is : lower.result ≡ (m - c) % m
    lower_is = neg-result n c el

    carry_is : lower.carry ≡ ltb 0 c
    carry_is = ap (λ (r : ResultCoa). r.carry) el ∙ ap (λ (x : ℕ). ltb 0 x) (add-zero c)

    upper_is : upper.result ≡ (m - (a + bit (ltb 0 c))) % m
    upper_is =
        ap (λ (r : ResultCoa). r.result) eu ∙ ap (λ (s : Bool). (m + 0 - (a + bit s)) % m) carry_is ∙ ap (λ (x : ℕ). (x - (a + bit (ltb 0 c))) % m) (add-zero m)

    digits : negated (n + n) (a * m + c) ≡ (m - (a + bit (ltb 0 c))) % m * m + (m - c) % m
    digits = ap (λ (x : ℕ). (x - (a * m + c)) % x) (pow-add 2 n n) ∙ from_zero m a c ha hc (ltb 0 c) refl

    small : (m - c) % m < m
    small = mod-lt (m - c) (pow_pos n)

    above : upper.result ≡ negated (n + n) (a * m + c) / m
    above = upper_is ∙ sym (ap (λ (x : ℕ). x / m) digits ∙ digits_div _ small)

    below : lower.result ≡ negated (n + n) (a * m + c) % m
    below = lower_is ∙ sym (ap (λ (x : ℕ). x % m) digits ∙ digits_mod _ small)

-- the second operand, by its top bit
module _ (n b : ℕ) (p : Pair) where
  abbrev after : ℕ → Bool → Bool → ℕ → Negate
  after b' carry flag steps = record { tmpa = p.tmpa; tmpb = b'; tmpc = p.tmpc; carry = carry; neg_flag = flag; steps = steps }

  pub second-negative : {t : Bool} {r : ResultCoa} → t ≡ top_set n b → t ≡ true → r ≡ neg n b → after r.result true (not p.neg_flag) (p.steps + 5) ≡ second n b p
  unfolding second
  second-negative et is e =
      rw (sym et ∙ is) (ap₂ (λ (x : ℕ) (s : Bool). after x true s (p.steps + 5)) (neg-result n b e) (sym (xor_true p.neg_flag)))

  pub second_positive : {t : Bool} → t ≡ top_set n b → t ≡ false → after b false p.neg_flag (p.steps + 6) ≡ second n b p
  unfolding second
  second_positive et is = rw (sym et ∙ is) (ap (λ (s : Bool). after b false s (p.steps + 6)) (sym (xor_false p.neg_flag)))

-- entered at its head or past the pair
module _ (n b : ℕ) (p : Pair) {r : Negate} where
  pub skipped : {s : Bool} → s ≡ true → r ≡ second n b p → r ≡ cor_negate n p b s
  unfolding cor_negate
  skipped e f = rw e f

  pub run_through : {s : Bool} {q : Pair} → s ≡ false → q ≡ pair n p → r ≡ second n b q → r ≡ cor_negate n p b s
  unfolding cor_negate
  run_through e g f = rw e (f ∙ ap (second n b) g)

-- the pair costs five steps
pub pair-steps : (n : ℕ) (p : Pair) {q : Pair} → q ≡ pair n p → q.steps ≡ p.steps + 5
unfolding pair
pair-steps n p e = ap (λ (q : Pair). q.steps) e
