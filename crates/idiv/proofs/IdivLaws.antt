-- PREIDIV and POSTIDIV over the width n, from what the code calls.
-- Assumes nothing.
use mathlib.Core.{Path.◌≡◌, Path.sym, Path.ap, Path.ap₂, Path.◌∙◌, Bool.Bool, Bool.true, Bool.false, Bool.cond, Bool.xor}
use Prim.Native.Nat.{ℕ, ◌+◌, ◌*◌, ◌/◌, ◌%◌, ◌^◌, ◌<◌}
use native.Mathlib.Omega.{arith}
use lib.{Arith.digits_div, Arith.digits_mod}
use Rattle.numbers.specs.Numbers.{top_set, negated}
use Rattle.numbers.proofs.{SignLaws.xor_true, SignLaws.xor_false}
use Rattle.alu.specs.{Result.ResultCoa, Sum.neg}
use Rattle.alu.proofs.SumLaws.{neg-result}
use Rattle.negate.specs.Negate.{Pair, Negate, pair, second, cor_negate}
use Rattle.cord.specs.Cord.{Results}
use Rattle.idiv.specs.Idiv.{pre_idiv, with_sign, accepted, refused, post_idiv}

abbrev later : Pair → ℕ → Pair
later p k = record { tmpa = p.tmpa; tmpc = p.tmpc; neg_flag = p.neg_flag; steps = p.steps + k }

-- NEGATE entered at its head for a negative dividend, 2 steps on, and past the pair for another, 3 steps on
module _ (n b : ℕ) (p : Pair) {r : Negate} where
  pub pre_negative : top_set n p.tmpa ≡ true → r ≡ cor_negate n (later p 2) b false → r ≡ pre_idiv n p b
  unfolding cor_negate second pair pre_idiv
  pre_negative t e =
      e ∙ rw t
      (λ i. record {
        tmpa = negated (n + n) (p.tmpa * 2 ^ n + p.tmpc) / 2 ^ n;
        tmpb = with_sign n (top_set n b) b;
        tmpc = negated (n + n) (p.tmpa * 2 ^ n + p.tmpc) % 2 ^ n;
        carry = top_set n b;
        neg_flag = xor (sym (xor_true p.neg_flag) i) (top_set n b);
        steps = seven i + cond (top_set n b) 5 6;
      })
    where
      seven : p.steps + 2 + 5 ≡ p.steps + 7
      seven = omega arith

  pub pre_positive : p.tmpc < 2 ^ n → top_set n p.tmpa ≡ false → r ≡ cor_negate n (later p 3) b true → r ≡ pre_idiv n p b
  unfolding cor_negate second pre_idiv
  pre_positive hc t e =
      e ∙ rw t
      (λ i. record {
        tmpa = sym (digits_div p.tmpa hc) i;
        tmpb = with_sign n (top_set n b) b;
        tmpc = sym (digits_mod p.tmpa hc) i;
        carry = top_set n b;
        neg_flag = xor (sym (xor_false p.neg_flag) i) (top_set n b);
        steps = p.steps + 3 + cond (top_set n b) 5 6;
      })

-- a magnitude and its sign
pub with_minus : (n x : ℕ) {s : Bool} {r : ResultCoa} → s ≡ true → r ≡ neg n x → r.result ≡ with_sign n s x
with_minus n x t e = rw t (neg-result n x e)

pub with_plus : (n x : ℕ) {s : Bool} → s ≡ false → x ≡ with_sign n s x
with_plus n x t = rw t

-- POSTIDIV, by the carry that CORD left
module _ (n : ℕ) (r : Results) (upper : ℕ) {carry : Bool} (negate : Bool) (steps : ℕ) where
  pub post_refuses : carry ≡ false → refused (steps + 2) ≡ post_idiv n r upper carry negate steps
  unfolding post_idiv
  post_refuses t = rw t

  pub post_accepts : carry ≡ true → {q' r' : ℕ} {s : Bool} → q' ≡ with_sign n negate r.quotient → s ≡ top_set n upper → r' ≡ with_sign n s r.remainder
      → accepted q' r' (steps + 10) ≡ post_idiv n r upper carry negate steps
  unfolding post_idiv
  post_accepts t eq es er = rw t (ap₂ (λ (x y : ℕ). accepted x y (steps + 10)) eq (er ∙ ap (λ (s : Bool). with_sign n s r.remainder) es))
