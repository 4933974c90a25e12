-- The flags word taken apart and put together: each undoes the other within 08D5, and together never leaves it.
-- Assumes nothing.
use mathlib.Core.{Path.◌≡◌, Path.refl, Path.sym, Path.ap, Path.◌∙◌, Bool.true}
use Prim.Native.Nat.{ℕ, ◌+◌, ◌*◌, ◌/◌, ◌%◌, ◌^◌, ◌≤◌, ◌<◌}
use native.Mathlib.{Nat.mod-lt, Nat.mod-eq_of_lt, Omega.arith}
use lib.{Bits.bit_and, Bits.bit_or, Bits.or_shifted, Bits.and_mask, Bits.and_shr, Bits.and_mod, Bits.and_zero_r, Bits.and_le_r, Dec.eqb, Dec.lit<}
use borrow.Author.Tests.{eq-eqb}
use Rattle.numbers.specs.Numbers.{bit, is_set}
use Rattle.flags.specs.{Word.word_of, Word.flags_of, Word.is_flags, declared.word.Flags.Flags}
use Rattle.numbers.proofs.{Masks.digit_and, BitLaws.bit_le, BitLaws.flag_of, BitLaws.bit-is_set}

-- a word with no bit set but those six, all together 08D5
pub record Within (w : ℕ) : Type 0 where
  pub bit1 : w / 2 % 2 ≡ 0
  pub bit3 : w / 8 % 2 ≡ 0
  pub bit5 : w / 32 % 2 ≡ 0
  pub bits8to10 : w / 256 % 8 ≡ 0
  pub above : w < 4096

-- what a word of six digits has at each place
module _ (c p a z s o w : ℕ) (hc : c ≤ 1) (hp : p ≤ 1) (ha : a ≤ 1) (hz : z ≤ 1) (hs : s ≤ 1) (ho : o ≤ 1)
    (e : w ≡ c * 0x0001 + p * 0x0004 + a * 0x0010 + z * 0x0040 + s * 0x0080 + o * 0x0800) where
  places : (w / 2 ^ 0 % 2 ≡ c) × (w / 2 ^ 2 % 2 ≡ p) × (w / 2 ^ 4 % 2 ≡ a) × (w / 2 ^ 6 % 2 ≡ z) × (w / 2 ^ 7 % 2 ≡ s) × (w / 2 ^ 11 % 2 ≡ o)
  places = omega arith

  between : Within w
  between = omega arith

module _ (f : Flags) where
  six {ℓ} : (P : ℕ → ℕ → ℕ → ℕ → ℕ → ℕ → ℕ → Type ℓ) → ((c p a z s o w : ℕ) → c ≤ 1 → p ≤ 1 → a ≤ 1 → z ≤ 1 → s ≤ 1 → o ≤ 1 → w ≡ c * 0x0001 + p * 0x0004 + a * 0x0010 + z * 0x0040 + s * 0x0080 + o * 0x0800 → P c p a z s o w)
      → P (bit f.carry) (bit f.parity) (bit f.aux_carry) (bit f.zero) (bit f.sign) (bit f.overflow) (word_of f)
  unfolding word_of
  six P h = h _ _ _ _ _ _ _ (bit_le f.carry) (bit_le f.parity) (bit_le f.aux_carry) (bit_le f.zero) (bit_le f.sign) (bit_le f.overflow) refl

  pub together_within : Within (word_of f)
  together_within = six (λ c p a z s o w. Within w) between

  pub apart_together : flags_of (word_of f) ≡ f
  unfolding flags_of
  apart_together =
      let at = six (λ c p a z s o w. (w / 2 ^ 0 % 2 ≡ c) × (w / 2 ^ 2 % 2 ≡ p) × (w / 2 ^ 4 % 2 ≡ a) × (w / 2 ^ 6 % 2 ≡ z) × (w / 2 ^ 7 % 2 ≡ s) × (w / 2 ^ 11 % 2 ≡ o)) places in
      λ i. record {
        carry = flag_of f.carry at.0 i;
        parity = flag_of f.parity at.1 i;
        aux_carry = flag_of f.aux_carry at.2 i;
        zero = flag_of f.zero at.3 i;
        sign = flag_of f.sign at.4 i;
        overflow = flag_of f.overflow at.5 i;
      }

-- a number from its digits, the quotients between them given
assembled : (w q4 q16 q64 q256 c p a z s o : ℕ) → w ≡ c + q4 * 4 → q4 ≡ p + q16 * 4 → q16 ≡ a + q64 * 4 → q64 ≡ z + s * 2 + q256 * 4 → q256 ≡ o * 8
    → c * 0x0001 + p * 0x0004 + a * 0x0010 + z * 0x0040 + s * 0x0080 + o * 0x0800 ≡ w
assembled w q4 q16 q64 q256 c p a z s o e0 e2 e4 e6 e8 = omega arith

pub together_apart : (w : ℕ) → Within w → word_of (flags_of w) ≡ w
unfolding flags_of word_of
together_apart w h =
    simp bit-is_set
    (assembled w (w / 4) (w / 16) (w / 64) (w / 256) _ _ _ _ _ _ (first h.bit1) (second h.bit3) (third h.bit5) fourth (fifth h.bits8to10 h.above))
  where
    first : w / 2 % 2 ≡ 0 → w ≡ w / 1 % 2 + w / 4 * 4
    first e = omega arith

    second : w / 8 % 2 ≡ 0 → w / 4 ≡ w / 4 % 2 + w / 16 * 4
    second e = omega arith

    third : w / 32 % 2 ≡ 0 → w / 16 ≡ w / 16 % 2 + w / 64 * 4
    third e = omega arith

    fourth : w / 64 ≡ w / 64 % 2 + w / 128 % 2 * 2 + w / 256 * 4
    fourth = omega arith

    fifth : w / 256 % 8 ≡ 0 → w < 4096 → w / 256 ≡ w / 2048 % 2 * 8
    fifth e l = omega arith

-- ---- a word is one of flags exactly where the mask 08D5 keeps it

kept_digit : (k w : ℕ) → 0x08D5 / 2 ^ k % 2 ≡ 1 → is_set k (bit_and w 0x08D5) ≡ is_set k w
kept_digit k w e =
    let d = w / 2 ^ k % 2 in
    ap (λ (x : ℕ). eqb x 1) (digit_and k w 0x08D5 ∙ ap (bit_and d) e ∙ and_mask d 1 ∙ mod-eq_of_lt (mod-lt (w / 2 ^ k) (lit< tt)))

cleared : (k j w : ℕ) → 0x08D5 / 2 ^ k % 2 ^ j ≡ 0 → bit_and w 0x08D5 / 2 ^ k % 2 ^ j ≡ 0
cleared k j w e =
    ap (λ (x : ℕ). x % 2 ^ j) (and_shr w 0x08D5 k) ∙ and_mod (w / 2 ^ k) (0x08D5 / 2 ^ k) j ∙ ap (bit_and (w / 2 ^ k % 2 ^ j)) e ∙ and_zero_r (w / 2 ^ k % 2 ^ j)

masked_within : (w : ℕ) → Within (bit_and w 0x08D5)
masked_within w =
    record {
      bit1 = cleared 1 1 w refl;
      bit3 = cleared 3 1 w refl;
      bit5 = cleared 5 1 w refl;
      bits8to10 = cleared 8 3 w refl;
      above = omega (arith, and_le_r w 0x08D5);
    }

pub is_masked : (w : ℕ) → is_flags w ≡ eqb (bit_and w 0x08D5) w
unfolding is_flags flags_of
is_masked w =
    let same : flags_of w ≡ flags_of (bit_and w 0x08D5) =
    λ i. record {
      carry = sym (kept_digit 0 w refl) i;
      parity = sym (kept_digit 2 w refl) i;
      aux_carry = sym (kept_digit 4 w refl) i;
      zero = sym (kept_digit 6 w refl) i;
      sign = sym (kept_digit 7 w refl) i;
      overflow = sym (kept_digit 11 w refl) i;
    } in
    ap (λ (v : ℕ). eqb v w) (ap word_of same ∙ together_apart (bit_and w 0x08D5) (masked_within w))

-- a digit put in below a word that was shifted to make room
abbrev pub pushed : ℕ → ℕ → ℕ → ℕ
pushed k w b = bit_or (w * 2 ^ k % 2 ^ 16) b

push : (k w b : ℕ) {v : ℕ} → w ≡ v → v * 2 ^ k < 2 ^ 16 → b < 2 ^ k → pushed k w b ≡ v * 2 ^ k + b
push k w b {v} e small hb = ap (λ (x : ℕ). pushed k x b) e ∙ ap (λ (x : ℕ). bit_or x b) (mod-eq_of_lt small) ∙ or_shifted v k b hb

-- the six put in one after the other, from the highest down
pub pushed_six : (f : Flags)
    → pushed 2 (pushed 2 (pushed 2 (pushed 1 (pushed 4 (bit f.overflow) (bit f.sign)) (bit f.zero)) (bit f.aux_carry)) (bit f.parity)) (bit f.carry)
    ≡ word_of f
unfolding word_of
pushed_six f =
    let c = bit_le f.carry in
    let p = bit_le f.parity in
    let a = bit_le f.aux_carry in
    let z = bit_le f.zero in
    let s = bit_le f.sign in
    let o = bit_le f.overflow in
    let w4 = push 4 (bit f.overflow) (bit f.sign) refl (omega arith) (omega arith) in
    let w5 = push 1 _ (bit f.zero) w4 (omega arith) (omega arith) in
    let w7 = push 2 _ (bit f.aux_carry) w5 (omega arith) (omega arith) in
    let w9 = push 2 _ (bit f.parity) w7 (omega arith) (omega arith) in
    push 2 _ (bit f.carry) w9 (omega arith) (omega arith) ∙ omega arith

-- a word within 08D5 passes the test
pub within_flags : (w : ℕ) → Within w → is_flags w ≡ true
unfolding is_flags
within_flags w h = eq-eqb (word_of (flags_of w)) w (together_apart w h)
