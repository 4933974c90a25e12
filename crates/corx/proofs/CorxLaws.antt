-- CORX over the width n: its rounds multiply exactly, whatever carry enters, in the steps that the definition counts.
-- Assumes nothing.
use mathlib.Core.{Path.◌≡◌, Path.refl, Path.sym, Path.ap, Path.ap₂, Path.◌∙◌, Bool.Bool, Bool.true, Bool.false}
use Prim.Native.Nat.{ℕ, zero, suc, ◌+◌, ◌*◌, ◌/◌, ◌%◌, ◌^◌, ◌≤◌, ◌<◌}
use native.Mathlib.{Nat.pow-suc, Nat.mod-lt, Nat.mod-eq_of_lt, Nat.div-add-mod', Nat.div-lt_iff_lt-mul, Nat.le_of_lt, Nat.mul-le-mul_left, Numerals.add-one, Omega.arith}
use lib.{Pow.pow_mono, Pow.pow_pos, Pow.pow-add, Arith.digits_lt, Arith.digits_mod, Count.ones, Count.ones_cat, Count.ones-le, Dec.lit<}
use Rattle.numbers.specs.Numbers.{bit}
use Rattle.numbers.proofs.{Powers.product_lt, Widths.Width, Widths.most_bits}
use Rattle.corx.specs.{Corx.Halves, Corx.corx, InPlace.add_round, declared.AddRound.AddRound}

-- a round adds at most the addend
pub once_le : (x d : ℕ) → d < 2 → x * d ≤ x
once_le x zero h = omega arith
once_le x (suc zero) h = omega arith
once_le x (suc (suc d)) h = absurd (omega arith)

-- a round from its four parts
pub round_of : (s : AddRound) {r : AddRound} → r.product ≡ s.product + s.addend * (s.multiplier % 2) → r.addend ≡ s.addend * 2 → r.multiplier ≡ s.multiplier / 2
    → r.steps ≡ s.steps + 5 + s.multiplier % 2 → r ≡ add_round s
unfolding add_round
round_of s p a m t = λ i. record { product = p i; addend = a i; multiplier = m i; steps = t i }

-- the multiplier with the carry that enters above it
abbrev pub multiplier : ℕ → ℕ → Bool → ℕ
multiplier n c carry = bit carry * 2 ^ n + c

-- after k rounds the digits q of the multiplier m are used, and the product is theirs
pub record Walked (b m start k : ℕ) (s : AddRound) : Type 0 where
  pub q : ℕ
  pub whole : m ≡ s.multiplier * 2 ^ k + q
  pub used : q < 2 ^ k
  pub moved : s.addend ≡ b * 2 ^ k
  pub made : s.product ≡ b * q
  pub paid : s.steps ≡ start + 2 + 6 * k + ones q

pub begins : (b m start : ℕ) → Walked b m start 0 (record { product = 0; addend = b; multiplier = m; steps = start + 2 })
unfolding ones
begins b m start = record { q = 0; whole = omega arith; used = omega arith; moved = omega arith; made = omega arith; paid = omega arith }

-- as the code begins: the carry is shifted above the multiplier, and 32 bits hold it there
pub begins_as : (n b c : ℕ) (carry : Bool) (start : ℕ) → Width n → {a m : ℕ} → a ≡ b → m ≡ bit carry * 2 ^ n % 0x1_0000_0000 + c
    → Walked b (multiplier n c carry) start 0 (record { product = 0; addend = a; multiplier = m; steps = start + 2 })
begins_as n b c carry start width ea em = rw (ea, em ∙ ap (λ (x : ℕ). x + c) (above carry)) (begins b (multiplier n c carry) start)
  where
    above : (k : Bool) → bit k * 2 ^ n % 0x1_0000_0000 ≡ bit k * 2 ^ n
    above true = let most = pow_mono (most_bits n width) in mod-eq_of_lt (omega (arith, most))
    above false = omega arith

-- a round more, with the jump back
abbrev pub jumped : AddRound → AddRound
jumped s = record { product = s.product; addend = s.addend; multiplier = s.multiplier; steps = s.steps + 1 }

pub ones-digit : (d : ℕ) → d < 2 → ones d ≡ d
unfolding ones
ones-digit zero h = refl
ones-digit (suc zero) h = refl
ones-digit (suc (suc d)) h = absurd (omega arith)

module _ (b m start k : ℕ) (s : AddRound) {r : AddRound} (er : r ≡ add_round s) (w : Walked b m start k s) where
  pub next : Walked b m start (k + 1) (jumped r)
  unfolding add_round
  next = rw (er, add-one k) (record {
    q = d * 2 ^ k + w.q;
    whole = w.whole ∙ ap (λ (x : ℕ). x * 2 ^ k + w.q) (sym (div-add-mod' s.multiplier 2)) ∙ rw twok (omega arith);
    used = rw twok (omega (arith, digits_lt {q = d} {m = 2} hd w.used));
    moved = ap (λ (x : ℕ). x * 2) w.moved ∙ rw twok (omega arith);
    made = ap₂ (λ (x y : ℕ). x + y * d) w.made w.moved ∙ omega arith;
    paid = omega (arith, w.paid, ones_cat k d w.q w.used, ones-digit d hd);
  })
    where
      d : ℕ
      d = s.multiplier % 2

      hd : d < 2
      hd = mod-lt s.multiplier (lit< tt)

      twok : 2 ^ suc k ≡ 2 ^ k * 2
      twok = pow-suc 2 k

-- the steps at each place are few
few_steps : (b m start k : ℕ) (s : AddRound) → Walked b m start k s → k ≤ 16 → start < 1000 → s.steps < 1200
few_steps b m start k s w hk hs = omega (arith, w.paid, ones-le k w.q w.used)

-- before the last of n rounds
module _ (n b m start k : ℕ) (s : AddRound) (w : Walked b m start k s) (width : Width n) (more : k < n) (hs : start < 1000) where
  -- the steps are few after a round more too, with its jump
  pub few_after : {r : AddRound} → r ≡ add_round s → r.steps + 1 < 1200
  few_after {r} er = few_steps b m start (k + 1) (jumped r) (next b m start k s er w) (omega (arith, most_bits n width)) hs

  -- what a round asks for
  pub ready : b < 2 ^ n → (s.product < 2 ^ 31) × (s.addend < 2 ^ 31) × (s.steps < 2000)
  ready hb =
      let hn = most_bits n width in
      let most = mul-le-mul_left b ((let few : k ≤ 15 = omega arith in pow_mono few)) in
      let part = mul-le-mul_left b (le_of_lt w.used) in
      let wide = pow_mono hn in
      (omega (arith, w.made), omega (arith, w.moved), omega (arith, few_steps b m start k s w (omega arith) hs))

-- after all n rounds the product is whole
module _ (n b c : ℕ) (carry : Bool) (start : ℕ) (s : AddRound) (w : Walked b (multiplier n c carry) start n s) (hb : b < 2 ^ n) (hc : c < 2 ^ n) where
  all : w.q ≡ c
  all = sym (digits_mod s.multiplier w.used) ∙ ap (λ (x : ℕ). x % 2 ^ n) (sym w.whole) ∙ digits_mod (bit carry) hc

  exact : s.product ≡ b * c
  exact = w.made ∙ ap (λ (x : ℕ). b * x) all

  -- its upper half fits; the last round, which makes no jump back, is followed by 2 steps
  pub ends : {upper lower t : ℕ} → upper ≡ s.product / 2 ^ n % 2 ^ n → lower ≡ s.product % 2 ^ n
      → t ≡ s.steps + 1 → ◌≡◌ {A = Halves} (record { tmpa = upper; tmpc = lower; steps = t }) (corx n b c start)
  unfolding corx
  ends {t = t} eu el et =
      let paid : t ≡ start + (3 + 6 * n + ones c) = omega (arith, et, w.paid, ap ones all) in
      let fits : b * c / 2 ^ n < 2 ^ n = (div-lt_iff_lt-mul (pow_pos n)).1 (omega (arith, pow-add 2 n n, product_lt n hb hc)) in
      let above = eu ∙ ap (λ (x : ℕ). x / 2 ^ n % 2 ^ n) exact ∙ mod-eq_of_lt fits in
      let below = el ∙ ap (λ (x : ℕ). x % 2 ^ n) exact in
      λ i. record { tmpa = above i; tmpc = below i; steps = paid i }
