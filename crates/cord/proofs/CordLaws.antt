-- CORD over the width n: its rounds give the quotient and the remainder, and the chart's count of ones and last compare.
-- Assumes nothing.
use mathlib.Core.{Path.◌≡◌, Path.refl, Path.sym, Path.ap, Path.ap₂, Path.◌∙◌, Bool.Bool, Bool.true, Bool.false, Bool.not, Logic.inl, Logic.inr}
use Prim.Native.Nat.{ℕ, zero, suc, ◌+◌, ◌-◌, ◌*◌, ◌/◌, ◌%◌, ◌^◌, ◌≤◌, ◌<◌}
use native.Mathlib.{Nat.pow-suc, Nat.div-add-mod', Nat.mod-lt, Nat.mod-eq_of_lt, Nat.div-eq_of_lt, Nat.div-lt_iff_lt-mul, Nat.le-div_iff_mul-le, Omega.arith}
use lib.{Arith.digits_lt, Arith.digits_div, Arith.digits_mod, Arith.lt-one, Dec.leb, Dec.ltb, Pow.pow-add, Pow.pow_pos}
use borrow.Author.Tests.{leb-true, leb-false, le-leb, lt-leb, lt-ltb, le-ltb}
use Rattle.std.proofs.Math.Nat.{div-le_self}
use Rattle.std.proofs.lemmas.Nat.{shl_whole, one_shl}
use Rattle.numbers.specs.Numbers.{top, top_set}
use Rattle.numbers.proofs.{Powers.top_twice, Widths.Width, Widths.most_bits}
use Rattle.cord.specs.Round.{Round, high, low, by_road, cord_round}
use Rattle.cord.specs.Cord.{CordAnswer, accepted, refused, shifted, Road, shifted_out, no_borrow, borrow as borrows, road_by, road, tally, by_shifted_out, shifted_outs, by_no_borrow, no_borrows, both_roads, no_roads, last_by, last_compare, cord_steps, cord}

-- ---- the shifts of the code, whose numbers have 64 bits, and the width k as the code reads it

module _ {n : ℕ} (width : Width n) where
  -- a half put on top
  pub on_top : {w x k : ℕ} → w ≡ x → w < 2 ^ n → k ≡ n → w * 2 ^ k % 2 ^ 64 ≡ x * 2 ^ n
  on_top {w} {x} {k} e h ek = rw ek (shl_whole w n n 64 h (omega (arith, most_bits n width)) ∙ ap (λ (y : ℕ). y * 2 ^ n) e)

  -- the border of two halves
  pub border_at : {k : ℕ} → k ≡ n → 1 * 2 ^ (2 * k) % 2 ^ 64 ≡ 2 ^ n * 2 ^ n
  border_at {k} ek =
      let both : 2 * k ≡ n + n = omega arith in
      one_shl (2 * k) 64 (omega (arith, most_bits n width)) ∙ ap (λ (j : ℕ). 2 ^ j) both ∙ pow-add 2 n n

  -- a number of two halves fits 32 bits, and so does its upper half
  pub both_fit : (x : ℕ) → x / 2 ^ n < 2 ^ n → x < 2 ^ 32
  both_fit x h = elim width [ inl e ↦ (let h8 = rw e at h in omega arith) | inr e ↦ (let h16 = rw e at h in omega arith) ]

  pub half_fits : (x : ℕ) {k : ℕ} → x / 2 ^ n < 2 ^ n → k ≡ n → x / 2 ^ k < 2 ^ 32
  half_fits x h ek = rw ek (omega (arith, both_fit x h, div-le_self x (2 ^ n)))

-- ---- a round of the code

-- the state that one number for both halves stands for, and one for the last compare with what stood below it
abbrev pub halved : ℕ → ℕ → ℕ → ℕ → ℕ → Round
halved n x l u v = record { tmpa = x / 2 ^ n; tmpc = x % 2 ^ n; compared = l / 2 ^ n; shifted_out = u; no_borrow = v }

same : {a a' c c' l l' : ℕ} (u v : ℕ) → a ≡ a' → c ≡ c' → l ≡ l'
    → ◌≡◌ {A = Round} (record { tmpa = a; tmpc = c; compared = l; shifted_out = u; no_borrow = v }) (record { tmpa = a'; tmpc = c'; compared = l'; shifted_out = u; no_borrow = v })
same u v p q r = cc

module _ (n b x l u v : ℕ) (hn : 0 < n) where
  abbrev s : Round
  s = halved n x l u v

  -- the number shifted left by one is the pair shifted
  whole : x * 2 ≡ high n s * 2 ^ n + low n s
  whole = omega (arith, div-add-mod' x (2 ^ n), div-add-mod' (x % 2 ^ n * 2) (2 ^ n))

  small : low n s < 2 ^ n
  small = mod-lt (x % 2 ^ n * 2) (pow_pos n)

  high_is : x * 2 / 2 ^ n ≡ high n s
  high_is = ap (λ (y : ℕ). y / 2 ^ n) whole ∙ digits_div (high n s) small

  low_is : x * 2 % 2 ^ n ≡ low n s
  low_is = ap (λ (y : ℕ). y % 2 ^ n) whole ∙ digits_mod (high n s) small

  -- its lowest bit is clear, so there is room for a one
  room : low n s + 1 < 2 ^ n
  room =
      let m = top_twice n hn in
      let even : x * 2 ≡ high n s * (top n * 2) + low n s = whole ∙ ap (λ (y : ℕ). high n s * y + low n s) (sym m) in
      omega (arith, small)

  -- with the one beside it, less the divisor
  less : b ≤ high n s → x * 2 + 1 - b * 2 ^ n ≡ (high n s - b) * 2 ^ n + (low n s + 1)
  less h = by (high n s - b) (omega arith)
    where
      by : (g : ℕ) → high n s ≡ b + g → x * 2 + 1 - b * 2 ^ n ≡ g * 2 ^ n + (low n s + 1)
      by g e = let w : x * 2 ≡ (b + g) * 2 ^ n + low n s = whole ∙ ap (λ (y : ℕ). y * 2 ^ n + low n s) e in omega arith

  less_high : b ≤ high n s → (x * 2 + 1 - b * 2 ^ n) / 2 ^ n ≡ high n s - b
  less_high h = ap (λ (y : ℕ). y / 2 ^ n) (less h) ∙ digits_div (high n s - b) room

  less_low : b ≤ high n s → (x * 2 + 1 - b * 2 ^ n) % 2 ^ n ≡ low n s + 1
  less_low h = ap (λ (y : ℕ). y % 2 ^ n) (less h) ∙ digits_mod (high n s - b) room

  -- a border for the number is one for the upper half
  reaches : (y : ℕ) → y * 2 ^ n ≤ x * 2 → y ≤ high n s
  reaches y h = let q : y ≤ x * 2 / 2 ^ n = (le-div_iff_mul-le (pow_pos n)).1 h in rw high_is at q

  below : (y : ℕ) → x * 2 < y * 2 ^ n → high n s < y
  below y h = let q : x * 2 / 2 ^ n < y = (div-lt_iff_lt-mul (pow_pos n)).1 h in rw high_is at q

  module _ {divisor border : ℕ} (ed : divisor ≡ b * 2 ^ n) (eb : border ≡ 2 ^ n * 2 ^ n) where
    pub by_first : b < 2 ^ n → border ≤ x * 2 → halved n (x * 2 + 1 - divisor) l (u + 1) v ≡ cord_round n b s
    unfolding cord_round
    by_first hb h =
        let out = reaches (2 ^ n) (omega arith) in
        rw (ed, le-leb (2 ^ n) (high n s) out) (same (u + 1) v (less_high (omega arith)) (less_low (omega arith)) refl)

    pub by_second : x * 2 < border → divisor ≤ x * 2 → halved n (x * 2 + 1 - divisor) (x * 2) u (v + 1) ≡ cord_round n b s
    unfolding cord_round
    by_second h i =
        let takes = reaches b (omega arith) in
        rw (ed, lt-leb (2 ^ n) (high n s) (below (2 ^ n) (omega arith)), le-leb b (high n s) takes) (same u (v + 1) (less_high takes) (less_low takes) high_is)

    pub by_third : x * 2 < border → x * 2 < divisor → halved n (x * 2) (x * 2) u v ≡ cord_round n b s
    unfolding cord_round
    by_third h i = rw (lt-leb (2 ^ n) (high n s) (below (2 ^ n) (omega arith)), lt-leb b (high n s) (below b (omega arith))) (same u v high_is low_is high_is)

-- ---- the walk

-- after k rounds j bits of the dividend, l, are still to be taken in, and p is what has been: the upper half is its remainder, and the
-- lower half holds l above its quotient
pub record Walked (n b d k : ℕ) (s : Round) : Type 0 where
  pub j : ℕ
  pub p : ℕ
  pub l : ℕ
  pub count : j + k ≡ n
  pub whole : p * 2 ^ j + l ≡ d
  pub rest : l < 2 ^ j
  pub upper : s.tmpa ≡ p % b
  pub lower : s.tmpc ≡ l * 2 ^ k + p / b
  pub few : p / b < 2 ^ k
  pub last : s.compared ≡ last_compare n b k p
  pub outs : s.shifted_out ≡ shifted_outs n b k p
  pub plains : s.no_borrow ≡ no_borrows n b k p

pub begin : (n b a c : ℕ) → a < b → c < 2 ^ n → Walked n b (a * 2 ^ n + c) 0 (record { tmpa = a; tmpc = c; compared = a; shifted_out = 0; no_borrow = 0 })
unfolding last_compare tally
begin n b a c ha hc =
    let none : a / b ≡ 0 = div-eq_of_lt ha in
    record {
      j = n;
      p = a;
      l = c;
      count = omega arith;
      whole = refl;
      rest = hc;
      upper = sym (mod-eq_of_lt ha);
      lower = omega arith;
      few = omega arith;
      last = refl;
      outs = refl;
      plains = refl;
    }

-- the lower half, of a bit t, j bits l and k bits q, shifted left by one
whole_pow : (n j k : ℕ) → suc j + k ≡ n → 2 ^ n ≡ 2 * (2 ^ j * 2 ^ k)
whole_pow n j k e = ap (λ (x : ℕ). 2 ^ x) (sym e) ∙ pow-add 2 (suc j) k ∙ rw pow-suc (omega arith)

pushed : (c t l q p r : ℕ) → l < p → q < r → c ≡ (t * p + l) * r + q → (c * 2 / (2 * (p * r)) ≡ t) × (c * 2 % (2 * (p * r)) ≡ l * (2 * r) + q * 2)
pushed c t l q p r hl hq e =
    let d : c * 2 ≡ t * (2 * (p * r)) + (l * (2 * r) + q * 2) = omega arith in
    let small : l * (2 * r) + q * 2 < 2 * (p * r) = omega (arith, digits_lt hl hq) in
    (rw d (digits_div t small), rw d (digits_mod t small))

-- a prefix with one bit more: its quotient and remainder by whether the divisor fits
pub fits_once : (b p t h : ℕ) → h ≡ p % b * 2 + t → t < 2 → b ≤ h → p % b < b → ((p * 2 + t) / b ≡ p / b * 2 + 1) × ((p * 2 + t) % b ≡ h - b)
fits_once b p t h eh ht hb hr =
    let s = div-add-mod' p b in
    let d : p * 2 + t ≡ (p / b * 2 + 1) * b + (h - b) = ap (λ (x : ℕ). x * 2 + t) (sym s) ∙ omega arith in
    (ap (λ (x : ℕ). x / b) d ∙ digits_div (p / b * 2 + 1) (omega arith), ap (λ (x : ℕ). x % b) d ∙ digits_mod (p / b * 2 + 1) (omega arith))

pub fits_not : (b p t h : ℕ) → h ≡ p % b * 2 + t → h < b → ((p * 2 + t) / b ≡ p / b * 2) × ((p * 2 + t) % b ≡ h)
fits_not b p t h eh hb =
    let s = div-add-mod' p b in
    let d : p * 2 + t ≡ p / b * 2 * b + h = ap (λ (x : ℕ). x * 2 + t) (sym s) ∙ omega arith in
    (ap (λ (x : ℕ). x / b) d ∙ digits_div (p / b * 2) hb, ap (λ (x : ℕ). x % b) d ∙ digits_mod (p / b * 2) hb)

-- one round more. t is the dividend's next bit and l its later ones, p what is taken in so far
module _ (n b d k j t l p : ℕ) (s : Round) (hb : b < 2 ^ n) (pos : 0 < b) (count : suc j + k ≡ n) (ht : t < 2) (hl : l < 2 ^ j)
    (whole : p * (2 ^ j * 2) + (t * 2 ^ j + l) ≡ d)
    (up : s.tmpa ≡ p % b) (lo : s.tmpc ≡ (t * 2 ^ j + l) * 2 ^ k + p / b) (few : p / b < 2 ^ k)
    (lc : s.compared ≡ last_compare n b k p) (so : s.shifted_out ≡ shifted_outs n b k p) (nb : s.no_borrow ≡ no_borrows n b k p) where
  next-high : high n s ≡ p % b * 2 + t
  next-high =
      ap₂ (λ (x y : ℕ). x * 2 + y) up
      (ap (λ (x : ℕ). s.tmpc * 2 / x) (whole_pow n j k count) ∙ (pushed s.tmpc t l (p / b) (2 ^ j) (2 ^ k) hl few lo).0)

  next_low : low n s ≡ l * 2 ^ suc k + p / b * 2
  next_low =
      ap (λ (x : ℕ). s.tmpc * 2 % x) (whole_pow n j k count)
      ∙ (pushed s.tmpc t l (p / b) (2 ^ j) (2 ^ k) hl few lo).1
      ∙ rw pow-suc (omega arith)

  half : (p * 2 + t) / 2 ≡ p
  half = digits_div p ht

  seen : shifted b (p * 2 + t) ≡ high n s
  seen = ap₂ (λ (x y : ℕ). x % b * 2 + y) half (digits_mod p ht) ∙ sym next-high

  on_road : road n b (p * 2 + t) ≡ road_by (leb (2 ^ n) (high n s)) (leb b (high n s))
  unfolding road
  on_road = ap (λ (h : ℕ). road_by (leb (2 ^ n) h) (leb b h)) seen

  abbrev Next : Bool → Bool → Type 0
  Next x y = Walked n b d (suc k) (by_road x y b (high n s) (low n s) s)

  -- what the chart's recursions gain on a road: the last compare, and a tally, whatever it counts
  module _ {r : Road} (e : road n b (p * 2 + t) ≡ r) where
    compare_gains : last_compare n b (suc k) (p * 2 + t) ≡ last_by r (last_compare n b k p) (high n s)
    unfolding last_compare
    compare_gains =
        ap₂ (λ (x y : ℕ). last_by (road n b (p * 2 + t)) x y) (ap (last_compare n b k) half) seen ∙ ap (λ (x : Road). last_by x (last_compare n b k p) (high n s)) e

    tally_gains : (counts : Road → ℕ) → tally counts n b (suc k) (p * 2 + t) ≡ tally counts n b k p + counts r
    unfolding tally
    tally_gains counts = ap₂ (λ (x : ℕ) (y : Road). x + counts y) (ap (tally counts n b k) half) e

  taken_in : (p * 2 + t) * 2 ^ j + l ≡ d
  taken_in = omega arith

  with_one : (x y : Bool) → b ≤ high n s → road n b (p * 2 + t) ≡ road_by x y
      → (by_road x y b (high n s) (low n s) s).tmpa ≡ high n s - b
      → (by_road x y b (high n s) (low n s) s).tmpc ≡ low n s + 1
      → (by_road x y b (high n s) (low n s) s).compared ≡ last_by (road_by x y) s.compared (high n s)
      → (by_road x y b (high n s) (low n s) s).shifted_out ≡ s.shifted_out + by_shifted_out (road_by x y)
      → (by_road x y b (high n s) (low n s) s).no_borrow ≡ s.no_borrow + by_no_borrow (road_by x y)
      → Next x y
  with_one x y h e ra rc rl ro rn =
      let q = fits_once b p t (high n s) next-high ht h (mod-lt p pos) in
      let f = next_low in
      record {
        j = j;
        p = p * 2 + t;
        l = l;
        count = omega arith;
        whole = taken_in;
        rest = hl;
        upper = ra ∙ sym q.1;
        lower = rc ∙ omega arith;
        few = rw pow-suc (omega arith);
        last = rl ∙ ap (λ (z : ℕ). last_by (road_by x y) z (high n s)) lc ∙ sym (compare_gains e);
        outs = omega (arith, tally_gains e by_shifted_out);
        plains = omega (arith, tally_gains e by_no_borrow);
      }

  pub stepped : (x y : Bool) → leb (2 ^ n) (high n s) ≡ x → leb b (high n s) ≡ y → Next x y
  stepped true y ex ey = with_one true y (omega (arith, leb-true (2 ^ n) (high n s) ex)) (on_road ∙ ap₂ road_by ex ey) refl refl refl (omega arith) (omega arith)
  stepped false true ex ey = with_one false true (leb-true b (high n s) ey) (on_road ∙ ap₂ road_by ex ey) refl refl refl (omega arith) (omega arith)
  stepped false false ex ey =
      let q = fits_not b p t (high n s) next-high (leb-false b (high n s) ey) in
      let f = next_low in
      let e = on_road ∙ ap₂ road_by ex ey in
      record {
        j = j;
        p = p * 2 + t;
        l = l;
        count = omega arith;
        whole = taken_in;
        rest = hl;
        upper = sym q.1;
        lower = omega arith;
        few = rw pow-suc (omega arith);
        last = sym (compare_gains e);
        outs = omega (arith, tally_gains e by_shifted_out);
        plains = omega (arith, tally_gains e by_no_borrow);
      }

pub next : (n b d k : ℕ) (s r : Round) → b < 2 ^ n → 0 < b → k < n → Walked n b d k s → r ≡ cord_round n b s → Walked n b d (suc k) r
unfolding cord_round
next n b d k s r hb pos hk w e = rw e (go w.j w.count w.rest w.whole)
  where
    go : (j : ℕ) → j + k ≡ n → w.l < 2 ^ j → w.p * 2 ^ j + w.l ≡ d
        → Walked n b d (suc k) (by_road (leb (2 ^ n) (high n s)) (leb b (high n s)) b (high n s) (low n s) s)
    go zero c h i = absurd (omega arith)
    go (suc j) c h i =
        let split = div-add-mod' w.l (2 ^ j) in
        let twice : w.l < 2 ^ j * 2 = rw pow-suc at h in
        stepped n b d k j (w.l / 2 ^ j) (w.l % 2 ^ j) w.p s hb pos c
        ((div-lt_iff_lt-mul (pow_pos j)).1 (omega arith))
        (mod-lt w.l (pow_pos j))
        (rw split (rw pow-suc at i))
        w.upper
        (w.lower ∙ ap (λ (x : ℕ). x * 2 ^ k + w.p / b) (sym split))
        w.few w.last w.outs w.plains _ _ refl refl

-- the last compare's left side stays one of n bits: a half that was compared had no bit shifted out
pub compared_lt : (n b : ℕ) (s : Round) {r : Round} → r ≡ cord_round n b s → s.compared < 2 ^ n → r.compared < 2 ^ n
unfolding cord_round
compared_lt n b s e h = rw e (by (leb (2 ^ n) (high n s)) (leb b (high n s)) refl)
  where
    by : (x y : Bool) → leb (2 ^ n) (high n s) ≡ x → (by_road x y b (high n s) (low n s) s).compared < 2 ^ n
    by true y t = h
    by false true t = leb-false (2 ^ n) (high n s) t
    by false false t = leb-false (2 ^ n) (high n s) t

-- ---- the answer

-- the top bit clear, as C says it
not_leb : (a b : ℕ) → not (leb a b) ≡ ltb b a
not_leb a b = by (leb a b) refl
  where
    by : (t : Bool) → leb a b ≡ t → not t ≡ ltb b a
    by true e = sym (le-ltb b a (leb-true a b e))
    by false e = sym (lt-ltb b a (leb-false a b e))

pub refuses : (n b a c steps : ℕ) → c < 2 ^ n → b ≤ a → record { outcome = refused; carry = false; compared = a; roads = no_roads; steps = steps + 4 } ≡ cord n b (a * 2 ^ n + c) steps
unfolding cord
refuses n b a c steps hc h = rw (digits_div a hc, le-leb b a h)

-- a round makes at most one 1, and by one road
one-road : (r : Road) → by_shifted_out r + by_no_borrow r ≤ 1
one-road shifted_out = omega arith
one-road no_borrow = omega arith
one-road borrows = omega arith

-- and so the ones are at most as many as the rounds
pub most_ones : (n b k p : ℕ) → shifted_outs n b k p + no_borrows n b k p ≤ k
unfolding tally
most_ones n b zero p = omega arith
most_ones n b (suc k) p = omega (arith, most_ones n b k (p / 2), one-road (road n b p))

-- what a state of the walk offers the next round
pub ready : (n b d k : ℕ) (s : Round) → 0 < b → Walked n b d k s → (s.tmpa < b) × (s.shifted_out + s.no_borrow ≤ k)
ready n b d k s pos w = (omega (arith, w.upper, mod-lt w.p pos), omega (arith, w.outs, w.plains, most_ones n b k w.p))

-- the walk at its end: everything is taken in
module _ (n b a c steps : ℕ) (ha : a < b) (hc : c < 2 ^ n) where
  abbrev d : ℕ
  d = a * 2 ^ n + c

  abbrev AtEnd : Round → Type 0
  AtEnd s = (s.tmpc ≡ d / b) × (s.tmpa ≡ d % b) × (s.compared ≡ last_compare n b n d) × (s.shifted_out ≡ shifted_outs n b n d) × (s.no_borrow ≡ no_borrows n b n d)

  end : (s : Round) → Walked n b d n s → AtEnd s
  end s w = go w.j w.count w.rest w.whole
    where
      go : (j : ℕ) → j + n ≡ n → w.l < 2 ^ j → w.p * 2 ^ j + w.l ≡ d → AtEnd s
      go (suc j) e h i = absurd (omega arith)
      go zero e h i =
          let z : w.l ≡ 0 = lt-one h in
          let all : w.p ≡ d = omega arith in (
            w.lower ∙ ap₂ (λ (x y : ℕ). x * 2 ^ n + y / b) z all ∙ omega arith,
            w.upper ∙ ap (λ (x : ℕ). x % b) all,
            w.last ∙ ap (last_compare n b n) all,
            w.outs ∙ ap (shifted_outs n b n) all,
            w.plains ∙ ap (no_borrows n b n) all,
          )

  pub cord-accepts : (s : Round) → Walked n b d n s → {quotient remainder compared t : ℕ} {carry : Bool} → quotient ≡ s.tmpc → remainder ≡ s.tmpa
      → compared ≡ s.compared → carry ≡ not (top_set n quotient) → t ≡ steps + 6 + 8 * n + s.no_borrow + 2 * (quotient % 2)
      → ◌≡◌ {A = CordAnswer}
      (record {
        outcome = accepted (record { quotient = quotient; remainder = remainder });
        carry = carry;
        compared = compared;
        roads = both_roads s.shifted_out s.no_borrow;
        steps = t;
      })
      (cord n b d steps)
  unfolding cord
  cord-accepts s w {quotient} {remainder} {compared} {t} {carry} eq er em ec et =
      let f = end s w in
      let q : quotient ≡ d / b = eq ∙ f.0 in
      let whole : t ≡ steps + cord_steps n b d = et ∙ rw q (omega (arith, f.4)) in
      rw (digits_div a hc, lt-leb b a ha)
      (λ i. record {
        outcome = accepted (record { quotient = q i; remainder = (er ∙ f.1) i });
        carry = (ec ∙ not_leb (top n) quotient ∙ ap (λ (x : ℕ). ltb x (top n)) q) i;
        compared = (em ∙ f.2) i;
        roads = both_roads (f.3 i) (f.4 i);
        steps = whole i;
      })
