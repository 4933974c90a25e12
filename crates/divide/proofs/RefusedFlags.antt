-- The flags that a refused divide leaves, over the width n: by its reason, those of the first compare or of the last; C is clear; the flags
-- handed in are not seen. Assumes nothing.
use mathlib.Core.{Path.◌≡◌, Path.refl, Path.sym, Path.ap, Path.ap₂, Path.◌∙◌, Bool.Bool, Bool.true, Bool.false, Bool.◌||◌, Bool.or-true, Bool.false≢true}
use Prim.Native.Nat.{ℕ, zero, suc, ◌+◌, ◌-◌, ◌*◌, ◌/◌, ◌^◌, ◌≤◌, ◌<◌}
use native.Mathlib.{Nat.div-lt_iff_lt-mul, Omega.arith}
use lib.{Dec.leb, Pow.pow-add, Pow.pow_pos}
use borrow.Author.Tests.{leb-false, eqb-true}
use Rattle.flags.specs.{Word.set_coa, Szp.szp, declared.word.Flags.Flags}
use Rattle.numbers.proofs.{Powers.top_twice, SignLaws.plain_lt, SignLaws.magnitude-plain}
use Rattle.alu.specs.{Result.ResultCoa, Sum.sub}
use Rattle.alu.proofs.SumLaws.{sub_nothing}
use Rattle.cord.specs.Cord.{shifted, Road, road_by, last_by, last_compare}
use Rattle.divide.specs.Flags.{compare_flags}
use Rattle.divide.specs.Divide.{Divided, refused, applies, dividend_of, divisor_of, at_first, refused_flags, divide}
use Rattle.divide.specs.declared.div.Refusal.{Refusal}
use Rattle.divide.specs.declared.div.Refusal.TheVariants.{ZeroDivisor, TooWide, SignRange}
use Rattle.cord.proofs.RoadLaws.{never_out}
use Rattle.divide.proofs.{DivLaws.divisor_half, Answers.nothing, Refusals.first_two, Refusals.one_alone, Refusals.refused-whole, Refusals.refused_for_lem}

-- a divide sets all six, accepted or refused, so that those handed in are not seen
pub flags_not_seen : (n : ℕ) (s rep : Bool) (d b : ℕ) (f g : Flags) → divide n s rep d b f ≡ divide n s rep d b g
unfolding divide compare_flags szp
flags_not_seen n true rep d b f g = refl
flags_not_seen n false rep d b f g = refl

-- ---- by the reason

module _ (n : ℕ) (s : Bool) (d b : ℕ) (hn : 0 < n) (rep : Bool) (f : Flags) where
  flags_for : (why : Refusal) → (divide n s rep d b f).outcome ≡ refused why → (divide n s rep d b f).flags ≡ refused_flags n s d b f
  flags_for why h = ap (λ (a : Divided). a.flags) (refused-whole n s d b hn f rep why ((refused_for_lem n s d b hn f rep why).0 h))

  -- C is clear
  pub refused_c : (why : Refusal) → (divide n s rep d b f).outcome ≡ refused why → (divide n s rep d b f).flags.carry ≡ false
  unfolding compare_flags szp
  refused_c why h = ap (λ (g : Flags). g.carry) (flags_for why h)

module _ (n : ℕ) (s : Bool) (d b : ℕ) (hn : 0 < n) (hd : d < 2 ^ (n + n)) (hb : b < 2 ^ n) (rep : Bool) (f : Flags) where
  abbrev pub First : Type 0
  First = (divide n s rep d b f).flags ≡ compare_flags n (dividend_of n s d / 2 ^ n) (divisor_of n s b) false f

  first : (why : Refusal) → (divide n s rep d b f).outcome ≡ refused why → at_first n s d b ≡ true → First
  first why h e = flags_for n s d b hn rep f why h ∙ rw e refl

  -- a divisor of 0 and a quotient too wide leave the flags of the first compare
  pub zero_divisor_flags : (divide n s rep d b f).outcome ≡ refused ZeroDivisor → First
  zero_divisor_flags h = first ZeroDivisor h (first_two n s d b hn hd hb ∙ rw ((refused_for_lem n s d b hn f rep ZeroDivisor).0 h) refl)

  pub too_wide_flags : (divide n s rep d b f).outcome ≡ refused TooWide → First
  too_wide_flags h = first TooWide h (first_two n s d b hn hd hb ∙ rw ((refused_for_lem n s d b hn f rep TooWide).0 h) (or-true (applies ZeroDivisor n s d b)))

-- ---- a divisor of 0: the upper half less 0, so that A, C and O are clear, and S, Z and P are those of the upper half itself

upper_fits : (n : ℕ) (s : Bool) (d : ℕ) → 0 < n → d < 2 ^ (n + n) → dividend_of n s d / 2 ^ n < 2 ^ n
upper_fits n s d hn hd = (div-lt_iff_lt-mul (pow_pos n)).1 (rw (← pow-add 2 n n) (within s))
  where
    within : (s : Bool) → dividend_of n s d < 2 ^ (n + n)
    within true = omega (arith, magnitude-plain (n + n) d hd, plain_lt (n + n) d (omega arith) hd, top_twice (n + n) (omega arith), pow_pos (n + n - 1))
    within false = hd

module _ (n : ℕ) (s : Bool) (d b : ℕ) (hn : 0 < n) (hd : d < 2 ^ (n + n)) (hb : b < 2 ^ n) (rep : Bool) (f : Flags)
    (h : (divide n s rep d b f).outcome ≡ refused ZeroDivisor) where
  pub by_zero_leaves : (divide n s rep d b f).flags ≡ szp 16 (dividend_of n s d / 2 ^ n) (set_coa false false false f)
  unfolding compare_flags
  by_zero_leaves =
      let none : divisor_of n s b ≡ 0 = ap (divisor_of n s) (eqb-true b 0 ((refused_for_lem n s d b hn f rep ZeroDivisor).0 h)) ∙ nothing n s in
      let left = dividend_of n s d / 2 ^ n in
      zero_divisor_flags n s d b hn hd hb rep f h
      ∙ ap (λ (x : ℕ). szp 16 (sub n left x).result (set_coa false (sub n left x).overflow (sub n left x).aux_carry f)) none
      ∙ ap (λ (r : ResultCoa). szp 16 r.result (set_coa false r.overflow r.aux_carry f)) (sub_nothing n left hn (upper_fits n s d hn hd))

-- ---- sign range: the last compare is that of the last round, since with a divisor of at most half the range no bit is shifted out

last_round : (n b p k : ℕ) → 0 < k → 0 < b → b * 2 ≤ 2 ^ n → last_compare n b k p ≡ shifted b p
unfolding last_compare
last_round n b p zero some pos half = absurd (omega arith)
last_round n b p (suc k) some pos half =
    ap (λ (r : Road). last_by r (last_compare n b k (p / 2)) (shifted b p)) (never_out n b p pos half) ∙ either (leb b (shifted b p))
  where
    either : (x : Bool) → last_by (road_by false x) (last_compare n b k (p / 2)) (shifted b p) ≡ shifted b p
    either true = refl
    either false = refl

abbrev is_range : Refusal → Bool
is_range SignRange = true
is_range ZeroDivisor = false
is_range TooWide = false

module _ (n d b : ℕ) (hn : 0 < n) (hd : d < 2 ^ (n + n)) (hb : b < 2 ^ n) (rep : Bool) (f : Flags)
    (h : (divide n true rep d b f).outcome ≡ refused SignRange) where
  range : applies SignRange n true d b ≡ true
  range = (refused_for_lem n true d b hn f rep SignRange).0 h

  not_also : (why : Refusal) → is_range why ≡ false → applies why n true d b ≡ false
  not_also why e = by (applies why n true d b) refl
    where
      by : (x : Bool) → applies why n true d b ≡ x → x ≡ false
      by true x = absurd (false≢true (sym e ∙ ap is_range (one_alone n true d b why SignRange x range)))
      by false x = refl

  later : at_first n true d b ≡ false
  later = first_two n true d b hn hd hb ∙ ap₂ (λ (x y : Bool). x || y) (not_also ZeroDivisor refl) (not_also TooWide refl)

  -- the flags are those of the last compare made
  pub sign_range_flags : (divide n true rep d b f).flags ≡ compare_flags n (last_compare n (divisor_of n true b) n (dividend_of n true d)) (divisor_of n true b) false f
  sign_range_flags = flags_for n true d b hn rep f SignRange h ∙ rw later refl

  -- which holds to the divisor what the dividend without its last bit leaves, doubled, with that bit
  pub sign_range-compare : last_compare n (divisor_of n true b) n (dividend_of n true d) ≡ shifted (divisor_of n true b) (dividend_of n true d)
  sign_range-compare =
      let some : 0 < divisor_of n true b = omega (arith, leb-false (divisor_of n true b) (dividend_of n true d / 2 ^ n) later) in
      last_round n (divisor_of n true b) (dividend_of n true d) n hn some (divisor_half n b hn hb)
