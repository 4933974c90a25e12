-- What is written is read as the same number: an answer line is 19 bytes, and its digits read back give what was written, in any letters that are
-- read as their digits. Capitals are such, and small letters read as capitals do. Assumes nothing.
use mathlib.Core.{Path.◌≡◌, Path.refl, Bool.Bool, Bool.true, Bool.false, Bool.cond}
use Prim.Native.Nat.{ℕ, ◌+◌, ◌/◌, ◌%◌, ◌<◌, ◌≤◌}
use native.Mathlib.Omega.{arith}
use lib.{Dec.ltb, ListN.length}
use borrow.Author.Tests.{ltb-true, ltb-false, lt-ltb, le-leb, lt-leb}
use Rattle.text.specs.{Digits.digit_of, Digits.capital_of, Fields.four_of, Fields.four_at, Plain.number_of, Written.two, Written.four, Written.written}

pub written_length : (letter : ℕ → ℕ) (status flags steps r s : ℕ) → length (written letter status flags steps r s) ≡ 19
unfolding written
written_length letter status flags steps r s = refl

-- ---- one digit

-- 0 to 9, A to F, a to f
figure : (k : ℕ) → k < 10 → digit_of (0x30 + k) ≡ k
unfolding digit_of
figure k h = simp (le-leb 0x30 (0x30 + k) (omega arith), le-leb (0x30 + k) 0x39 (omega arith)) (omega arith)

capital_letter : (k : ℕ) → 10 ≤ k → k < 16 → digit_of (0x37 + k) ≡ k
unfolding digit_of
capital_letter k l h =
    simp (lt-leb (0x37 + k) 0x39 (omega arith), le-leb 0x30 (0x37 + k) (omega arith), le-leb 0x41 (0x37 + k) (omega arith), le-leb (0x37 + k) 0x46 (omega arith))
    (omega arith)

pub small_letter : (c : ℕ) → 0x41 ≤ c → c ≤ 0x46 → digit_of (c + 0x20) ≡ digit_of c
unfolding digit_of
small_letter c l h =
    simp (
      le-leb 0x30 c (omega arith),
      lt-leb c 0x39 (omega arith),
      le-leb 0x41 c l,
      le-leb c 0x46 h,
      le-leb 0x30 (c + 0x20) (omega arith),
      lt-leb (c + 0x20) 0x39 (omega arith),
      le-leb 0x41 (c + 0x20) (omega arith),
      lt-leb (c + 0x20) 0x46 (omega arith),
      le-leb 0x61 (c + 0x20) (omega arith),
      le-leb (c + 0x20) 0x66 (omega arith),
    )
    (omega arith)

pub digit-read : (k : ℕ) → k < 16 → digit_of (capital_of k) ≡ k
unfolding capital_of
digit-read k h = by (ltb k 10) refl
  where
    by : (x : Bool) → ltb k 10 ≡ x → digit_of (cond x (0x30 + k) (0x37 + k)) ≡ k
    by true e = figure k (ltb-true _ _ e)
    by false e = capital_letter k (ltb-false _ _ e) h

-- ---- four digits, and a line of them, in letters that are read as their digits

module _ (letter : ℕ → ℕ) (reads : (k : ℕ) → k < 16 → digit_of (letter k) ≡ k) where
  pub four-read : (k : ℕ) → k < 0x1_0000 → four_at (four letter k) 0 ≡ k
  unfolding four_at four_of
  four-read k h =
      let a : k / 0x1000 < 16 = omega arith in
      let b : k / 0x100 % 16 < 16 = omega arith in
      let c : k / 0x10 % 16 < 16 = omega arith in
      let d : k % 16 < 16 = omega arith in
      simp (reads _ a, reads _ b, reads _ c, reads _ d, lt-ltb _ _ a, lt-ltb _ _ b, lt-ltb _ _ c, lt-ltb _ _ d) (omega arith)

  -- the same in plain words: the number that the digits stand for
  pub two_number : (k : ℕ) → k < 0x100 → number_of (two letter k) ≡ k
  two_number k h = rw (reads (k / 16) (omega arith), reads (k % 16) (omega arith)) (omega arith)

  pub four_number : (k : ℕ) → k < 0x1_0000 → number_of (four letter k) ≡ k
  four_number k h =
      rw (reads (k / 0x1000) (omega arith), reads (k / 0x100 % 16) (omega arith), reads (k / 0x10 % 16) (omega arith), reads (k % 16) (omega arith)) (omega arith)
