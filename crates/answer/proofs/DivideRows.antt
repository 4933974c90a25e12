-- A divide's rows of the table, and its answer where none of the first two applies. Assumes nothing.
use mathlib.Core.{Path.◌≡◌, Path.refl, Path.◌∙◌, Bool.Bool, Bool.true, Bool.false, Bool.not, Bool.cond, Bool.◌||◌, List.[], List.◌∷◌, Logic.inl, Logic.inr}
use Prim.Native.Nat.{ℕ, ◌+◌, ◌/◌, ◌%◌, ◌^◌, ◌≤◌, ◌<◌}
use native.Mathlib.Omega.{arith}
use lib.{Bits.bit_and, Dec.leb, Dec.ltb}
use borrow.Author.Tests.{ltb-false, leb-false, lt-ltb, le-ltb, le-leb, eq-eqb, not-false}
use Rattle.numbers.specs.{Numbers.is_set, Rows.OneOf}
use Rattle.flags.specs.Word.{flags_of, is_flags}
use Rattle.flags.proofs.WordLaws.{is_masked}
use Rattle.divide.specs.{Divide.accepts, Divide.applies, Divide.divide, declared.div.Refusal.Refusal}
use Rattle.divide.specs.declared.div.Refusal.TheVariants.{ZeroDivisor, TooWide, SignRange}
use Rattle.divide.proofs.Refusals.{three_cover}
use Rattle.request.specs.{Operation.ops, Operation.listed, Operation.width_of, Operation.mode_of, Operation.operation_of, Judge.judged, Limits.in_limits}
use Rattle.request.specs.declared.operation.Operation.TheVariants.{Divide}
use Rattle.answer.specs.{Charted.bits, Charted.of_divided, Charted.charted, Asked.raw, Asked.asked, Asked.status_of, Table.width_by}
use Rattle.answer.proofs.Table.{by_reason, by_table}

-- an operand that has too many bits for the mode's width
abbrev pub large : ℕ → ℕ → ℕ → Bool
large mode x y = leb (2 ^ (width_by mode + width_by mode)) x || leb (2 ^ width_by mode) y

-- a reason to refuse the divide of that width and sign rule
abbrev pub refused_by : Refusal → ℕ → ℕ → ℕ → Bool
refused_by why mode x y = applies why (width_by mode) (is_set 1 mode) x y

-- the rows of a divide: its mode, its operands, then the three reasons
abbrev pub rows_of : ℕ → ℕ → ℕ → ℕ
rows_of mode x y =
    cond (ltb 0x07 mode) 4 (cond (large mode x y) 5 (by_reason (refused_by ZeroDivisor mode x y) (refused_by TooWide mode x y) (refused_by SignRange mode x y)))

pub some_width : (mode : ℕ) → 0 < width_by mode
some_width mode = by (is_set 0 mode)
  where
    by : (k : Bool) → 0 < cond k 16 8
    by true = omega arith
    by false = omega arith

-- a word with no bit outside 08D5 is a flags word
pub flags_alone : (w : ℕ) → bit_and w 0x08D5 ≡ w → is_flags w ≡ true
flags_alone w h = is_masked w ∙ eq-eqb (bit_and w 0x08D5) w h

-- they give one of six statuses
abbrev pub SixStatuses : ℕ → Type 0
SixStatuses k = OneOf k (0 ∷ 4 ∷ 5 ∷ 6 ∷ 8 ∷ 9 ∷ [])

pub six : (mode x y : ℕ) → SixStatuses (rows_of mode x y)
six mode x y = by (ltb 0x07 mode) (large mode x y) (refused_by ZeroDivisor mode x y) (refused_by TooWide mode x y) (refused_by SignRange mode x y)
  where
    by : (m l z w r : Bool) → SixStatuses (cond m 4 (cond l 5 (by_reason z w r)))
    by true l z w r = inr (inl refl)
    by false true z w r = inr (inr (inl refl))
    by false false true w r = inr (inr (inr (inl refl)))
    by false false false true r = inr (inr (inr (inr (inl refl))))
    by false false false false true = inr (inr (inr (inr (inr (inl refl)))))
    by false false false false false = inl refl

-- REP is in no row: two modes of a divide that differ in it alone name one width and one sign rule
module _ (mode : ℕ) (h : mode ≤ 0x03) where
  pub rep_width : is_set 0 (mode + 0x04) ≡ is_set 0 mode
  rep_width = let same : (mode + 0x04) / 2 ^ 0 % 2 ≡ mode / 2 ^ 0 % 2 = omega arith in rw same

  pub rep_sign : is_set 1 (mode + 0x04) ≡ is_set 1 mode
  rep_sign = let same : (mode + 0x04) / 2 ^ 1 % 2 ≡ mode / 2 ^ 1 % 2 = omega arith in rw same

  pub rep_rows : (x y : ℕ) → rows_of (mode + 0x04) x y ≡ rows_of mode x y
  rep_rows x y = rw (le-ltb 0x07 (mode + 0x04) (omega arith), le-ltb 0x07 mode (omega arith), rep_width, rep_sign)

-- what is known of a divide that no row refuses
pub record DoneDivide (mode x y : ℕ) : Type 0 where
  pub mode_fits : mode ≤ 0x07
  pub dividend : x < 2 ^ (width_by mode + width_by mode)
  pub divisor : y < 2 ^ width_by mode
  pub agreed : accepts (width_by mode) (is_set 1 mode) x y ≡ true

pub divide-done : (mode x y : ℕ) → rows_of mode x y ≡ 0 → DoneDivide mode x y
divide-done mode x y = by (ltb 0x07 mode) _ _ (refused_by ZeroDivisor mode x y) (refused_by TooWide mode x y) (refused_by SignRange mode x y) refl refl refl (three_cover (width_by mode) (is_set 1 mode) x y (some_width mode))
  where
    by : (m l k z w r : Bool) → ltb 0x07 mode ≡ m → leb (2 ^ (width_by mode + width_by mode)) x ≡ l → leb (2 ^ width_by mode) y ≡ k → not (accepts (width_by mode) (is_set 1 mode) x y) ≡ z || w || r
        → cond m 4 (cond (l || k) 5 (by_reason z w r)) ≡ 0 → DoneDivide mode x y
    by true l k z w r em el ek ec e = absurd (omega arith)
    by false true k z w r em el ek ec e = absurd (omega arith)
    by false false true z w r em el ek ec e = absurd (omega arith)
    by false false false true w r em el ek ec e = absurd (omega arith)
    by false false false false true r em el ek ec e = absurd (omega arith)
    by false false false false false true em el ek ec e = absurd (omega arith)
    by false false false false false false em el ek ec e =
        record {
          mode_fits = ltb-false 0x07 mode em;
          dividend = leb-false (2 ^ (width_by mode + width_by mode)) x el;
          divisor = leb-false (2 ^ width_by mode) y ek;
          agreed = not-false (accepts (width_by mode) (is_set 1 mode) x y) ec;
        }

module _ (mode x y : ℕ) where
  -- they give the divide's status, with any flags inside 08D5
  pub divide_by-rows : (f : ℕ) → bit_and f 0x08D5 ≡ f → status_of 0x11 mode f x y ≡ rows_of mode x y
  divide_by-rows f hf = by_table (raw 0x11 mode f x y) ∙ rw (eq-eqb (bit_and f 0x08D5) f hf) (by (ltb 0x07 mode) (large mode x y) _)
    where
      by : (m l : Bool) (k : ℕ) → cond (m || false || false) 4 (cond (l || false) 5 k) ≡ cond m 4 (cond l 5 k)
      by true l k = refl
      by false true k = refl
      by false false k = refl

  -- a mode that no divide has, whatever the operands
  pub divide_mode : 0x07 < mode → status_of 0x11 mode 0 x y ≡ 4
  divide_mode h = divide_by-rows 0 refl ∙ rw (lt-ltb 0x07 mode h)

  -- an operand that is too large
  pub divide_large : mode ≤ 0x07 → large mode x y ≡ true → status_of 0x11 mode 0 x y ≡ 5
  divide_large hm h = divide_by-rows 0 refl ∙ rw (le-ltb 0x07 mode hm, h)

-- a divide whose mode, operands and flags are admitted is answered by its chart
module _ (mode flags x y : ℕ) (hm : mode ≤ 0x07) (hx : x < 2 ^ (width_by mode + width_by mode)) (hy : y < 2 ^ width_by mode) (hf : bit_and flags 0x08D5 ≡ flags) where
  width : bits (width_of mode) ≡ width_by mode
  width = by (is_set 0 mode) refl
    where
      by : (k : Bool) → is_set 0 mode ≡ k → bits (width_of mode) ≡ width_by mode
      by true e = rw e
      by false e = rw e

  admitted : in_limits (Divide (mode_of mode)) flags x y ≡ true
  admitted = by (is_set 0 mode) refl hx hy
    where
      by : (k : Bool) → is_set 0 mode ≡ k → x < 2 ^ (cond k 16 8 + cond k 16 8) → y < 2 ^ cond k 16 8 → in_limits (Divide (mode_of mode)) flags x y ≡ true
      by true e hx hy = rw (e, le-leb x 0xFFFF_FFFF (omega arith), le-leb y 0xFFFF (omega arith)) (flags_alone flags hf)
      by false e hx hy = rw (e, le-leb x 0xFFFF (omega arith), le-leb y 0xFF (omega arith)) (flags_alone flags hf)

  pub divide_admitted : asked (raw 0x11 mode flags x y) ≡ of_divided (divide (width_by mode) (is_set 1 mode) (is_set 2 mode) x y (flags_of flags))
  unfolding asked judged operation_of listed ops charted
  divide_admitted = rw (le-ltb 0x07 mode hm, admitted, width)
