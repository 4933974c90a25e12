-- Every field of an answer fits the digits that it is written in: the flags are flags, and steps, R and S have 16 bits. Assumes nothing.
use mathlib.Core.{Path.◌≡◌, Path.refl, Bool.Bool, Bool.true, Bool.false, Bool.cond}
use Prim.Native.Nat.{ℕ, ◌+◌, ◌-◌, ◌%◌, ◌^◌, ◌≤◌, ◌<◌}
use native.Mathlib.Omega.{arith}
use lib.{Count.ones-le, Dec.eqb}
use Rattle.numbers.specs.Numbers.{top, top_set, magnitude}
use Rattle.flags.specs.{Word.word_of, Word.flags_of, Word.is_flags, declared.word.Flags.Flags}
use Rattle.numbers.proofs.SignLaws.{plain_lt, magnitude-plain}
use Rattle.flags.proofs.WordLaws.{together_within, within_flags}
use Rattle.multiply.specs.{Routines.Multiplied, Multiply.product_value, Multiply.carries, Multiply.negates, Multiply.mul_steps, Multiply.multiply}
use Rattle.multiply.proofs.CarryLaws.{wrapped_lt}
use Rattle.divide.specs.Divide.{DivideOutcome, accepted, refused, divide}
use Rattle.divide.proofs.Logged.{most_steps}
use Rattle.bcd.specs.{Adjust.ah_of, Adjust.al_of, Adjust.adjusts, Ascii.ascii, Ascii.aaa_o, Ascii.aaa_s, Ascii.aaa_of, Ascii.aas_o, Ascii.aas_s, Ascii.aas_of, Ascii.aad_of}
use Rattle.bcd.specs.Decimal.{decimal, daa_of, das_of}
use Rattle.request.specs.{Judge.judged, Limits.largest, Limits.dividend_most, Limits.adjust_most, declared.operation.Width.Width}
use Rattle.request.specs.{declared.operation.Width.TheVariants.Byte, declared.operation.Width.TheVariants.Word, declared.operation.Alu.Alu, declared.operation.Decimal.Decimal}
use Rattle.request.specs.declared.operation.Decimal.TheVariants.{Aaa, Aas, Aad, Daa, Das}
use Rattle.request.specs.declared.operation.Operation.{Operation}
use Rattle.request.specs.declared.operation.Operation.TheVariants.{Alu as OfAlu, Multiply as OfMultiply, Divide as OfDivide, Decimal as OfDecimal}
use Rattle.request.specs.{Judge.Judged, Judge.Admitted, Judge.Unlisted, Judge.WrongMode, Judge.TooLarge, Limits.InRange}
use Rattle.request.specs.declared.operation.Alu.TheVariants as Ops
use Rattle.request.proofs.RequestLaws.{admitted_in_range}
use Rattle.answer.specs.Charted.{plain_of, alu_of, bits, of_outcome, of_adjusted, adjust_of, multiplied_by, charted_by, charted}
use Rattle.answer.specs.{Asked.Raw, Asked.zeros, Asked.of_judged, Asked.asked, declared.answer.Answer.Answer}
use Rattle.answer.proofs.Width.{alu_fits, divided-fits}

-- what is held of each answer
abbrev pub Words : Answer → Type 0
Words a = (is_flags a.flags ≡ true) × (a.steps < 0x1_0000) × (a.r < 0x1_0000) × (a.s < 0x1_0000)

-- flags put together are flags
flags_word : (f : Flags) → is_flags (word_of f) ≡ true
flags_word f = within_flags (word_of f) (together_within f)

-- ---- the widths, and the limits of X and Y by them

width_few : (w : Width) → (0 < bits w) × (bits w ≤ 16) × (2 ^ bits w ≤ 0x1_0000)
width_few Byte = omega arith
width_few Word = omega arith

operand_lt : (w : Width) (x : ℕ) → x ≤ largest w → x < 2 ^ bits w
operand_lt Byte x h = omega arith
operand_lt Word x h = omega arith

dividend_lt : (w : Width) (x : ℕ) → x ≤ dividend_most w → x < 2 ^ (bits w + bits w)
dividend_lt Byte x h = omega arith
dividend_lt Word x h = omega arith

-- ---- the ALU

plain_words : (f : Flags) (r : ℕ) → r < 0x1_0000 → Words (plain_of f r)
plain_words f r h = (flags_word f, omega arith, h, omega arith)

alu_words : (n : ℕ) (alu : Alu) (x y : ℕ) (f : Flags) → (alu_of n alu x y f).r < 0x1_0000 → Words (alu_of n alu x y f)
alu_words n Ops.Add x y f h = plain_words _ _ h
alu_words n Ops.Adc x y f h = plain_words _ _ h
alu_words n Ops.Sub x y f h = plain_words _ _ h
alu_words n Ops.Sbb x y f h = plain_words _ _ h
alu_words n Ops.Neg x y f h = plain_words _ _ h
alu_words n Ops.Shl x y f h = plain_words _ _ h
alu_words n Ops.Shr x y f h = plain_words _ _ h
alu_words n Ops.Sar x y f h = plain_words _ _ h
alu_words n Ops.Rol x y f h = plain_words _ _ h
alu_words n Ops.Ror x y f h = plain_words _ _ h
alu_words n Ops.Rcl x y f h = plain_words _ _ h
alu_words n Ops.Rcr x y f h = plain_words _ _ h
alu_words n Ops.ShlAf x y f h = plain_words _ _ h

-- ---- multiply

-- one of two numbers is at most their sum
either : (s : Bool) (a b : ℕ) → cond s a b ≤ a + b
either true a b = omega arith
either false a b = omega arith

module _ (n : ℕ) (rep : Bool) (x y : ℕ) (hn : 0 < n) (h16 : n ≤ 16) (hx : x < 2 ^ n) where
  mul_steps_lem : (s : Bool) → mul_steps n s rep x y < 0x1_0000
  mul_steps_lem false =
      omega (arith, ones-le n x hx, either (carries n false rep x y) 3 4, either rep (cond (top_set n y) 11 12) 0, either (top_set n y) 11 12)
  mul_steps_lem true =
      let few = ones-le n (magnitude true n x) (rw (magnitude-plain n x hx) (plain_lt n x hn hx).1) in
      let negate = either (negates n rep x y) (cond (eqb y (top n)) 11 12) 0 in
      omega (arith, few, either (top_set n x) 3 1, either (top_set n y) 5 6, negate, either (eqb y (top n)) 11 12, either (carries n true rep x y) 3 4)

product_words : (w : Width) (m : Multiplied) → m.steps < 0x1_0000 → m.product < 2 ^ (bits w + bits w) → Words (multiplied_by w m)
product_words Byte m h p = (flags_word m.flags, h, p, omega arith)
product_words Word m h p = (flags_word m.flags, h, omega arith, omega arith)

-- ---- divide

outcome_words : (o : DivideOutcome) (f : Flags) (steps : ℕ) → steps < 0x1_0000 → (of_outcome o f steps).r < 0x1_0000 → (of_outcome o f steps).s < 0x1_0000
    → Words (of_outcome o f steps)
outcome_words (accepted results) f steps h i j = (flags_word f, h, i, j)
outcome_words (refused why) f steps h i j = (flags_word f, h, i, j)

-- ---- the adjusts

-- AAA and AAS: AH and AL as they become where it adjusts, and as they were
ascii_words : (adjusted : Bool) (ah al ah' al' : ℕ) (o s : Bool) → ah < 256 → ah' < 256
    → Words (of_adjusted (cond adjusted (ascii ah' al' true o s) (ascii ah al false o s)))
unfolding ascii
ascii_words true ah al ah' al' o s h i = (flags_word _, omega arith, omega arith, omega arith)
ascii_words false ah al ah' al' o s h i = (flags_word _, omega arith, omega arith, omega arith)

adjust_words : (decimal : Decimal) (ax byte : ℕ) (f : Flags) → ax ≤ 0xFFFF → byte ≤ adjust_most decimal → Words (of_adjusted (adjust_of decimal ax byte f))
unfolding aaa_of aas_of aad_of daa_of das_of decimal
adjust_words Aaa ax byte f h i =
    ascii_words (adjusts (al_of ax) f.aux_carry) (ah_of ax) (al_of ax) ((ah_of ax + 1) % 256) ((al_of ax + 6) % 256) (aaa_o (al_of ax)) (aaa_s (al_of ax)) (omega arith) (omega arith)
adjust_words Aas ax byte f h i =
    let a = f.aux_carry in
    ascii_words (adjusts (al_of ax) a) (ah_of ax) (al_of ax) ((256 + ah_of ax - 1) % 256) ((256 + al_of ax - 6) % 256) (aas_o (al_of ax) a) (aas_s (al_of ax) a) (omega arith) (omega arith)
adjust_words Aad ax byte f h i = (flags_word _, omega (arith, ones-le 8 byte (omega arith)), omega arith, omega arith)
adjust_words Daa ax byte f h i = (flags_word _, omega arith, omega arith, omega arith)
adjust_words Das ax byte f h i = (flags_word _, omega arith, omega arith, omega arith)

-- ---- a request

charted_words : (o : Operation) (x y : ℕ) (f : Flags) → InRange o x y → Words (charted_by o x y f)
unfolding multiply
charted_words (OfAlu alu w) x y f (hx, hy) =
    alu_words (bits w) alu x y f (omega (arith, alu_fits (bits w) alu x y f (operand_lt w x hx), width_few w))
charted_words (OfMultiply m) x y f (hx, hy) =
    let n = bits m.width in
    let few = width_few m.width in
    product_words m.width (multiply n m.signed m.rep x y f)
    (mul_steps_lem n m.rep x y few.0 few.1 (operand_lt m.width x hx) m.signed)
    (wrapped_lt (n + n) (product_value n m.signed m.rep x y))
charted_words (OfDivide m) x y f (hx, hy) =
    let n = bits m.width in
    let few = width_few m.width in
    let done = divide n m.signed m.rep x y f in
    let fits = divided-fits n m.signed m.rep x y f in
    let most = most_steps n x y m.rep f few.0 (dividend_lt m.width x hx) (operand_lt m.width y hy) m.signed in
    outcome_words done.outcome done.flags done.steps (omega arith) (omega arith) (omega arith)
charted_words (OfDecimal decimal) x y f (hx, hy) = adjust_words decimal x y f hx hy

-- a refusal before the charts
pub zeros_words : (status : ℕ) → Words (zeros status)
unfolding is_flags word_of flags_of
zeros_words status = (refl, omega arith, omega arith, omega arith)

-- flags are flags, and steps, R and S have 16 bits
pub asked_words : (r : Raw) → (is_flags (asked r).flags ≡ true) × ((asked r).steps < 0x1_0000) × ((asked r).r < 0x1_0000) × ((asked r).s < 0x1_0000)
unfolding asked charted
asked_words r = by (judged r) refl
  where
    by : (j : Judged) → judged r ≡ j → Words (of_judged j)
    by (Admitted q) e = charted_words q.operation q.x q.y (flags_of q.flags) (admitted_in_range r refl e)
    by Unlisted e = zeros_words 3
    by WrongMode e = zeros_words 4
    by TooLarge e = zeros_words 5
