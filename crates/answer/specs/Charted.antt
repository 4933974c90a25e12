-- What an admitted request is answered, by the charts, and where its results stand. Assumes nothing.
use Rattle.std.specs.Prelude.{cond, eqb, ℕ, ◌/◌, ◌%◌}
use Rattle.flags.specs.Word.{flags_of, word_of, set_c, set_co, set_coa}
use Rattle.flags.specs.declared.word.Flags.{Flags}
use Rattle.alu.specs.Result.{ResultC, ResultCo, ResultCoa}
use Rattle.alu.specs.Sum.{add, adc, sub, sbb, neg}
use Rattle.alu.specs.Shift.{shl, shr, sar, rol, ror, rcl, rcr, shl_af}
use Rattle.multiply.specs.Routines.{Multiplied}
use Rattle.multiply.specs.Multiply.{multiply}
use Rattle.divide.specs.Divide.{DivideOutcome, Divided, accepted, refused, divide}
use Rattle.divide.specs.declared.div.Refusal.{Refusal}
use Rattle.divide.specs.declared.div.Refusal.TheVariants.{ZeroDivisor, TooWide, SignRange}
use Rattle.bcd.specs.Ascii.{aaa_of, aas_of, aad_of}
use Rattle.bcd.specs.Decimal.{daa_of, das_of}
use Rattle.bcd.specs.declared.adjust.Adjusted.{Adjusted}
use Rattle.request.specs.declared.operation.Width.{Width}
use Rattle.request.specs.declared.operation.Width.TheVariants.{Byte, Word}
use Rattle.request.specs.declared.operation.Mode.{Mode}
use Rattle.request.specs.declared.operation.Alu.{Alu}
use Rattle.request.specs.declared.operation.Alu.TheVariants.{Add, Adc, Sub, Sbb, Neg, Shl, Shr, Sar, Rol, Ror, Rcl, Rcr, ShlAf}
use Rattle.request.specs.declared.operation.Decimal.{Decimal}
use Rattle.request.specs.declared.operation.Decimal.TheVariants.{Aaa, Aas, Aad, Daa, Das}
use Rattle.request.specs.declared.operation.Operation.{Operation}
use Rattle.request.specs.declared.operation.Operation.TheVariants.{Alu as OfAlu, Multiply, Divide, Decimal as OfDecimal}
use Rattle.request.specs.declared.raw.Request.{Request}
use Rattle.request.specs.Limits.{fits_in, x_most, y_most}
use Rattle.answer.specs.declared.answer.Answer.{Answer}

-- the status, the flags as a word, the steps, R and S
abbrev pub whole_of : ℕ → Flags → ℕ → ℕ → ℕ → Answer
whole_of status f steps r s = record { status = status; flags = word_of f; steps = steps; r = r; s = s }

-- a refusal, the rest zeros
abbrev pub zeros : ℕ → Answer
zeros status = record { status = status; flags = 0; steps = 0; r = 0; s = 0 }

-- status 0, no step and one result
abbrev pub plain_of : Flags → ℕ → Answer
plain_of f r = whole_of 0 f 0 r 0

-- 5, where X or Y is larger than that, or a flag outside 08D5
abbrev pub limited_to : ℕ → ℕ → Request → Answer → Answer
limited_to most-x most-y r a = cond (fits_in most-x most-y r.flags r.x r.y) a (zeros 5)

-- the flags that an operation names go over those handed in
abbrev pub of_c : ResultC → Flags → Answer
of_c m f = plain_of (set_c m.carry f) m.result

-- C and O
abbrev pub of_co : ResultCo → Flags → Answer
of_co m f = plain_of (set_co m.carry m.overflow f) m.result

-- C, O and A
abbrev pub of_coa : ResultCoa → Flags → Answer
of_coa m f = plain_of (set_coa m.carry m.overflow m.aux_carry f) m.result

-- the ALU chart: ADC, SBB, RCL and RCR take C in
abbrev pub alu_of : ℕ → Alu → ℕ → ℕ → Flags → Answer
alu_of n Add x y f = of_coa (add n x y) f
alu_of n Adc x y f = of_coa (adc n x y f.carry) f
alu_of n Sub x y f = of_coa (sub n x y) f
alu_of n Sbb x y f = of_coa (sbb n x y f.carry) f
alu_of n Neg x y f = of_coa (neg n x) f
alu_of n Shl x y f = of_co (shl n x y) f
alu_of n Shr x y f = of_c (shr n x y) f
alu_of n Sar x y f = of_c (sar n x y) f
alu_of n Rol x y f = of_co (rol n x y) f
alu_of n Ror x y f = of_co (ror n x y) f
alu_of n Rcl x y f = of_co (rcl n x y f.carry) f
alu_of n Rcr x y f = of_co (rcr n x y f.carry) f
alu_of n ShlAf x y f = of_coa (shl_af n x y) f

-- R is an 8-bit product
abbrev pub of_product8 : Multiplied → Answer
of_product8 m = whole_of 0 m.flags m.steps m.product 0

-- R is the upper half of a 16-bit product, S the lower
abbrev pub of_product16 : Multiplied → Answer
of_product16 m = whole_of 0 m.flags m.steps (m.product / 0x1_0000) (m.product % 0x1_0000)

-- the status tells why a divide is refused
abbrev pub refusal_status : Refusal → ℕ
refusal_status ZeroDivisor = 6
refusal_status TooWide = 8
refusal_status SignRange = 9

-- quotient and remainder, or the status of the refusal and no result
abbrev pub of_outcome : DivideOutcome → Flags → ℕ → Answer
of_outcome (accepted results) f steps = whole_of 0 f steps results.quotient results.remainder
of_outcome (refused why) f steps = whole_of (refusal_status why) f steps 0 0

-- a divide, with its flags and steps whichever it is
abbrev pub of_divided : Divided → Answer
of_divided d = of_outcome d.outcome d.flags d.steps

-- R is AX
abbrev pub of_adjusted : Adjusted → Answer
of_adjusted a = whole_of 0 a.flags a.steps a.ax 0

-- the decimal chart
abbrev pub adjust_of : Decimal → ℕ → ℕ → Flags → Adjusted
adjust_of Aaa ax byte f = aaa_of ax f
adjust_of Aas ax byte f = aas_of ax f
adjust_of Aad ax byte f = aad_of ax byte f
adjust_of Daa ax byte f = daa_of ax f
adjust_of Das ax byte f = das_of ax f

-- the bit count of a width
abbrev pub bits : Width → ℕ
bits Byte = 8
bits Word = 16

-- and back: any other count is taken as a word's
abbrev pub of_bits : ℕ → Width
of_bits n = cond (eqb n 8) Byte Word

-- a mode at that width
abbrev pub sized : ℕ → Mode → Mode
sized n m = record { width = of_bits n; signed = m.signed; rep = m.rep }

-- where the product stands, by the width
abbrev pub multiplied_by : Width → Multiplied → Answer
multiplied_by Byte m = of_product8 m
multiplied_by Word m = of_product16 m

-- the multiply chart
abbrev pub multiplied_of : Mode → ℕ → ℕ → Flags → Answer
multiplied_of m x y f = multiplied_by m.width (multiply (bits m.width) m.signed m.rep x y f)

-- the divide chart
abbrev pub divided_of : Mode → ℕ → ℕ → Flags → Answer
divided_of m x y f = of_divided (divide (bits m.width) m.signed m.rep x y f)

-- each operation has its chart
abbrev pub charted_by : Operation → ℕ → ℕ → Flags → Answer
charted_by (OfAlu alu w) x y f = alu_of (bits w) alu x y f
charted_by (Multiply m) x y f = multiplied_of m x y f
charted_by (Divide m) x y f = divided_of m x y f
charted_by (OfDecimal decimal) x y f = of_adjusted (adjust_of decimal x y f)

-- an admitted request by its chart
unfoldable pub charted : Request → Answer
charted r = charted_by r.operation r.x r.y (flags_of r.flags)

-- an operation on a request's X, Y and flags: by its chart within its limits, and 5 outside them
abbrev pub charted_as : Operation → Request → Answer
charted_as o r = limited_to (x_most o) (y_most o) r (charted_by o r.x r.y (flags_of r.flags))
