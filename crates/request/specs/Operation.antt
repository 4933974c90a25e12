-- The ops and modes of the scope, and the operation that they name. Assumes nothing.
use Rattle.std.specs.Prelude.{Bool, cond, Option, Some, None, Result, Ok, Err, List, [], ◌∷◌, ℕ, ◌/◌, ◌%◌, eqb, ltb}
use Rattle.numbers.specs.Numbers.{is_set}
use Rattle.request.specs.declared.operation.Width.{Width}
use Rattle.request.specs.declared.operation.Width.TheVariants.{Byte, Word}
use Rattle.request.specs.declared.operation.Mode.{Mode}
use Rattle.request.specs.declared.operation.Alu.{Alu}
use Rattle.request.specs.declared.operation.Alu.TheVariants.{Add, Adc, Sub, Sbb, Neg, Shl, Shr, Sar, Rol, Ror, Rcl, Rcr, ShlAf}
use Rattle.request.specs.declared.operation.Decimal.{Decimal}
use Rattle.request.specs.declared.operation.Decimal.TheVariants.{Aaa, Aas, Aad, Daa, Das}
use Rattle.request.specs.declared.operation.Operation.TheVariants.{Alu as OfAlu, Multiply as OfMultiply, Divide as OfDivide, Decimal as OfDecimal}
use Rattle.request.specs.declared.operation.Operation.{Operation}
use Rattle.request.specs.declared.decode.Undecoded.{Undecoded}
use Rattle.request.specs.declared.decode.Undecoded.TheVariants.{Unlisted as NotListed, WrongMode}

-- what an op alone names
pub data Listed : Type 0 where
  AluOp : Alu → Listed
  Multiply : Listed
  Divide : Listed
  DecimalOp : Decimal → Listed
  Unlisted : Listed

-- the ops that there are, and what each names
unfoldable pub ops : List (ℕ × Listed)
ops =
    (0x00, AluOp Add)
    ∷ (0x01, AluOp Adc)
    ∷ (0x02, AluOp Sub)
    ∷ (0x03, AluOp Sbb)
    ∷ (0x04, AluOp Neg)
    ∷ (0x05, AluOp Shl)
    ∷ (0x06, AluOp Shr)
    ∷ (0x07, AluOp Sar)
    ∷ (0x08, AluOp Rol)
    ∷ (0x09, AluOp Ror)
    ∷ (0x0A, AluOp Rcl)
    ∷ (0x0B, AluOp Rcr)
    ∷ (0x0C, AluOp ShlAf)
    ∷ (0x10, Multiply)
    ∷ (0x11, Divide)
    ∷ (0x18, DecimalOp Aaa)
    ∷ (0x19, DecimalOp Aas)
    ∷ (0x1A, DecimalOp Aad)
    ∷ (0x1B, DecimalOp Daa)
    ∷ (0x1C, DecimalOp Das)
    ∷ []

-- the first row of that op
abbrev pub lookup : ℕ → List (ℕ × Listed) → Listed
lookup op [] = Unlisted
lookup op (row ∷ rows) = cond (eqb op row.0) row.1 (lookup op rows)

-- the row of an op
unfoldable pub listed : ℕ → Listed
listed op = lookup op ops

-- mode: 01 sixteen bits, 02 signed, 04 REP
abbrev pub width_of : ℕ → Width
width_of mode = cond (is_set 0 mode) Word Byte

-- what multiply and divide hold besides
abbrev pub mode_of : ℕ → Mode
mode_of mode = record { width = width_of mode; signed = is_set 1 mode; rep = is_set 2 mode }

-- the operation that is named, or why there is none
abbrev pub Decoded : Type 0
Decoded = Result Operation Undecoded

-- an op that is not listed comes before a wrong mode; the ALU operations have a width, multiply and divide a sign rule and REP besides, the
-- adjusts nothing
abbrev pub checked : Listed → ℕ → Decoded
checked (AluOp alu) mode = cond (ltb 0x01 mode) (Err WrongMode) (Ok (OfAlu alu (width_of mode)))
checked Multiply mode = cond (ltb 0x07 mode) (Err WrongMode) (Ok (OfMultiply (mode_of mode)))
checked Divide mode = cond (ltb 0x07 mode) (Err WrongMode) (Ok (OfDivide (mode_of mode)))
checked (DecimalOp decimal) mode = cond (ltb 0x00 mode) (Err WrongMode) (Ok (OfDecimal decimal))
checked Unlisted mode = Err NotListed

-- what op and mode name
unfoldable pub operation_of : ℕ → ℕ → Decoded
operation_of op mode = checked (listed op) mode

-- for the code, which takes op and mode as one number, op * 8 + mode: the ALU operation there
abbrev pub alu_only : Decoded → Option (Alu × Width)
alu_only (Ok (OfAlu alu w)) = Some (alu, w)
alu_only (Ok (OfMultiply m)) = None
alu_only (Ok (OfDivide m)) = None
alu_only (Ok (OfDecimal d)) = None
alu_only (Err why) = None

unfoldable pub alu_at : ℕ → Option (Alu × Width)
alu_at key = alu_only (operation_of (key / 8) (key % 8))

abbrev pub multiplies : Width → Bool → Bool → Decoded
multiplies w signed rep = Ok (OfMultiply (record { width = w; signed = signed; rep = rep }))

abbrev pub divides : Width → Bool → Bool → Decoded
divides w signed rep = Ok (OfDivide (record { width = w; signed = signed; rep = rep }))
