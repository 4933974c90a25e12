-- How large X and Y may be. A dividend has twice the width and AX has sixteen bits; any other X is as wide as the work. A count and AAD's
-- byte are bytes at either width, and where there is no right operand Y is 0. Assumes nothing.
use Rattle.std.specs.Prelude.{Bool, ◌&&◌, ℕ, ◌≤◌, leb}
use Rattle.flags.specs.Word.{is_flags}
use Rattle.request.specs.declared.operation.Width.{Width}
use Rattle.request.specs.declared.operation.Width.TheVariants.{Byte, Word}
use Rattle.request.specs.declared.operation.Alu.{Alu}
use Rattle.request.specs.declared.operation.Alu.TheVariants.{Add, Adc, Sub, Sbb, Neg, Shl, Shr, Sar, Rol, Ror, Rcl, Rcr, ShlAf}
use Rattle.request.specs.declared.operation.Decimal.{Decimal}
use Rattle.request.specs.declared.operation.Decimal.TheVariants.{Aaa, Aas, Aad, Daa, Das}
use Rattle.request.specs.declared.operation.Operation.{Operation}
use Rattle.request.specs.declared.operation.Operation.TheVariants.{Alu as OfAlu, Multiply, Divide, Decimal as OfDecimal}

-- the largest number of a width
abbrev pub largest : Width → ℕ
largest Byte = 0xFF
largest Word = 0xFFFF

-- Y of an ALU operation: a right operand, a count, or none
abbrev pub right_most : Alu → Width → ℕ
right_most Add w = largest w
right_most Adc w = largest w
right_most Sub w = largest w
right_most Sbb w = largest w
right_most Neg w = 0
right_most Shl w = 0xFF
right_most Shr w = 0xFF
right_most Sar w = 0xFF
right_most Rol w = 0xFF
right_most Ror w = 0xFF
right_most Rcl w = 0xFF
right_most Rcr w = 0xFF
right_most ShlAf w = 0xFF

-- Y of an adjust: AAD's byte, or none
abbrev pub adjust_most : Decimal → ℕ
adjust_most Aaa = 0
adjust_most Aas = 0
adjust_most Aad = 0xFF
adjust_most Daa = 0
adjust_most Das = 0

-- a dividend has twice the width
abbrev pub dividend_most : Width → ℕ
dividend_most Byte = 0xFFFF
dividend_most Word = 0xFFFF_FFFF

-- the largest X
abbrev pub x_most : Operation → ℕ
x_most (OfAlu alu w) = largest w
x_most (Multiply m) = largest m.width
x_most (Divide m) = dividend_most m.width
x_most (OfDecimal decimal) = 0xFFFF

-- the largest Y
abbrev pub y_most : Operation → ℕ
y_most (OfAlu alu w) = right_most alu w
y_most (Multiply m) = largest m.width
y_most (Divide m) = largest m.width
y_most (OfDecimal decimal) = adjust_most decimal

-- X and Y at most so large, and no flag outside 08D5
abbrev pub fits_in : ℕ → ℕ → ℕ → ℕ → ℕ → Bool
fits_in most-x most-y flags x y = leb x most-x && leb y most-y && is_flags flags

-- within the limits of an operation
abbrev pub in_limits : Operation → ℕ → ℕ → ℕ → Bool
in_limits operation flags x y = fits_in (x_most operation) (y_most operation) flags x y

-- X and Y alone
abbrev pub InRange : Operation → ℕ → ℕ → Type 0
InRange operation x y = (x ≤ x_most operation) × (y ≤ y_most operation)
