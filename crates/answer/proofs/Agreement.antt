-- What the table's rows say of an op and a mode is said of the operation that they name. Assumes nothing.
use mathlib.Core.{Path.◌≡◌, Path.refl, Bool.Bool, Bool.true, Bool.false, Bool.not, Bool.◌&&◌, Bool.beq, Bool.false≢true}
use Prim.Native.Nat.{ℕ, ◌+◌, ◌^◌, ◌<◌}
use native.Mathlib.Omega.{arith}
use lib.Dec.{leb, eqb}
use borrow.Author.Tests.{leb-true, leb-false, lt-ltb, le-leb, lt-leb}
use Rattle.numbers.specs.Numbers.{is_set}
use Rattle.request.specs.{Operation.ops, Operation.listed, Operation.checked, Operation.operation_of, Limits.x_most, Limits.y_most, declared.operation.Operation.Operation}
use Rattle.request.specs.declared.operation.Operation.TheVariants.{Alu as OfAlu, Multiply as OfMultiply, Divide as OfDivide, Decimal as OfDecimal}
use Rattle.std.specs.declared.result.Result.TheVariants.{Ok, Err}
use Rattle.request.specs.Operation.{Decoded}
use Rattle.request.specs.declared.decode.Undecoded.TheVariants.{Unlisted as NotListed, WrongMode as BadMode}
use Rattle.request.proofs.RequestLaws.{below, at, over, above}
use Rattle.answer.specs.{Charted.bits, Table.unlisted, Table.wrong_mode, Table.width_by, Table.x_bits, Table.y_bits}

-- a divide has op 11, and the table's width and sign rule; nothing else has op 11
abbrev pub divides : ℕ → ℕ → Operation → Bool
divides op mode (OfDivide m) = eqb op 0x11 && eqb (bits m.width) (width_by mode) && beq m.signed (is_set 1 mode)
divides op mode (OfAlu alu w) = not (eqb op 0x11)
divides op mode (OfMultiply m) = not (eqb op 0x11)
divides op mode (OfDecimal decimal) = not (eqb op 0x11)

-- listed or not, mode wrong or not, and the limits
abbrev pub agrees : ℕ → ℕ → Decoded → Bool
agrees op mode (Err NotListed) = unlisted op
agrees op mode (Err BadMode) = not (unlisted op) && wrong_mode op mode
agrees op mode (Ok o) =
    not (wrong_mode op mode) && not (unlisted op) && eqb (x_most o + 1) (2 ^ x_bits op mode) && eqb (y_most o + 1) (2 ^ y_bits op mode) && divides op mode o

-- ops to 1C and modes to 08, by computation
computed : below (λ op. below (λ mode. agrees op mode (operation_of op mode)) 9) 0x1D ≡ true
unfolding operation_of listed ops
computed = refl

listed_agree : (op mode : ℕ) → op < 0x1D → mode < 9 → agrees op mode (operation_of op mode) ≡ true
listed_agree op mode o m =
    at (λ m. agrees op m (operation_of op m)) 9 (at (λ o. below (λ m. agrees o m (operation_of o m)) 9) 0x1D computed op o) mode m

over_agrees : (op mode : ℕ) → 0x07 < mode → (n : Decoded) → agrees op 0x08 n ≡ true → agrees op mode n ≡ true
over_agrees op mode h (Err NotListed) e = e
over_agrees op mode h (Err BadMode) e = rw (lt-ltb 0x07 mode h) e
over_agrees op mode h (Ok o) e = absurd (false≢true e)

-- an op above 1C is not listed
above_agrees : (op mode : ℕ) → 0x1C < op → agrees op mode (operation_of op mode) ≡ true
unfolding operation_of
above_agrees op mode h =
    rw (← above op h, lt-leb op 0x0C (omega arith), le-leb 0x10 op (omega arith), lt-leb op 0x11 (omega arith), le-leb 0x18 op (omega arith), lt-leb op 0x1C h)

pub agreed : (op mode : ℕ) → agrees op mode (operation_of op mode) ≡ true
unfolding operation_of
agreed op mode = by (leb op 0x1C) (leb mode 0x08) refl refl
  where
    by : (a b : Bool) → leb op 0x1C ≡ a → leb mode 0x08 ≡ b → agrees op mode (operation_of op mode) ≡ true
    by false b ea eb = above_agrees op mode (leb-false op 0x1C ea)
    by true true ea eb = listed_agree op mode (omega (arith, leb-true op 0x1C ea)) (omega (arith, leb-true mode 0x08 eb))
    by true false ea eb =
        let h = leb-false mode 0x08 eb in
        rw (← over (listed op) mode (omega arith)) (over_agrees op mode (omega arith) (checked (listed op) 0x08) (listed_agree op 0x08 (omega (arith, leb-true op 0x1C ea)) (omega arith)))
