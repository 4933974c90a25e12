-- An operation over the record, from what the code calls: the chart of the operation that the op and the mode name. Assumes nothing.
use mathlib.Core.{Path.◌≡◌, Path.refl, Path.sym, Path.ap, Path.subst, Path.◌∙◌, Bool.Bool, Bool.true, Bool.false, Bool.cond}
use Prim.Native.Nat.{ℕ, ◌+◌, ◌*◌, ◌≤◌, ◌<◌}
use native.Mathlib.Omega.{arith}
use borrow.Author.Tests.{le-leb}
use Rattle.numbers.specs.Numbers.{bit, is_set}
use Rattle.flags.specs.{Word.flags_of, Word.is_flags, declared.word.Flags.Flags}
use Rattle.multiply.specs.Multiply.{multiply}
use Rattle.divide.specs.Divide.{divide}
use Rattle.bcd.specs.Adjust.{al_of}
use Rattle.request.specs.{Operation.ops, Operation.listed, Operation.operation_of, Limits.adjust_most, Limits.x_most, Limits.y_most, Judge.raw, Judge.request_of, Judge.judged}
use Rattle.request.specs.{Judge.Admitted, Judge.TooLarge, declared.operation.Width.TheVariants.Byte, declared.operation.Width.TheVariants.Word}
use Rattle.std.specs.declared.result.Result.TheVariants.{Ok}
use Rattle.request.specs.declared.operation.Operation.{Operation}
use Rattle.request.specs.declared.operation.Operation.TheVariants.{Multiply, Divide, Decimal as OfDecimal}
use Rattle.request.specs.declared.operation.Decimal.{Decimal}
use Rattle.request.specs.declared.operation.Decimal.TheVariants.{Aaa, Aas, Aad, Daa, Das}
use Rattle.answer.specs.{Charted.of_product8, Charted.of_product16, Charted.of_divided, Charted.of_adjusted, Charted.adjust_of, Charted.charted_by, Charted.charted, Asked.zeros, Asked.of_judged, Asked.asked}
use Rattle.answer.specs.declared.answer.Answer.{Answer}
use Rattle.answer.proofs.Width.{divided-fits}
use Rattle.registers.specs.{Over.is_over, Over.by_op, Over.read_by, Over.ax_by, Over.dx_by, Over.settled_of, Over.request_over, Over.dx_ax, Over.over, declared.record.Registers.Registers}
use Rattle.registers.specs.declared.record.Settled.{Settled}
use Rattle.instructions.specs.Named.{mode_by, checked_by, in_ax}
use Rattle.registers.proofs.OverLaws.{over_is}

-- ---- what is asked

by_limits : (k : Bool) (o : Operation) (op mode w x y : ℕ) → of_judged (cond k (Admitted (request_of o (raw op mode w x y))) TooLarge) ≡ cond k (charted_by o x y (flags_of w)) (zeros 5)
unfolding charted
by_limits true o op mode w x y = refl
by_limits false o op mode w x y = refl

-- of an operation with operands that it takes, only the flags are left to judge
pub asked-named : (o : Operation) (op mode w x y : ℕ) → operation_of op mode ≡ Ok o → x ≤ x_most o → y ≤ y_most o
    → asked (raw op mode w x y) ≡ checked_by w (charted_by o x y (flags_of w))
unfolding asked judged
asked-named o op mode w x y e hx hy = rw (e, le-leb x (x_most o) hx, le-leb y (y_most o) hy) (by_limits (is_flags w) o op mode w x y)

-- ---- the operations by their names

abbrev multiply_at : Bool → Bool → Bool → Operation
multiply_at wide signed rep = Multiply (record { width = cond wide Word Byte; signed = signed; rep = rep })

abbrev divide_at : Bool → Bool → Bool → Operation
divide_at wide signed rep = Divide (record { width = cond wide Word Byte; signed = signed; rep = rep })

-- the mode of a multiply or divide has its width, its sign rule and REP
pub named-multiply : (wide signed rep : Bool) → operation_of 0x10 (mode_by wide signed rep) ≡ Ok (multiply_at wide signed rep)
unfolding operation_of listed ops
named-multiply true true true = refl
named-multiply true true false = refl
named-multiply true false true = refl
named-multiply true false false = refl
named-multiply false true true = refl
named-multiply false true false = refl
named-multiply false false true = refl
named-multiply false false false = refl

pub named-divide : (wide signed rep : Bool) → operation_of 0x11 (mode_by wide signed rep) ≡ Ok (divide_at wide signed rep)
unfolding operation_of listed ops
named-divide true true true = refl
named-divide true true false = refl
named-divide true false true = refl
named-divide true false false = refl
named-divide false true true = refl
named-divide false true false = refl
named-divide false false true = refl
named-divide false false false = refl

pub width-told : (wide signed rep : Bool) → is_set 0 (mode_by wide signed rep) ≡ wide
width-told true true true = refl
width-told true true false = refl
width-told true false true = refl
width-told true false false = refl
width-told false true true = refl
width-told false true false = refl
width-told false false true = refl
width-told false false false = refl

-- the op of an adjust
abbrev pub op_of : Decimal → ℕ
op_of Aaa = 0x18
op_of Aas = 0x19
op_of Aad = 0x1A
op_of Daa = 0x1B
op_of Das = 0x1C

named-adjust : (d : Decimal) → operation_of (op_of d) 0x00 ≡ Ok (OfDecimal d)
unfolding operation_of listed ops
named-adjust Aaa = refl
named-adjust Aas = refl
named-adjust Aad = refl
named-adjust Daa = refl
named-adjust Das = refl

-- ---- what is settled of it

-- of a mode only the width counts for what is read and taken
width_alone : (op mode : ℕ) (w : Bool) → is_set 0 mode ≡ w → (a b c d e : ℕ) → by_op op (bit w) a b c d e ≡ by_op op mode a b c d e
width_alone op mode true h a b c d e = rw h
width_alone op mode false h a b c d e = rw h

-- an operation by its name, from what its chart made of what it reads; w says whether it is of 16 bits
pub over-named : (k : Operation) (op mode : ℕ) (w : Bool) (y : ℕ) (r : Registers) → operation_of op mode ≡ Ok k → is_over op ≡ true → is_set 0 mode ≡ w → read_by op (bit w) r.ax r.dx ≤ x_most k
    → y ≤ y_most k → {made : Answer} → made ≡ charted_by k (read_by op (bit w) r.ax r.dx) y (flags_of r.flags) → {a : Answer} → a ≡ checked_by r.flags made → {ax dx : ℕ} → ax ≡ ax_by op (bit w) a
    → dx ≡ dx_by op (bit w) r.dx a → {o : Settled} → o ≡ settled_of r a ax dx → o ≡ over op mode y r
over-named k op mode w y r named listed wide hx hy em {a} ea eax edx eo =
    let read : read_by op (bit w) r.ax r.dx ≡ read_by op mode r.ax r.dx = width_alone op mode w wide _ _ _ _ _ in
    let answered : a ≡ asked (request_over op mode y r) = ea ∙ ap (checked_by r.flags) em ∙ sym (asked-named k op mode r.flags (read_by op (bit w) r.ax r.dx) y named hx hy) ∙ ap (λ (x : ℕ). asked (raw op mode r.flags x y)) read in
    over_is op mode y r listed answered (eax ∙ width_alone op mode w wide _ _ _ _ _) (edx ∙ width_alone op mode w wide _ _ _ _ _) eo

-- the adjusts: AX takes R, and DX stays
pub over-adjust : (d : Decimal) (y : ℕ) (r : Registers) → r.ax ≤ 0xFFFF → y ≤ adjust_most d → {o : Settled} → o ≡ in_ax r (of_adjusted (adjust_of d r.ax y (flags_of r.flags)))
    → o ≡ over (op_of d) 0x00 y r
over-adjust Aaa y r hx hy e = over-named (OfDecimal Aaa) 0x18 0x00 false y r (named-adjust Aaa) refl refl hx hy refl refl refl refl e
over-adjust Aas y r hx hy e = over-named (OfDecimal Aas) 0x19 0x00 false y r (named-adjust Aas) refl refl hx hy refl refl refl refl e
over-adjust Aad y r hx hy e = over-named (OfDecimal Aad) 0x1A 0x00 false y r (named-adjust Aad) refl refl hx hy refl refl refl refl e
over-adjust Daa y r hx hy e = over-named (OfDecimal Daa) 0x1B 0x00 false y r (named-adjust Daa) refl refl hx hy refl refl refl refl e
over-adjust Das y r hx hy e = over-named (OfDecimal Das) 0x1C 0x00 false y r (named-adjust Das) refl refl hx hy refl refl refl refl e

-- the results of an 8-bit divide are bytes, so that AX has room for both
pub checked_bytes : (w : ℕ) (s rep : Bool) (d b : ℕ) (f : Flags) {a : Answer} → a ≡ checked_by w (of_divided (divide 8 s rep d b f)) → (a.r < 0x100) × (a.s < 0x100)
checked_bytes w s rep d b f ea = subst (λ (q : Answer). (q.r < 0x100) × (q.s < 0x100)) (sym ea) (by (is_flags w))
  where
    by : (k : Bool) → let q = cond k (of_divided (divide 8 s rep d b f)) (zeros 5) in (q.r < 0x100) × (q.s < 0x100)
    by true = divided-fits 8 s rep d b f
    by false = (omega arith, omega arith)

-- a multiply, and a divide, at either width
module _ (s rep : Bool) (y : ℕ) (r : Registers) (hx : r.ax ≤ 0xFFFF) where
  pub over_mul8 : y ≤ 0xFF → {o : Settled} → o ≡ in_ax r (of_product8 (multiply 8 s rep (al_of r.ax) y (flags_of r.flags))) → o ≡ over 0x10 (mode_by false s rep) y r
  over_mul8 hy e = over-named (multiply_at false s rep) 0x10 _ false y r (named-multiply false s rep) refl (width-told false s rep) (omega arith) hy refl refl refl refl e

  pub over_mul16 : y ≤ 0xFFFF → {o : Settled} → (let a = checked_by r.flags (of_product16 (multiply 16 s rep r.ax y (flags_of r.flags))) in o ≡ settled_of r a a.s a.r) → o ≡ over 0x10 (mode_by true s rep) y r
  over_mul16 hy e = over-named (multiply_at true s rep) 0x10 _ true y r (named-multiply true s rep) refl (width-told true s rep) hx hy refl refl refl refl e

  pub over_div8 : y ≤ 0xFF → {o : Settled} → (let a = checked_by r.flags (of_divided (divide 8 s rep r.ax y (flags_of r.flags))) in o ≡ settled_of r a (a.s * 0x100 + a.r) r.dx) → o ≡ over 0x11 (mode_by false s rep) y r
  over_div8 hy e = over-named (divide_at false s rep) 0x11 _ false y r (named-divide false s rep) refl (width-told false s rep) hx hy refl refl refl refl e

  pub over_div16 : r.dx ≤ 0xFFFF → y ≤ 0xFFFF → {o : Settled} → (let a = checked_by r.flags (of_divided (divide 16 s rep (dx_ax r.ax r.dx) y (flags_of r.flags))) in o ≡ settled_of r a a.r a.s) → o ≡ over 0x11 (mode_by true s rep) y r
  over_div16 hd hy e = over-named (divide_at true s rep) 0x11 _ true y r (named-divide true s rep) refl (width-told true s rep) (omega arith) hy refl refl refl refl e
