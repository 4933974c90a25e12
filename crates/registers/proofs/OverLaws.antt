-- An operation over the record, from what its request is answered; AX has room for what it takes. Assumes nothing.
use mathlib.Core.{Path.◌≡◌, Path.sym, Path.ap, Path.subst, Path.◌∙◌, Bool.Bool, Bool.true, Bool.false, Bool.cond}
use Prim.Native.Nat.{ℕ, ◌+◌, ◌*◌, ◌≤◌, ◌<◌}
use native.Mathlib.Omega.{arith}
use lib.Dec.{ltb, eqb}
use borrow.Author.Tests.{eqb-true}
use Rattle.numbers.specs.Numbers.{is_set}
use Rattle.flags.specs.Word.{flags_of}
use Rattle.request.specs.{Operation.ops, Operation.listed, Operation.mode_of, Operation.operation_of, Judge.raw, Judge.request_of, Judge.judged_by, Judge.judged, Limits.in_limits}
use Rattle.std.specs.declared.result.Result.TheVariants.{Ok, Err}
use Rattle.request.specs.{Judge.Admitted, Judge.TooLarge, declared.decode.Undecoded.TheVariants.WrongMode}
use Rattle.request.specs.declared.operation.Operation.TheVariants.{Divide}
use Rattle.answer.specs.{Charted.charted, Asked.of_judged, Asked.asked, declared.answer.Answer.Answer}
use Rattle.answer.proofs.Width.{divided-fits}
use Rattle.registers.specs.Over.{is_over, read_by, ax_by, dx_by, stays, settled_of, settled_by, request_over, over}
use Rattle.registers.specs.{declared.record.Registers.Registers, declared.record.Settled.Settled}
use Rattle.registers.proofs.OpLaws.{by_op_lem}

-- an op that does not work on the record
pub not_over : (op mode y : ℕ) (r : Registers) → is_over op ≡ false → over op mode y r ≡ stays 3 r
unfolding over
not_over op mode y r e = rw e

-- one that does, by its answer and by what AX and DX take
pub over_is : (op mode y : ℕ) (r : Registers) → is_over op ≡ true → {a : Answer} → a ≡ asked (request_over op mode y r) → {ax dx : ℕ} → ax ≡ ax_by op mode a → dx ≡ dx_by op mode r.dx a
    → {o : Settled} → o ≡ settled_of r a ax dx → o ≡ over op mode y r
unfolding over
over_is op mode y r e {a} ea eax edx eo = eo ∙ rw e ((λ i. settled_of r a (eax i) (edx i)) ∙ ap (settled_by op mode r) ea)

-- the results of an 8-bit divide are bytes
pub divided_bytes : (mode w x y : ℕ) → is_set 0 mode ≡ false → ((asked (raw 0x11 mode w x y)).r < 0x100) × ((asked (raw 0x11 mode w x y)).s < 0x100)
unfolding asked judged operation_of listed ops charted
divided_bytes mode w x y e = by_mode (ltb 0x07 mode)
  where
    of_limits : (k : Bool) → let a = of_judged (cond k (Admitted (request_of (Divide (mode_of mode)) (raw 0x11 mode w x y))) TooLarge) in (a.r < 0x100) × (a.s < 0x100)
    of_limits true = rw e (divided-fits 8 (is_set 1 mode) (is_set 2 mode) x y (flags_of w))
    of_limits false = (omega arith, omega arith)

    by_mode : (m : Bool) → let a = of_judged (judged_by (cond m (Err WrongMode) (Ok (Divide (mode_of mode)))) (raw 0x11 mode w x y)) in (a.r < 0x100) × (a.s < 0x100)
    by_mode true = (omega arith, omega arith)
    by_mode false = of_limits (in_limits (Divide (mode_of mode)) w x y)

-- so AX has room for what it takes
pub ax_fits : (op mode y : ℕ) (r : Registers) {a : Answer} → a ≡ asked (request_over op mode y r) → a.r ≤ 0xFFFF → a.s ≤ 0xFFFF → ax_by op mode a < 0x1_0000
ax_fits op mode y r {a} ea hr hs =
    by_op_lem op mode a.r a.s (a.s * 0x100 + a.r) a.r a.r (λ n. n < 0x1_0000) (omega arith) (omega arith) bytes (omega arith) (omega arith)
  where
    asks : eqb op 0x11 ≡ true → a ≡ asked (raw 0x11 mode r.flags (read_by op mode r.ax r.dx) y)
    asks e = ea ∙ ap (λ (k : ℕ). asked (raw k mode r.flags (read_by op mode r.ax r.dx) y)) (eqb-true op 0x11 e)

    bytes : eqb op 0x11 ≡ true → is_set 0 mode ≡ false → a.s * 0x100 + a.r < 0x1_0000
    bytes e w =
        let small = subst (λ (q : Answer). (q.r < 0x100) × (q.s < 0x100)) (sym (asks e)) (divided_bytes mode r.flags (read_by op mode r.ax r.dx) y w) in
        omega (arith, small.0, small.1)
