-- An operation over the register record: what it reads, what it answers, and what the record holds then. It is the operation of a request,
-- with what it reads as X. Assumes nothing.
use Rattle.std.specs.Prelude.{Bool, cond, ◌||◌, ℕ, ◌+◌, ◌*◌, ltb, eqb}
use Rattle.numbers.specs.Numbers.{between, is_set}
use Rattle.bcd.specs.Adjust.{al_of}
use Rattle.answer.specs.Asked.{Raw, raw, asked}
use Rattle.answer.specs.Table.{is_mul_div, is_adjust}
use Rattle.answer.specs.declared.answer.Answer.{Answer}
use Rattle.registers.specs.declared.record.Registers.{Registers}
use Rattle.registers.specs.declared.record.Settled.{Settled}

-- the record, of its four numbers
abbrev pub registers_of : ℕ → ℕ → ℕ → ℕ → Registers
registers_of ax dx flags total = record { ax = ax; dx = dx; flags = flags; total = total }

-- what is told and left: a status, the steps and the record
abbrev pub settled_as : ℕ → ℕ → Registers → Settled
settled_as status steps r = record { status = status; steps = steps; regs = r }

-- the ops that work on the record: multiply and divide, and the adjusts
abbrev pub is_over : ℕ → Bool
is_over op = is_mul_div op || is_adjust op

-- one of five numbers: that of a multiply at 8 and at 16 bits, of a divide at 8 and at 16, or of an adjust
abbrev pub by_op : ℕ → ℕ → ℕ → ℕ → ℕ → ℕ → ℕ → ℕ
by_op op mode multiply8 multiply16 divide8 divide16 adjust =
    cond (eqb op 0x10) (cond (is_set 0 mode) multiply16 multiply8) (cond (eqb op 0x11) (cond (is_set 0 mode) divide16 divide8) adjust)

-- DX with AX below it
abbrev pub dx_ax : ℕ → ℕ → ℕ
dx_ax ax dx = dx * 0x1_0000 + ax

-- X: multiply reads AL or AX, divide AX or DX with AX below it, an adjust AX
abbrev pub read_by : ℕ → ℕ → ℕ → ℕ → ℕ
read_by op mode ax dx = by_op op mode (al_of ax) ax ax (dx_ax ax dx) ax

-- what AX takes: of a multiply the product, at 16 bits its lower half; of a divide the quotient in AL and the remainder in AH, at 16 bits the quotient;
-- of an adjust the adjusted AX
abbrev pub ax_by : ℕ → ℕ → Answer → ℕ
ax_by op mode a = by_op op mode a.r a.s (a.s * 0x100 + a.r) a.r a.r

-- what DX takes: at 16 bits a product's upper half or the remainder; else it stays
abbrev pub dx_by : ℕ → ℕ → ℕ → Answer → ℕ
dx_by op mode dx a = by_op op mode dx a.r dx a.s dx

-- what is told of an operation, and the flags and the total that it leaves
pub record Counted : Type 0 where
  pub status : ℕ
  pub steps : ℕ
  pub flags : ℕ
  pub total : ℕ

-- the four together
abbrev pub counted : ℕ → ℕ → ℕ → ℕ → Counted
counted status steps flags total = record { status = status; steps = steps; flags = flags; total = total }

-- after 1 to 5 there is no step, and both stay; 10 where the total would pass 4,294,967,295, with no step, and both stay; else the answer's flags
-- are stored, and its steps go into the total
unfoldable pub counted_of : ℕ → ℕ → Answer → Counted
counted_of flags total a =
    cond (between 1 5 a.status) (counted a.status 0 flags total)
    (cond (ltb 4_294_967_295 (total + a.steps)) (counted 10 0 flags total) (counted a.status a.steps a.flags (total + a.steps)))

-- what was counted, with AX and DX
abbrev pub leaving : Counted → ℕ → ℕ → Settled
leaving c ax dx = settled_as c.status c.steps (registers_of ax dx c.flags c.total)

-- AX and DX take what they are given where the status told is 0; else both stay, after a refused divide too
abbrev pub taken_if : Counted → Registers → ℕ → ℕ → Settled
taken_if c r ax dx = cond (eqb c.status 0) (leaving c ax dx) (leaving c r.ax r.dx)

-- what an answer makes of the record, with what AX and DX are given
unfoldable pub settled_of : Registers → Answer → ℕ → ℕ → Settled
settled_of r a ax dx = taken_if (counted_of r.flags r.total a) r ax dx

-- the same, with what AX and DX take by the op and its width
abbrev pub settled_by : ℕ → ℕ → Registers → Answer → Settled
settled_by op mode r a = settled_of r a (ax_by op mode a) (dx_by op mode r.dx a)

-- the request that it is: the record's flags, and what is read as X
abbrev pub request_over : ℕ → ℕ → ℕ → Registers → Raw
request_over op mode y r = raw op mode r.flags (read_by op mode r.ax r.dx) y

-- nothing is done: the record stays, with no step
abbrev pub stays : ℕ → Registers → Settled
stays status r = settled_as status 0 r

-- an op over the record: 3 where it is none of those; else by what that request is answered
unfoldable pub over : ℕ → ℕ → ℕ → Registers → Settled
over op mode y r = cond (is_over op) (settled_by op mode r (asked (request_over op mode y r))) (stays 3 r)
