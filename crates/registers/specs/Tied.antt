-- What ties an operation over the record to the answer of its request, as an answer line has it. Assumes nothing.
use Rattle.std.specs.Prelude.{◌≡◌, [], ◌∷◌, ℕ, ◌+◌}
use Rattle.numbers.specs.Rows.{OneOf}
use Rattle.answer.specs.declared.answer.Answer.{Answer}
use Rattle.registers.specs.Over.{ax_by, dx_by, registers_of}
use Rattle.registers.specs.declared.record.Registers.{Registers}
use Rattle.registers.specs.declared.record.Settled.{Settled}

-- o is what was told and left of record r, and a the answer. Status and steps are the answer's. Done, AX and DX take its results, and the flags are
-- its flags; a refused divide leaves AX and DX, stores its flags, and its steps go into the total; after 4 and 5 the record is as it was. What 3 and 10 leave is in `stays_after`
pub record Tied (op mode : ℕ) (r : Registers) (a : Answer) (o : Settled) : Type 0 where
  pub status : o.status ≡ a.status
  pub steps : o.steps ≡ a.steps
  pub done : a.status ≡ 0 → o.regs ≡ registers_of (ax_by op mode a) (dx_by op mode r.dx a) a.flags (r.total + a.steps)
  pub refused : OneOf a.status (6 ∷ 8 ∷ 9 ∷ []) → o.regs ≡ registers_of r.ax r.dx a.flags (r.total + a.steps)
  pub stayed : OneOf a.status (4 ∷ 5 ∷ []) → o.regs ≡ r
