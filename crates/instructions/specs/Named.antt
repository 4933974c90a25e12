-- What names an operation by its function adds: its mode, and the judging of the flags. Assumes nothing.
use Rattle.std.specs.Prelude.{Bool, cond, ℕ, ◌+◌, ◌*◌}
use Rattle.numbers.specs.Numbers.{bit}
use Rattle.flags.specs.Word.{is_flags}
use Rattle.answer.specs.Asked.{zeros}
use Rattle.answer.specs.declared.answer.Answer.{Answer}
use Rattle.registers.specs.Over.{settled_of}
use Rattle.registers.specs.declared.record.Registers.{Registers}
use Rattle.registers.specs.declared.record.Settled.{Settled}

-- the mode of a multiply or divide: 01 sixteen bits, 02 signed, 04 REP
abbrev pub mode_by : Bool → Bool → Bool → ℕ
mode_by wide signed rep = bit wide * 0x01 + bit signed * 0x02 + bit rep * 0x04

-- an answer, or 5 where the word has a flag outside 08D5
abbrev pub checked_by : ℕ → Answer → Answer
checked_by word a = cond (is_flags word) a (zeros 5)

-- what an answer makes of the record where AX takes R, and DX stays
abbrev pub in_ax : Registers → Answer → Settled
in_ax regs made = let a = checked_by regs.flags made in settled_of regs a a.r regs.dx
