-- A session: what a program does to one record, one thing after another, and the steps that it was told. Assumes nothing.
use Rattle.std.specs.Prelude.{◌≡◌, List, [], ◌∷◌, ℕ, ◌+◌}
use Rattle.registers.specs.Over.{over, registers_of}
use Rattle.registers.specs.declared.record.Registers.{Registers}

-- a fresh record: the total is 0, whatever AX, DX and the flags are
abbrev pub Fresh : Registers → Type 0
Fresh r = r.total ≡ 0

-- an operation over the record, given by its op, its mode and Y, whatever its status; or a store of AX, DX and flags
pub data Event : Type 0 where
  operation : ℕ → ℕ → ℕ → Event
  store : ℕ → ℕ → ℕ → Event

-- the record after it. A store leaves the total
abbrev pub after : Event → Registers → Registers
after (operation op mode y) r = (over op mode y r).regs
after (store ax dx flags) r = registers_of ax dx flags r.total

-- the steps that were told. A store has none
abbrev pub steps_of : Event → Registers → ℕ
steps_of (operation op mode y) r = (over op mode y r).steps
steps_of (store ax dx flags) r = 0

-- the record after all of them
unfoldable pub after_all : List Event → Registers → Registers
after_all [] r = r
after_all (e ∷ es) r = after_all es (after e r)

-- the sum of the steps told
unfoldable pub steps_of_all : List Event → Registers → ℕ
steps_of_all [] r = 0
steps_of_all (e ∷ es) r = steps_of e r + steps_of_all es (after e r)
