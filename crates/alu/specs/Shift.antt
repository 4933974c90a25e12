-- The shifts and rotates of n bits: the steps of the full count, with the flags of the last one.
-- Assumes nothing.
use Rattle.std.specs.Prelude.{Bool, false, ℕ, zero, suc, ◌-◌}
use Rattle.std.specs.Bool.{xor}
use Rattle.numbers.specs.Numbers.{is_set, top_set}
use Rattle.alu.specs.Result.{ResultC, ResultCo, ResultCoa}
use Rattle.alu.specs.Step.{Shift, Shl, Shr, Sar, Rol, Ror, Rcl, Rcr, Step, before, steps}

-- a flag of the last step; a count of 0 makes none, and the flag is false
abbrev pub of_last : ℕ → Bool → Bool
of_last zero flag = false
of_last (suc k) flag = flag

-- O leftward: C xor the new top bit
abbrev pub left_o : ℕ → ℕ → Step → ResultCo
left_o n count s = record { result = s.value; carry = s.carry; overflow = of_last count (xor s.carry (top_set n s.value)) }

-- O rightward: the new result's top bit xor the bit below it
abbrev pub right_o : ℕ → ℕ → Step → ResultCo
right_o n count s =
    record { result = s.value; carry = s.carry; overflow = of_last count (xor (top_set n s.value) (is_set (n - 2) s.value)) }

-- SHR and SAR set C only
abbrev pub carry_only : Step → ResultC
carry_only s = record { result = s.value; carry = s.carry }

-- SHL, ROL and RCL: C and O of the last step
unfoldable pub leftward : ℕ → Shift → ℕ → ℕ → Bool → ResultCo
leftward n shift x count c = left_o n count (steps n shift count (before x c))

-- ROR and RCR: C and O of the last step
unfoldable pub rightward : ℕ → Shift → ℕ → ℕ → Bool → ResultCo
rightward n shift x count c = right_o n count (steps n shift count (before x c))

-- SHR and SAR: C of the last step
unfoldable pub downward : ℕ → Shift → ℕ → ℕ → ResultC
downward n shift x count = carry_only (steps n shift count (before x false))

-- RCL and RCR take C in; the others begin with C false, and return it so where the count is 0
abbrev pub shl : ℕ → ℕ → ℕ → ResultCo
shl n x count = leftward n Shl x count false

-- the bit that leaves above enters below
abbrev pub rol : ℕ → ℕ → ℕ → ResultCo
rol n x count = leftward n Rol x count false

-- C enters below
abbrev pub rcl : ℕ → ℕ → ℕ → Bool → ResultCo
rcl n x count c = leftward n Rcl x count c

-- the bit that leaves below enters above
abbrev pub ror : ℕ → ℕ → ℕ → ResultCo
ror n x count = rightward n Ror x count false

-- C enters above
abbrev pub rcr : ℕ → ℕ → ℕ → Bool → ResultCo
rcr n x count c = rightward n Rcr x count c

-- nothing enters
abbrev pub shr : ℕ → ℕ → ℕ → ResultC
shr n x count = downward n Shr x count

-- the sign enters again
abbrev pub sar : ℕ → ℕ → ℕ → ResultC
sar n x count = downward n Sar x count

-- op 0C: SHL, and A is bit 4 of the last result
abbrev pub with_a : ℕ → ResultCo → ResultCoa
with_a count r =
    record { result = r.result; carry = r.carry; overflow = r.overflow; aux_carry = of_last count (is_set 4 r.result) }

-- SHL that also sets A
abbrev pub shl_af : ℕ → ℕ → ℕ → ResultCoa
shl_af n x count = with_a count (shl n x count)
