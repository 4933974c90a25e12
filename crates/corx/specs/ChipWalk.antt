-- CORX round by round, as the microcode makes it. No contract cites this file. The law `chip_walks` says that these rounds give the halves and
-- the steps of `corx`, which the contracts cite. Assumes nothing.
use Rattle.std.specs.Prelude.{Bool, ℕ, zero, suc, ◌+◌, ◌*◌, ◌/◌, ◌^◌}
use Rattle.numbers.specs.Numbers.{bit, is_set}
use Rattle.corx.specs.Corx.{Halves, CorxRound, corx_round}

-- before the rounds the multiplier shifts right by one: a carry enters at its top, and its lowest bit becomes the carry
abbrev pub chip_start : ℕ → ℕ → Bool → ℕ → CorxRound
chip_start n c carry steps = record { tmpa = 0; tmpc = (bit carry * 2 ^ n + c) / 2; carry = is_set 0 c; steps = steps + 2 }

-- k rounds, with a jump back after each
unfoldable pub chip_rounds : ℕ → ℕ → ℕ → CorxRound → CorxRound
chip_rounds n b zero s = s
chip_rounds n b (suc k) s =
    let r = corx_round n b (chip_rounds n b k s) in record { tmpa = r.tmpa; tmpc = r.tmpc; carry = r.carry; steps = r.steps + 1 }

-- all n rounds and the end. The last round makes no jump back, and 2 steps follow it
abbrev pub chip_corx : ℕ → ℕ → ℕ → Bool → ℕ → Halves
chip_corx n b c carry steps =
    let s = chip_rounds n b n (chip_start n c carry steps) in record { tmpa = s.tmpa; tmpc = s.tmpc; steps = s.steps + 1 }
