-- `text::written::eight_capitals` meets its contract: a mask bounds what it lets through, and each lane is a capital. Assumes nothing.
use Prim.Native.Nat.{ℕ, ◌+◌, ◌*◌, ◌≤◌}
use native.Mathlib.Omega.{arith}
use lib.Bits.{and_le_r}
use Rattle.text.proofs.{CapitalLaws.bytes_apart, CapitalLaws.digits_apart, CapitalLaws.eight_law}
use Rattle.text.proofs.written.eight_capitals.Goals as goal

-- the two numbers side by side
abbrev q : ℕ → ℕ → ℕ
q first second = first + second * 0x1_0000_0000

digits-fit : (p : ℕ) → digits_apart p ≤ 0x0F0F_0F0F_0F0F_0F0F
digits-fit p = omega (arith, and_le_r p 0x00F0_00F0_00F0_00F0, and_le_r p 0x000F_000F_000F_000F)

pub overflow_mul-p : goal.overflow_mul-p
overflow_mul-p c = record { fits = omega (arith, and_le_r (q c.args.first c.args.second) 0x0000_00FF_0000_00FF) }

pub overflow_add-p : goal.overflow_add-p
overflow_add-p c = record { fits = omega (arith, and_le_r (q c.args.first c.args.second) 0x0000_00FF_0000_00FF, and_le_r (q c.args.first c.args.second) 0x0000_FF00_0000_FF00) }

pub overflow_mul-n : goal.overflow_mul-n
overflow_mul-n c = record { fits = omega (arith, and_le_r (bytes_apart (q c.args.first c.args.second)) 0x000F_000F_000F_000F) }

pub overflow_add-n : goal.overflow_add-n
overflow_add-n c = record { fits = omega (arith, digits-fit (bytes_apart (q c.args.first c.args.second))) }

pub overflow_add-result : goal.overflow_add-result
overflow_add-result c = record { fits = omega (arith, digits-fit (bytes_apart (q c.args.first c.args.second))) }

pub overflow_add-result-2 : goal.overflow_add-result-2
overflow_add-result-2 c = record { fits = omega (arith, digits-fit (bytes_apart (q c.args.first c.args.second))) }

pub overflow_mul-result : goal.overflow_mul-result
overflow_mul-result c = record { fits = omega (arith, and_le_r (digits_apart (bytes_apart (q c.args.first c.args.second)) + 0x0606_0606_0606_0606) 0x1010_1010_1010_1010) }

pub overflow_add-result-3 : goal.overflow_add-result-3
overflow_add-result-3 c =
    record { fits = omega (arith, digits-fit (bytes_apart (q c.args.first c.args.second)), and_le_r (digits_apart (bytes_apart (q c.args.first c.args.second)) + 0x0606_0606_0606_0606) 0x1010_1010_1010_1010) }

pub returns : goal.returns
returns c = eight_law c.args.first c.args.second c.ranges.first.fits c.ranges.second.fits
