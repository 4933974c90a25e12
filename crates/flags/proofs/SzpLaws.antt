-- S, Z and P of a result of n bits, from what the code tests. Assumes nothing.
use mathlib.Core.{Path.◌≡◌, Path.ap, Bool.Bool}
use Prim.Native.Nat.{ℕ, ◌%◌}
use native.Mathlib.Nat.{mod-mod}
use lib.{Dec.eqb, Count.ones}
use Rattle.numbers.specs.Numbers.{top_set}
use Rattle.flags.specs.{Parity.even_ones, Szp.szp, declared.word.Flags.Flags}

-- P asks of a number no more than its low eight bits
pub even_low : (x : ℕ) → even_ones (x % 256) ≡ even_ones x
unfolding even_ones
even_low x = ap (λ (y : ℕ). eqb (ones y % 2) 0) (mod-mod x 256)

-- the three tests, as the code makes them
pub szp_is : (n x : ℕ) (f : Flags) {p z s : Bool} → p ≡ even_ones x → z ≡ eqb x 0 → s ≡ top_set n x
    → ◌≡◌ {A = Flags} (record { carry = f.carry; parity = p; aux_carry = f.aux_carry; zero = z; sign = s; overflow = f.overflow }) (szp n x f)
unfolding szp
szp_is n x f ep ez es =
    λ i. record {
      carry = f.carry;
      parity = ep i;
      aux_carry = f.aux_carry;
      zero = ez i;
      sign = es i;
      overflow = f.overflow;
    }
