-- The flags of a compare of n bits: A and O of left minus right, S, Z and P of the result passed as a 16-bit word, so that S is clear at
-- n = 8; and a C of its own. Assumes nothing.
use Rattle.std.specs.Prelude.{Bool, ℕ}
use Rattle.flags.specs.Word.{set_coa}
use Rattle.flags.specs.Szp.{szp}
use Rattle.flags.specs.declared.word.Flags.{Flags}
use Rattle.alu.specs.Sum.{sub}

-- of the compare left minus right
unfoldable pub compare_flags : ℕ → ℕ → ℕ → Bool → Flags → Flags
compare_flags n left right carry f =
    szp 16 (sub n left right).result (set_coa carry (sub n left right).overflow (sub n left right).aux_carry f)
