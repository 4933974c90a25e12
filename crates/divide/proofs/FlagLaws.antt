-- The flags of a compare over the width n, from what the code calls; and that S is clear at 8 bits. Assumes nothing.
use mathlib.Core.{Path.◌≡◌, Path.ap, Path.◌∙◌, Bool.Bool, Bool.false}
use Prim.Native.Nat.{ℕ, ◌+◌, ◌-◌, ◌%◌, ◌^◌}
use native.Mathlib.{Nat.mod-lt, Omega.arith}
use lib.Dec.{lit<}
use borrow.Author.Tests.{lt-leb}
use Rattle.flags.specs.{Word.set_coa, Szp.szp, declared.word.Flags.Flags}
use Rattle.alu.specs.{Result.ResultCoa, Sum.sbb, Sum.sub}
use Rattle.divide.specs.Flags.{compare_flags}

pub compare_is : (n left right : ℕ) (carry : Bool) (f : Flags) {compare : ResultCoa} {named out : Flags}
    → compare ≡ sub n left right → named ≡ set_coa carry compare.overflow compare.aux_carry f → out ≡ szp 16 compare.result named
    → out ≡ compare_flags n left right carry f
unfolding compare_flags
compare_is n left right carry f {compare} ec en eo =
    eo ∙ ap (λ (g : Flags). szp 16 compare.result g) en
    ∙ ap (λ (r : ResultCoa). szp 16 r.result (set_coa carry r.overflow r.aux_carry f)) ec

-- a difference of 8 bits, as a word, has its bit 15 clear
pub s_clear_at_8 : (left right : ℕ) (carry : Bool) (f : Flags) → (compare_flags 8 left right carry f).sign ≡ false
unfolding compare_flags szp sbb
s_clear_at_8 left right carry f = lt-leb (2 ^ 15) ((2 ^ 8 + left - (right + 0)) % 2 ^ 8) (omega (arith, mod-lt (2 ^ 8 + left - (right + 0)) {m = 2 ^ 8} (lit< tt)))
