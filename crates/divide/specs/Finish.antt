-- How a divide ends: refused by CORD, or, signed, by what POSTIDIV answers. Assumes nothing.
use Rattle.std.specs.Prelude.{false, cond, ℕ, eqb}
use Rattle.flags.specs.Word.{set_co}
use Rattle.flags.specs.declared.word.Flags.{Flags}
use Rattle.cord.specs.Cord.{Roads, no_roads}
use Rattle.idiv.specs.Idiv as Idiv
use Rattle.divide.specs.Divide.{Divided, accepted, refused}
use Rattle.divide.specs.declared.div.Refusal.{Refusal}
use Rattle.divide.specs.declared.div.Refusal.TheVariants.{ZeroDivisor, TooWide, SignRange}

-- CORD refuses at its first compare; the divisor tells why
abbrev pub first_refusal : ℕ → Refusal
first_refusal b = cond (eqb b 0) ZeroDivisor TooWide

-- f are the flags that CORD leaves, and w the roads of its quotient: an accepted divide clears C and O; a refused one has the flags as they
-- are, and no roads
abbrev pub finished : Idiv.PostAnswer → Flags → Roads → Divided
finished (Idiv.accepted q r t) f w = record { outcome = accepted (record { quotient = q; remainder = r }); flags = set_co false false f; roads = w; steps = t }
finished (Idiv.refused t) f w = record { outcome = refused SignRange; flags = f; roads = no_roads; steps = t }
