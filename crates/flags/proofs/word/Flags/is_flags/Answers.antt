-- `flags::word::Flags::is_flags` meets its contract: the word is taken apart, put together and compared. Assumes nothing.
use mathlib.Core.Path.{ap, ◌∙◌}
use Prim.Native.Nat.{ℕ}
use lib.Dec.{eqb}
use Rattle.flags.specs.Word.{word_of, is_flags}
use Rattle.flags.proofs.word.Flags.is_flags.Goals as goal

pub returns : goal.returns
unfolding is_flags
returns c = ap (λ (w : ℕ). eqb w c.args.word) (c.from.ensures ∙ ap word_of c.from_word.ensures)
