-- `flags::parity::parity` meets its contract: the table holds the rule at every byte. Assumes nothing.
use mathlib.Core.{Path.◌≡◌, Path.refl, Path.ap, Path.◌∙◌, Bool.Bool, Bool.true, Bool.false, Bool.not}
use Prim.Native.Nat.{ℕ}
use lib.Dec.{eqb}
use borrow.Author.Rules.{rules}
use Rattle.numbers.specs.Numbers.{bit}
use Rattle.flags.proofs.parity.parity.Goals as goal

bit-not-0 : (b : Bool) → not (eqb (bit b) 0) ≡ b
bit-not-0 true = refl
bit-not-0 false = refl

pub returns : goal.returns
returns c = ap (λ (x : ℕ). not (eqb x 0)) (c.parity_table.ensures.rule c.args.byte (search rules)) ∙ bit-not-0 _
