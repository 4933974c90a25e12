-- `text::found::read_at` meets its contract: twenty digits before a line feed are a line. Assumes nothing.
use mathlib.Core.Path.{sym, ap, ◌∙◌}
use Prim.Native.Nat.{◌+◌}
use native.Mathlib.Omega.{arith}
use borrow.Author.Rules.{rules}
use Rattle.text.specs.Fields.{Read}
use Rattle.text.proofs.{TwentyLaws.found_there}
use Rattle.text.proofs.found.read_at.Goals as goal

pub returns-in-Ok : goal.returns-in-Ok
returns-in-Ok c =
    let a = c.args in
    let read = sym (c.fields_at.ensures) ∙ c.in-Ok.is in
    ap (λ (r : Read). record { read = r; end = a.from + 20 }) (sym read) ∙ found_there a.text.now a.from _ (omega arith) (search rules) read
