-- `readback::reader::next_at` meets its contract: the end, a line of 18 digits, or any other line. Assumes nothing.
use mathlib.Core.{Path.◌≡◌, Path.sym, Path.ap, Path.◌∙◌, Bool.true}
use Prim.Native.Nat.{ℕ, ◌+◌}
use native.Mathlib.Omega.{arith}
use Rattle.text.specs.Lines.{line_at}
use Rattle.text.proofs.NextLine.{next-takes}
use Rattle.readback.proofs.{LineLaws.has_18, LineLaws.digits_there, NextLaws.at_end, NextLaws.at_line, NextLaws.at_digits}
use Rattle.readback.proofs.reader.next_at.Goals as goal
use Rattle.readback.specs.Quick.{is_digits}

pub returns-then-text-at : goal.returns-then-text-at
returns-then-text-at c = at_end _ _ c.if-text-at.true

pub returns : goal.returns
returns c =
    let a = c.args in
    -- the line is 18 digits
    let good : is_digits (line_at a.text.now a.at) ≡ true = sym c.is_digits.ensures ∙ c.if-not-is_digits.false in
    let end : a.at + 18 ≡ _ = ap (λ (k : ℕ). a.at + k) (sym (has_18 a.text.now a.at (omega arith) good)) in
    let past = c.unwrap_or-place.ensures ∙ c.next_start.ensures.0 ∙ next-takes a.text.now a.at (a.at + 18) true (omega arith) end in
    c.step.ensures ∙ at_line a.text.now a.at (omega arith) (at_digits a.text.now a.at (omega arith) good c.record_at.ensures c.judge-read.ensures) past

pub bad_line-requires : goal.bad_line-requires
bad_line-requires c = record { at_in_bounds = omega arith; at_value = sym c.is_digits.ensures ∙ c.if-not-is_digits.true }

pub record_at-requires : goal.record_at-requires
record_at-requires c = let d = digits_there c.args.text.now c.args.at (omega arith) (sym c.is_digits.ensures ∙ c.if-not-is_digits.false) in record { at_in_bounds = d.0; text_value = d.1 }
