-- `readback::one::record_at` meets its contract: each field from its place. Assumes nothing.
use mathlib.Core.Path.{sym, ap, ◌∙◌}
use Prim.Native.Nat.{ℕ, ◌+◌, ◌≤◌}
use native.Mathlib.{Nat.add-zero, Omega.arith}
use Rattle.text.specs.Plain.{field_at}
use Rattle.text.proofs.DigitsAt.{digits_part, digits_within, field_part}
use Rattle.readback.proofs.one.record_at.Goals as goal

-- there are digits wherever a field stands
pub two_digits-requires : goal.two_digits-requires
two_digits-requires c = let a = c.args in
    record { at_in_bounds = omega arith; text_value = digits_within a.text.now a.at 18 a.at 2 c.requires.text_value (omega arith) (omega arith) }

pub four_digits-requires : goal.four_digits-requires
four_digits-requires c = let a = c.args in
    record { at_in_bounds = omega arith; text_value = digits_part a.text.now a.at 18 2 4 c.requires.text_value (omega arith) }

pub four_digits-requires-2 : goal.four_digits-requires-2
four_digits-requires-2 c = let a = c.args in
    record { at_in_bounds = omega arith; text_value = digits_part a.text.now a.at 18 6 4 c.requires.text_value (omega arith) }

pub four_digits-requires-3 : goal.four_digits-requires-3
four_digits-requires-3 c = let a = c.args in
    record { at_in_bounds = omega arith; text_value = digits_part a.text.now a.at 18 10 4 c.requires.text_value (omega arith) }

pub four_digits-requires-4 : goal.four_digits-requires-4
four_digits-requires-4 c = let a = c.args in
    record { at_in_bounds = omega arith; text_value = digits_part a.text.now a.at 18 14 4 c.requires.text_value (omega arith) }

pub returns : goal.returns
returns c =
    let a = c.args in
    let at : (i m : ℕ) → i + m ≤ 18 → _ = field_part a.text.now a.at 18 in
    λ i. record {
      status = (c.two_digits.ensures ∙ sym (at 0 2 (omega arith) ∙ ap (λ (k : ℕ). field_at k 2 a.text.now) (add-zero a.at))) i;
      flags = (c.four_digits.ensures ∙ sym (at 2 4 (omega arith))) i;
      steps = (c.four_digits-2.ensures ∙ sym (at 6 4 (omega arith))) i;
      r = (c.four_digits-3.ensures ∙ sym (at 10 4 (omega arith))) i;
      s = (c.four_digits-4.ensures ∙ sym (at 14 4 (omega arith))) i;
    }
