-- Demand 1: status 6, 8 or 9 exactly for a divide that is admitted and to which its reason applies; it gives the chart's flags and steps,
-- and no result. Besides: the flags handed in change nothing of a divide. Assumes nothing.
use mathlib.Core.{Path.◌≡◌, Path.refl, Path.sym, Path.ap, Path.subst, Path.◌∙◌, Bool.Bool, Bool.true, Bool.false, Bool.not, Bool.cond, Bool.◌&&◌, Bool.◌||◌, Bool.false≢true}
use mathlib.Core.Logic.{◌↔◌}
use Prim.Native.Nat.{ℕ, ◌+◌, ◌^◌, ◌<◌}
use lib.{Bits.bit_and, Dec.leb, Dec.ltb, Dec.eqb}
use borrow.Author.Tests.{leb-false, ltb-false, eqb-true, not-false}
use Rattle.numbers.specs.Numbers.{is_set}
use Rattle.flags.specs.{Word.word_of, Word.flags_of, declared.word.Flags.Flags}
use Rattle.divide.specs.{Divide.applies, Divide.refused_flags, Divide.refused_steps, Divide.divide, declared.div.Refusal.Refusal}
use Rattle.divide.specs.declared.div.Refusal.TheVariants.{ZeroDivisor, TooWide, SignRange}
use Rattle.divide.proofs.{Refusals.refused-whole, RefusedFlags.flags_not_seen}
use Rattle.request.specs.{Operation.ops, Operation.listed, Operation.width_of, Operation.mode_of, Operation.operation_of, Limits.x_most, Limits.y_most}
use Rattle.request.specs.{Judge.raw, Judge.request_of, Judge.judged_by, Judge.judged, Limits.in_limits, Judge.Admitted, Judge.TooLarge}
use Rattle.std.specs.declared.result.Result.TheVariants.{Ok, Err}
use Rattle.request.specs.{declared.decode.Undecoded.TheVariants.WrongMode, declared.operation.Operation.TheVariants.Divide}
use Rattle.answer.specs.{Charted.bits, Charted.refusal_status, Charted.of_divided, Charted.charted, Asked.Raw, Asked.of_judged, Asked.asked}
use Rattle.answer.specs.{Table.wrong_mode, Table.width_by, Table.too_large, Table.refused_for, Refused.RefusedDivide, Refused.refusal, declared.answer.Answer.Answer}
use Rattle.numbers.proofs.BoolLaws.{both}
use Rattle.answer.proofs.{DivideRows.some_width, DivideRows.flags_alone, DivideRows.divide_admitted, Table.statuses}

-- ---- a refused divide is answered its refusal

refused_is : (why : Refusal) (n : ℕ) (s rep : Bool) (d b : ℕ) (f : Flags) → 0 < n → applies why n s d b ≡ true
    → of_divided (divide n s rep d b f) ≡ record { status = refusal_status why; flags = word_of (refused_flags n s d b f); steps = refused_steps n s d b; r = 0; s = 0 }
refused_is why n s rep d b f hn e = ap of_divided (refused-whole n s d b hn f rep why e)

module _ (why : Refusal) (mode flags x y : ℕ) (refused : RefusedDivide why (raw 0x11 mode flags x y)) where
  answered : asked (raw 0x11 mode flags x y) ≡ refusal why (raw 0x11 mode flags x y)
  answered =
      divide_admitted mode flags x y refused.mode refused.dividend refused.divisor refused.flags
      ∙ refused_is why (width_by mode) (is_set 1 mode) (is_set 2 mode) x y (flags_of flags) (some_width mode) refused.reason

-- ---- and those statuses are given to nothing else

none_of : (a b c : Bool) → a || b || c ≡ false → (a ≡ false) × (b ≡ false) × (c ≡ false)
none_of true b c e = absurd (false≢true (sym e))
none_of false true c e = absurd (false≢true (sym e))
none_of false false c e = (refl, refl, e)

module _ (r : Raw) where
  is_divide : r.op ≡ 0x11 → r ≡ raw 0x11 r.mode r.flags r.x r.y
  is_divide e i = record { op = e i; mode = r.mode; flags = r.flags; x = r.x; y = r.y }

  -- its row applies, and those of 4 and 5 do not
  row_of : (why : Refusal) → (asked r).status ≡ refusal_status why → (wrong_mode r.op r.mode ≡ false) × (too_large r ≡ false) × (refused_for why r ≡ true)
  row_of ZeroDivisor e = let g = (statuses r 6).0 e in (g.1.0, g.1.1.0, g.1.1.1)
  row_of TooWide e = let g = (statuses r 8).0 e in (g.1.0, g.1.1.0, g.1.1.1.1)
  row_of SignRange e = let g = (statuses r 9).0 e in (g.1.0, g.1.1.0, g.1.1.1.1.1)

  is_refused_lem : (why : Refusal) → (asked r).status ≡ refusal_status why → RefusedDivide why r
  is_refused_lem why e =
      let n = width_by r.mode in
      let row = row_of why e in
      let divide = both (eqb r.op 0x11) (applies why n (is_set 1 r.mode) r.x r.y) row.2 in
      let op = eqb-true r.op 0x11 divide.0 in
      let modes = none_of _ _ _ row.0 in
      let limits = none_of (leb (2 ^ (n + n)) r.x) (leb (2 ^ n) r.y) (not (eqb (bit_and r.flags 0x08D5) r.flags)) (subst (λ (q : Raw). too_large q ≡ false) (is_divide op) row.1) in
      record {
        op = op;
        mode = ltb-false 0x07 r.mode modes.0;
        dividend = leb-false (2 ^ (n + n)) r.x limits.0;
        divisor = leb-false (2 ^ n) r.y limits.1;
        flags = eqb-true (bit_and r.flags 0x08D5) r.flags (not-false (eqb (bit_and r.flags 0x08D5) r.flags) limits.2);
        reason = divide.1;
      }

  is_answered : (why : Refusal) → RefusedDivide why r → asked r ≡ refusal why r
  is_answered why d =
      let e = is_divide d.op in
      subst (λ (q : Raw). asked q ≡ refusal why q) (sym e) (answered why r.mode r.flags r.x r.y (subst (RefusedDivide why) e d))

-- the status of a reason, 6, 8 or 9, exactly for a divide that is refused for it, and then the answer is its refusal
pub demand_1 : (why : Refusal) (r : Raw) → ((asked r).status ≡ refusal_status why ↔ RefusedDivide why r) × (RefusedDivide why r → asked r ≡ refusal why r)
demand_1 why r = ((is_refused_lem r why, λ d. ap (λ (a : Answer). a.status) (is_answered r why d)), is_answered r why)

-- ---- the flags handed in

-- two divides that differ in them alone get one answer, done or refused, where neither word has a bit outside 08D5
pub divide_alike : (mode x y f g : ℕ) → bit_and f 0x08D5 ≡ f → bit_and g 0x08D5 ≡ g → asked (raw 0x11 mode f x y) ≡ asked (raw 0x11 mode g x y)
unfolding asked judged operation_of listed ops charted
divide_alike mode x y f g hf hg = by (ltb 0x07 mode)
  where
    same : in_limits (Divide (mode_of mode)) f x y ≡ in_limits (Divide (mode_of mode)) g x y
    same = ap (λ (z : Bool). leb x (x_most (Divide (mode_of mode))) && leb y (y_most (Divide (mode_of mode))) && z) (flags_alone f hf ∙ sym (flags_alone g hg))

    by_limits : (k : Bool) → of_judged (cond k (Admitted (request_of (Divide (mode_of mode)) (raw 0x11 mode f x y))) TooLarge)
        ≡ of_judged (cond k (Admitted (request_of (Divide (mode_of mode)) (raw 0x11 mode g x y))) TooLarge)
    by_limits true = ap of_divided (flags_not_seen (bits (width_of mode)) (is_set 1 mode) (is_set 2 mode) x y (flags_of f) (flags_of g))
    by_limits false = refl

    by : (k : Bool) → of_judged (judged_by (cond k (Err WrongMode) (Ok (Divide (mode_of mode)))) (raw 0x11 mode f x y))
        ≡ of_judged (judged_by (cond k (Err WrongMode) (Ok (Divide (mode_of mode)))) (raw 0x11 mode g x y))
    by true = refl
    by false =
        by_limits (in_limits (Divide (mode_of mode)) f x y)
        ∙ ap (λ (k : Bool). of_judged (cond k (Admitted (request_of (Divide (mode_of mode)) (raw 0x11 mode g x y))) TooLarge)) same
