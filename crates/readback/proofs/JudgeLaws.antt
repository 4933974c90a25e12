-- A record judged: the three tests at once come to the three in their order. Assumes nothing.
use mathlib.Core.{Path.◌≡◌, Path.refl, Path.sym, Path.ap, Path.◌∙◌, Bool.Bool, Bool.true, Bool.false, Bool.not, Bool.cond, Bool.◌&&◌}
use Prim.Native.Nat.{ℕ}
use Rattle.std.proofs.Common.{Ok, Err}
use Rattle.flags.specs.Word.{is_flags}
use Rattle.flags.proofs.WordLaws.{is_masked}
use Rattle.answer.specs.declared.answer.Answer.{Answer}
use Rattle.readback.specs.{Judge.is_status, Judge.outside, Judge.not_zero, Judge.judged, Quick.reason_of}
use Rattle.readback.specs.declared.judge.Refusal.TheVariants.{Status, Flags, NotZero}

-- the mask keeps a word of flags, and no other
pub outside_is : (w : ℕ) → outside w ≡ not (is_flags w)
outside_is w = ap not (sym (is_masked w))

-- none of the three applies, or the first that does
pub judged-at_once : (a : Answer) → judged a ≡ cond (is_status a.status && is_flags a.flags && not (not_zero a)) (Ok a) (Err (reason_of a))
unfolding judged
judged-at_once a = rw (outside_is a.flags) (by (is_status a.status) (is_flags a.flags) (not_zero a))
  where
    by : (s f z : Bool) → cond (not s) (Err Status) (cond (not f) (Err Flags) (cond z (Err NotZero) (Ok a)))
        ≡ cond (s && f && not z) (Ok a) (Err (cond (not s) Status (cond (not f) Flags NotZero)))
    by true true true = refl
    by true true false = refl
    by true false z = refl
    by false f z = refl

-- as the code tests them
pub judged_by_lem : (a : Answer) {s f z : Bool} → s ≡ is_status a.status → f ≡ is_flags a.flags → z ≡ not_zero a
    → (k : Bool) → (s && f && not z) ≡ k → cond k (Ok a) (Err (reason_of a)) ≡ judged a
judged_by_lem a es ef ez k e =
    ap (λ (x : Bool). cond x (Ok a) (Err (reason_of a))) (sym e ∙ (λ i. es i && ef i && not (ez i))) ∙ sym (judged-at_once a)
