-- An operand that is cut to its operation's width: none within its limits is changed. Assumes nothing.
use mathlib.Core.{Path.◌≡◌, Path.refl, Path.ap₂, Path.◌∙◌, Bool.Bool, Bool.true, Bool.false, Bool.cond}
use Prim.Native.Nat.{ℕ, ◌≤◌}
use Rattle.flags.specs.Word.{flags_of}
use Rattle.request.specs.{Limits.x_most, Limits.y_most, Limits.in_limits, declared.operation.Operation.Operation, declared.raw.Request.Request}
use Rattle.request.proofs.RequestLaws.{in_range_lem}
use Rattle.answer.specs.{Asked.zeros, Charted.limited_to, Charted.charted_by, Charted.charted_as, declared.answer.Answer.Answer}

-- what was worked out of operands that were cut
pub uncut_as : (o : Operation) (q : Request) (u v : ℕ) → (q.x ≤ x_most o → u ≡ q.x) → (q.y ≤ y_most o → v ≡ q.y)
    → {a : Answer} → a ≡ limited_to (x_most o) (y_most o) q (charted_by o u v (flags_of q.flags)) → a ≡ charted_as o q
uncut_as o q u v eu ev p = p ∙ by (in_limits o q.flags q.x q.y) refl
  where
    by : (k : Bool) → in_limits o q.flags q.x q.y ≡ k
        → cond k (charted_by o u v (flags_of q.flags)) (zeros 5) ≡ cond k (charted_by o q.x q.y (flags_of q.flags)) (zeros 5)
    by true e = let h = in_range_lem o q.flags q.x q.y e in ap₂ (λ (m n : ℕ). charted_by o m n (flags_of q.flags)) (eu h.0) (ev h.1)
    by false e = refl
