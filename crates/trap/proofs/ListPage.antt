-- For a list page: where it is told that a divide would not trap, the divide of the same request is done; where it would and can be asked, that
-- divide is refused; and what cannot be asked is never told as one that would not. Assumes nothing.
use mathlib.Core.{Path.◌≡◌, Path.refl, Path.sym, Path.ap, Path.subst, Path.◌∙◌, Bool.Bool, Bool.true, Bool.false, Bool.not, Bool.cond, List.[], List.◌∷◌}
use mathlib.Core.Logic.{◌⊎◌, inl, inr, ◌↔◌}
use Prim.Native.Nat.{ℕ, ◌+◌, ◌≤◌}
use native.Mathlib.Omega.{arith}
use lib.{Bits.bit_and, Dec.eqb}
use borrow.Author.Tests.{eqb-true, le-leb}
use Rattle.numbers.specs.{Numbers.bit, Numbers.between, Rows.OneOf}
use Rattle.answer.specs.Asked.{status_of}
use Rattle.trap.specs.Told.{WouldTrap, trap_by, would_trap}
use Rattle.answer.proofs.DivideRows.{SixStatuses, six, rep_rows, divide_by-rows}
use Rattle.trap.proofs.Rows.{told_by-rows}

module _ (mode x y : ℕ) where
  -- no status but 0, 4 and 5; and unless it is 0 the answer is yes, so that who looks at nothing else sees closed
  pub fails_closed : ((would_trap mode x y).status ≡ 0) ⊎ (OneOf (would_trap mode x y).status (4 ∷ 5 ∷ []) × ((would_trap mode x y).trap ≡ 1))
  fails_closed =
      subst (λ (w : WouldTrap). (w.status ≡ 0) ⊎ (OneOf w.status (4 ∷ 5 ∷ []) × (w.trap ≡ 1))) (sym (told_by-rows mode x y)) (by (six mode x y))
    where
      by : {k : ℕ} → SixStatuses k → ((trap_by k).status ≡ 0) ⊎ (OneOf (trap_by k).status (4 ∷ 5 ∷ []) × ((trap_by k).trap ≡ 1))
      by (inl e) = inl (rw e)
      by (inr (inl e)) = inr (inl (rw e), rw e)
      by (inr (inr (inl e))) = inr (inr (inl (rw e)), rw e)
      by (inr (inr (inr (inl e)))) = inl (rw e)
      by (inr (inr (inr (inr (inl e))))) = inl (rw e)
      by (inr (inr (inr (inr (inr (inl e)))))) = inl (rw e)
      by (inr (inr (inr (inr (inr (inr e)))))) = absurd e

  -- the divide of the same request, with any flags inside 08D5
  module _ (f : ℕ) (hf : bit_and f 0x08D5 ≡ f) where
    -- its status tells it, whichever flags they are
    pub told_of : would_trap mode x y ≡ trap_by (status_of 0x11 mode f x y)
    told_of = told_by-rows mode x y ∙ ap trap_by (sym (divide_by-rows mode x y f hf))

    -- where it says no, that divide is done, and nowhere else
    pub says_no : (would_trap mode x y).trap ≡ 0 ↔ status_of 0x11 mode f x y ≡ 0
    says_no = subst (λ (w : WouldTrap). w.trap ≡ 0 ↔ status_of 0x11 mode f x y ≡ 0) (sym told_of) (by (status_of 0x11 mode f x y))
      where
        to : (k : ℕ) (z : Bool) → eqb k 0 ≡ z → bit (not z) ≡ 0 → k ≡ 0
        to k true e h = eqb-true k 0 e
        to k false e h = absurd (omega arith)

        by : (k : ℕ) → (trap_by k).trap ≡ 0 ↔ k ≡ 0
        by k = (to k (eqb k 0) refl, λ e. rw e)

    -- where it says yes of a divide that can be asked, that divide is refused: 6, 8 or 9, and nowhere else
    pub says_yes : ((would_trap mode x y).status ≡ 0) × ((would_trap mode x y).trap ≡ 1) ↔ OneOf (status_of 0x11 mode f x y) (6 ∷ 8 ∷ 9 ∷ [])
    says_yes =
        subst (λ (w : WouldTrap). (w.status ≡ 0) × (w.trap ≡ 1) ↔ OneOf (status_of 0x11 mode f x y) (6 ∷ 8 ∷ 9 ∷ [])) (sym told_of)
        (to (subst SixStatuses (sym (divide_by-rows mode x y f hf)) (six mode x y)), from)
      where
        to : {k : ℕ} → SixStatuses k → ((trap_by k).status ≡ 0) × ((trap_by k).trap ≡ 1) → OneOf k (6 ∷ 8 ∷ 9 ∷ [])
        to (inl e) (s, t) = let t' = rw e at t in absurd (omega arith)
        to (inr (inl e)) (s, t) = let s' = rw e at s in absurd (omega arith)
        to (inr (inr (inl e))) (s, t) = let s' = rw e at s in absurd (omega arith)
        to (inr (inr (inr h))) (s, t) = h

        from : {k : ℕ} → OneOf k (6 ∷ 8 ∷ 9 ∷ []) → ((trap_by k).status ≡ 0) × ((trap_by k).trap ≡ 1)
        from (inl e) = (rw e, rw e)
        from (inr (inl e)) = (rw e, rw e)
        from (inr (inr (inl e))) = (rw e, rw e)
        from (inr (inr (inr e))) = absurd e

    -- 4 and 5 are those of the divide
    pub says_why : (j : ℕ) → 4 ≤ j → j ≤ 5 → (would_trap mode x y).status ≡ j ↔ status_of 0x11 mode f x y ≡ j
    says_why j low high = subst (λ (w : WouldTrap). w.status ≡ j ↔ status_of 0x11 mode f x y ≡ j) (sym told_of) (by (status_of 0x11 mode f x y))
      where
        to : (k : ℕ) (within : Bool) → cond within k 0 ≡ j → k ≡ j
        to k true e = e
        to k false e = absurd (omega arith)

        by : (k : ℕ) → (trap_by k).status ≡ j ↔ k ≡ j
        by k = (to k (between 4 5 k), λ e. rw (e, le-leb 4 j low, le-leb j 5 high))

-- REP changes nothing: the same is told of two modes of a divide that differ in it alone
pub rep_told_alike : (mode x y : ℕ) → mode ≤ 0x03 → would_trap (mode + 0x04) x y ≡ would_trap mode x y
rep_told_alike mode x y h = told_by-rows (mode + 0x04) x y ∙ ap trap_by (rep_rows mode h x y) ∙ sym (told_by-rows mode x y)
