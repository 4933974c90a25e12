-- Each public function of `roads` has a tight contract. Assumes nothing.
use mathlib.Core.{Path.◌≡◌, Path.refl, Path.sym, Path.ap, Path.◌∙◌, Bool.cond, List.List, List.◌∷◌}
use Prim.Native.Nat.{ℕ}
use package.lib.Dec.{eqb}
use Rattle.std.specs.declared.result.Result.{Result}
use Rattle.std.specs.declared.result.Result.TheVariants.{Ok, Err}
use Rattle.cord.specs.declared.Roads.{Roads}
use Rattle.divide.specs.declared.div.Refusal.TheVariants.{ZeroDivisor, TooWide, SignRange}
use Rattle.trap.specs.declared.Unasked.TheVariants.{WrongMode, TooLarge}
use Rattle.roads.specs.declared.Refusal.{Refusal}
use Rattle.roads.specs.declared.Refusal.TheVariants.{Unasked, Divide}
use Rattle.roads.specs.Told.{Tallied, told_as}
use Rattle.roads.specs.contracts as lib
use Rattle.roads.specs.contracts.told
use Rattle.tight.specs.Tight.{Tight}
use Rattle.tight.proofs.Law.{Faithful, plainly, same, through}

-- a status and the tallies tell which answer it was
abbrev refusal_of : ℕ → Refusal
refusal_of k =
    cond (eqb k 4) (Unasked WrongMode) (cond (eqb k 5) (Unasked TooLarge) (cond (eqb k 6) (Divide ZeroDivisor) (cond (eqb k 8) (Divide TooWide) (Divide SignRange))))

abbrev tallies_of : List ℕ → Roads
tallies_of (shifted_out ∷ no_borrow ∷ _) = record { shifted_out = shifted_out; no_borrow = no_borrow }
tallies_of _ = record { shifted_out = 0; no_borrow = 0 }

abbrev answer_of : Tallied → Result Roads Refusal
answer_of w = cond (eqb w.status 0) (Ok (tallies_of w.roads)) (Err (refusal_of w.status))

answer_kept : (a : Result Roads Refusal) → answer_of (told_as a) ≡ a
answer_kept (Ok tallies) = refl
answer_kept (Err (Unasked WrongMode)) = refl
answer_kept (Err (Unasked TooLarge)) = refl
answer_kept (Err (Divide ZeroDivisor)) = refl
answer_kept (Err (Divide TooWide)) = refl
answer_kept (Err (Divide SignRange)) = refl

told_as_faithful : Faithful told_as
told_as_faithful r s e = sym (answer_kept r) ∙ ap answer_of e ∙ answer_kept s

module _ {M : Type 1} where
  pub lib-RefusalFromDivRefusal-from : Tight M lib.RefusalFromDivRefusal.from.signature (λ 𝓤. lib.RefusalFromDivRefusal.from.clauses)
  lib-RefusalFromDivRefusal-from c g r s = plainly c.𝓤 (λ e d. (same e d, refl))

  pub told-U8FromRefusal-from : Tight M told.U8FromRefusal.from.signature (λ 𝓤. told.U8FromRefusal.from.clauses)
  told-U8FromRefusal-from c g r s = plainly c.𝓤 (λ e d. (same e d, refl))

  pub lib-roads : Tight M lib.roads.signature (λ 𝓤. lib.roads.clauses)
  lib-roads c g r s = plainly c.𝓤 (λ e d. (through told_as_faithful e d, refl))

  pub told-tell : Tight M told.tell.signature (λ 𝓤. told.tell.clauses)
  told-tell c g r s = plainly c.𝓤 (λ e d. let t = same e d in (λ i. (t i).status, λ i. (tt, ((t i).roads, tt))))
