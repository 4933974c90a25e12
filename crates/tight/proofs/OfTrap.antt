-- Each public function of `trap` has a tight contract. Assumes nothing.
use mathlib.Core.{Path.◌≡◌, Path.refl, Path.sym, Path.ap, Path.◌∙◌, Bool.Bool, Bool.true, Bool.false, Bool.cond}
use package.lib.Dec.{eqb}
use Rattle.std.specs.declared.result.Result.{Result}
use Rattle.std.specs.declared.result.Result.TheVariants.{Ok, Err}
use Rattle.trap.specs.declared.Unasked.{Unasked}
use Rattle.trap.specs.declared.Unasked.TheVariants.{WrongMode, TooLarge}
use Rattle.trap.specs.Told.{WouldTrap, told_as}
use Rattle.trap.specs.contracts as lib
use Rattle.trap.specs.contracts.compare
use Rattle.trap.specs.contracts.told
use Rattle.tight.specs.Numbers.{Numbers}
use Rattle.tight.specs.Tight.{Tight, TightAt}
use Rattle.tight.proofs.Law.{Faithful, plainly, same, through}

-- a status and 0 or 1 tell which answer it was
abbrev answer_of : WouldTrap → Result Bool Unasked
answer_of w = cond (eqb w.status 0) (Ok (eqb w.trap 1)) (cond (eqb w.status 4) (Err WrongMode) (Err TooLarge))

answer_kept : (a : Result Bool Unasked) → answer_of (told_as a) ≡ a
answer_kept (Ok true) = refl
answer_kept (Ok false) = refl
answer_kept (Err WrongMode) = refl
answer_kept (Err TooLarge) = refl

told_as_faithful : Faithful told_as
told_as_faithful r s e = sym (answer_kept r) ∙ ap answer_of e ∙ answer_kept s

module _ {M : Type 1} where
  pub lib-UnaskedFromTryFromIntError-from : Tight M lib.UnaskedFromTryFromIntError.from.signature (λ 𝓤. lib.UnaskedFromTryFromIntError.from.clauses)
  lib-UnaskedFromTryFromIntError-from c g r s = plainly c.𝓤 (λ e d. (same e d, refl))

  pub compare-magnitude_of : Tight M compare.magnitude_of.signature (λ 𝓤. compare.magnitude_of.clauses)
  compare-magnitude_of c g r s = plainly c.𝓤 (λ e d. (same e d, refl))

  pub compare-would_trap : Tight M compare.would_trap.signature (λ 𝓤. compare.would_trap.clauses)
  compare-would_trap c g r s = plainly c.𝓤 (λ e d. (same e d, refl))

  pub lib-would_trap : Tight M lib.would_trap.signature (λ 𝓤. lib.would_trap.clauses)
  lib-would_trap c g r s = plainly c.𝓤 (λ e d. (through told_as_faithful e d, refl))

  pub told-tell : Tight M told.tell.signature (λ 𝓤. told.tell.clauses)
  told-tell c g r s = plainly c.𝓤 (λ e d. let t = same e d in (λ i. (t i).status, λ i. (tt, ((t i).trap, tt))))

module _ {M : Type 1} (w : Numbers) where
  pub compare-divide_traps : TightAt M (record { signature = compare.divide_traps.signature w.N; kept = _ }) (λ 𝓤. compare.divide_traps.clauses w.N w.number w.methods w.clone w.cloning)
  compare-divide_traps c g r s = plainly c.𝓤 (λ e d. (same e d, refl))
