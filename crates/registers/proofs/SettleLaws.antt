-- What is settled, case by case. Assumes nothing.
use mathlib.Core.{Path.◌≡◌, Path.refl, Path.sym, Bool.Bool, Bool.true, Bool.false, Bool.cond, Logic.◌⊎◌, Logic.inl, Logic.inr}
use Prim.Native.Nat.{ℕ, ◌+◌, ◌≤◌, ◌<◌}
use native.Mathlib.Omega.{arith}
use lib.Dec.{leb, ltb, eqb}
use borrow.Author.Tests.{ltb-true, ltb-false, leb-true, lt-ltb, le-ltb, eq-eqb, ne_eqb}
use Rattle.numbers.specs.Numbers.{between}
use Rattle.answer.specs.declared.answer.Answer.{Answer}
use Rattle.numbers.proofs.BoolLaws.{both}
use Rattle.registers.specs.Over.{Counted, counted, counted_of, settled_as, registers_of, leaving, settled_of, stays}
use Rattle.registers.specs.{declared.record.Registers.Registers, declared.record.Settled.Settled}

-- ---- what is counted

module _ (flags total : ℕ) (a : Answer) where
  -- 1 to 5
  pub count_not_done : between 1 5 a.status ≡ true → counted_of flags total a ≡ counted a.status 0 flags total
  unfolding counted_of
  count_not_done e = rw e

  module _ (e : between 1 5 a.status ≡ false) where
    -- past the end
    pub count_past : 4_294_967_295 < total + a.steps → counted_of flags total a ≡ counted 10 0 flags total
    unfolding counted_of
    count_past h = rw (e, lt-ltb 4_294_967_295 (total + a.steps) h)

    -- done, or a divide that is refused
    pub count_stored : total + a.steps ≤ 4_294_967_295 → {sum : ℕ} → sum ≡ total + a.steps → counted a.status a.steps a.flags sum ≡ counted_of flags total a
    unfolding counted_of
    count_stored h es = rw (e, le-ltb 4_294_967_295 (total + a.steps) h, es)

-- with no step and all as it was, or stored with a sum that is not past the end
pub count_either : (flags total : ℕ) (a : Answer)
    → ((k : ℕ) × (counted_of flags total a ≡ counted k 0 flags total)) ⊎ ((total + a.steps ≤ 4_294_967_295) × (counted_of flags total a ≡ counted a.status a.steps a.flags (total + a.steps)))
count_either flags total a = by (between 1 5 a.status) (ltb 4_294_967_295 (total + a.steps)) refl refl
  where
    by : (b p : Bool) → between 1 5 a.status ≡ b → ltb 4_294_967_295 (total + a.steps) ≡ p
        → ((k : ℕ) × (counted_of flags total a ≡ counted k 0 flags total)) ⊎ ((total + a.steps ≤ 4_294_967_295) × (counted_of flags total a ≡ counted a.status a.steps a.flags (total + a.steps)))
    by true p e h = inl (a.status, count_not_done flags total a e)
    by false true e h = inl (10, count_past flags total a e (ltb-true _ _ h))
    by false false e h = let room = ltb-false _ _ h in inr (room, sym (count_stored flags total a e room refl))

-- ---- what is settled of it

-- the answer's status, steps and flags, with AX, DX and the total
abbrev pub stored : Answer → ℕ → ℕ → ℕ → Settled
stored a ax dx total = settled_as a.status a.steps (registers_of ax dx a.flags total)

-- from what was counted: AX and DX stay, or take what they are given
module _ (r : Registers) (a : Answer) (ax dx : ℕ) {c : Counted} (e : c ≡ counted_of r.flags r.total a) where
  pub left : (c.status ≡ 0 → ⊥) → leaving c r.ax r.dx ≡ settled_of r a ax dx
  unfolding settled_of
  left h = rw (← e, ne_eqb c.status 0 h)

  pub taken : c.status ≡ 0 → leaving c ax dx ≡ settled_of r a ax dx
  unfolding settled_of
  taken h = rw (← e, eq-eqb c.status 0 h)

-- ---- the four cases

module _ (r : Registers) (a : Answer) (ax dx : ℕ) where
  -- 1 to 5
  pub not_done : between 1 5 a.status ≡ true → settled_of r a ax dx ≡ stays a.status r
  not_done e =
      let some = leb-true 1 a.status (both (leb 1 a.status) (leb a.status 5) e).0 in
      sym (left r a ax dx (sym (count_not_done r.flags r.total a e)) (λ z. omega arith))

  module _ (e : between 1 5 a.status ≡ false) where
    -- past the end
    pub past : 4_294_967_295 < r.total + a.steps → settled_of r a ax dx ≡ stays 10 r
    past h = sym (left r a ax dx (sym (count_past r.flags r.total a e h)) (λ z. omega arith))

    module _ (h : r.total + a.steps ≤ 4_294_967_295) where
      -- done
      pub done : a.status ≡ 0 → settled_of r a ax dx ≡ stored a ax dx (r.total + a.steps)
      done z = sym (taken r a ax dx (count_stored r.flags r.total a e h refl) z)

      -- a divide that is refused
      pub refused : (a.status ≡ 0 → ⊥) → settled_of r a ax dx ≡ stored a r.ax r.dx (r.total + a.steps)
      refused z = sym (left r a ax dx (count_stored r.flags r.total a e h refl) z)

-- whatever it is, the flags and the total are as they were counted
pub settled_counted : (r : Registers) (a : Answer) (ax dx : ℕ) (P : Settled → Type 0) → ((x y : ℕ) → P (leaving (counted_of r.flags r.total a) x y)) → P (settled_of r a ax dx)
unfolding settled_of
settled_counted r a ax dx P h = by (eqb (counted_of r.flags r.total a).status 0)
  where
    by : (k : Bool) → P (cond k (leaving (counted_of r.flags r.total a) ax dx) (leaving (counted_of r.flags r.total a) r.ax r.dx))
    by true = h ax dx
    by false = h r.ax r.dx
