-- The total is the sum of the steps told since a fresh record, whatever was done in between. It never falls and never passes its end, and a session
-- cut in two adds up.
-- Assumes nothing.
use mathlib.Core.{Path.◌≡◌, Path.refl, Bool.Bool, Bool.true, Bool.false, Bool.cond, List.List, List.[], List.◌∷◌, List.◌++◌, Logic.◌⊎◌, Logic.inl, Logic.inr}
use Prim.Native.Nat.{ℕ, ◌+◌, ◌≤◌}
use native.Mathlib.Omega.{arith}
use Rattle.answer.specs.{Asked.asked, declared.answer.Answer.Answer}
use Rattle.registers.specs.Over.{is_over, Counted, counted, settled_of, settled_by, request_over, stays, over, registers_of}
use Rattle.registers.specs.Session.{Fresh, Event, operation, store, after, steps_of, after_all, steps_of_all}
use Rattle.registers.specs.{declared.record.Registers.Registers, declared.record.Settled.Settled}
use Rattle.registers.proofs.SettleLaws.{count_either, settled_counted}

-- ---- one thing

-- the steps told go into the total
abbrev Adds : Registers → Settled → Type 0
Adds r o = o.regs.total ≡ r.total + o.steps

settled_adds : (r : Registers) (a : Answer) (ax dx : ℕ) → Adds r (settled_of r a ax dx)
settled_adds r a ax dx = settled_counted r a ax dx (Adds r) (λ x y. by (count_either r.flags r.total a))
  where
    by : {c : Counted} → ((k : ℕ) × (c ≡ counted k 0 r.flags r.total)) ⊎ ((r.total + a.steps ≤ 4_294_967_295) × (c ≡ counted a.status a.steps a.flags (r.total + a.steps)))
        → c.total ≡ r.total + c.steps
    by (inl (k, e)) = rw e (omega arith)
    by (inr (h, e)) = rw e

-- those of an operation, whatever its status
pub over_adds : (op mode y : ℕ) (r : Registers) → (over op mode y r).regs.total ≡ r.total + (over op mode y r).steps
unfolding over
over_adds op mode y r = by (is_over op)
  where
    by : (k : Bool) → Adds r (cond k (settled_by op mode r (asked (request_over op mode y r))) (stays 3 r))
    by true = settled_adds r _ _ _
    by false = omega arith

one_adds : (e : Event) (r : Registers) → (after e r).total ≡ r.total + steps_of e r
one_adds (operation op mode y) r = over_adds op mode y r
one_adds (store ax dx flags) r = omega arith

-- a store puts AX, DX and flags into the record, and leaves the total
pub stores : (ax dx flags : ℕ) (r : Registers) → after (store ax dx flags) r ≡ registers_of ax dx flags r.total
stores ax dx flags r = refl

-- ---- any number of them

-- the total after them is the total before and the steps told
pub remembers : (es : List Event) (r : Registers) → (after_all es r).total ≡ r.total + steps_of_all es r
unfolding after_all steps_of_all
remembers [] r = omega arith
remembers (e ∷ es) r = omega (arith, remembers es (after e r), one_adds e r)

-- so since a fresh record, with any AX, DX and flags, it is their sum
pub since_fresh : (es : List Event) (r : Registers) → Fresh r → (after_all es r).total ≡ steps_of_all es r
since_fresh es r fresh = omega (arith, remembers es r)

-- the total never falls
pub never_falls : (es : List Event) (r : Registers) → r.total ≤ (after_all es r).total
never_falls es r = omega (arith, remembers es r)

-- a session cut in two: the second part goes on where the first left the record,
pub goes_on : (es fs : List Event) (r : Registers) → after_all (es ++ fs) r ≡ after_all fs (after_all es r)
unfolding after_all
goes_on [] fs r = refl
goes_on (e ∷ es) fs r = goes_on es fs (after e r)

-- and the steps of the two add up
pub adds_up : (es fs : List Event) (r : Registers) → steps_of_all (es ++ fs) r ≡ steps_of_all es r + steps_of_all fs (after_all es r)
unfolding after_all steps_of_all
adds_up [] fs r = omega arith
adds_up (e ∷ es) fs r = omega (arith, adds_up es fs (after e r))

-- ---- the end

settled_room : (r : Registers) (a : Answer) (ax dx : ℕ) → r.total ≤ 4_294_967_295 → (settled_of r a ax dx).regs.total ≤ 4_294_967_295
settled_room r a ax dx room = settled_counted r a ax dx (λ (o : Settled). o.regs.total ≤ 4_294_967_295) (λ x y. by (count_either r.flags r.total a))
  where
    by : {c : Counted} → ((k : ℕ) × (c ≡ counted k 0 r.flags r.total)) ⊎ ((r.total + a.steps ≤ 4_294_967_295) × (c ≡ counted a.status a.steps a.flags (r.total + a.steps)))
        → c.total ≤ 4_294_967_295
    by (inl (k, e)) = rw e room
    by (inr (h, e)) = rw e h

one_room : (e : Event) (r : Registers) → r.total ≤ 4_294_967_295 → (after e r).total ≤ 4_294_967_295
unfolding over
one_room (operation op mode y) r h = by (is_over op)
  where
    by : (k : Bool) → (cond k (settled_by op mode r (asked (request_over op mode y r))) (stays 3 r)).regs.total ≤ 4_294_967_295
    by true = settled_room r _ _ _ h
    by false = h
one_room (store ax dx flags) r h = h

-- the total never passes its end
pub never_past : (es : List Event) (r : Registers) → r.total ≤ 4_294_967_295 → (after_all es r).total ≤ 4_294_967_295
unfolding after_all
never_past [] r h = h
never_past (e ∷ es) r h = never_past es (after e r) (one_room e r h)
