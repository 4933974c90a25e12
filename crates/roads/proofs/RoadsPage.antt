-- For a tester: what can be relied on of the roads of a divide given as numbers, and what they tell of the answer to its request. Assumes nothing.
use mathlib.Core.{Path.◌≡◌, Path.refl, Path.sym, Path.ap, Path.subst, Path.◌∙◌, Bool.Bool, Bool.true, Bool.false, Bool.cond, Bool.true≢false, List.List, List.[], List.◌∷◌}
use mathlib.Core.Logic.{◌↔◌}
use Prim.Native.Nat.{ℕ, ◌+◌, ◌-◌, ◌*◌, ◌%◌, ◌^◌, ◌≤◌}
use native.Mathlib.Omega.{arith}
use lib.{Bits.bit_and, Count.ones, Dec.eqb, IntN.nat_abs}
use borrow.Author.Tests.{ne_eqb}
use Rattle.numbers.specs.Numbers.{is_set, magnitude}
use Rattle.flags.specs.Word.{flags_of}
use Rattle.numbers.proofs.Powers.{top_twice}
use Rattle.cord.specs.Cord.{Roads, no_roads}
use Rattle.divide.specs.{Divide.quotient_of, Divide.results_of, Divide.divide, StepLog.other_steps}
use Rattle.divide.proofs.Returned.{returned_magnitude}
use Rattle.divide.proofs.RoadsOfDivides.{roads_alike, roads_add_up, steps_by_roads, none_shifted_out, signed_none_out}
use Rattle.answer.specs.{Charted.of_divided, Asked.raw, Asked.asked, Asked.status_of, Table.width_by, declared.answer.Answer.Answer}
use Rattle.answer.proofs.DivideRows.{SixStatuses, six, rep_width, rep_sign, rep_rows, some_width, DoneDivide, divide-done, divide_by-rows, divide_admitted}
use Rattle.roads.specs.Told.{Tallied, tallied, listed, divide_by, roads_by, roads_told}

-- ---- of any divide

module _ (mode x y : ℕ) where
  -- no status but the six of a divide
  pub only_six : SixStatuses (roads_told mode x y).status
  unfolding roads_told
  only_six = subst SixStatuses (sym (divide_by-rows mode x y 0 refl)) (six mode x y)

  -- it is the request's own, with any flags inside 08D5
  pub status_of_lem : (f : ℕ) → bit_and f 0x08D5 ≡ f → (roads_told mode x y).status ≡ status_of 0x11 mode f x y
  unfolding roads_told
  status_of_lem f hf = divide_by-rows mode x y 0 refl ∙ sym (divide_by-rows mode x y f hf)

  -- both are 0 unless it is 0
  pub none_unless_done : ((roads_told mode x y).status ≡ 0 → ⊥) → (roads_told mode x y).roads ≡ 0 ∷ 0 ∷ []
  unfolding roads_told
  none_unless_done h = ap (λ (z : Bool). listed (cond z (divide_by mode x y).roads no_roads)) (ne_eqb (status_of 0x11 mode 0 x y) 0 h)

-- REP changes nothing: the same is told of two modes of a divide that differ in it alone
pub rep_roads_alike : (mode x y : ℕ) → mode ≤ 0x03 → roads_told (mode + 0x04) x y ≡ roads_told mode x y
unfolding roads_told
rep_roads_alike mode x y h = λ i. roads_by (status i) (roads i)
  where
    status : status_of 0x11 (mode + 0x04) 0 x y ≡ status_of 0x11 mode 0 x y
    status = divide_by-rows (mode + 0x04) x y 0 refl ∙ rep_rows mode h x y ∙ sym (divide_by-rows mode x y 0 refl)

    roads : (divide_by (mode + 0x04) x y).roads ≡ (divide_by mode x y).roads
    roads = rw (rep_width mode h, rep_sign mode h) (roads_alike (width_by mode) (is_set 1 mode) x y (is_set 2 (mode + 0x04)) (is_set 2 mode) (flags_of 0) (flags_of 0))

-- ---- of one that is done: status 0, with the tallies u and v; and the answer to its request, with any flags inside 08D5

module _ (mode f x y u v : ℕ) (hf : bit_and f 0x08D5 ≡ f) (told : roads_told mode x y ≡ tallied 0 (u ∷ v ∷ [])) where
  zero_status : status_of 0x11 mode 0 x y ≡ 0
  unfolding roads_told
  zero_status = ap (λ (t : Tallied). t.status) told

  a : DoneDivide mode x y
  a = divide-done mode x y (sym (divide_by-rows mode x y 0 refl) ∙ zero_status)

  pair : (divide_by mode x y).roads.shifted_out ∷ (divide_by mode x y).roads.no_borrow ∷ [] ≡ u ∷ v ∷ []
  unfolding roads_told
  pair =
      ap (λ (k : ℕ). listed (cond (eqb k 0) (divide_by mode x y).roads no_roads)) (sym zero_status) ∙ ap (λ (t : Tallied). t.roads) told

  heads : {p q p' q' : ℕ} → ◌≡◌ {A = List ℕ} (p ∷ q ∷ []) (p' ∷ q' ∷ []) → (p ≡ p') × (q ≡ q')
  heads e = (cc, cc)

  answer : asked (raw 0x11 mode f x y) ≡ of_divided (divide (width_by mode) (is_set 1 mode) (is_set 2 mode) x y (flags_of f))
  answer = divide_admitted mode f x y a.mode_fits a.dividend a.divisor hf

  returned : ((asked (raw 0x11 mode f x y)).r ≡ (results_of (width_by mode) (is_set 1 mode) (is_set 2 mode) x y).quotient) × ((asked (raw 0x11 mode f x y)).steps ≡ (divide (width_by mode) (is_set 1 mode) (is_set 2 mode) x y (flags_of f)).steps)
  unfolding divide
  returned = (ap (λ (w : Answer). w.r) answer ∙ rw a.agreed, ap (λ (w : Answer). w.steps) answer ∙ rw a.agreed)

  shelf : magnitude (is_set 1 mode) (width_by mode) (asked (raw 0x11 mode f x y)).r ≡ nat_abs (quotient_of (width_by mode) (is_set 1 mode) x y)
  shelf = ap (magnitude (is_set 1 mode) (width_by mode)) returned.0 ∙ returned_magnitude (width_by mode) (is_set 1 mode) (is_set 2 mode) x y (some_width mode) a.agreed

  -- the two add up to the ones of the magnitude of R
  pub done_adds_up : u + v ≡ ones (magnitude (is_set 1 mode) (width_by mode) (asked (raw 0x11 mode f x y)).r)
  done_adds_up =
      let h = heads pair in
      let s = roads_add_up (width_by mode) (is_set 1 mode) (is_set 2 mode) x y (flags_of 0) (some_width mode) a.dividend a.divisor a.agreed in
      sym (λ i. h.0 i + h.1 i) ∙ s ∙ ap ones (sym shelf)

  -- and its steps follow from the second
  pub done-steps : (asked (raw 0x11 mode f x y)).steps ≡ other_steps (width_by mode) (is_set 1 mode) x y + v + 2 * (magnitude (is_set 1 mode) (width_by mode) (asked (raw 0x11 mode f x y)).r % 2)
  done-steps =
      let h = heads pair in
      let alike = roads_alike (width_by mode) (is_set 1 mode) x y (is_set 2 mode) (is_set 2 mode) (flags_of f) (flags_of 0) in
      returned.1
      ∙ steps_by_roads (width_by mode) (is_set 1 mode) (is_set 2 mode) x y (flags_of f) (some_width mode) a.dividend a.divisor a.agreed
      ∙ λ i. other_steps (width_by mode) (is_set 1 mode) x y + (ap (λ (w : Roads). w.no_borrow) alike ∙ h.1) i + 2 * (sym shelf i % 2)

  -- signed, the first is 0
  pub done-signed : is_set 1 mode ≡ true → u ≡ 0
  done-signed e =
      sym (heads pair).0
      ∙ (λ i. (divide (width_by mode) (e i) (is_set 2 mode) x y (flags_of 0)).roads.shifted_out)
      ∙ signed_none_out (width_by mode) (is_set 2 mode) x y (flags_of 0) (some_width mode) a.dividend a.divisor

  -- and so it is, unsigned, with a divisor of at most half the range
  pub done_small : y ≤ 2 ^ (width_by mode - 1) → is_set 1 mode ≡ false → u ≡ 0
  done_small h e =
      sym (heads pair).0
      ∙ (λ i. (divide (width_by mode) (e i) (is_set 2 mode) x y (flags_of 0)).roads.shifted_out)
      ∙ none_shifted_out (width_by mode) false (is_set 2 mode) x y (flags_of 0) (some_width mode) a.dividend a.divisor (omega (arith, top_twice (width_by mode) (some_width mode)))

-- ---- the companion of demand 3, of two unsigned divides of one width that are done, with equal R

module _ (mode mode' f f' x y x' y' u v u' v' : ℕ) (hf : bit_and f 0x08D5 ≡ f) (hf' : bit_and f' 0x08D5 ≡ f')
    (unsigned : is_set 1 mode ≡ false) (unsigned' : is_set 1 mode' ≡ false) (width : width_by mode ≡ width_by mode')
    (told : roads_told mode x y ≡ tallied 0 (u ∷ v ∷ [])) (told' : roads_told mode' x' y' ≡ tallied 0 (u' ∷ v' ∷ []))
    (quotients : (asked (raw 0x11 mode f x y)).r ≡ (asked (raw 0x11 mode' f' x' y')).r) where
  one : (s : Bool) (n r t x y u v : ℕ) → s ≡ false → u + v ≡ ones (magnitude s n r) → t ≡ other_steps n s x y + v + 2 * (magnitude s n r % 2)
      → t + u ≡ 13 + 8 * n + ones r + 2 * (r % 2)
  one true n r t x y u v e h k = absurd (true≢false e)
  one false n r t x y u v e h k = omega (arith, h, k)

  one_sum : (asked (raw 0x11 mode f x y)).steps + u ≡ (asked (raw 0x11 mode' f' x' y')).steps + u'
  one_sum =
      one (is_set 1 mode) (width_by mode) _ _ x y u v unsigned (done_adds_up mode f x y u v hf told) (done-steps mode f x y u v hf told)
      ∙ (λ i. 13 + 8 * width i + ones (quotients i) + 2 * (quotients i % 2))
      ∙ sym (one (is_set 1 mode') (width_by mode') _ _ x' y' u' v' unsigned' (done_adds_up mode' f' x' y' u' v' hf' told') (done-steps mode' f' x' y' u' v' hf' told'))

  -- the steps of their answers are equal exactly when their first tallies are
  pub asked_companion : ((asked (raw 0x11 mode f x y)).steps ≡ (asked (raw 0x11 mode' f' x' y')).steps) ↔ (u ≡ u')
  asked_companion = (λ e. omega (arith, e, one_sum), λ e. omega (arith, e, one_sum))

  -- and always are with divisors of at most 2 ^ (n - 1)
  pub asked_small : y ≤ 2 ^ (width_by mode - 1) → y' ≤ 2 ^ (width_by mode' - 1) → (asked (raw 0x11 mode f x y)).steps ≡ (asked (raw 0x11 mode' f' x' y')).steps
  asked_small h h' = asked_companion.1 (done_small mode f x y u v hf told h unsigned ∙ sym (done_small mode' f' x' y' u' v' hf' told' h' unsigned'))
