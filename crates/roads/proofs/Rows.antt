-- The table's rows of a divide, and what they make of its roads. Assumes nothing.
use mathlib.Core.{Path.◌≡◌, Path.refl, Path.sym, Path.ap, Path.◌∙◌, Bool.Bool, Bool.true, Bool.false, Bool.not, Bool.cond, Bool.◌||◌, Logic.◌⊎◌, Logic.inl, Logic.inr, List.[], List.◌∷◌}
use Prim.Native.Nat.{ℕ, ◌+◌, ◌^◌, ◌≤◌, ◌<◌}
use lib.{Bits.bit_and, Dec.ltb, Dec.eqb}
use borrow.Author.Tests.{lt-ltb}
use Rattle.numbers.proofs.{Masks.mask_bit, Masks.set_masked, Masks.set_unmasked}
use Rattle.numbers.specs.Numbers.{is_set}
use Rattle.flags.specs.{Word.flags_of, declared.word.Flags.Flags}
use Rattle.cord.specs.Cord.{no_roads}
use Rattle.divide.specs.Divide.{accepts, refusal_of, divide}
use Rattle.answer.specs.{Charted.refusal_status, Charted.of_divided, Table.width_by, declared.answer.Answer.Answer}
use Rattle.answer.proofs.DivideRows.{large, divide_mode, divide_large, divide_admitted}
use Rattle.roads.specs.Told.{tallied, listed, divide_by, told_of, told_by, roads_by, roads_told}

-- a divide's own status leaves its roads as they are: they are none unless it is 0
settled : (n : ℕ) (s rep : Bool) (d b : ℕ) (f : Flags) → told_of (divide n s rep d b f) ≡ roads_by (of_divided (divide n s rep d b f)).status (divide n s rep d b f).roads
unfolding divide
settled n s rep d b f = by (accepts n s d b) refl
  where
    none : (x : Bool) → listed no_roads ≡ listed (cond x no_roads no_roads)
    none true = refl
    none false = refl

    by : (x : Bool) → accepts n s d b ≡ x → told_of (divide n s rep d b f) ≡ roads_by (of_divided (divide n s rep d b f)).status (divide n s rep d b f).roads
    by true e = rw e
    by false e = rw e (ap (tallied (refusal_status (refusal_of n s d b))) (none (eqb (refusal_status (refusal_of n s d b)) 0)))

-- REP changes nothing of what is told
rep_told : (n : ℕ) (s rep : Bool) (d b : ℕ) (f : Flags) → told_of (divide n s rep d b f) ≡ told_of (divide n s false d b f)
unfolding divide
rep_told n s rep d b f = by (accepts n s d b) refl
  where
    by : (x : Bool) → accepts n s d b ≡ x → told_of (divide n s rep d b f) ≡ told_of (divide n s false d b f)
    by true e = rw e
    by false e = rw e

module _ (mode x y : ℕ) where
  -- a mode that no divide has
  pub told_mode : 0x07 < mode → roads_told mode x y ≡ tallied 4 (0 ∷ 0 ∷ [])
  unfolding roads_told
  told_mode h = ap (λ (k : ℕ). roads_by k (divide_by mode x y).roads) (divide_mode mode x y h)

  module _ (hm : mode ≤ 0x07) where
    -- an operand is too large
    pub told_large : large mode x y ≡ true → roads_told mode x y ≡ tallied 5 (0 ∷ 0 ∷ [])
    unfolding roads_told
    told_large h = ap (λ (k : ℕ). roads_by k (divide_by mode x y).roads) (divide_large mode x y hm h)

    -- admitted, what the divide tells
    pub told_admitted : x < 2 ^ (width_by mode + width_by mode) → y < 2 ^ width_by mode → roads_told mode x y ≡ told_by (width_by mode) (is_set 1 mode) x y
    unfolding roads_told
    told_admitted hx hy =
        ap (λ (a : Answer). roads_by a.status (divide_by mode x y).roads) (divide_admitted mode 0 x y hm hx hy refl)
        ∙ sym (settled (width_by mode) (is_set 1 mode) (is_set 2 mode) x y (flags_of 0))
        ∙ rep_told (width_by mode) (is_set 1 mode) (is_set 2 mode) x y (flags_of 0)

-- ---- how the code tells it, by the width that the mode names

or_true : (k : Bool) → k || true ≡ true
or_true true = refl
or_true false = refl

module _ (mode x y : ℕ) (hm : mode ≤ 0x07) where
  -- sixteen bits have room for every operand
  pub told_word : (bit_and mode 0x01 ≡ 0 → ⊥) → x < 2 ^ 32 → y < 2 ^ 16 → told_by 16 (not (eqb (bit_and mode 0x02) 0)) x y ≡ roads_told mode x y
  told_word h hx hy =
      let wide = set_masked 0 mode h in
      ap (λ (s : Bool). told_by 16 s x y) (mask_bit 1 mode) ∙ sym (told_admitted mode x y hm (rw wide hx) (rw wide hy) ∙ rw wide)

  module _ (h : bit_and mode 0x01 ≡ 0) where
    pub told_byte_large : (0xFFFF < x) ⊎ (0xFF < y) → tallied 5 (0 ∷ 0 ∷ []) ≡ roads_told mode x y
    told_byte_large (inl e) = sym (told_large mode x y hm (rw (set_unmasked 0 mode h, lt-ltb 0xFFFF x e)))
    told_byte_large (inr e) = sym (told_large mode x y hm (rw (set_unmasked 0 mode h, lt-ltb 0xFF y e) (or_true (ltb 0xFFFF x))))

    pub told_byte : x < 2 ^ 16 → y < 2 ^ 8 → told_by 8 (not (eqb (bit_and mode 0x02) 0)) x y ≡ roads_told mode x y
    told_byte hx hy =
        let narrow = set_unmasked 0 mode h in
        ap (λ (s : Bool). told_by 8 s x y) (mask_bit 1 mode) ∙ sym (told_admitted mode x y hm (rw narrow hx) (rw narrow hy) ∙ rw narrow)
