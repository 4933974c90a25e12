-- The table's rows of a divide, and what they make of whether it would trap. Assumes nothing.
use mathlib.Core.{Path.◌≡◌, Path.refl, Path.sym, Path.ap, Path.◌∙◌, Bool.Bool, Bool.true, Bool.false, Bool.not, Bool.◌||◌, Logic.◌⊎◌, Logic.inl, Logic.inr}
use Prim.Native.Nat.{ℕ, ◌+◌, ◌^◌, ◌≤◌, ◌<◌}
use lib.{Bits.bit_and, Dec.ltb, Dec.eqb}
use borrow.Author.Tests.{lt-ltb, le-ltb, lt-leb}
use Rattle.numbers.proofs.{Masks.mask_bit, Masks.set_masked, Masks.set_unmasked}
use Rattle.numbers.specs.Numbers.{bit, is_set}
use Rattle.divide.specs.{Divide.accepts, declared.div.Refusal.TheVariants.ZeroDivisor, declared.div.Refusal.TheVariants.TooWide, declared.div.Refusal.TheVariants.SignRange}
use Rattle.divide.proofs.Refusals.{three_cover}
use Rattle.answer.specs.Table.{width_by}
use Rattle.trap.specs.Told.{trap_told, trap_by, would_trap}
use Rattle.answer.proofs.{Table.by_reason, DivideRows.large, DivideRows.refused_by, DivideRows.rows_of, DivideRows.some_width, DivideRows.divide_by-rows}

module _ (mode x y : ℕ) where
  pub told_by-rows : would_trap mode x y ≡ trap_by (rows_of mode x y)
  unfolding would_trap
  told_by-rows = ap trap_by (divide_by-rows mode x y 0 refl)

  -- a mode that no divide has, whatever the operands
  pub told_mode : 0x07 < mode → would_trap mode x y ≡ trap_told 4 1
  told_mode h = told_by-rows ∙ rw (lt-ltb 0x07 mode h)

  module _ (hm : mode ≤ 0x07) where
    -- an operand is too large
    pub told_large : large mode x y ≡ true → would_trap mode x y ≡ trap_told 5 1
    told_large h = told_by-rows ∙ rw (le-ltb 0x07 mode hm, h)

    -- admitted, it would trap exactly if the divide is not accepted
    pub told_admitted : x < 2 ^ (width_by mode + width_by mode) → y < 2 ^ width_by mode → would_trap mode x y ≡ trap_told 0 (bit (not (accepts (width_by mode) (is_set 1 mode) x y)))
    told_admitted hx hy =
        told_by-rows ∙ rw (le-ltb 0x07 mode hm, lt-leb (2 ^ (width_by mode + width_by mode)) x hx, lt-leb (2 ^ width_by mode) y hy)
        (by (refused_by ZeroDivisor mode x y) (refused_by TooWide mode x y) (refused_by SignRange mode x y)
        ∙ ap (λ (t : Bool). trap_told 0 (bit t)) (sym (three_cover (width_by mode) (is_set 1 mode) x y (some_width mode))))
      where
        by : (z w r : Bool) → trap_by (by_reason z w r) ≡ trap_told 0 (bit (z || w || r))
        by true w r = refl
        by false true r = refl
        by false false true = refl
        by false false false = refl

-- ---- how the code tells it, by the width that the mode names

or_true : (k : Bool) → k || true ≡ true
or_true true = refl
or_true false = refl

module _ (mode x y : ℕ) (hm : mode ≤ 0x07) where
  -- sixteen bits have room for every operand
  pub told_word : (bit_and mode 0x01 ≡ 0 → ⊥) → x < 2 ^ 32 → y < 2 ^ 16 → {t : Bool} → t ≡ not (accepts 16 (not (eqb (bit_and mode 0x02) 0)) x y) → trap_told 0 (bit t) ≡ would_trap mode x y
  told_word h hx hy e =
      let wide = set_masked 0 mode h in
      (λ i. trap_told 0 (bit (e i))) ∙ (λ i. trap_told 0 (bit (not (accepts 16 (mask_bit 1 mode i) x y)))) ∙ sym (told_admitted mode x y hm (rw wide hx) (rw wide hy) ∙ rw wide)

  module _ (h : bit_and mode 0x01 ≡ 0) where
    pub told_byte_large : (0xFFFF < x) ⊎ (0xFF < y) → trap_told 5 1 ≡ would_trap mode x y
    told_byte_large (inl e) = sym (told_large mode x y hm (rw (set_unmasked 0 mode h, lt-ltb 0xFFFF x e)))
    told_byte_large (inr e) = sym (told_large mode x y hm (rw (set_unmasked 0 mode h, lt-ltb 0xFF y e) (or_true (ltb 0xFFFF x))))

    pub told_byte : x < 2 ^ 16 → y < 2 ^ 8 → {t : Bool} → t ≡ not (accepts 8 (not (eqb (bit_and mode 0x02) 0)) x y) → trap_told 0 (bit t) ≡ would_trap mode x y
    told_byte hx hy e =
        let narrow = set_unmasked 0 mode h in
        (λ i. trap_told 0 (bit (e i))) ∙ (λ i. trap_told 0 (bit (not (accepts 8 (mask_bit 1 mode i) x y)))) ∙ sym (told_admitted mode x y hm (rw narrow hx) (rw narrow hy) ∙ rw narrow)
