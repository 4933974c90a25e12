-- The adjusts by value, from what the code calls: AAA and AAS by one law, DAA and DAS by another, and AAD. What a call gave is a name with an
-- equation, so that no law sees how the code is written.
-- Assumes nothing.
use mathlib.Core.{Path.◌≡◌, Path.refl, Path.ap, Path.◌∙◌, Bool.Bool, Bool.true, Bool.false, Bool.cond}
use Rattle.std.proofs.Common.{ℕ, ◌+◌, ◌-◌, ◌*◌, ◌%◌, ◌<◌, ◌≤◌, arith}
use lib.Count.{ones, ones-le}
use Rattle.numbers.specs.Numbers.{bit}
use Rattle.flags.specs.{Szp.szp, declared.word.Flags.Flags}
use Rattle.corx.specs.Corx.{Halves, corx}
use Rattle.bcd.specs.{Adjust.ah_of, Adjust.al_of, Adjust.adjusts, Ascii.ascii, Ascii.aad_of, Decimal.high_adjusts, Decimal.distance}
use Rattle.bcd.specs.declared.adjust.Adjusted.{Adjusted}

-- a step less where it was adjusted
pub steps_less : (adjusted : Bool) → 7 - bit adjusted ≡ cond adjusted 6 7
steps_less true = refl
steps_less false = refl

-- what is taken off by a wrapping difference of bytes
pub down : (a b : ℕ) → b < 256 → (a + (256 - b)) % 256 ≡ (256 + a - b) % 256
down a b h = ap (λ (x : ℕ). x % 256) (omega arith)

-- DAS: AL moves by less than a byte's range
pub moved_back : (al : ℕ) (f : Flags) → (al + (256 - distance al f)) % 256 ≡ (256 + al - distance al f) % 256
moved_back al f = down al (distance al f) (by (adjusts al f.aux_carry) (high_adjusts al f.aux_carry f.carry))
  where
    by : (low high : Bool) → cond low 6 0 + cond high 96 0 < 256
    by true true = omega arith
    by true false = omega arith
    by false true = omega arith
    by false false = omega arith

-- AAA and AAS: AH moves by 1 and AL by 6 where they adjust, and by nothing where not
module _ (ah al : ℕ) (o s : Bool) (hh : ah < 256) (hl : al < 256) where
  pub moved_up : (b : Bool) → ascii ((ah + bit b) % 256) ((al + bit b * 6) % 256) b o s
      ≡ cond b (ascii ((ah + 1) % 256) ((al + 6) % 256) true o s) (ascii ah al false o s)
  moved_up true = refl
  moved_up false = λ i. ascii ((let e : (ah + 0) % 256 ≡ ah = omega arith in e) i) ((let e : (al + 0) % 256 ≡ al = omega arith in e) i) false o s

  pub moved_down : (b : Bool) → ascii ((ah + (256 - bit b)) % 256) ((al + (256 - bit b * 6)) % 256) b o s
      ≡ cond b (ascii ((256 + ah - 1) % 256) ((256 + al - 6) % 256) true o s) (ascii ah al false o s)
  moved_down true = λ i. ascii (down ah 1 (omega arith) i) (down al 6 (omega arith) i) true o s
  moved_down false = λ i. ascii ((let e : (ah + 256) % 256 ≡ ah = omega arith in e) i) ((let e : (al + 256) % 256 ≡ al = omega arith in e) i) false o s

-- AAD: the low half of CORX's product, added to AL
module _ (ah byte : ℕ) {product : Halves} (ep : product ≡ corx 8 ah byte 3) where
  pub few_steps : byte < 256 → product.steps ≤ 62
  unfolding corx
  few_steps h = omega (arith, ap (λ (p : Halves). p.steps) ep, ones-le 8 byte h)

  all_steps : product.steps + 2 ≡ 56 + ones byte
  unfolding corx
  all_steps = ap (λ (p : Halves). p.steps + 2) ep ∙ omega arith

  whole_sum : (al : ℕ) → (al + product.tmpc) % 256 ≡ (al + ah * byte) % 256
  unfolding corx
  whole_sum al = ap (λ (p : Halves). (al + p.tmpc) % 256) ep ∙ omega arith

  pub aad_is : (ax : ℕ) (f : Flags) {al sum : ℕ} {g : Flags} → ah ≡ ah_of ax → al ≡ al_of ax → sum ≡ (al + product.tmpc) % 256 → g ≡ szp 8 sum f
      → ◌≡◌ {A = Adjusted} (record { ax = sum; flags = g; steps = product.steps + 2 }) (aad_of ax byte f)
  unfolding aad_of
  aad_is ax f {al} eh el e eg =
      let total = e ∙ whole_sum al ∙ (λ i. (el i + eh i * byte) % 256) in
      λ i. record { ax = total i; flags = (eg ∙ (λ j. szp 8 (total j) f)) i; steps = all_steps i }
