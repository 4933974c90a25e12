-- A number below a bound, or none. Assumes nothing.
use mathlib.Core.{Path.◌≡◌, Path.refl, Path.ap, Path.◌∙◌, Bool.Bool, Bool.true, Bool.false, Bool.cond, Bool.◌&&◌, Bool.and-false}
use Prim.Native.Nat.{ℕ, ◌+◌, ◌*◌, ◌<◌, ◌≤◌}
use native.Mathlib.Omega.{arith}
use lib.Dec.{ltb}
use borrow.Author.Tests.{lt-ltb, le-ltb, ltb-true, ltb-false}
use Rattle.std.proofs.Common.{Some, None}
use Rattle.text.specs.{Digits.below, Fields.four_of}

pub under : {bound n m : ℕ} → m ≡ n → m < bound → Some m ≡ below bound n
under {bound} e h = ap Some e ∙ rw (lt-ltb _ bound (rw e at h))

pub not_under : {bound n : ℕ} → bound ≤ n → None ≡ below bound n
not_under h = rw (le-ltb _ _ h)

-- and back
pub is_under : {bound n m : ℕ} → Some m ≡ below bound n → (m ≡ n) × (m < bound)
is_under {bound} {n} {m} = by (ltb n bound) refl
  where
    by : (x : Bool) → ltb n bound ≡ x → Some m ≡ cond x (Some n) None → (m ≡ n) × (m < bound)
    by true q e = let same : m ≡ n = cc in (same, omega (arith, same, ltb-true n bound q))
    by false q e = let z : ⊥ = cc in absurd z

pub is_none : {bound n : ℕ} → None ≡ below bound n → bound ≤ n
is_none {bound} {n} = by (ltb n bound) refl
  where
    by : (x : Bool) → ltb n bound ≡ x → None ≡ cond x (Some n) None → bound ≤ n
    by true q e = let z : ⊥ = cc in absurd z
    by false q e = ltb-false n bound q

-- ---- four digits

module _ (a b c d : ℕ) where
  -- each of them a digit
  pub four_are : {i j k l : ℕ} → Some i ≡ below 16 a → Some j ≡ below 16 b → Some k ≡ below 16 c → Some l ≡ below 16 d
      → Some (i * 0x1000 + j * 0x100 + k * 0x10 + l) ≡ below 0x1_0000 (four_of a b c d)
  unfolding four_of
  four_are ea eb ec ed =
      let ha = is_under ea in
      let hb = is_under eb in
      let hc = is_under ec in
      let hd = is_under ed in
      under (rw (lt-ltb a 16 (omega (arith, ha)), lt-ltb b 16 (omega (arith, hb)), lt-ltb c 16 (omega (arith, hc)), lt-ltb d 16 (omega (arith, hd))) (omega (arith, ha, hb, hc, hd))) (omega (arith, ha, hb, hc, hd))

  -- or one of them none
  none_by : ltb a 16 && ltb b 16 && ltb c 16 && ltb d 16 ≡ false → None ≡ below 0x1_0000 (four_of a b c d)
  unfolding four_of
  none_by h = rw h

  pub first_none : None ≡ below 16 a → None ≡ below 0x1_0000 (four_of a b c d)
  first_none e = none_by (rw (le-ltb a 16 (is_none e)))

  pub second_none : None ≡ below 16 b → None ≡ below 0x1_0000 (four_of a b c d)
  second_none e = none_by (rw (le-ltb b 16 (is_none e), and-false (ltb a 16)))

  pub third_none : None ≡ below 16 c → None ≡ below 0x1_0000 (four_of a b c d)
  third_none e = none_by (rw (le-ltb c 16 (is_none e), and-false (ltb a 16 && ltb b 16)))

  pub fourth_none : None ≡ below 16 d → None ≡ below 0x1_0000 (four_of a b c d)
  fourth_none e = none_by (rw (le-ltb d 16 (is_none e), and-false (ltb a 16 && ltb b 16 && ltb c 16)))
