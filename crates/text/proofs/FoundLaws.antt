-- Line feeds: where the first one stands, one behind a line, none in a text, and that no digit is one. Assumes nothing.
use mathlib.Core.{Path.◌≡◌, Path.refl, Path.ap, Path.subst, Bool.Bool, Bool.true, Bool.false, Bool.cond, Bool.false≢true, List.List, List.[], List.◌∷◌}
use Prim.Native.Nat.{ℕ, zero, suc, ◌<◌}
use native.Mathlib.{Nat.le_of_suc-le-suc, Nat.not-suc-le-zero, Omega.arith}
use lib.{Dec.ltb, Dec.eqb, ListN.length, ListN.get_or}
use borrow.Author.Tests.{eqb-true, eq-eqb, ne_eqb}
use Rattle.text.specs.{Digits.digit_of, Lines.line_length}

-- a text whose first line feed is at n
pub first_feed : (t : List ℕ) (n : ℕ) → n < length t → ((i : ℕ) → i < n → get_or t i 0 ≡ 0x0A → ⊥) → get_or t n 0 ≡ 0x0A → line_length t ≡ n
first_feed [] n h before e = absurd (omega arith)
first_feed (b ∷ t) zero h before e = rw (eq-eqb b 0x0A e)
first_feed (b ∷ t) (suc n) h before e =
    rw (ne_eqb b 0x0A (before 0 (omega arith))) (ap suc (first_feed t n (omega arith) (λ i p. before (suc i) (omega arith)) e))

feed_by : (x : Bool) (b : ℕ) (t : List ℕ) → eqb b 0x0A ≡ x → (line_length t < length t → get_or t (line_length t) 0 ≡ 0x0A)
    → cond x 0 (suc (line_length t)) < suc (length t) → get_or (b ∷ t) (cond x 0 (suc (line_length t))) 0 ≡ 0x0A
feed_by true b t e r h = eqb-true b 0x0A e
feed_by false b t e r h = r (le_of_suc-le-suc h)

-- behind a line that does not end with its text stands a line feed
pub feed_behind : (t : List ℕ) → line_length t < length t → get_or t (line_length t) 0 ≡ 0x0A
feed_behind [] h = absurd (not-suc-le-zero h)
feed_behind (b ∷ t) h = feed_by (eqb b 0x0A) b t refl (feed_behind t) h

-- a text without a line feed is one line
pub unbroken : (t : List ℕ) → ((i : ℕ) → i < length t → get_or t i 0 ≡ 0x0A → ⊥) → line_length t ≡ length t
unbroken [] h = refl
unbroken (b ∷ t) h = rw (ne_eqb b 0x0A (h 0 (omega arith))) (ap suc (unbroken t (λ i l. h (suc i) (omega arith))))

-- a digit is no line feed
pub no_feed : (b : ℕ) → ltb (digit_of b) 16 ≡ true → b ≡ 0x0A → ⊥
unfolding digit_of
no_feed b h e = false≢true (subst (λ (x : ℕ). ltb (digit_of x) 16 ≡ true) e h)
