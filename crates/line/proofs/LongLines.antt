-- A line of more than 20 bytes is too long for a request, whatever stands in it: any two of them get the same answer (`long_lines_alike`).
-- The program's long lines rest on this. Of a line that fills its buffer it keeps the start alone; `long_starts_alike` says that whatever is read
-- behind it, the answers are those that the whole line would get.
-- Assumes nothing.
use mathlib.Core.{Path.◌≡◌, Path.refl, Path.sym, Path.ap, Path.◌∙◌, Bool.Bool, Bool.true, Bool.false, Bool.cond, List.List, List.[], List.◌∷◌, List.◌++◌}
use Prim.Native.Nat.{ℕ, zero, suc, ◌+◌, ◌<◌, ◌≤◌}
use native.Mathlib.Omega.{arith}
use lib.{Dec.ltb, Dec.eqb, ListN.length, ListN.take, ListN.drop, ListN.length-append, Seq.take-append-add, Seq.drop-append-add}
use borrow.Author.Tests.{lt-ltb, le-ltb, ltb-true, ltb-false, ne_eqb}
use Rattle.text.specs.{Fields.read_of, Lines.line_length, Lines.takes}
use Rattle.answer.specs.Asked.{zeros}
use Rattle.line.specs.{One.text_by, One.answer_of, One.text_of, Run.run_of}
use Rattle.line.proofs.Turns.{stops, full, goes}

-- status 1 and zeros
too_long : (line : List ℕ) → 20 < length line → text_of line ≡ text_by (zeros 1)
unfolding text_of answer_of read_of
too_long line h = rw (ne_eqb (length line) 20 (λ e. omega arith))

-- any two lines of more than 20 bytes get the same answer
pub long_lines_alike : (a b : List ℕ) → 20 < length a → 20 < length b → text_of a ≡ text_of b
long_lines_alike a b long-a long-b = too_long a long-a ∙ sym (too_long b long-b)

-- ---- the start of a line, and what is read behind it

-- bytes with no line feed among them
abbrev pub Unbroken : List ℕ → Type 0
Unbroken s = line_length s ≡ length s

feed_by : (x : Bool) (l n k j : ℕ) → (l ≡ n → k ≡ j) → cond x 0 (suc l) ≡ suc n → cond x 0 (suc k) ≡ suc j
feed_by true l n k j r h = let z : ⊥ = omega arith in absurd z
feed_by false l n k j r h = ap suc (r (omega arith))

-- then there is none among the first of them either
pub none_at_start : (n : ℕ) (s : List ℕ) → Unbroken s → Unbroken (take n s)
none_at_start zero s h = refl
none_at_start (suc n) [] h = refl
none_at_start (suc n) (b ∷ s) h = feed_by (eqb b 0x0A) (line_length s) (length s) _ _ (none_at_start n s) h

-- they lengthen the first line of what stands behind them
longer : (s v : List ℕ) → Unbroken s → line_length (s ++ v) ≡ length s + line_length v
longer [] v h = omega arith
longer (b ∷ s) v h = feed_by (eqb b 0x0A) (line_length s) (length s) (line_length (s ++ v)) (length s + line_length v) (longer s v) h ∙ omega arith

-- the answers of a run that starts with a line too long, where one is there; v is what stands behind its first bytes
abbrev after_long : Bool → ℕ → Bool → List ℕ → List ℕ → List ℕ
after_long some m e v o = cond some (text_by (zeros 1) ++ (run_of m e (drop (takes e v) v) (drop 19 o)).bytes) o

module _ (s : List ℕ) (none : Unbroken s) (long : 20 < length s) where
  -- the bytes that the first line takes then
  longer_takes : (x e : Bool) (v : List ℕ) → ltb (line_length v) (length v) ≡ x → takes e (s ++ v) ≡ cond (cond x true e) (length s + takes e v) 0
  longer_takes true e v q =
      let h : line_length (s ++ v) < length (s ++ v) = simp (longer s v none, length-append) (omega (arith, ltb-true (line_length v) (length v) q)) in
      rw (lt-ltb _ _ h, q, longer s v none) (omega arith)
  longer_takes false e v q =
      let h : length (s ++ v) ≤ line_length (s ++ v) = simp (longer s v none, length-append) (omega (arith, ltb-false (line_length v) (length v) q)) in
      rw (le-ltb _ _ h, q, length-append) (by e)
    where
      by : (e : Bool) → cond e (length s + length v) 0 ≡ cond e (length s + cond e (length v) 0) 0
      by true = refl
      by false = refl

  run_by : (some : Bool) (m : ℕ) (e : Bool) (v o : List ℕ) → takes e (s ++ v) ≡ cond some (length s + takes e v) 0
      → (run_of (suc m) e (s ++ v) o).bytes ≡ after_long some m e v o
  run_by false m e v o q = rw (stops text_of (suc m) e (s ++ v) o q)
  run_by true m e v o q =
      let some : 0 < takes e (s ++ v) = omega arith in
      let line : take (line_length (s ++ v)) (s ++ v) ≡ s ++ take (line_length v) v = rw (longer s v none) (take-append-add s v (line_length v)) in
      let size : 20 < length (s ++ take (line_length v) v) = omega (arith, length-append s (take (line_length v) v)) in
      rw (goes text_of m e (s ++ v) o some, line, too_long _ size, q, drop-append-add)

  run-over : (m : ℕ) (e : Bool) (v o : List ℕ) → (run_of (suc m) e (s ++ v) o).bytes ≡ after_long (cond (ltb (line_length v) (length v)) true e) m e v o
  run-over m e v o = let line = ltb (line_length v) (length v) in run_by (cond line true e) m e v o (longer_takes line e v refl)

-- whatever v stands behind two starts of long lines, it gets the same answers
pub long_starts_alike : (s t : List ℕ) → Unbroken s → Unbroken t → 20 < length s → 20 < length t → (m : ℕ) (e : Bool) (v o : List ℕ)
    → (run_of m e (s ++ v) o).bytes ≡ (run_of m e (t ++ v) o).bytes
long_starts_alike s t none-s none-t long-s long-t zero e v o = rw (full text_of 0 e (s ++ v) o refl, full text_of 0 e (t ++ v) o refl)
long_starts_alike s t none-s none-t long-s long-t (suc m) e v o = run-over s none-s long-s m e v o ∙ sym (run-over t none-t long-t m e v o)
