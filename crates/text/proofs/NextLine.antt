-- The first line of a text and the lines after it: what it takes, where the next starts, the list of lines, and the lines of two texts joined.
-- Assumes nothing.
use mathlib.Core.{Path.◌≡◌, Path.refl, Path.sym, Path.ap, Path.◌∙◌, Bool.Bool, Bool.true, Bool.false, Bool.not, Bool.cond, Bool.◌&&◌, List.List, List.[], List.◌∷◌, List.◌++◌}
use Prim.Native.Nat.{ℕ, suc, ◌+◌, ◌<◌, ◌≤◌, min}
use native.Mathlib.{Nat.le_refl, Nat.le_of_suc-le-suc, Nat.not-suc-le-zero, Omega.arith}
use lib.{Dec.leb, Dec.ltb, Dec.eqb, Dec.lit<, ListN.length, ListN.take, ListN.drop, ListN.length-append, ListN.length-drop, ListN.drop_of_length-le}
use lib.Seq.{take_all, length-take-le, take-append-le, drop-append-le}
use borrow.Author.Tests.{lt-ltb, le-ltb, ltb-true, ltb-false, leb-true, leb-false, eqb-false}
use Rattle.std.proofs.Common.{Some, None}
use Rattle.text.specs.Lines.{line_length, line_at, line_end, next_of, next_line, takes, with_byte, lines_of, bytes_in}
use Rattle.text.proofs.LineLaws.{length_within}

take_by : (x e : Bool) (t : List ℕ) → ltb (line_length t) (length t) ≡ x → cond x (suc (line_length t)) (cond e (length t) 0) ≤ length t
take_by true e t q = ltb-true _ _ q
take_by false true t q = le_refl _
take_by false false t q = omega arith

pub takes_within : (e : Bool) (t : List ℕ) → takes e t ≤ length t
takes_within e t = take_by (ltb (line_length t) (length t)) e t refl

-- where a byte is left, a line is
pub line_takes : (t : List ℕ) → 0 < length t → 0 < takes true t
line_takes t h = by (ltb (line_length t) (length t))
  where
    by : (x : Bool) → 0 < cond x (suc (line_length t)) (length t)
    by true = omega arith
    by false = h

-- a first line's bytes and its line feed, as far as the text goes
size_by : (x e : Bool) (l n : ℕ) → ltb l n ≡ x → 0 < cond x (suc l) (cond e n 0) → cond x (suc l) (cond e n 0) ≡ min (suc l) n
size_by true e l n q h = omega (arith, ltb-true l n q)
size_by false true l n q h = omega (arith, ltb-false l n q)
size_by false false l n q h = absurd (not-suc-le-zero h)

pub first_takes : (e : Bool) (t : List ℕ) → 0 < takes e t → takes e t ≡ min (suc (length (line_at t 0))) (length t)
first_takes e t h =
    rw (length-take-le (line_length t) t (length_within t)) (size_by (ltb (line_length t) (length t)) e (line_length t) (length t) refl h)

-- the next line of a whole text
module _ (text : List ℕ) (used end : ℕ) (e : Bool) (inside : used ≤ length text) (is-end : end ≡ line_end text used) where
  by_mark : (x : Bool) → cond x (length text) used ≡ used + cond x (length (drop used text)) 0
  by_mark true = simp length-drop (omega arith)
  by_mark false = omega arith

  pub next-takes : next_of used end (length text) e ≡ used + takes e (drop used text)
  next-takes = by (ltb end (length text)) refl
    where
      by : (x : Bool) → ltb end (length text) ≡ x → cond x (suc end) (cond e (length text) used) ≡ used + takes e (drop used text)
      by true q =
          let h : line_length (drop used text) < length (drop used text) = simp length-drop (omega (arith, ltb-true end (length text) q)) in
          rw (lt-ltb _ _ h) (omega arith)
      by false q =
          let h : length (drop used text) ≤ line_length (drop used text) = simp length-drop (omega (arith, ltb-false end (length text) q)) in
          rw (le-ltb _ _ h) (by_mark e)

-- where a line is left it is another place than the line's start
marked_moves : (from size next : ℕ) (e x : Bool) → eqb from size ≡ x → Some next ≡ cond (e && not x) (Some size) None → next ≡ from → ⊥
marked_moves from size next true true q h p = cc
marked_moves from size next true false q h p = let same : next ≡ size = cc in eqb-false from size q (sym p ∙ same)
marked_moves from size next false x q h p = cc

pub next_moves : (from end size next : ℕ) (e : Bool) → from ≤ end → Some next ≡ next_line from end size e → next ≡ from → ⊥
next_moves from end size next e within = by (ltb end size)
  where
    by : (x : Bool) → Some next ≡ cond x (Some (suc end)) (cond (e && not (eqb from size)) (Some size) None) → next ≡ from → ⊥
    by true h p = let same : next ≡ suc end = cc in omega (arith, same, p, within)
    by false h p = marked_moves from size next e (eqb from size) refl h p

-- ---- the list of lines

-- the first line feed ends the first line
feed_by : (x e : Bool) (b : ℕ) (t : List ℕ)
    → (line_length t < length t → lines_of e t ≡ take (line_length t) t ∷ lines_of e (drop (suc (line_length t)) t))
    → cond x 0 (suc (line_length t)) < suc (length t)
    → cond x ([] ∷ lines_of e t) (with_byte e b (lines_of e t)) ≡ take (cond x 0 (suc (line_length t))) (b ∷ t) ∷ lines_of e (drop (suc (cond x 0 (suc (line_length t)))) (b ∷ t))
feed_by true e b t r h = refl
feed_by false e b t r h = ap (with_byte e b) (r (le_of_suc-le-suc h))

with_feed : (e : Bool) (t : List ℕ) → line_length t < length t → lines_of e t ≡ take (line_length t) t ∷ lines_of e (drop (suc (line_length t)) t)
with_feed e [] h = absurd (not-suc-le-zero h)
with_feed e (b ∷ t) h = feed_by (eqb b 0x0A) e b t (with_feed e t) h

-- a text with none is a tail: a line with the mark if it is not empty, else none
abbrev tail_line : Bool → List ℕ → List (List ℕ)
tail_line e [] = []
tail_line true (b ∷ t) = (b ∷ t) ∷ []
tail_line false (b ∷ t) = []

grown : (e : Bool) (b : ℕ) (t : List ℕ) → with_byte e b (tail_line e t) ≡ tail_line e (b ∷ t)
grown true b [] = refl
grown true b (c ∷ t) = refl
grown false b [] = refl
grown false b (c ∷ t) = refl

tail_by : (x e : Bool) (b : ℕ) (t : List ℕ) → (length t ≤ line_length t → lines_of e t ≡ tail_line e t)
    → suc (length t) ≤ cond x 0 (suc (line_length t)) → cond x ([] ∷ lines_of e t) (with_byte e b (lines_of e t)) ≡ tail_line e (b ∷ t)
tail_by true e b t r h = absurd (not-suc-le-zero h)
tail_by false e b t r h = ap (with_byte e b) (r (le_of_suc-le-suc h)) ∙ grown e b t

with_none : (e : Bool) (t : List ℕ) → length t ≤ line_length t → lines_of e t ≡ tail_line e t
with_none e [] h = refl
with_none e (b ∷ t) h = tail_by (eqb b 0x0A) e b t (with_none e t) h

none_by : (x e : Bool) (t : List ℕ) → ltb (line_length t) (length t) ≡ x → cond x (suc (line_length t)) (cond e (length t) 0) ≡ 0 → lines_of e t ≡ []
none_by true e t q h = let z : ⊥ = omega arith in absurd z
none_by false e [] q h = refl
none_by false true (b ∷ t) q h = let z : ⊥ = omega arith in absurd z
none_by false false (b ∷ t) q h = with_none false (b ∷ t) (ltb-false _ _ q)

-- where nothing is taken there is no line
pub no_line : (e : Bool) (t : List ℕ) → takes e t ≡ 0 → lines_of e t ≡ []
no_line e t h = none_by (ltb (line_length t) (length t)) e t refl h

first_by : (x e : Bool) (t : List ℕ) → ltb (line_length t) (length t) ≡ x → 0 < cond x (suc (line_length t)) (cond e (length t) 0)
    → lines_of e t ≡ take (line_length t) t ∷ lines_of e (drop (cond x (suc (line_length t)) (cond e (length t) 0)) t)
first_by true e t q h = with_feed e t (ltb-true _ _ q)
first_by false false t q h = absurd (not-suc-le-zero h)
first_by false true [] q h = absurd (not-suc-le-zero h)
first_by false true (b ∷ t) q h =
    let no_feed : length (b ∷ t) ≤ line_length (b ∷ t) = ltb-false _ _ q in
    with_none true (b ∷ t) no_feed
    ∙ rw (take_all (line_length (b ∷ t)) (b ∷ t) no_feed, drop_of_length-le (b ∷ t) {i = length (b ∷ t)} (le_refl _))

-- else the first line, and those of what follows it
pub first_line : (e : Bool) (t : List ℕ) → 0 < takes e t → lines_of e t ≡ line_at t 0 ∷ lines_of e (drop (takes e t) t)
first_line e t h = first_by (ltb (line_length t) (length t)) e t refl h

-- the bytes of one line more
pub bytes_more : (lines : List (List ℕ)) (line : List ℕ) → bytes_in (lines ++ (line ∷ [])) ≡ bytes_in lines + suc (length line)
bytes_more [] line = omega arith
bytes_more (first ∷ lines) line = omega (arith, bytes_more lines line)

-- ---- a text before another

has_feed : (t : List ℕ) → 0 < takes false t → line_length t < length t
has_feed t h = by (ltb (line_length t) (length t)) refl h
  where
    by : (x : Bool) → ltb (line_length t) (length t) ≡ x → 0 < cond x (suc (line_length t)) 0 → line_length t < length t
    by true q h = ltb-true _ _ q
    by false q h = absurd (not-suc-le-zero h)

same_by : (x : Bool) (l n k : ℕ) → (k < n → l ≡ k) → cond x 0 (suc k) < suc n → cond x 0 (suc l) ≡ cond x 0 (suc k)
same_by true l n k r h = refl
same_by false l n k r h = ap suc (r (le_of_suc-le-suc h))

-- a line feed in the first ends the same line in the whole
feed_in_first : (t v : List ℕ) → line_length t < length t → line_length (t ++ v) ≡ line_length t
feed_in_first [] v h = absurd (not-suc-le-zero h)
feed_in_first (b ∷ t) v h = same_by (eqb b 0x0A) _ (length t) _ (feed_in_first t v) h

-- so the whole starts with the first's first line
module _ (e : Bool) (t v : List ℕ) (some : 0 < takes false t) where
  pub same_line : line_at (t ++ v) 0 ≡ line_at t 0
  same_line = let f : line_length t < length t = has_feed t some in rw (feed_in_first t v f) (take-append-le (line_length t) t v (omega arith))

  pub same_takes : takes e (t ++ v) ≡ takes false t
  same_takes =
      let f : line_length t < length t = has_feed t some in
      let whole : line_length t < length (t ++ v) = simp length-append (omega arith) in
      rw (feed_in_first t v f, lt-ltb _ _ whole, lt-ltb _ _ f)

-- a text that ends in a line feed has a line wherever it is cut
end_by : (x : Bool) (l n : ℕ) → l < n → cond x 0 (suc l) < suc n
end_by true l n h = omega arith
end_by false l n h = omega arith

ends : (s : List ℕ) → line_length (s ++ (0x0A ∷ [])) < length (s ++ (0x0A ∷ []))
ends [] = lit< tt
ends (b ∷ s) = end_by (eqb b 0x0A) _ _ (ends s)

all_by : (x : Bool) (s : List ℕ) (u : ℕ) → leb u (length s) ≡ x
    → takes false (drop u (s ++ (0x0A ∷ []))) ≡ 0 → u ≤ length (s ++ (0x0A ∷ [])) → u ≡ length (s ++ (0x0A ∷ []))
all_by true s u q none within =
    let rest : drop u (s ++ (0x0A ∷ [])) ≡ drop u s ++ (0x0A ∷ []) = drop-append-le u s (0x0A ∷ []) (leb-true _ _ q) in
    let z : ⊥ = omega (arith, rw (rest, lt-ltb _ _ (ends (drop u s))) at none) in
    absurd z
all_by false s u q none within = omega (arith, leb-false u (length s) q, length-append s (0x0A ∷ []))

pub all_taken : (s : List ℕ) (u : ℕ) → takes false (drop u (s ++ (0x0A ∷ []))) ≡ 0 → u ≤ length (s ++ (0x0A ∷ [])) → u ≡ length (s ++ (0x0A ∷ []))
all_taken s u = all_by (leb u (length s)) s u refl
