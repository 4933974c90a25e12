-- A whole text, read turn by turn: turn k hands out line k, which starts where the lines before it end; where it tells of a bad line, that line starts
-- there; no byte is lost; and after as many turns as the text has lines it is at its end. Assumes nothing.
use mathlib.Core.{Path.◌≡◌, Path.refl, Path.sym, Path.ap, Path.◌∙◌, Logic.◌⊎◌, Logic.inl, Logic.inr, Bool.Bool, Bool.true, Bool.false, Bool.cond, Bool.false≢true}
use mathlib.Core.List.{List, [], ◌∷◌, ◌++◌}
use Prim.Native.Nat.{ℕ, zero, suc, ◌+◌, ◌<◌, ◌≤◌, min}
use native.Mathlib.{Nat.le_refl, Omega.arith}
use lib.{Dec.ltb, ListN.length, ListN.get_or, ListN.take, ListN.drop, ListN.length-drop, ListN.drop_of_length-le}
use lib.Seq.{take-suc, drop-cons, take_all, split_at, drop-drop, drop-length}
use borrow.Author.Tests.{ltb-true, ltb-false}
use Rattle.std.proofs.Common.{Ok, Err, Some, None}
use Rattle.text.specs.Lines.{line_length, line_at, takes, lines_of, bytes_in}
use Rattle.text.proofs.{FoundLaws.feed_behind, NextLine.takes_within, NextLine.line_takes, NextLine.first_takes, NextLine.first_line, NextLine.bytes_more}
use Rattle.readback.specs.{Judge.read_back, Reader.hand_out, Reader.stepped, Reader.next_at, Whole.place_after, Judge.Read}
use Rattle.readback.specs.{declared.reader.BadLine.BadLine, Reader.Handed}
use Rattle.readback.specs.declared.reader.Stepped.{Stepped}
use Rattle.readback.proofs.NextLaws.{at_end, at_line}

abbrev is_bad : Handed → Bool
is_bad (Some (Ok a)) = false
is_bad (Some (Err bad)) = true
is_bad None = false

abbrev bad_of : BadLine → Handed → BadLine
bad_of other (Some (Ok a)) = other
bad_of other (Some (Err bad)) = bad
bad_of other None = other

module _ (text : List ℕ) where
  abbrev lines : List (List ℕ)
  lines = lines_of true text

  -- ---- a turn, from a place where the lines from k on are left

  module _ (p : ℕ) where
    abbrev rest : List ℕ
    rest = drop p text

    some_left : p < length text → 0 < takes true rest
    some_left h = line_takes rest (simp length-drop (omega arith))

    first_left : p < length text → lines_of true rest ≡ line_at text p ∷ lines_of true (drop (p + takes true rest) text)
    first_left h = first_line true rest (some_left h) ∙ ap (λ (t : List ℕ). line_at text p ∷ lines_of true t) (drop-drop (takes true rest) p text)

    module _ (k : ℕ) (left : lines_of true rest ≡ drop k lines) (more : k < length lines) where
      bytes_left : p < length text
      bytes_left = by (ltb p (length text)) refl
        where
          by : (x : Bool) → ltb p (length text) ≡ x → p < length text
          by true e = ltb-true p (length text) e
          by false e =
              let none : drop p text ≡ [] = drop_of_length-le text (ltb-false p (length text) e) in
              absurd (omega (arith, ap length (rw none at left), length-drop k lines))

      turned : next_at text p ≡ stepped (read_back (line_at text p)) p (p + takes true rest)
      turned = sym (at_line text p bytes_left refl refl)

      moved : (next_at text p).place ≡ p + takes true rest
      moved = ap (λ (s : Stepped). s.place) turned

      both_lines : line_at text p ∷ lines_of true (drop (p + takes true rest) text) ≡ get_or lines k [] ∷ drop (suc k) lines
      both_lines = sym (first_left bytes_left) ∙ left ∙ drop-cons lines k [] more

  -- the lines that are left after k turns
  pub lines_left : (k : ℕ) → k ≤ length lines → (place_after text k ≤ length text) × (lines_of true (drop (place_after text k) text) ≡ drop k lines)
  lines_left zero h = (omega arith, refl)
  lines_left (suc k) h =
      let p = place_after text k in
      let left = (lines_left k (omega arith)).1 in
      let within : p + takes true (drop p text) ≤ length text = omega (arith, takes_within true (drop p text), length-drop p text, bytes_left p k left h) in
      rw (moved p k left h) (within, ap (drop 1) (both_lines p k left h))

  -- ---- turn k

  module _ (k : ℕ) (more : k < length lines) where
    abbrev place : ℕ
    place = place_after text k

    left_here : lines_of true (drop place text) ≡ drop k lines
    left_here = (lines_left k (omega arith)).1

    some_here : place < length text
    some_here = bytes_left place k left_here more

    next_place : place_after text (suc k) ≡ place + takes true (drop place text)
    next_place = moved place k left_here more

    -- line k stands there
    pub line_there : line_at text place ≡ get_or lines k []
    line_there = ap (λ (l : List (List ℕ)). get_or l 0 []) (both_lines place k left_here more)

    -- it is handed out, and a refusal tells the place where it starts
    pub hands_out : (next_at text place).handed ≡ hand_out (read_back (get_or lines k [])) place
    hands_out = ap (λ (s : Stepped). s.handed) (turned place k left_here more) ∙ ap (λ (line : List ℕ). hand_out (read_back line) place) line_there

    -- from there on the text is that line, its line feed and what is read next; or that line alone, and the next place is the text's end
    pub no_byte_lost : (let line = get_or lines k [] in
        (drop place text ≡ line ++ (0x0A ∷ drop (place_after text (suc k)) text)) ⊎ ((drop place text ≡ line) × (place_after text (suc k) ≡ length text)))
    no_byte_lost = rw (← line_there, next_place) (by (ltb size (length here)) refl)
      where
        here : List ℕ
        here = drop place text

        size : ℕ
        size = line_length here

        by : (x : Bool) → ltb size (length here) ≡ x
            → (here ≡ take size here ++ (0x0A ∷ drop (place + cond x (suc size) (length here)) text)) ⊎ ((here ≡ take size here) × (place + cond x (suc size) (length here) ≡ length text))
        by true e =
            let in_text : size < length here = ltb-true size (length here) e in
            let after = drop-drop (suc size) place text in
            inl (split_at here size 0 in_text ∙ (λ i. take size here ++ (feed_behind here in_text i ∷ after i)))
        by false e = inr (sym (take_all size here (ltb-false size (length here) e)), simp length-drop (omega (arith, some_here)))

  -- before the place stand the lines before it, each with its line feed, as far as the text goes
  pub starts_there : (k : ℕ) → k ≤ length lines → place_after text k ≡ min (bytes_in (take k lines)) (length text)
  starts_there zero h = omega arith
  starts_there (suc k) h =
      let p = place_after text k in
      let line = get_or lines k [] in
      let some = some_here k h in
      let taken : takes true (drop p text) ≡ min (suc (length line)) (length (drop p text)) =
      first_takes true (drop p text) (some_left p some) ∙ ap (λ (l : List ℕ). min (suc (length l)) (length (drop p text))) (line_there k h) in
      let bytes : bytes_in (take (suc k) lines) ≡ bytes_in (take k lines) + suc (length line) = ap bytes_in (take-suc lines k [] h) ∙ bytes_more (take k lines) line in
      omega (arith, next_place k h, taken, bytes, starts_there k (omega arith), some, length-drop p text)

  -- where turn k tells of a bad line, it is line k, which starts at the byte that is told, behind the lines before it, and is refused for the reason
  -- that is told
  pub told_start : (k : ℕ) → k < length lines → (bad : BadLine) → (next_at text (place_after text k)).handed ≡ Some (Err bad)
      → (bad.start ≡ bytes_in (take k lines)) × (line_at text bad.start ≡ get_or lines k []) × (read_back (get_or lines k []) ≡ Err bad.why)
  told_start k more bad e = by (read_back (get_or lines k [])) (sym (hands_out k more) ∙ e)
    where
      p : ℕ
      p = place_after text k

      starts : p ≡ bytes_in (take k lines)
      starts = omega (arith, starts_there k (omega arith), some_here k more)

      by : (r : Read) → hand_out r p ≡ Some (Err bad) → (bad.start ≡ bytes_in (take k lines)) × (line_at text bad.start ≡ get_or lines k []) × (r ≡ Err bad.why)
      by (Ok a) q = absurd (false≢true (ap is_bad q))
      by (Err why) q =
          let same : record { why = why; start = p } ≡ bad = ap (bad_of bad) q in
          let at : bad.start ≡ p = sym (ap (λ (b : BadLine). b.start) same) in
          (at ∙ starts, ap (line_at text) at ∙ line_there k more, ap (λ (b : BadLine). Err b.why) same)

  -- a text is read to its end in as many turns as it has lines
  pub then_the_end : (place_after text (length lines) ≡ length text) × (next_at text (length text) ≡ record { handed = None; place = length text })
  then_the_end = (by (ltb p (length text)) refl, sym (at_end text (length text) (le_refl _)))
    where
      p : ℕ
      p = place_after text (length lines)

      all : (p ≤ length text) × (lines_of true (drop p text) ≡ drop (length lines) lines)
      all = lines_left (length lines) (le_refl _)

      by : (x : Bool) → ltb p (length text) ≡ x → p ≡ length text
      by true e = absurd (omega (arith, ap length (sym (first_left p (ltb-true p (length text) e)) ∙ all.1 ∙ drop-length lines)))
      by false e = omega (arith, all.0, ltb-false p (length text) e)
