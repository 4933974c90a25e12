-- The next line of a text, handed out: as it is read by the 18 digits that it starts with, or refused by its length. Assumes nothing.
use mathlib.Core.{Path.◌≡◌, Path.refl, Path.sym, Path.ap, Path.subst, Path.◌∙◌, Bool.Bool, Bool.true, Bool.false, Bool.not, Bool.cond, Bool.◌&&◌, Bool.false≢true, List.List}
use Prim.Native.Nat.{ℕ, ◌+◌, ◌-◌, ◌<◌, ◌≤◌}
use native.Mathlib.Omega.{arith}
use lib.{Dec.ltb, Dec.eqb, ListN.length, ListN.take, ListN.drop, ListN.length-drop}
use borrow.Author.Tests.{lt-ltb, le-ltb, ltb-true}
use Rattle.std.proofs.Common.{OnSome, Ok, Err, None}
use Rattle.text.specs.{Lines.line_length, Lines.line_at, Lines.takes, Plain.all_digits}
use Rattle.answer.specs.declared.answer.Answer.{Answer}
use Rattle.readback.specs.{Judge.record_in, Judge.judged, Judge.read_back, Reader.stepped, Reader.next_at, Told.turn_by, Told.turn_at, Quick.is_digits}
use Rattle.readback.specs.{declared.judge.Refusal.TheVariants.Length, declared.judge.Refusal.TheVariants.Digit, Judge.Read}
use Rattle.readback.specs.declared.reader.Stepped.{Stepped}
use Rattle.text.proofs.NextLine.{line_takes}
use Rattle.readback.proofs.LineLaws.{line_length_lem, has_18}

-- ---- a line

-- 18 digits are judged
pub read-digits : (line : List ℕ) → is_digits line ≡ true → read_back line ≡ judged (record_in line)
unfolding read_back
read-digits line h = by (eqb (length line) 18) (all_digits line) h
  where
    by : (l d : Bool) → l && d ≡ true → cond (not l) (Err Length) (cond (not d) (Err Digit) (judged (record_in line))) ≡ judged (record_in line)
    by true true e = refl
    by true false e = absurd (false≢true e)
    by false d e = absurd (false≢true e)

-- of any other the length decides
pub read_other : (line : List ℕ) → is_digits line ≡ false → read_back line ≡ Err (cond (eqb (length line) 18) Digit Length)
unfolding read_back
read_other line h = by (eqb (length line) 18) (all_digits line) h
  where
    by : (l d : Bool) → l && d ≡ false → cond (not l) (Err Length) (cond (not d) (Err Digit) (judged (record_in line))) ≡ Err (cond l Digit Length)
    by true true e = absurd (false≢true (sym e))
    by true false e = refl
    by false d e = refl

-- ---- the line at a place

module _ (text : List ℕ) (at : ℕ) where
  further : at < length text → length text - (at + takes true (drop at text)) < length text - at
  further h = omega (arith, h, line_takes (drop at text) (simp length-drop (omega (arith, h))))

  -- where no byte is left
  pub at_end : length text ≤ at → record { handed = None; place = at } ≡ next_at text at
  unfolding next_at
  at_end h = rw (le-ltb at (length text) h)

  -- what a caller in another language is told moves the place alike
  pub turn_place : (was : List ℕ) (start : ℕ) → (turn_at text at was start).place ≡ (next_at text at).place
  unfolding next_at
  turn_place was start = by (ltb at (length text)) (read_back (line_at text at))
    where
      by : (x : Bool) (r : Read) → (let o : Stepped = cond x (stepped r at (at + takes true (drop at text))) (record { handed = None; place = at }) in
          (turn_by o.handed o.place at was start).place ≡ o.place)
      by true (Ok a) = refl
      by true (Err why) = refl
      by false r = refl

  -- where something is handed out the place moves on
  pub moves_on : {o : Stepped} → o ≡ next_at text at → OnSome o.handed (length text - o.place < length text - at)
  unfolding next_at
  moves_on {o} e = subst (λ (o : Stepped). OnSome o.handed (length text - o.place < length text - at)) (sym e) (by (ltb at (length text)) (read_back (line_at text at)) refl)
    where
      by : (x : Bool) (r : Read) → ltb at (length text) ≡ x → (let o : Stepped = cond x (stepped r at (at + takes true (drop at text))) (record { handed = None; place = at }) in
          OnSome o.handed (length text - o.place < length text - at))
      by true (Ok a) q = further (ltb-true _ _ q)
      by true (Err why) q = further (ltb-true _ _ q)
      by false r q = tt

  module _ (some : at < length text) where
    -- what was read of the line
    pub at_line : {read : Read} {place : ℕ} → read ≡ read_back (line_at text at) → place ≡ at + takes true (drop at text) → stepped read at place ≡ next_at text at
    unfolding next_at
    at_line r p = rw (lt-ltb at (length text) some) (λ i. stepped (r i) at (p i))

    -- 18 digits, read where they stand
    pub at_digits : is_digits (line_at text at) ≡ true → {a : Answer} → a ≡ record_in (take 18 (drop at text)) → {read : Read} → read ≡ judged a
        → read ≡ read_back (line_at text at)
    at_digits h e r =
        let n = sym (has_18 text at (omega arith) h) in
        r ∙ ap judged (e ∙ ap (λ (k : ℕ). record_in (take k (drop at text))) n) ∙ sym (read-digits (line_at text at) h)

    -- any other line
    pub at_other : is_digits (line_at text at) ≡ false → (k : Bool) → eqb (line_length (drop at text)) 18 ≡ k → Err (cond k Digit Length) ≡ read_back (line_at text at)
    at_other h k e =
        let n = ap (λ (j : ℕ). eqb j 18) (line_length_lem text at (omega arith)) in
        ap (λ (x : Bool). Err (cond x Digit Length)) (sym e ∙ sym n) ∙ sym (read_other (line_at text at) h)
