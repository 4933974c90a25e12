-- What the port answers can be read back: no refusal fits the answer to any line, and the line that is written for it reads as that answer.
-- Assumes nothing.
use mathlib.Core.{Path.◌≡◌, Path.refl, Path.sym, Path.ap, Path.subst, Path.◌∙◌, Bool.Bool, Bool.true, Bool.false, Bool.not, Bool.◌&&◌, Bool.◌||◌, Bool.false≢true}
use mathlib.Core.{List.List, List.[], List.◌∷◌, Logic.inl, Logic.inr}
use Prim.Native.Nat.{ℕ, ◌<◌, ◌≤◌}
use native.Mathlib.Omega.{arith}
use lib.Dec.{leb, eqb, lit≤}
use borrow.Author.Tests.{leb-true, eqb-true}
use Rattle.std.proofs.Common.{Ok, Err}
use Rattle.numbers.specs.{Numbers.between, Rows.OneOf}
use Rattle.flags.specs.Word.{word_of, flags_of, is_flags}
use Rattle.flags.proofs.WordLaws.{together_within}
use Rattle.text.specs.Fields.{Read, read_of}
use Rattle.text.specs.declared.fields.Malformed.TheVariants.{Length, Digit}
use Rattle.answer.specs.{Asked.zeros, Charted.refusal_status, Refused.Refusal, Refused.ZeroDivisor, Refused.TooWide, Refused.SignRange, Refused.refusal}
use Rattle.answer.specs.declared.answer.Answer.{Answer}
use Rattle.answer.proofs.Words.{Words, asked_words, zeros_words}
use Rattle.line.specs.{One.raw_of, One.answer_by, One.answer_of, Table.raw_in}
use Rattle.line.proofs.Table.{line_no_other, line_zeros, line_demand_1}
use Rattle.readback.specs.{Judge.is_status, Judge.refuses_divide, Judge.no_result, Judge.all_zeros, Judge.not_zero, Judge.judged, Judge.read_back, Again.line_of, Again.Typed}
use Rattle.readback.proofs.{JudgeLaws.outside_is, AgainLaws.written_read}

-- a status that there is, and zeros where they have to be
abbrev Sound : Answer → Type 0
Sound a = (is_status a.status ≡ true) × (not_zero a ≡ false)

-- the types of two fields
status_small : (k : ℕ) → is_status k ≡ true → k < 0x100
status_small k = by (leb k 6) (eqb k 8) (eqb k 9) refl refl refl
  where
    by : (x y z : Bool) → leb k 6 ≡ x → eqb k 8 ≡ y → eqb k 9 ≡ z → x || y || z ≡ true → k < 0x100
    by true y z ex ey ez h = omega (arith, leb-true k 6 ex)
    by false true z ex ey ez h = omega (arith, eqb-true k 8 ey)
    by false false true ex ey ez h = omega (arith, eqb-true k 9 ez)
    by false false false ex ey ez h = absurd (false≢true h)

flags_small : (w : ℕ) → is_flags w ≡ true → w < 0x1_0000
unfolding is_flags
flags_small w h = omega (arith, eqb-true (word_of (flags_of w)) w h, (together_within (flags_of w)).above)

module _ (line : List ℕ) where
  abbrev a : Answer
  a = answer_of line

  -- the flags are flags, and each field fits its digits
  words : Words a
  unfolding answer_of
  words = by (read_of line)
    where
      by : (r : Read) → Words (answer_by r)
      by (Ok f) = asked_words (raw_of f)
      by (Err Length) = zeros_words 1
      by (Err Digit) = zeros_words 2

  done : a.status ≡ 0 → Sound a
  done e = (ap is_status e, λ i. (between 1 5 (e i) && not (all_zeros a)) || (refuses_divide (e i) && not (no_result a)))

  refused : (k : ℕ) → 1 ≤ k → k ≤ 5 → Sound (zeros k) → a.status ≡ k → Sound a
  refused k low high h e = subst Sound (sym (line_zeros line (subst (λ (j : ℕ). 1 ≤ j) (sym e) low) (subst (λ (j : ℕ). j ≤ 5) (sym e) high) ∙ ap zeros e)) h

  refused-divide : (why : Refusal) → Sound (refusal why (raw_in line)) → a.status ≡ refusal_status why → Sound a
  refused-divide why h e = subst Sound (sym ((line_demand_1 line why).1 e)) h

  sound : OneOf a.status (0 ∷ 1 ∷ 2 ∷ 3 ∷ 4 ∷ 5 ∷ 6 ∷ 8 ∷ 9 ∷ []) → Sound a
  sound (inl e) = done e
  sound (inr (inl e)) = refused 1 (lit≤ tt) (lit≤ tt) (refl, refl) e
  sound (inr (inr (inl e))) = refused 2 (lit≤ tt) (lit≤ tt) (refl, refl) e
  sound (inr (inr (inr (inl e)))) = refused 3 (lit≤ tt) (lit≤ tt) (refl, refl) e
  sound (inr (inr (inr (inr (inl e))))) = refused 4 (lit≤ tt) (lit≤ tt) (refl, refl) e
  sound (inr (inr (inr (inr (inr (inl e)))))) = refused 5 (lit≤ tt) (lit≤ tt) (refl, refl) e
  sound (inr (inr (inr (inr (inr (inr (inl e))))))) = refused-divide ZeroDivisor (refl, refl) e
  sound (inr (inr (inr (inr (inr (inr (inr (inl e)))))))) = refused-divide TooWide (refl, refl) e
  sound (inr (inr (inr (inr (inr (inr (inr (inr (inl e))))))))) = refused-divide SignRange (refl, refl) e
  sound (inr (inr (inr (inr (inr (inr (inr (inr (inr z))))))))) = absurd z

  -- no refusal fits it
  pub answers_fit : judged a ≡ Ok a
  unfolding judged
  answers_fit = let h = sound (line_no_other line) in rw (h.0, outside_is a.flags, words.0, h.1)

  typed : Typed a
  typed = record { status = status_small a.status (sound (line_no_other line)).0; flags = flags_small a.flags words.0; steps = words.1; r = words.2; s = words.3 }

  -- what is written for it reads as it
  pub answers_read : read_back (line_of a) ≡ Ok a
  answers_read = written_read a typed answers_fit
