-- Whether a line of a text is 18 digits, by the 18 bytes where it starts and what stands behind them. Assumes nothing.
use mathlib.Core.{Path.◌≡◌, Path.refl, Path.sym, Path.ap, Path.◌∙◌, Bool.Bool, Bool.true, Bool.false, Bool.◌||◌, Bool.false≢true, List.List}
use Prim.Native.Nat.{ℕ, ◌+◌, ◌<◌, ◌≤◌}
use native.Mathlib.Omega.{arith}
use lib.{Dec.eqb, ListN.length, ListN.get_or, ListN.take, ListN.drop, ListN.length-drop, Seq.get_or-take, Seq.get_or-drop, Seq.length-take-le}
use borrow.Author.Tests.{eqb-true, eqb-false, ne_eqb}
use Rattle.text.specs.{Lines.line_length, Lines.line_at, Plain.all_digits}
use Rattle.text.proofs.{LineLaws.length_within, FoundLaws.first_feed, FoundLaws.feed_behind, FoundLaws.unbroken, DigitsAt.digits_no_feed}
use Rattle.numbers.proofs.BoolLaws.{both, neither}
use Rattle.readback.specs.Quick.{is_digits, ends_at}

-- ---- the line that starts at a place

module _ (text : List ℕ) (at : ℕ) (inside : at ≤ length text) where
  abbrev rest : List ℕ
  rest = drop at text

  rest_length : at + length rest ≡ length text
  rest_length = simp length-drop (omega arith)

  pub line_length_lem : length (line_at text at) ≡ line_length rest
  line_length_lem = length-take-le (line_length rest) rest (length_within rest)

  not_18 : (line_length rest ≡ 18 → ⊥) → is_digits (line_at text at) ≡ false
  not_18 n = rw (line_length_lem, ne_eqb (line_length rest) 18 n)

  -- a line of 18 digits has 18 bytes
  pub has_18 : is_digits (line_at text at) ≡ true → line_length rest ≡ 18
  has_18 h = sym line_length_lem ∙ eqb-true (length (line_at text at)) 18 (both (eqb (length (line_at text at)) 18) (all_digits (line_at text at)) h).0

  -- which stand there
  pub digits_there : is_digits (line_at text at) ≡ true → (at + 18 ≤ length text) × (all_digits (take 18 rest) ≡ true)
  digits_there h = (
    omega (arith, has_18 h, length_within rest, rest_length),
    ap (λ (k : ℕ). all_digits (take k rest)) (sym (has_18 h)) ∙ (both (eqb (length (line_at text at)) 18) (all_digits (line_at text at)) h).1,
  )

  -- fewer bytes are left
  pub too_short : length text < at + 18 → is_digits (line_at text at) ≡ false
  too_short h = not_18 (λ e. omega (arith, e, length_within rest, rest_length))

  module _ (room : at + 18 ≤ length text) where
    -- the line goes on behind them
    pub goes_on : ends_at text (at + 18) ≡ false → is_digits (line_at text at) ≡ false
    goes_on h = not_18 (λ e. eqb-false (get_or text (at + 18) 0) 0x0A apart.1 (sym (get_or-drop at text 18 0) ∙ sym (ap (λ (k : ℕ). get_or rest k 0) e) ∙ feed_behind rest (omega (arith, e, rest_length, eqb-false (at + 18) (length text) apart.0))))
      where
        apart : (eqb (at + 18) (length text) ≡ false) × (eqb (get_or text (at + 18) 0) 0x0A ≡ false)
        apart = neither (eqb (at + 18) (length text)) (eqb (get_or text (at + 18) 0) 0x0A) h

    eighteen : length (take 18 rest) ≡ 18
    eighteen = length-take-le 18 rest (omega (arith, rest_length))

    -- 18 digits hold no line feed
    none : all_digits (take 18 rest) ≡ true → (i : ℕ) → i < 18 → get_or rest i 0 ≡ 0x0A → ⊥
    none h i l e = digits_no_feed (take 18 rest) h i (omega (arith, eighteen)) (get_or-take 18 rest i 0 l ∙ e)

    ends_by : (x y : Bool) → eqb (at + 18) (length text) ≡ x → eqb (get_or text (at + 18) 0) 0x0A ≡ y → x || y ≡ true → all_digits (take 18 rest) ≡ true → line_length rest ≡ 18
    ends_by true y ex ey h digits =
        let all : length rest ≡ 18 = omega (arith, rest_length, eqb-true (at + 18) (length text) ex) in
        unbroken rest (λ i l. none digits i (omega arith)) ∙ all
    ends_by false true ex ey h digits =
        let more : 18 < length rest = omega (arith, rest_length, eqb-false (at + 18) (length text) ex) in
        first_feed rest 18 more (none digits) (get_or-drop at text 18 0 ∙ eqb-true (get_or text (at + 18) 0) 0x0A ey)
    ends_by false false ex ey h digits = absurd (false≢true h)

    -- the line ends there: it is 18 digits exactly if they are
    pub by_digits : ends_at text (at + 18) ≡ true → all_digits (take 18 rest) ≡ is_digits (line_at text at)
    by_digits ends = by (all_digits (take 18 rest)) (eqb (line_length rest) 18) refl refl
      where
        by : (d l : Bool) → all_digits (take 18 rest) ≡ d → eqb (line_length rest) 18 ≡ l → d ≡ is_digits (line_at text at)
        by d true ed el = let e = eqb-true (line_length rest) 18 el in rw (line_length_lem, el, e) (sym ed)
        by true false ed el = absurd (eqb-false (line_length rest) 18 el (ends_by (eqb (at + 18) (length text)) (eqb (get_or text (at + 18) 0) 0x0A) refl refl ends ed))
        by false false ed el = rw (line_length_lem, el)
