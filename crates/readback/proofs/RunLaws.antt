-- What a run wrote, read back: the answers of its lines in their order, and then the end. Assumes nothing.
use mathlib.Core.{Path.◌≡◌, Path.refl, Path.sym, Path.ap, Path.◌∙◌, Bool.Bool, Bool.true, Bool.or-true, List.List, List.[]}
use Prim.Native.Nat.{ℕ, suc, ◌+◌, ◌*◌, ◌<◌, ◌≤◌}
use native.Mathlib.Omega.{arith}
use lib.{Dec.eqb, ListN.length, ListN.get_or, ListN.take, ListN.drop, ListN.length-take, ListN.length-drop, Seq.take-take, Seq.get_or-take, Seq.get_or-drop}
use borrow.Author.Tests.{lt-ltb, eq-eqb}
use Rattle.std.proofs.Common.{Ok, Some, None}
use Rattle.text.specs.{Lines.line_length, Lines.line_at, Lines.takes, Lines.lines_of, Plain.all_digits, Written.written}
use Rattle.numbers.proofs.BoolLaws.{both}
use Rattle.text.proofs.DigitsAt.{part}
use Rattle.line.specs.{One.answer_of, One.text_of, Run.done, Run.run_of}
use Rattle.line.proofs.{Turns.text_of_length, Places.answer_at}
use Rattle.readback.specs.{Again.line_of, Judge.read_back, Reader.next_at, Quick.ends_at}
use Rattle.readback.proofs.{LineLaws.has_18, LineLaws.by_digits, NextLaws.at_end, NextLaws.at_line, AgainLaws.good_line, PortLaws.answers_read}

-- ---- one answer

-- the first 18 of an answer's 19 bytes
digits_of : (line : List ℕ) → take 18 (text_of line) ≡ line_of (answer_of line)
unfolding text_of
digits_of line = refl

-- and the last
feed_of : (line : List ℕ) → get_or (text_of line) 18 0 ≡ 0x0A
unfolding text_of written
feed_of line = refl

-- an answer that stands at a place of a text
module _ (text : List ℕ) (at : ℕ) (line : List ℕ) (there : take 19 (drop at text) ≡ text_of line) where
  abbrev rest : List ℕ
  rest = drop at text

  fits : at + 19 ≤ length text
  fits = omega (arith, ap length there, text_of_length line, length-take 19 rest, length-drop at text)

  first_18 : take 18 rest ≡ line_of (answer_of line)
  first_18 = sym (take-take 18 19 rest (omega arith)) ∙ ap (take 18) there ∙ digits_of line

  ends : ends_at text (at + 18) ≡ true
  ends = rw (eq-eqb _ _ feed) (or-true (eqb (at + 18) (length text)))
    where
      feed : get_or text (at + 18) 0 ≡ 0x0A
      feed = sym (get_or-drop at text 18 0) ∙ sym (get_or-take 19 rest 18 0 (omega arith)) ∙ ap (λ (t : List ℕ). get_or t 18 0) there ∙ feed_of line

  has_digits : line_length rest ≡ 18
  has_digits =
      let a = answer_of line in
      let all : all_digits (take 18 rest) ≡ true =
      ap all_digits first_18 ∙ (both (eqb (length (line_of a)) 18) (all_digits (line_of a)) (good_line (line_of a) a (answers_read line)).0).1 in
      has_18 text at (omega (arith, fits)) (sym (by_digits text at (omega (arith, fits)) (omega (arith, fits)) ends) ∙ all)

  answer-next : {place : ℕ} → place ≡ at + 19 → next_at text at ≡ record { handed = Some (Ok (answer_of line)); place = place }
  answer-next e =
      let read : line_at text at ≡ line_of (answer_of line) = ap (λ (k : ℕ). take k rest) has_digits ∙ first_18 in
      let more : 18 < length rest = omega (arith, fits, length-drop at text) in
      let taken : takes true rest ≡ 19 = rw (has_digits, lt-ltb 18 (length rest) more) in
      sym (at_line text at (omega (arith, fits)) (sym (ap read_back read ∙ answers_read line)) (e ∙ sym (ap (λ (k : ℕ). at + k) taken)))

-- ---- a run

-- of the bytes that a run wrote, a reader hands out the answer of line k at byte 19k, and goes to the next; behind the last it is the end
pub run-read : (room : ℕ) (e : Bool) (t o bytes : List ℕ) (lines used : ℕ) → done bytes lines used ≡ run_of room e t o
    → (let answers = take (lines * 19) bytes in
    ((k : ℕ) → k < lines → next_at answers (k * 19) ≡ record { handed = Some (Ok (answer_of (get_or (lines_of e t) k []))); place = suc k * 19 })
    × (next_at answers (lines * 19) ≡ record { handed = None; place = lines * 19 }))
run-read room e t o bytes lines used ran =
    let answers = take (lines * 19) bytes in
    let there : (k : ℕ) → k < lines → take 19 (drop (k * 19) answers) ≡ text_of (get_or (lines_of e t) k []) =
    λ k h. part (k * 19) 19 (lines * 19) bytes (omega arith) ∙ answer_at text_of text_of_length room e t o bytes lines used ran k h in (
      λ k h. answer-next answers (k * 19) (get_or (lines_of e t) k []) (there k h) (omega arith),
      sym (at_end answers (lines * 19) (omega (arith, length-take (lines * 19) bytes))),
    )
