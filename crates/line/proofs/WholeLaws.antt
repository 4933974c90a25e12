-- What a program that reads block by block rests on: a whole run, taken in parts. `whole_goes_on`: so far and no further, and then the rest;
-- `nothing_left`: where a run uses nothing no line is left; `whole_at_end`: with the mark all is used; `no_feed_left`: without it what is left holds no
-- line feed; `whole_by_blocks`: the answers to two blocks are those to the first, and then those to what it leaves with the second behind it.
-- Assumes nothing.
use mathlib.Core.{Path.◌≡◌, Path.refl, Path.ap, Path.◌∙◌, Bool.Bool, Bool.true, Bool.false, Bool.cond, List.List, List.[], List.◌∷◌, List.◌++◌, List.append-nil}
use Prim.Native.Nat.{ℕ, zero, suc, ◌+◌, ◌-◌, ◌*◌, ◌<◌, ◌≤◌}
use native.Mathlib.{Nat.add-zero, Nat.le_refl, Omega.arith}
use lib.{Dec.ltb, Dec.eqb, ListN.length, ListN.drop, ListN.length-append, ListN.length-drop, Seq.drop-nil}
use borrow.Author.Tests.{ltb-false}
use Rattle.text.specs.Lines.{line_length, takes, with_byte, lines_of}
use Rattle.text.proofs.LineLaws.{end_within}
use Rattle.line.specs.{Run.Done, Run.run_of, One.text_of, Whole.whole}
use Rattle.line.proofs.{Turns.stops, Turns.goes, RunLaws.used_within, RunLaws.continued, RunLaws.unchanged, RunLaws.by_blocks, RunLaws.all_answered}
use Rattle.line.proofs.LongLines.{Unbroken, long_starts_alike}

-- ---- more room than a whole run has changes nothing

more_by : (x e : Bool) (c : ℕ) (lines : List (List ℕ)) (n : ℕ) → length lines ≤ n → length (cond x ([] ∷ lines) (with_byte e c lines)) ≤ suc n
more_by true e c lines n h = omega arith
more_by false e c (line ∷ lines) n h = omega arith
more_by false true c [] n h = omega arith
more_by false false c [] n h = omega arith

lines_within : (e : Bool) (t : List ℕ) → length (lines_of e t) ≤ length t
lines_within e [] = le_refl 0
lines_within e (b ∷ t) = more_by (eqb b 0x0A) e b (lines_of e t) (length t) (lines_within e t)

leaves_none : (e : Bool) (t : List ℕ) → takes e (drop (whole e t).used t) ≡ 0
leaves_none e t = all_answered text_of (length t) e t [] (lines_within e t)

enough_by : (k : ℕ) (e : Bool) (t : List ℕ) → run_of (length t + k) e t [] ≡ whole e t
enough_by k e t =
    let d = whole e t in
    continued text_of (length t) k e t [] ∙ rw (stops text_of k e (drop d.used t) (drop (d.lines * 19) []) (leaves_none e t)) (simp (drop-nil, append-nil, add-zero))

enough : (m : ℕ) (e : Bool) (t : List ℕ) → length t ≤ m → run_of m e t [] ≡ whole e t
enough m e t h = let p : m ≡ length t + (m - length t) = omega arith in rw p (enough_by (m - length t) e t)

-- ---- a whole run in parts

-- a run with any room, and then a whole one over the rest
pub whole_goes_on : (m : ℕ) (e : Bool) (t o : List ℕ) → (let used = (run_of m e t o).used in (whole e t).used ≡ used + (whole e (drop used t)).used)
whole_goes_on m e t o =
    let d = run_of m e t [] in
    let k = length t in
    let rest = drop d.used t in
    let on : (run_of (m + k) e t []).used ≡ d.used + (run_of k e rest (drop (d.lines * 19) [])).used = ap (λ (x : Done). x.used) (continued text_of m k e t []) in
    let more : length t ≤ m + k = omega arith in
    let less : length rest ≤ k = omega (arith, length-drop d.used t) in
    rw (ap (λ (x : Done). x.used) (unchanged text_of m e t o)) (rw (enough (m + k) e t more, drop-nil, enough k e rest less) at on)

-- nothing used: no line left
pub nothing_left : (m : ℕ) (e : Bool) (t o : List ℕ) → 0 < m → (run_of m e t o).used ≡ 0 → (whole e t).used ≡ 0
nothing_left zero e t o some none = let z : ⊥ = omega arith in absurd z
nothing_left (suc m) e t o some none = by (takes e t) refl
  where
    by : (n : ℕ) → takes e t ≡ n → (whole e t).used ≡ 0
    by zero q = ap (λ (x : Done). x.used) (stops text_of (length t) e t [] q)
    by (suc n) q =
        let line : 0 < takes e t = omega arith in
        let z : ⊥ = omega (arith, ap (λ (x : Done). x.used) (goes text_of m e t o line)) in
        absurd z

-- with the mark all is used
pub whole_at_end : (t : List ℕ) → (whole true t).used ≡ length t
whole_at_end t = omega (arith, used_within text_of (length t) true t [], by (drop (whole true t).used t) (leaves_none true t), length-drop (whole true t).used t)
  where
    by_feed : (x : Bool) (l n : ℕ) → cond x (suc l) n ≡ 0 → n ≡ 0
    by_feed true l n h = let z : ⊥ = omega arith in absurd z
    by_feed false l n h = h

    by : (s : List ℕ) → takes true s ≡ 0 → length s ≡ 0
    by s h = by_feed (ltb (line_length s) (length s)) (line_length s) (length s) h

-- without it no line feed is left
pub no_feed_left : (t : List ℕ) → Unbroken (drop (whole false t).used t)
no_feed_left t = by (drop (whole false t).used t) (leaves_none false t)
  where
    by_feed : (x : Bool) (l n : ℕ) → ltb l n ≡ x → cond x (suc l) 0 ≡ 0 → n ≤ l
    by_feed true l n q h = let z : ⊥ = omega arith in absurd z
    by_feed false l n q h = ltb-false l n q

    by : (s : List ℕ) → takes false s ≡ 0 → Unbroken s
    by s h = omega (arith, by_feed (ltb (line_length s) (length s)) (line_length s) (length s) refl h, end_within s 0 (omega arith))

-- block by block
pub whole_by_blocks : (e : Bool) (t v : List ℕ) → (whole e (t ++ v)).bytes ≡ (whole false t).bytes ++ (whole e (drop (whole false t).used t ++ v)).bytes
whole_by_blocks e t v =
    let d = whole false t in
    let k = length (t ++ v) in
    let rest = drop d.used t in
    let more : length (t ++ v) ≤ d.lines + k = omega arith in
    let less : length (rest ++ v) ≤ k = omega (arith, length-append t v, length-append rest v, length-drop d.used t) in
    let two : (run_of (d.lines + k) e (t ++ v) []).bytes ≡ d.bytes ++ (run_of k e (rest ++ v) (drop (d.lines * 19) [])).bytes =
    ap (λ (x : Done). x.bytes) (by_blocks text_of (length t) k e t v []) in
    rw (enough (d.lines + k) e (t ++ v) more, drop-nil, enough k e (rest ++ v) less) at two

-- ---- long lines

-- two starts of long lines are the same to a whole run, whatever v is read behind them
pub whole_long_starts : (s t : List ℕ) → Unbroken s → Unbroken t → 20 < length s → 20 < length t → (e : Bool) (v : List ℕ)
    → (whole e (s ++ v)).bytes ≡ (whole e (t ++ v)).bytes
whole_long_starts s t none-s none-t long-s long-t e v =
    let k = length (s ++ v) + length (t ++ v) in
    let first : length (s ++ v) ≤ k = omega arith in
    let second : length (t ++ v) ≤ k = omega arith in
    rw (enough k e (s ++ v) first, enough k e (t ++ v) second) at (long_starts_alike s t none-s none-t long-s long-t k e v [])
