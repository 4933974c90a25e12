-- What the program keeps is what it may keep: all that a text leaves, or where that fills the buffer its first bytes, more than 20 of them. Then the
-- answers written turn by turn are those of one run over the whole input (`by_turns`).
-- Assumes nothing.
use mathlib.Core.{Path.◌≡◌, Path.refl, Path.sym, Path.ap, Path.◌∙◌, Bool.Bool, Bool.true, Bool.false, List.List, List.◌++◌, List.append_assoc, List.append-nil}
use Prim.Native.Nat.{ℕ, ◌-◌, ◌<◌, ◌≤◌}
use native.Mathlib.Omega.{arith}
use lib.{Dec.ltb, ListN.length, ListN.take, ListN.drop, ListN.length-drop, ListN.drop_of_length-le, Seq.length-take-le, Seq.take_all}
use borrow.Author.Tests.{ltb-true, ltb-false}
use Rattle.line.specs.{Whole.whole}
use Rattle.line.proofs.{LongLines.none_at_start, WholeLaws.whole_at_end, WholeLaws.no_feed_left, WholeLaws.whole_by_blocks, WholeLaws.whole_long_starts}
use Rattle.hatchyarn.specs.Kept.{Keeps, Turns, last, turn}

-- all that is left
pub keeps_rest : (e : Bool) (text : List ℕ) → Keeps e text (drop (whole e text).used text)
keeps_rest true text = drop_of_length-le text {i = (whole true text).used} (omega (arith, whole_at_end text))
keeps_rest false text = λ e more. whole_by_blocks e text more

-- the first n bytes of what is left, where they are more than 20: they start a long line
pub keeps_start : (e : Bool) (n : ℕ) (text : List ℕ)
    → (let rest = drop (whole e text).used text in 20 < n → n ≤ length rest → Keeps e text (take n rest))
keeps_start true n text long within = let z : ⊥ = omega (arith, whole_at_end text, length-drop (whole true text).used text) in absurd z
keeps_start false n text long within =
    let rest = drop (whole false text).used text in
    let unbroken = no_feed_left text in
    let n_long : 20 < length (take n rest) = omega (arith, length-take-le n rest within) in
    let alike = whole_long_starts rest (take n rest) unbroken (none_at_start n rest unbroken) (omega arith) n_long in
    λ e more. whole_by_blocks e text more ∙ ap (λ (w : List ℕ). (whole false text).bytes ++ w) (alike e more)

-- the first n bytes of what is left: all of them, or more than 20
pub keeps_some : (e : Bool) (n used : ℕ) (text : List ℕ) → used ≡ (whole e text).used → n ≤ length text - used → (n < length text - used → 20 < n)
    → Keeps e text (take n (drop used text))
keeps_some e n used text is-used within long = by (ltb n (length text - used)) refl
  where
    left : length (drop used text) ≡ length text - used
    left = length-drop used text

    by : (x : Bool) → ltb n (length text - used) ≡ x → Keeps e text (take n (drop used text))
    by true q = rw is-used (keeps_start e n text (long (ltb-true n (length text - used) q)) (omega (arith, within, is-used, length-drop (whole e text).used text)))
    by false q =
        let all : take n (drop used text) ≡ drop used text = take_all n (drop used text) (omega (arith, within, left, ltb-false n (length text - used) q)) in
        rw (all, is-used) (keeps_rest e text)

-- so the answers to all of the input are written, each once and in order
pub by_turns : (kept input written : List ℕ) → Turns kept input written → written ≡ (whole true (kept ++ input)).bytes
by_turns kept input written (last _) = rw (append-nil kept)
by_turns kept input written (turn _ block next rest more keeps on) =
    ap (λ (w : List ℕ). (whole false (kept ++ block)).bytes ++ w) (by_turns next rest more on) ∙ sym (keeps true rest) ∙ rw (append_assoc kept block rest)
