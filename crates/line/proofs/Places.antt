-- Each line's answer at its own place, for any way to answer a line. `places`: with m the smaller of the number of a text's lines and of the answers
-- that there is room for, a run leaves the answers of the first m lines, joined, and then what stood after 19 m bytes; it has answered m lines and
-- used their bytes. `answer_at`: bytes 19k to 19k + 18 are the answer of line k.
-- Assumes nothing.
use mathlib.Core.{Path.◌≡◌, Path.ap, Path.◌∙◌, Bool.Bool, List.List, List.[], List.◌∷◌, List.◌++◌, List.append_assoc, List.flat_map}
use Prim.Native.Nat.{ℕ, zero, suc, ◌+◌, ◌*◌, ◌<◌, min}
use native.Mathlib.{Nat.zero-min, Nat.min-zero, Nat.suc-min-suc, Nat.not-suc-le-zero, Nat.le_of_suc-le-suc, Omega.arith}
use lib.{ListN.length, ListN.get_or, ListN.take, ListN.drop, ListN.length-drop, Seq.take_at, Seq.drop_at, Seq.drop-drop, Seq.get_or-take, Seq.length-take-le}
use Rattle.text.specs.Lines.{line_at, takes, lines_of, bytes_in}
use Rattle.text.proofs.NextLine.{first_takes, no_line, first_line}
use Rattle.line.specs.{Run.Done, Run.done, Run.run_by, Placed.placed}
use Rattle.line.proofs.Turns.{by_run}

pub places : (f : List ℕ → List ℕ) (room : ℕ) (e : Bool) (t o : List ℕ) → run_by f room e t o ≡ placed f (min room (length (lines_of e t))) e t o
unfolding flat_map
places f room e t o =
    by_run f e (λ m t o d. d ≡ placed f (min m (length (lines_of e t))) e t o)
    (λ t o. simp zero-min)
    (λ m t o q. rw (no_line e t q) (simp (min-zero, zero-min)))
    (λ m t o d some h.
    let line = line_at t 0 in
    let others = lines_of e (drop (takes e t) t) in
    let k = min m (length others) in
    let past : 19 + k * 19 ≡ suc k * 19 = omega arith in
    let bytes : f line ++ (flat_map f (take k others) ++ drop (k * 19) (drop 19 o)) ≡ f line ++ flat_map f (take k others) ++ drop (suc k * 19) o =
    rw (append_assoc, drop-drop, past) in
    let lines : 1 + k ≡ suc k = omega arith in
    let used : takes e t + min (bytes_in (take k others)) (length (drop (takes e t) t)) ≡ min (bytes_in (line ∷ take k others)) (length t) =
    omega (arith, first_takes e t some, length-drop (takes e t) t) in
    rw (h, first_line e t some, suc-min-suc) (λ i. record { bytes = bytes i; lines = lines i; used = used i }))
    room t o

module _ (f : List ℕ → List ℕ) (f-length : (line : List ℕ) → length (f line) ≡ 19) where
  -- in answers that are joined
  at_place : (lines : List (List ℕ)) (rest : List ℕ) (k : ℕ) → k < length lines → take 19 (drop (k * 19) (flat_map f lines ++ rest)) ≡ f (get_or lines k [])
  unfolding flat_map
  at_place [] rest k h = absurd (not-suc-le-zero h)
  at_place (line ∷ lines) rest zero h = rw append_assoc (take_at (f line) _ 19 (f-length line))
  at_place (line ∷ lines) rest (suc k) h =
      let past : suc k * 19 ≡ 19 + k * 19 = omega arith in
      rw (past, ← drop-drop, append_assoc, drop_at (f line) (flat_map f lines ++ rest) 19 (f-length line)) (at_place lines rest k (le_of_suc-le-suc h))

  -- what a caller has of a run's contract: line k's answer
  pub answer_at : (room : ℕ) (e : Bool) (t o bytes : List ℕ) (lines used : ℕ) → done bytes lines used ≡ run_by f room e t o
      → (k : ℕ) → k < lines → take 19 (drop (k * 19) bytes) ≡ f (get_or (lines_of e t) k [])
  answer_at room e t o bytes lines used q k h =
      let m = min room (length (lines_of e t)) in
      let p = q ∙ places f room e t o in
      let k_m : k < m = omega (arith, ap (λ (d : Done). d.lines) p) in
      let k_there : k < length (take m (lines_of e t)) = omega (arith, length-take-le m (lines_of e t) (omega arith)) in
      rw (ap (λ (d : Done). d.bytes) p) (at_place (take m (lines_of e t)) (drop (m * 19) o) k k_there) ∙ ap f (get_or-take m (lines_of e t) k [] k_m)
