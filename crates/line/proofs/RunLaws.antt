-- What users of a run rely on. `continued`: a run cut short for room and continued from the bytes used gives the answers of the uncut run;
-- with no room to go on, that bytes after the last answer are unchanged (`unchanged`). `by_blocks`: a block that is not the last may be run by
-- itself. `joined`: two texts joined at a line's end are run one after the other. `lines-answered`, `used_within`: how far a run goes.
-- Assumes nothing.
use mathlib.Core.{Path.◌≡◌, Path.refl, Path.ap, Path.◌∙◌, Bool.Bool, Bool.false, List.List, List.[], List.◌∷◌, List.◌++◌, List.append_assoc}
use Prim.Native.Nat.{ℕ, zero, suc, ◌+◌, ◌*◌, ◌<◌, ◌≤◌, min}
use native.Mathlib.{Nat.zero-add, Nat.add-zero, Nat.add_assoc, Nat.suc-add, Nat.le_refl, Omega.arith}
use lib.{ListN.length, ListN.drop, ListN.drop_of_length-le, Seq.drop-append-le, Seq.drop-drop}
use Rattle.text.specs.Lines.{line_at, takes, lines_of}
use Rattle.text.proofs.NextLine.{takes_within, first_line, same_line, same_takes, all_taken}
use Rattle.line.specs.Run.{Done, done, after, run_by}
use Rattle.line.proofs.{Places.places, Turns.stops, Turns.full, Turns.goes, Turns.by_run}

module _ (f : List ℕ → List ℕ) where
  -- ---- how far a run goes

  pub lines-answered : (m : ℕ) (e : Bool) (t o : List ℕ) → (run_by f m e t o).lines ≡ min m (length (lines_of e t))
  lines-answered m e t o = ap (λ (d : Done). d.lines) (places f m e t o)

  pub used_within : (m : ℕ) (e : Bool) (t o : List ℕ) → (run_by f m e t o).used ≤ length t
  used_within m e t o = omega (arith, ap (λ (d : Done). d.used) (places f m e t o))

  -- what a caller has of a run's contract: no more lines than there is room for, no more bytes than there are
  pub ran_within : (m : ℕ) (e : Bool) (t o bytes : List ℕ) (lines used : ℕ) → done bytes lines used ≡ run_by f m e t o → (lines ≤ m) × (used ≤ length t)
  ran_within m e t o bytes lines used q =
      let p = q ∙ places f m e t o in
      (omega (arith, ap (λ (d : Done). d.lines) p), omega (arith, ap (λ (d : Done). d.used) p))

  -- ---- a run, and then more of it

  -- what d has answered, then a run with room for k over the rest
  abbrev pub follow : ℕ → Bool → List ℕ → List ℕ → Done → Done
  follow k e t o d = after d.bytes d.lines d.used (run_by f k e (drop d.used t) (drop (d.lines * 19) o))

  pub continued : (m k : ℕ) (e : Bool) (t o : List ℕ) → run_by f (m + k) e t o ≡ follow k e t o (run_by f m e t [])
  continued m k e t o =
      by_run f e (λ m t p d. p ≡ [] → (o : List ℕ) → run_by f (m + k) e t o ≡ follow k e t o d)
      (λ t p n o. rw (n, zero-add k) (simp zero-add))
      (λ m t p q n o. rw (n, stops f (suc m + k) e t o q, stops f k e t o q) (simp zero-add))
      (λ m t p d some h n o.
      let past : 19 + d.lines * 19 ≡ (1 + d.lines) * 19 = omega arith in
      rw (suc-add m k, goes f (m + k) e t o some, h (ap (drop 19) n) (drop 19 o)) (simp (append_assoc, add_assoc, drop-drop, past)))
      m t [] refl o

  -- bytes after the last answer are unchanged; the answers themselves do not depend on what stood there
  pub unchanged : (m : ℕ) (e : Bool) (t o : List ℕ)
      → (let d = run_by f m e t [] in run_by f m e t o ≡ done (d.bytes ++ drop (d.lines * 19) o) d.lines d.used)
  unfolding run_by
  unchanged m e t o = simp add-zero at (continued m 0 e t o)

  -- ---- block by block

  -- so the whole starts with the block's first line
  same_turn : (m : ℕ) (e : Bool) (t v o : List ℕ) → 0 < takes false t
      → run_by f (suc m) e (t ++ v) o ≡ after (f (line_at t 0)) 1 (takes false t) (run_by f m e (drop (takes false t) t ++ v) (drop 19 o))
  same_turn m e t v o some =
      let within : takes false t ≤ length t = takes_within false t in
      goes f m e (t ++ v) o (rw (same_takes e t v some) some) ∙ rw (same_line e t v some, same_takes e t v some, drop-append-le (takes false t) t v within)

  -- with room for the block's lines alone, the whole is answered as the block is
  block : (m : ℕ) (e : Bool) (t v o : List ℕ) → run_by f (run_by f m false t o).lines e (t ++ v) o ≡ run_by f m false t o
  block m e t v o =
      by_run f false (λ m t o d. run_by f d.lines e (t ++ v) o ≡ d) (λ t o. full f 0 e (t ++ v) o refl) (λ m t o q. full f 0 e (t ++ v) o refl)
      (λ m t o d some h.
      let one : 1 + d.lines ≡ suc d.lines = omega arith in
      rw (one, same_turn d.lines e t v o some, h, one))
      m t o

  -- a block that is not the last may be run by itself: the rest is the run over what it leaves and what comes after it
  pub by_blocks : (m k : ℕ) (e : Bool) (t v o : List ℕ)
      → (let d = run_by f m false t [] in run_by f (d.lines + k) e (t ++ v) o ≡ after d.bytes d.lines d.used (run_by f k e (drop d.used t ++ v) (drop (d.lines * 19) o)))
  by_blocks m k e t v o =
      continued (run_by f m false t []).lines k e (t ++ v) o
      ∙ rw (block m e t v [], drop-append-le (run_by f m false t []).used t v (used_within m false t []))

  -- ---- two texts joined at a line's end

  no_more : (n : ℕ) (e : Bool) (t : List ℕ) → takes e t ≡ n → length (lines_of e t) ≡ 0 → takes e t ≡ 0
  no_more zero e t q h = q
  no_more (suc n) e t q h = let some : 0 < takes e t = omega arith in omega (arith, ap length (first_line e t some))

  -- with room for every line, what a run leaves holds none
  pub all_answered : (m : ℕ) (e : Bool) (t o : List ℕ) → length (lines_of e t) ≤ m → takes e (drop (run_by f m e t o).used t) ≡ 0
  all_answered m e t o =
      by_run f e (λ m t o d. length (lines_of e t) ≤ m → takes e (drop d.used t) ≡ 0) (λ t o l. no_more (takes e t) e t refl (omega arith)) (λ m t o q l. q)
      (λ m t o d some h l. rw drop-drop at (h (omega (arith, ap length (first_line e t some))))) m t o

  pub joined : (k : ℕ) (e : Bool) (s v o : List ℕ)
      → (let t = s ++ (0x0A ∷ []) in
      let n = length (lines_of false t) in
      run_by f (n + k) e (t ++ v) o ≡ after (run_by f n false t []).bytes n (length t) (run_by f k e v (drop (n * 19) o)))
  joined k e s v o =
      let t = s ++ (0x0A ∷ []) in
      let n = length (lines_of false t) in
      let lines : (run_by f n false t []).lines ≡ n = lines-answered n false t [] ∙ omega arith in
      let used : (run_by f n false t []).used ≡ length t = all_taken s _ (all_answered n false t [] (le_refl _)) (used_within n false t []) in
      let none : drop (length t) t ≡ [] = drop_of_length-le t (le_refl _) in
      rw (lines, used, none) at (by_blocks n k e t v o)
