-- How a run takes one line more, and where it stops, for any way to answer a line; one induction for all laws of runs; and the loop's turn over
-- lent answer bytes. Assumes nothing.
use mathlib.Core.{Path.◌≡◌, Path.refl, Path.sym, Path.ap, Path.◌∙◌, Bool.Bool, List.List, List.◌++◌, List.append_assoc, List.append-nil}
use Prim.Native.Nat.{ℕ, zero, suc, ◌+◌, ◌-◌, ◌*◌, ◌<◌, ◌≤◌}
use native.Mathlib.{Nat.add_assoc, Nat.add-zero, Omega.arith}
use lib.ListN.{length, take, drop, length-append, length-drop, take-append-drop, drop_of_length-le}
use lib.Seq.{take_at, drop_at, drop-drop, length-take-le}
use borrow.Author.Tests.{eq-eqb, ne_eqb}
use borrow.Rule.Slice.PartMut.{put_mid}
use Rattle.text.specs.Lines.{line_at, takes}
use Rattle.text.proofs.ReadBack.{written_length}
use Rattle.line.specs.{One.text_of, Run.Done, Run.done, Run.after, Run.run_by}

pub text_of_length : (line : List ℕ) → length (text_of line) ≡ 19
unfolding text_of
text_of_length line = written_length _ _ _ _ _ _

-- ---- one line more, or none

module _ (f : List ℕ → List ℕ) where
  pub stops : (m : ℕ) (e : Bool) (t o : List ℕ) → takes e t ≡ 0 → run_by f m e t o ≡ done o 0 0
  unfolding run_by
  stops zero e t o h = refl
  stops (suc m) e t o h = rw (eq-eqb _ _ h)

  pub full : (m : ℕ) (e : Bool) (t o : List ℕ) → m ≡ 0 → run_by f m e t o ≡ done o 0 0
  unfolding run_by
  full m e t o h = rw h

  pub goes : (m : ℕ) (e : Bool) (t o : List ℕ) → 0 < takes e t
      → run_by f (suc m) e t o ≡ after (f (line_at t 0)) 1 (takes e t) (run_by f m e (drop (takes e t) t) (drop 19 o))
  unfolding run_by
  goes m e t o h = rw (ne_eqb (takes e t) 0 (λ z. omega arith))

  -- an induction on the room, with the case that no line is left
  module _ (e : Bool) (P : ℕ → List ℕ → List ℕ → Done → Type 0) (none : (t o : List ℕ) → P zero t o (done o 0 0)) (stop : (m : ℕ) (t o : List ℕ) → takes e t ≡ 0 → P (suc m) t o (done o 0 0)) (go : (m : ℕ) (t o : List ℕ) (d : Done) → 0 < takes e t → P m (drop (takes e t) t) (drop 19 o) d → P (suc m) t o (after (f (line_at t 0)) 1 (takes e t) d)) where
    turn : (n m : ℕ) (t o : List ℕ) → takes e t ≡ n → P m (drop (takes e t) t) (drop 19 o) (run_by f m e (drop (takes e t) t) (drop 19 o)) → P (suc m) t o (run_by f (suc m) e t o)
    turn zero m t o q h = rw (stops (suc m) e t o q) (stop m t o q)
    turn (suc n) m t o q h = let some : 0 < takes e t = omega arith in rw (goes m e t o some) (go m t o _ some h)

    pub by_run : (m : ℕ) (t o : List ℕ) → P m t o (run_by f m e t o)
    unfolding run_by
    by_run zero t o = none t o
    by_run (suc m) t o = turn (takes e t) m t o refl (by_run m (drop (takes e t) t) (drop 19 o))

-- ---- the loop: what it has done, then the run over the rest, is the whole run R

pub after-after : (bs cs : List ℕ) (n m u v : ℕ) (d : Done) → after bs n u (after cs m v d) ≡ after (bs ++ cs) (n + m) (u + v) d
after-after bs cs n m u v d = simp (append_assoc, add_assoc)

-- where nothing follows any more
pub ended : (out : List ℕ) (p lines used : ℕ) {d R : Done} → d ≡ done (drop p out) 0 0 → after (take p out) lines used d ≡ R → done out lines used ≡ R
ended out p lines used h r = simp (h, take-append-drop, add-zero) at r

-- the part from p on is lent, 19 long, and comes back as a
module _ (out a : List ℕ) (p : ℕ) (fits : p + 19 ≤ length out) (long : length a ≡ 19) where
  head_length : length (take p out ++ a) ≡ p + 19
  head_length = length-append (take p out) a ∙ omega (arith, length-take-le p out (omega arith))

  take_lent : take (p + 19) (put_mid p 19 out a) ≡ take p out ++ a
  take_lent = rw (← append_assoc) (take_at (take p out ++ a) _ (p + 19) head_length)

  drop_lent : drop (p + 19) (put_mid p 19 out a) ≡ drop 19 (drop p out)
  drop_lent = rw (← append_assoc) (drop_at (take p out ++ a) _ (p + 19) head_length)

-- a turn: a is what stands in the lent part, of k bytes, then
module _ (f : List ℕ → List ℕ) (f-length : (line : List ℕ) → length (f line) ≡ 19) (text out a : List ℕ) (room lines used next k : ℕ) (e : Bool) (more : lines < room) (is-next : next ≡ used + takes e (drop used text)) (on : next ≡ used → ⊥) (fits : lines * 19 + 19 ≤ length out) (is-19 : k ≡ 19) (is-answer : a ≡ f (line_at text used) ++ drop 19 (take k (drop (lines * 19) out))) where
  is_line : a ≡ f (line_at text used)
  is_line =
      let room_19 : length (take 19 (drop (lines * 19) out)) ≤ 19 = omega (arith, length-take-le 19 (drop (lines * 19) out) (simp length-drop (omega arith))) in
      is-answer ∙ rw (is-19, drop_of_length-le (take 19 (drop (lines * 19) out)) room_19) (append-nil _)

  pub again : {R : Done}
      → after (take (lines * 19) out) lines used (run_by f (room - lines) e (drop used text) (drop (lines * 19) out)) ≡ R
      → after (take ((lines + 1) * 19) (put_mid (lines * 19) k out a)) (lines + 1) next (run_by f (room - (lines + 1)) e (drop next text) (drop ((lines + 1) * 19) (put_mid (lines * 19) k out a))) ≡ R
  again r =
      let p : (lines + 1) * 19 ≡ lines * 19 + 19 = omega arith in
      let one : room - lines ≡ suc (room - (lines + 1)) = omega arith in
      let some : 0 < takes e (drop used text) = omega arith in
      let long : length a ≡ 19 = ap length is_line ∙ f-length _ in
      rw (is-19, p, take_lent out a (lines * 19) fits long, drop_lent out a (lines * 19) fits long, is-next, ← drop-drop, is_line)
      (sym (after-after (take (lines * 19) out) (f (line_at text used)) lines 1 used (takes e (drop used text)) (run_by f (room - (lines + 1)) e (drop (takes e (drop used text)) (drop used text)) (drop 19 (drop (lines * 19) out)))) ∙ (rw (one, goes f (room - (lines + 1)) e (drop used text) (drop (lines * 19) out) some) at r))
