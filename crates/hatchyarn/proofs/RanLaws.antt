-- One turn of the loop over a text: a run over what is left of it, with room for m answers. Assumes nothing.
use mathlib.Core.{Path.◌≡◌, Path.ap, Bool.Bool, List.List}
use Prim.Native.Nat.{ℕ, ◌+◌, ◌-◌, ◌<◌, ◌≤◌}
use native.Mathlib.Omega.{arith}
use lib.{ListN.length, ListN.take, ListN.drop, ListN.length-drop, Seq.take_all}
use Rattle.line.specs.{One.text_of, Run.Done, Run.done, Run.run_of, Whole.whole}
use Rattle.line.proofs.{RunLaws.ran_within, WholeLaws.whole_goes_on, WholeLaws.nothing_left}

module _ (m : ℕ) (e : Bool) (rest room bytes : List ℕ) (lines used : ℕ) (ran : done bytes lines used ≡ run_of m e rest room) where
  used_is : used ≡ (run_of m e rest room).used
  used_is = ap (λ (d : Done). d.used) ran

  -- it stays within the room and the text
  pub ran_inside : (lines ≤ m) × (used ≤ length rest)
  ran_inside = ran_within text_of m e rest room bytes lines used ran

  -- what is used of the rest, and then of what is left of it
  pub ran_on : (whole e rest).used ≡ used + (whole e (drop used rest)).used
  ran_on = rw used_is (whole_goes_on m e rest room)

  -- nothing used: no line is left
  pub ran_out : 0 < m → used ≡ 0 → (whole e rest).used ≡ 0
  ran_out some none = nothing_left m e rest room some (omega (arith, used_is))

  -- so what a whole run uses of a text is told by what is left of it, before this turn and after it
  pub ran_next : (text : List ℕ) → length rest ≤ length text → (whole e text).used ≡ length text - length rest + (whole e rest).used
      → (let next = take (length rest - used) (drop used rest) in (length next ≤ length text) × ((whole e text).used ≡ length text - length next + (whole e next).used))
  ran_next text inside so-far =
      let all : take (length rest - used) (drop used rest) ≡ drop used rest = take_all (length rest - used) (drop used rest) (omega (arith, length-drop used rest)) in
      rw all (omega (arith, ran_inside, length-drop used rest), omega (arith, ran_inside, ran_on, so-far, inside, length-drop used rest))
