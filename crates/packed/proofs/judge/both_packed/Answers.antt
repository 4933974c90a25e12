-- `packed::judge::both_packed` meets its contract. The invariant: what was seen and what is left are packed exactly if all is. Assumes nothing.
use mathlib.Core.Path.{◌≡◌, ◌∙◌, ap}
use native.Mathlib.Omega.{arith}
use Rattle.std.proofs.Common.{rules, length}
use Rattle.std.specs.Slice.Iter.{iter_rest}
use Rattle.std.specs.Iterator.Adapters.{zip_first, zip_second}
use Rattle.std.proofs.lemmas.List.{length_push}
use Rattle.std.proofs.lemmas.Slice.Zip.{zip_turn, zip_end}
use Rattle.packed.specs.Digits.{is_packed}
use Rattle.packed.proofs.{JudgeLaws.one_more, JudgeLaws.seen}
use Rattle.packed.proofs.judge.both_packed.Goals as goal

pub loop-left-preserved : goal.loop-left-preserved
loop-left-preserved c =
    let first : iter_rest (zip_first c.into_iter-left-iterator.result) ≡ c.args.x.now = search rules in
    let second : iter_rest (zip_second c.into_iter-left-iterator.result) ≡ c.args.y.now = search rules in
    let t = zip_turn c.args.x.now c.args.y.now c.loop-left.yielded _ c.loop-left.left-iterator c.next.new.self c.next.result first second c.loop-left.yielded_by (c.in-Some.left, c.in-Some.right) c.in-Some.is c.next.ensures.steps in
    let more = one_more c.args.x.now c.args.y.now (length c.loop-left.yielded) c.loop-left.packed t.0 t.1 (c.is_packed.ensures ∙ ap is_packed (t.2 0)) (c.is_packed-in-loop-left.ensures ∙ ap is_packed (t.3 0)) in
    rw (length_push c.loop-left.yielded (c.in-Some.left, c.in-Some.right)) (more ∙ c.loop-left.invariant)

pub returns : goal.returns
returns c =
    let first : iter_rest (zip_first c.into_iter-left-iterator.result) ≡ c.args.x.now = search rules in
    let second : iter_rest (zip_second c.into_iter-left-iterator.result) ≡ c.args.y.now = search rules in
    let e = zip_end c.args.x.now c.args.y.now c.loop-left.yielded _ c.loop-left.left-iterator c.next.new.self c.next.result first second c.loop-left.yielded_by c.in-None.is c.next.ensures.steps in
    seen c.args.x.now c.args.y.now (length c.loop-left.yielded) c.loop-left.packed (omega (arith, e)) (omega (arith, e)) ∙ c.loop-left.invariant
