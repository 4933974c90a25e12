-- `Reader::next` meets its contract: where a line is left the place moves on. Assumes nothing.
use Rattle.std.proofs.Common.{Option, Some, None}
use Rattle.std.specs.Option.{OnSome, IfSome, IfNone}
use Rattle.readback.proofs.NextLaws.{moves_on}
use Rattle.readback.proofs.reader.ReaderIterator.next.Goals as goal

module _ {T : Type 0} where
  with_more : {P Q : Type 0} (o : Option T) → (P → Q) → OnSome o P → OnSome o Q
  with_more None f h = tt
  with_more (Some x) f h = f h

  kept : (o : Option T) → IfSome o (λ x. Unit {0})
  kept None = tt
  kept (Some x) = tt

  rested : (o : Option T) → IfNone o (Unit {0})
  rested None = tt
  rested (Some x) = tt

pub returns-clause-goes : goal.returns-clause-goes
returns-clause-goes c =
    let r = c.args.self.now in
    let o = c.next_at-stepped.result.handed in
    record { on = λ u. with_more o (λ h. (tt, tt, h)) (moves_on r.text.now r.at c.next_at-stepped.ensures); keeps = kept o; rests = λ u. rested o }
