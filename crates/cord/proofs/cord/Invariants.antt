-- `cord::cord` meets its contract: what holds at the head of its loop. Assumes nothing.
use Rattle.cord.specs.Views.{round}
use Rattle.cord.proofs.{Turning.Turning}
use Rattle.cord.proofs.cord.Given as goal

abbrev pub invariant-loop : goal.invariant-loop
invariant-loop g l =
    let value = g.N.Number.value in
    Turning g.N.Number.BITS (value l.fn.tmpa) (value l.fn.tmpb) (value l.fn.tmpc) (round g.N.Number.BITS l.at) l.counter
