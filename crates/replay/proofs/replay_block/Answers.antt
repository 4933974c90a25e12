-- `replay::replay_block` meets its contract: what was used lies within the block. Assumes nothing.
use Rattle.std.proofs.Common.{refl, ap, arith}
use Rattle.replay.specs.declared.Replayed.{Replayed}
use Rattle.replay.proofs.CountLaws.{taken_within}
use Rattle.replay.proofs.replay_block.Goals as goal

pub returns-clause-left : goal.returns-clause-left
returns-clause-left c =
    let used = ap (λ (r : Replayed). r.used) c.replay.ensures in
    (refl, omega (arith, used, taken_within c.args.block.now), refl)
